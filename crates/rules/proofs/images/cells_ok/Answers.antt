-- Without marks each place is to be blank; else the fold of the test over the senders. Assumes nothing.
use Rattle.std.proofs.Common.{rules, tests, ℕ, refl, sym, ◌∙◌}
use Rattle.std.proofs.Math.Bool.{Bool, true, ◌&&◌}
use Rattle.std.proofs.lemmas.Iterator.{YieldsList-from_range}
use Rattle.std.proofs.lemmas.Iterator.Consumers.{fold_from_yields_List}
use Rattle.tally.specs.Limits.{today, senders}
use Rattle.tally.specs.Tally.{is_marked, estimate_at}
use Rattle.contents.specs.Images.{every, cell_ok, cells_ok}
use Rattle.contents.proofs.Tests.{blank_places}
use Rattle.rules.proofs.images.cells_ok.Goals as goal

pub returns-then-marks-eq0 : goal.returns-then-marks-eq0
returns-then-marks-eq0 g c =
    c.blanks.ensures ∙ blank_places today c.args.split c.args.n (g.T.StandingTally.tally c.args.t.now) (sym c.marks-marks.ensures ∙ c.if-marks-eq0.true)

pub returns : goal.returns
unfolding every cells_ok
returns g c =
    let a = c.args in
    let t = g.T.StandingTally.tally a.t.now in
    fold_from_yields_List _ (λ (ok : Bool) (k : ℕ). ok && cell_ok today a.split a.n k (is_marked t.marks k) (estimate_at t k)) true _ c.fold.ensures.ran
    (YieldsList-from_range 0 senders senders refl refl)
    (λ x k y q h. search (rules, tests))
