-- The fold of the test over the senders. Assumes nothing.
use Rattle.std.proofs.Common.{rules, tests, ℕ, refl}
use Rattle.std.proofs.Math.Bool.{Bool, true, ◌&&◌}
use Rattle.std.proofs.lemmas.Iterator.{YieldsList-from_range}
use Rattle.std.proofs.lemmas.Iterator.Consumers.{fold_from_yields_List}
use Rattle.tally.specs.Limits.{senders}
use Rattle.tally.specs.Tally.{estimate_at}
use Rattle.contents.specs.Estimates.{is_blank}
use Rattle.contents.specs.Images.{every}
use Rattle.rules.proofs.images.StandingTally.blanks.Goals as goal

pub returns : goal.returns
unfolding every
returns g c =
    fold_from_yields_List _ (λ (ok : Bool) (k : ℕ). ok && is_blank (estimate_at (g.Self.StandingTally.tally c.args.self.now) k)) true _ c.fold.ensures.ran
    (YieldsList-from_range 0 senders senders refl refl)
    (λ x k y q h. search (rules, tests))
