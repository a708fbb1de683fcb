-- What is stored of the unit that the log and a fitting image make is what the step answers. Assumes nothing.
use Rattle.std.proofs.Common.{sym, ◌∙◌}
use Rattle.cards.proofs.Steps.{row_fit}
use Rattle.cards.proofs.Stored.{step_stored}
use Rattle.card_calls.proofs.with_log.Goals as goal

pub returns : goal.returns
returns c =
    let fit = row_fit c.args.r.now c.args.l _ (sym c.state_for.ensures ∙ c.in-Some.is) in
    let checks = rw c.tally_of.ensures.same at c.tally_of.ensures.sixteen in
    let seconds = rw c.tally_of-2.ensures.same at c.tally_of-2.ensures.sixteen in
    c.answered.ensures
    ∙ rw (c.taken.ensures, c.up-u.ensures, c.tally_of.ensures.same, c.tally_of-2.ensures.same, fit.unit)
    (step_stored c.args.r.now c.args.l checks seconds c.requires fit.fits_log c.args.s)
