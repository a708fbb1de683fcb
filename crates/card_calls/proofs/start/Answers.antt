-- A fresh unit's row is written where the settings are in range. Assumes nothing.
use Rattle.std.proofs.Common.{sym, ap, ◌∙◌}
use Rattle.std.specs.Result.{result_ok}
use Rattle.consensus.specs.Conditions.{first_refusal}
use Rattle.cards.specs.InnerSteps.{step_conditions, step_answer, unless_row}
use Rattle.calls.proofs.Entries.{settings_good}
use Rattle.cards.proofs.Steps.{fresh_row}
use Rattle.card_calls.proofs.start.Goals as goal

pub returns : goal.returns
unfolding step_conditions step_answer unless_row first_refusal
returns c =
    let read = sym c.settings_read.ensures ∙ c.ok_or.ensures.ok_part ∙ ap result_ok (c.in_ok-settings.was) in
    let are = settings_good c.args.c.now.engine c.args.c.now.n c.args.c.now.unit c.args.c.now.row c.in_ok-settings.settings read in
    rw (are.0, are.1, c.unmarked.ensures, c.log.ensures, c.fresh.ensures, fresh_row c.in_ok-settings.settings)
