-- A unit's start: settings out of range are refused; else the log and the image stored are those of the fresh unit. Assumes nothing.
use Rattle.std.proofs.Common.{sym, ap, ◌∙◌, arith}
use Rattle.std.proofs.lemmas.Grind.{common_steps}
use Rattle.std.specs.Result.{result_ok}
use Rattle.tally.specs.Limits.{today}
use Rattle.formats.specs.Messages.{cleared}
use Rattle.consensus.specs.Conditions.{first_refusal}
use Rattle.consensus.specs.Step.{fresh}
use Rattle.consensus.specs.Units.{at_log}
use Rattle.calls.specs.Calls.{start_call_conditions, start_call}
use Rattle.calls.proofs.Entries.{settings_bad, settings_good, log_stored, image_stored, unit_sizes}
use Rattle.unit_calls.proofs.start.Goals as goal

pub returns-then-wrong_lengths : goal.returns-then-wrong_lengths
unfolding start_call start_call_conditions first_refusal cleared
returns-then-wrong_lengths c = rw (sym c.wrong_lengths.ensures ∙ c.if-wrong_lengths.true)

pub returns-in_err-settings : goal.returns-in_err-settings
unfolding start_call start_call_conditions first_refusal cleared
returns-in_err-settings c = grind (arith, common_steps, settings_bad)

pub returns : goal.returns
unfolding start_call start_call_conditions first_refusal fresh at_log
returns c =
    let right = sym c.wrong_lengths.ensures ∙ c.if-wrong_lengths.false in
    let read = sym c.settings_from.ensures ∙ c.ok_or.ensures.ok_part ∙ ap result_ok c.in_ok-settings.was in
    let good = settings_good c.args.engine c.args.n c.args.unit c.args.entry c.in_ok-settings.settings read in
    rw (
      right,
      good.0,
      good.1,
      c.store_log.ensures,
      c.store_unmarked.ensures,
      log_stored today _ c.args.log.now (unit_sizes today _ _ right).0,
      image_stored today _ c.args.image.now (unit_sizes today _ _ right).1,
      c.log-l.ensures,
      c.fresh.ensures,
    )
