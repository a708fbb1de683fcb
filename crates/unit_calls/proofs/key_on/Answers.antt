-- A log that is not read refuses key-on; else the image stored is that of the log. Assumes nothing.
use Rattle.std.proofs.Common.{sym, ◌∙◌}
use Rattle.tally.specs.Limits.{today}
use Rattle.tally.proofs.Bounds.{sane_today}
use Rattle.formats.specs.Messages.{cleared}
use Rattle.consensus.specs.Conditions.{first_refusal}
use Rattle.consensus.specs.Step.{recovered}
use Rattle.consensus.specs.Units.{at_log, down_unit}
use Rattle.calls.specs.Calls.{bad_log, key_on_call_conditions, key_on_call}
use Rattle.calls.proofs.Entries.{passed_on, log_refused, image_stored, unit_sizes}
use Rattle.unit_calls.proofs.key_on.Goals as goal

pub returns-then-wrong_lengths : goal.returns-then-wrong_lengths
unfolding key_on_call key_on_call_conditions first_refusal cleared
returns-then-wrong_lengths c = rw (sym c.wrong_lengths.ensures ∙ c.if-wrong_lengths.true)

pub returns-in_err-l : goal.returns-in_err-l
unfolding key_on_call key_on_call_conditions first_refusal cleared
returns-in_err-l c =
    let right = sym c.wrong_lengths.ensures ∙ c.if-wrong_lengths.false in
    let bad = log_refused today sane_today _ c.in_err-l.field-0.0 (unit_sizes today _ _ right).0 c.in_err-l.ensures in
    rw (right, bad.0, passed_on _ _ c.from_residual.ensures.1, bad.1)

pub returns : goal.returns
unfolding key_on_call key_on_call_conditions first_refusal bad_log recovered down_unit at_log
returns c =
    let right = sym c.wrong_lengths.ensures ∙ c.if-wrong_lengths.false in
    rw (
      right,
      ← c.in_ok-l.ensures,
      c.store_unmarked.ensures,
      image_stored today _ c.args.image.now (unit_sizes today _ _ right).1,
    )
