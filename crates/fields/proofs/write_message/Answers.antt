-- What is taken of the numbers is written as a message is; where nothing is, the write is refused. Assumes nothing.
use Rattle.std.proofs.Common.{rules, sym, ap, ◌∙◌}
use Rattle.std.proofs.Math.ListN.{length}
use Rattle.std.specs.Result.{result_ok}
use Rattle.tally.specs.Limits.{today}
use Rattle.tally.proofs.Bounds.{sane_today}
use Rattle.formats.specs.Messages.{message_format, write_message, cleared}
use Rattle.formats.proofs.Cleared.{length_cleared, written_cleared}
use Rattle.formats.proofs.MessageFormat.{lawful}
use Rattle.calls.specs.Fields.{write_message_call}
use Rattle.calls.specs.InnerFields.{message_head, message_narrow}
use Rattle.calls.proofs.FieldTrips.{none_written, some_written}
use Rattle.fields.proofs.write_message.Goals as goal

pub returns-in_err-m : goal.returns-in_err-m
unfolding write_message_call message_narrow
returns-in_err-m c =
    let there = c.ok_or.ensures.ok_part ∙ ap result_ok c.in_ok-fields.was in
    let whole = rw there at c.as_array.ensures.cases in
    let none = c.ok_or-2.ensures.ok_part ∙ ap result_ok c.in_err-m.was in
    let size = sym (length_cleared today c.args.message.now) ∙ ap length (sym c.clear.ensures) ∙ c.if-message-ne-MESSAGE_SIZE.false in
    (search rules)
    ∙ sym (none_written (message_format today) (lawful today sane_today) message_head c.args.fields.now (cleared today c.args.message.now) c.args.message.now
    whole.long size (rw (← whole.same) (sym c.narrow_message.ensures ∙ none)))

pub returns : goal.returns
unfolding write_message_call message_narrow write_message
returns c =
    let there = c.ok_or.ensures.ok_part ∙ ap result_ok c.in_ok-fields.was in
    let whole = rw there at c.as_array.ensures.cases in
    let some = c.ok_or-2.ensures.ok_part ∙ ap result_ok c.in_ok-m.was in
    let size = sym (length_cleared today c.args.message.now) ∙ ap length (sym c.clear.ensures) ∙ c.if-message-ne-MESSAGE_SIZE.false in
    c.write_message.ensures
    ∙ ap (write_message today c.in_ok-m.m) c.clear.ensures
    ∙ written_cleared today c.in_ok-m.m c.args.message.now
    ∙ sym (some_written (message_format today) (lawful today sane_today) message_head c.args.fields.now (cleared today c.args.message.now) c.args.message.now
    whole.long size _ (rw (← whole.same) (sym c.narrow_message.ensures ∙ some)))
