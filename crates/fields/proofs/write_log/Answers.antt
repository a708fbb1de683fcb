-- What is taken of the numbers is written as a log is; where nothing is, the write is refused. Assumes nothing.
use Rattle.std.proofs.Common.{rules, sym, ap, ◌∙◌}
use Rattle.std.specs.Result.{result_ok}
use Rattle.tally.specs.Limits.{today}
use Rattle.tally.proofs.Bounds.{sane_today}
use Rattle.formats.specs.Logs.{log_format, write_log}
use Rattle.formats.proofs.LogFormat.{lawful}
use Rattle.calls.specs.Fields.{write_log_call}
use Rattle.calls.specs.InnerFields.{log_head, log_narrow}
use Rattle.calls.proofs.FieldTrips.{none_written, some_written}
use Rattle.fields.proofs.write_log.Goals as goal

pub returns-in_err-l : goal.returns-in_err-l
unfolding write_log_call log_narrow
returns-in_err-l c =
    let there = c.ok_or.ensures.ok_part ∙ ap result_ok c.in_ok-fields.was in
    let whole = rw there at c.as_array.ensures.cases in
    let none = c.ok_or-2.ensures.ok_part ∙ ap result_ok c.in_err-l.was in
    (search rules)
    ∙ sym (none_written (log_format today) (lawful today sane_today) log_head c.args.fields.now c.args.log.now c.args.log.now
    whole.long c.if-log-ne-LOG_SIZE.false (rw (← whole.same) (sym c.narrow_log.ensures ∙ none)))

pub returns : goal.returns
unfolding write_log_call log_narrow write_log
returns c =
    let there = c.ok_or.ensures.ok_part ∙ ap result_ok c.in_ok-fields.was in
    let whole = rw there at c.as_array.ensures.cases in
    let some = c.ok_or-2.ensures.ok_part ∙ ap result_ok c.in_ok-l.was in
    c.write_log.ensures
    ∙ sym (some_written (log_format today) (lawful today sane_today) log_head c.args.fields.now c.args.log.now c.args.log.now
    whole.long c.if-log-ne-LOG_SIZE.false _ (rw (← whole.same) (sym c.narrow_log.ensures ∙ some)))
