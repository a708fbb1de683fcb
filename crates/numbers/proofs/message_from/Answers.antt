-- Numbers that do not fit their bytes, or with an unknown letter, are refused. Assumes nothing.
use Rattle.std.proofs.Common.{rules, ap, ◌∙◌}
use Rattle.std.specs.Result.{result_ok}
use Rattle.tally.specs.Limits.{today}
use Rattle.tally.proofs.Bounds.{sane_today}
use Rattle.formats.specs.Messages.{message_format}
use Rattle.formats.proofs.MessageFormat.{lawful}
use Rattle.calls.specs.InnerFields.{message_head, message_narrow}
use Rattle.calls.proofs.Narrow.{taken_narrow}
use Rattle.numbers.proofs.message_from.Goals as goal

pub returns-in_err-ok_or : goal.returns-in_err-ok_or
unfolding message_narrow
returns-in_err-ok_or c =
    let none = c.ok_or.ensures.ok_part ∙ ap result_ok c.in_err-ok_or.was in
    (search rules)
    ∙ rw (← c.narrow_message.ensures, none) at (taken_narrow (message_format today) (lawful today sane_today) c.args.f.now message_head c.told-f)
