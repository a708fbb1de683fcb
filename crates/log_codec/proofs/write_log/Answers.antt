-- The numbers stored are the log's bytes. Assumes nothing.
use Rattle.std.proofs.Common.{refl, ◌∙◌, arith}
use Rattle.std.proofs.lemmas.Grind.{common_steps}
use Rattle.tally.specs.Limits.{today}
use Rattle.formats.specs.Logs.{log_format, write_log}
use Rattle.formats.proofs.Steps.{packed}
use Rattle.log_codec.proofs.write_log.Goals as goal

pub returns : goal.returns
unfolding write_log
returns c =
    let bytes = c.put_log.ensures ∙ packed (log_format today) c.args.out.now c.in_ok-checked_log.field-0 refl refl c.if-out-ne-LOG_SIZE.false in
    grind (arith, common_steps)
