-- The numbers stored are the log's bytes. Assumes nothing.
use Rattle.std.proofs.Common.{refl, sym, ◌∙◌}
use Rattle.tally.specs.Limits.{today}
use Rattle.formats.specs.Logs.{log_format}
use Rattle.formats.proofs.Steps.{packed, stored_contents}
use Rattle.log_codec.proofs.store_log.Goals as goal

pub returns-then-out-eq-LOG_SIZE : goal.returns-then-out-eq-LOG_SIZE
returns-then-out-eq-LOG_SIZE c =
    let size = c.if-out-eq-LOG_SIZE.true in
    c.put_log.ensures ∙ packed (log_format today) c.args.out.now c.args.log refl refl size ∙ sym (stored_contents (log_format today) _ _ size)
