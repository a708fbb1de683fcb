-- The numbers stored are the message's bytes. Assumes nothing.
use Rattle.std.proofs.Common.{rules, refl, ◌∙◌}
use Rattle.tally.specs.Limits.{today}
use Rattle.formats.specs.Messages.{message_format}
use Rattle.formats.proofs.Steps.{packed}
use Rattle.message_codec.proofs.put_message.Goals as goal

pub returns : goal.returns
returns c = (search rules) ∙ packed (message_format today) c.args.out.now c.args.m refl refl c.told-out
