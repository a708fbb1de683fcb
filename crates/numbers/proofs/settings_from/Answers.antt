-- Settings of numbers that fit their types are taken where they are in range. Assumes nothing.
use Rattle.std.proofs.Common.{rules, ◌∙◌}
use Rattle.calls.proofs.Entries.{settings_taken}
use Rattle.numbers.proofs.settings_from.Goals as goal

pub returns : goal.returns
returns c =
    (search rules) ∙ settings_taken c.args.engine c.args.n c.args.unit c.args.entry
