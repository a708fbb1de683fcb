-- It calls itself at the next unit number: the measure is how many are left. Assumes nothing.
use Rattle.std.proofs.Common.{◌-◌}
use Rattle.tally.specs.Limits.{senders}
use Rattle.tally.proofs.+leader_from.Given as goal

abbrev pub decreases-leader_from : goal.decreases-leader_from
decreases-leader_from l = senders - l.sender
