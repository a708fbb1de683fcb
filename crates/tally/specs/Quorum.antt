-- Quorums. Assumes nothing.
use Rattle.std.specs.Prelude.{ℕ, ◌+◌, ◌-◌, ◌*◌, ◌/◌}
use Rattle.tally.specs.declared.Engine.{Engine}
use Rattle.tally.specs.declared.Engine.TheVariants.{B, R}

-- a / b rounded up
abbrev pub rounded_up : ℕ → ℕ → ℕ
rounded_up a b = (a + (b - 1)) / b

-- B takes (n + 1) / 2 rounded up, R takes (2n + 1) / 3 rounded up: B 29 and 39, R 30
abbrev pub quorum_of : Engine → ℕ → ℕ
quorum_of B n = rounded_up (n + 1) 2
quorum_of R n = rounded_up (2 * n + 1) 3

-- majority in R: over half of the quorum gathered (reading 4), against R 32
abbrev pub majority_of : ℕ → ℕ
majority_of n = quorum_of R n / 2 + 1
