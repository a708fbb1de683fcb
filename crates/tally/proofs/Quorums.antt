-- Quorum facts, for all n together. Assumes nothing.
use mathlib.Core.Bool.{Bool}
use Prim.Native.Nat.{ℕ, ◌+◌, ◌-◌, ◌≤◌, ◌<◌}
use native.Mathlib.Omega.{arith}
use Rattle.tally.specs.Limits.{min_units}
use Rattle.tally.specs.Count.{count, Both}
use Rattle.tally.specs.Quorum.{quorum_of, majority_of}
use Rattle.tally.specs.declared.Engine.{Engine}
use Rattle.tally.specs.declared.Engine.TheVariants.{B, R}
use Rattle.tally.proofs.Count.{overlap}

-- two quorums are more than all units
pub quorum_half : (g : Engine) (n : ℕ) → n < quorum_of g n + quorum_of g n
quorum_half B n = omega arith
quorum_half R n = omega arith

-- a quorum is at least two units and at most all
pub quorum_fits : (g : Engine) (n : ℕ) → min_units ≤ n → (2 ≤ quorum_of g n) × (quorum_of g n ≤ n)
quorum_fits B n h = (omega arith, omega arith)
quorum_fits R n h = (omega arith, omega arith)

-- a quorum is enough units to block another: q ≥ n − q + 1
pub quorum_blocks : (g : Engine) (n : ℕ) → min_units ≤ n → n - quorum_of g n + 1 ≤ quorum_of g n
quorum_blocks g n h = omega (arith, quorum_half g n, quorum_fits g n h)

-- B: a quorum is over half of the units, and the least number that is
pub quorum_least_b : (n k : ℕ) → n < k + k → quorum_of B n ≤ k
quorum_least_b n k h = omega arith

-- R: a quorum is over two thirds of the units, and the least number that is
pub quorum_thirds : (n : ℕ) → n + n < quorum_of R n + quorum_of R n + quorum_of R n
quorum_thirds n = omega arith

pub quorum_least_r : (n k : ℕ) → n + n < k + k + k → quorum_of R n ≤ k
quorum_least_r n k h = omega arith

-- two quorums overlap in a unit
pub quorums_overlap : (g : Engine) (n : ℕ) (P Q : ℕ → Bool) → quorum_of g n ≤ count n P → quorum_of g n ≤ count n Q → Both n P Q
quorums_overlap g n P Q p q = overlap n P Q (omega (arith, quorum_half g n))

-- R: where fewer than a majority of the quorum gathered are v, those that are not stop a quorum of v
pub majority_blocks : (n v : ℕ) → v < majority_of n → n - quorum_of R n + 1 ≤ quorum_of R n - v
majority_blocks n v h = omega arith

-- R: a majority is over half of the quorum, and the least number that is
pub majority_over_half : (n : ℕ) → quorum_of R n < majority_of n + majority_of n
majority_over_half n = omega arith

pub majority_least : (n k : ℕ) → quorum_of R n < k + k → majority_of n ≤ k
majority_least n k h = omega arith
