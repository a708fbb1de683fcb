-- What inner functions promise, of which no public call's contract speaks. Assumes nothing.
use Rattle.std.specs.Prelude.{ℕ, cond, Option, Some, None}
use Rattle.tally.specs.Tally.{is_marked, estimate_at}
use Rattle.tally.specs.declared.Tally.{Tally}
use Rattle.tally.specs.declared.Estimate.{Estimate}

-- what a marked sender sent
abbrev pub sent_by : Tally → ℕ → Option Estimate
sent_by t s = cond (is_marked t.marks s) (Some (estimate_at t s)) None
