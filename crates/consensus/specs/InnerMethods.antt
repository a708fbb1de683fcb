-- What inner functions promise, of which no public call's contract speaks. Assumes nothing.
use Rattle.std.specs.Prelude.{[], ◌∷◌, Some, Result, Ok, Err}
use Rattle.tally.specs.Limits.{Limits}
use Rattle.tally.specs.declared.Refusal.{Refusal}
use Rattle.contents.specs.declared.Message.{Message}
use Rattle.consensus.specs.Conditions.{condition}
use Rattle.consensus.specs.Step.{gives, received}
use Rattle.consensus.specs.declared.Answer.{Answer}
use Rattle.consensus.specs.declared.Unit as U
use Rattle.consensus.specs.declared.step.Said.{Said}
use Rattle.consensus.specs.Methods.{refuses, unless, closes_last}

-- the answer of a unit after a delivery in place, which tells what it says or why it is refused
abbrev pub taken : U.Unit → Result Said Refusal → Answer
taken u (Ok said) = gives u said.message said.decision
taken u (Err k) = refuses u (Some k)

-- a delivery to an up unit of a well-formed message that is for it: 7 is the one condition left
unfoldable pub deliver_read : Limits → U.Unit → Message → Answer
deliver_read l u m = unless (condition Refusal.LastRound (closes_last l u m) ∷ []) u (received u m)
