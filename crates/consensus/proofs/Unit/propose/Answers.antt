-- The first condition that holds refuses; where none does, it is the step. Assumes nothing.
use Rattle.std.proofs.Common.{arith}
use Rattle.std.proofs.lemmas.Grind.{common_steps}
use Rattle.consensus.specs.Conditions.{first_refusal}
use Rattle.consensus.specs.Methods.{propose, propose_conditions, unless}
use Rattle.consensus.proofs.Unit.propose.Goals as goal

pub returns-then-not-is_up : goal.returns-then-not-is_up
unfolding propose propose_conditions unless first_refusal
returns-then-not-is_up c = grind (arith, common_steps)

pub returns-then-out_of_range : goal.returns-then-out_of_range
unfolding propose propose_conditions unless first_refusal
returns-then-out_of_range c = grind (arith, common_steps)

pub returns : goal.returns
unfolding propose propose_conditions unless first_refusal
returns c = grind (arith, common_steps)
