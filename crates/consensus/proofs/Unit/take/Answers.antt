-- The first condition that holds refuses; where none does, it is the step. Assumes nothing.
use Rattle.std.proofs.Common.{arith}
use Rattle.std.proofs.lemmas.Grind.{common_steps}
use Rattle.consensus.specs.Conditions.{first_refusal}
use Rattle.consensus.specs.InnerMethods.{deliver_read}
use Rattle.consensus.specs.Methods.{deliver, deliver_conditions, unless}
use Rattle.consensus.proofs.Unit.take.Goals as goal

pub returns-in_err-checked : goal.returns-in_err-checked
unfolding deliver deliver_conditions unless first_refusal deliver_read
returns-in_err-checked c = grind (arith, common_steps)

pub returns-then-not-is_up : goal.returns-then-not-is_up
unfolding deliver deliver_conditions unless first_refusal deliver_read
returns-then-not-is_up c = grind (arith, common_steps)

pub returns-then-for_other : goal.returns-then-for_other
unfolding deliver deliver_conditions unless first_refusal deliver_read
returns-then-for_other c = grind (arith, common_steps)

pub returns : goal.returns
unfolding deliver deliver_conditions unless first_refusal deliver_read
returns c = grind (arith, common_steps)
