-- The first condition that holds refuses; where none does, it is the unit's own answer. Assumes nothing.
use Rattle.std.proofs.Common.{arith}
use Rattle.std.proofs.lemmas.Grind.{common_steps}
use Rattle.consensus.specs.Conditions.{first_refusal}
use Rattle.consensus.specs.Methods.{unless}
use Rattle.bench_play.specs.Play.{delivery_conditions}
use Rattle.bench_turns.specs.InnerTurns.{turn_delivery}
use Rattle.bench_turns.proofs.turn_delivery.Goals as goal

pub returns-then-not-is_up : goal.returns-then-not-is_up
unfolding turn_delivery delivery_conditions unless first_refusal
returns-then-not-is_up c = grind (arith, common_steps)

pub returns-then-kept-k : goal.returns-then-kept-k
unfolding turn_delivery delivery_conditions unless first_refusal
returns-then-kept-k c = grind (arith, common_steps)

pub returns : goal.returns
unfolding turn_delivery delivery_conditions unless first_refusal
returns c = grind (arith, common_steps)
