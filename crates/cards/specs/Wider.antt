-- What is claimed of other limits: whatever call on a card was accepted keeps its answer. Assumes nothing.
use Rattle.std.specs.Prelude.{ℕ, List, ◌≡◌}
use Rattle.tally.specs.Limits.{Limits}
use Rattle.cards.specs.Calls.{Beside, card_start_call, card_key_on_call, card_propose_call, card_deliver_call}
use Rattle.cards.specs.declared.CardRow.{CardRow}

-- what is accepted at the limits o is accepted at l, with the same answer to the last number of every row
pub record KeepsCardAnswers (o l : Limits) : Type 0 where
  -- no mileage has a part in starting: a refusal is the same too
  pub start : (b : Beside) (rows : List CardRow) (k : ℕ) → card_start_call l b rows k ≡ card_start_call o b rows k
  pub key_on : (b : Beside) (rows : List CardRow) (k : ℕ) → (card_key_on_call o b rows k).number ≡ 0
      → card_key_on_call l b rows k ≡ card_key_on_call o b rows k
  pub propose : (b : Beside) (rows : List CardRow) (k mileage : ℕ) (out : List ℕ) → (card_propose_call o b rows k mileage out).number ≡ 0
      → card_propose_call l b rows k mileage out ≡ card_propose_call o b rows k mileage out
  pub deliver : (b : Beside) (rows : List CardRow) (message out : List ℕ) → (card_deliver_call o b rows message out).number ≡ 0
      → card_deliver_call l b rows message out ≡ card_deliver_call o b rows message out
