-- What is claimed of every call on a card. Assumes nothing.
use Rattle.std.specs.Prelude.{ℕ, ◌-◌, ◌≤◌, ◌≡◌, List, set}
use Rattle.tally.specs.Limits.{Limits, blank_code}
use Rattle.tally.specs.Refusal.{number_of}
use Rattle.formats.specs.Messages.{cleared}
use Rattle.consensus.specs.Conditions.{Condition, first_refusal, NoneHolds}
use Rattle.cards.specs.Calls.{CardAnswer, card_called, row_at}
use Rattle.cards.specs.declared.CardRow.{CardRow}

-- of a call on row k of a card, with these conditions, and the row x to store
pub record OnRow (l : Limits) (conditions : List Condition) (card : List CardRow) (k : ℕ) (x : CardRow) (out : List ℕ) (a : CardAnswer) : Type 0 where
  -- the number is that of the first condition that holds, in the card's order, and 0 exactly where none does
  pub number : a.number ≡ number_of (first_refusal conditions)
  pub accepted : a.number ≡ 0 → NoneHolds conditions
  pub none : NoneHolds conditions → a.number ≡ 0
  -- a refused call leaves every row, zeros in an output buffer of a message's length, and no decision
  pub refused : (a.number ≡ 0 → ⊥) → a ≡ card_called a.number card (cleared l out) blank_code
  -- an accepted one stores one row, and leaves every other
  pub stored : a.number ≡ 0 → a.rows ≡ set card (k - 1) x
  pub others : (j : ℕ) → 1 ≤ j → (j ≡ k → ⊥) → row_at a.rows j ≡ row_at card j

-- two calls on row k answer the same, and leave the same in it
pub record Alike (k : ℕ) (a b : CardAnswer) : Type 0 where
  pub number : a.number ≡ b.number
  pub out : a.out ≡ b.out
  pub decision : a.decision ≡ b.decision
  pub row : row_at a.rows k ≡ row_at b.rows k

-- two calls on row k give the same number and, where they are accepted, leave the same in it
pub record Unread (k : ℕ) (a b : CardAnswer) : Type 0 where
  pub number : a.number ≡ b.number
  pub row : a.number ≡ 0 → row_at a.rows k ≡ row_at b.rows k
