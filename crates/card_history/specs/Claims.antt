-- What else is claimed of every history of cards: rows that a card does not have, the key of a whole bike, what stays. Assumes nothing.
use Rattle.std.specs.Prelude.{ℕ, zero, suc, ◌≤◌, ◌≡◌, Bool, false, cond, ◌&&◌, eqb, leb, length}
use mathlib.Core.List.{List, [], ◌∷◌, Memᴰ}
use Rattle.cards.specs.Calls.{names_no_row, row_at}
use Rattle.cards.specs.declared.CardRow.{CardRow}
use Rattle.agreement.specs.Worlds.{Proposal, Decision}
use Rattle.card_history.specs.Cards.{Stage, new, up, down, OfEntry, CardWorld, CardEvent, off, is_new}

-- a started row is one that its card has: a unit without row k takes no part in entry k
abbrev pub Placed : CardWorld → Type 0
Placed w = (u k : ℕ) → is_new ((w.units u).stage k) ≡ false → names_no_row (length (w.units u).rows) k ≡ false

-- ---- the key of a whole bike

-- key-off of rows 1 to k of unit u, as a list of events
abbrev pub off_all : ℕ → (ℕ → CardRow) → ℕ → List CardEvent
off_all u lost zero = []
off_all u lost (suc k) = off u (suc k) (lost (suc k)) ∷ off_all u lost k

-- a row that was up is down
abbrev pub lowered : Stage → Stage
lowered new = new
lowered up = down
lowered down = down

-- from w to w' each of these rows of unit u that was up is down; logs, other rows and other units stay, and nothing is sent, proposed or decided
pub record RowsOff (u : ℕ) (these : ℕ → Bool) (w w' : CardWorld) : Type 0 where
  pub stages : (j : ℕ) → (w'.units u).stage j ≡ cond (these j) (lowered ((w.units u).stage j)) ((w.units u).stage j)
  pub logs : (j : ℕ) → (row_at (w'.units u).rows j).log ≡ (row_at (w.units u).rows j).log
  pub rows : (j : ℕ) → 1 ≤ j → these j ≡ false → row_at (w'.units u).rows j ≡ row_at (w.units u).rows j
  pub others : (v : ℕ) → eqb v u ≡ false → w'.units v ≡ w.units v
  pub sent : w'.sent ≡ w.sent
  pub proposed : w'.proposed ≡ w.proposed
  pub decided : w'.decided ≡ w.decided

-- rows 1 to k
abbrev pub up_to_row : ℕ → ℕ → Bool
up_to_row k j = leb 1 j && leb j k

-- ---- what stays

-- what was sent, proposed or decided of any entry stays so, and a row that was started: a row is started at most once
pub record Grown (w w' : CardWorld) : Type 0 where
  pub started : (u k : ℕ) → is_new ((w.units u).stage k) ≡ false → is_new ((w'.units u).stage k) ≡ false
  pub sent : (bs : List ℕ) → Memᴰ bs w.sent → Memᴰ bs w'.sent
  pub proposed : (p : OfEntry Proposal) → Memᴰ p w.proposed → Memᴰ p w'.proposed
  pub decided : (d : OfEntry Decision) → Memᴰ d w.decided → Memᴰ d w'.decided
