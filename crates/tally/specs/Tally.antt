-- Tallies: which senders are marked, and with what. Assumes nothing.
use Rattle.std.specs.Prelude.{ℕ, zero, suc, ◌<◌, ◌≤◌, ◌/◌, ◌%◌, ◌^◌, ◌≡◌, Bool, false, cond}
use Rattle.std.specs.Prelude.{List, [], ◌∷◌, eqb, length, get_or, set, replicate}
use Rattle.std.specs.Int.Bits.{bit_or}
use Rattle.tally.specs.Limits.{senders}
use Rattle.tally.specs.declared.Cell.{Cell}
use Rattle.tally.specs.declared.Estimate.{Estimate}
use Rattle.tally.specs.declared.Estimate.TheVariants.{Blank}
use Rattle.tally.specs.declared.Tally.{Tally}

-- what the types of a tally's fields say: 16-bit marks and sixteen cells
pub record Typed (t : Tally) : Type 0 where
  pub marks : t.marks < 2 ^ senders
  pub cells : length t.cells ≡ senders

-- a sender mark (the scope paper's term) is one bit, value 2 to the power of the unit
abbrev pub is_marked : ℕ → ℕ → Bool
is_marked marks s = eqb (marks / 2 ^ s % 2) 1

abbrev pub blank_cell : Cell
blank_cell = record { estimate = Blank }

-- the estimate in a sender's cell
abbrev pub estimate_at : Tally → ℕ → Estimate
estimate_at t s = (get_or t.cells s blank_cell).estimate

-- what a sender is marked with, blank where it is not marked
unfoldable pub held : Tally → ℕ → Estimate
held t s = cond (is_marked t.marks s) (estimate_at t s) Blank

-- no sender is marked, and every cell is blank
unfoldable pub no_marks : Tally
no_marks = record { marks = 0; cells = replicate senders blank_cell }

-- the sender s is marked, with the estimate e
unfoldable pub mark : Tally → ℕ → Estimate → Tally
mark t s e = record { marks = bit_or t.marks (2 ^ s); cells = set t.cells s (record { estimate = e }) }

-- the estimates of the marked among the k senders from s on, in rising order of sender
unfoldable pub gathered_from : Tally → ℕ → ℕ → List Estimate
gathered_from t s zero = []
gathered_from t s (suc k) = cond (is_marked t.marks s) (estimate_at t s ∷ gathered_from t (suc s) k) (gathered_from t (suc s) k)

-- of all senders
unfoldable pub gathered : Tally → List Estimate
gathered t = gathered_from t 0 senders

-- no unit from n on is marked
abbrev pub OnlyBelow : ℕ → ℕ → Type 0
OnlyBelow n marks = (u : ℕ) → n ≤ u → u < senders → is_marked marks u ≡ false
