-- What inner functions promise, of which no public call's contract speaks. Assumes nothing.
use Rattle.std.specs.Prelude.{ℕ, ◌+◌, ◌≡◌, ◌≤◌, List, length}
use Rattle.std.specs.Borrow.{MutBor}
use Rattle.std.proofs.lemmas.List.Edits.{sets}
use Rattle.bench_text.specs.declared.Listing.{Listing}

-- ys is xs with the text from place at on, and r is where it ends
pub record Puts (xs : List ℕ) (at : ℕ) (text : List ℕ) (ys : List ℕ) (r : ℕ) : Type 0 where
  pub bytes : ys ≡ sets xs at text
  pub ends : r ≡ at + length text

-- a listing that goes on at a place of the buffer that is lent, whatever stands before it
pub record Resumes (buffer : MutBor (List ℕ)) (at : ℕ) (p : Listing) : Type 0 where
  pub same_reference : p.buffer.ghost_name ≡ buffer.ghost_name
  pub same_bytes : p.buffer.now ≡ buffer.now
  pub place : p.at ≡ at

-- a listing of no byte yet
abbrev pub Begins : MutBor (List ℕ) → Listing → Type 0
Begins buffer p = Resumes buffer 0 p

-- after the listing there is room for so many bytes more
abbrev pub HasRoom : Listing → ℕ → Type 0
HasRoom p bytes = p.at + bytes ≤ length p.buffer.now

-- the text comes after the listing p, in the same buffer
pub record Appends (p : Listing) (text : List ℕ) (q : Listing) : Type 0 where
  pub same_reference : q.buffer.ghost_name ≡ p.buffer.ghost_name
  pub puts : Puts p.buffer.now p.at text q.buffer.now q.at
