-- Reading and writing undo each other. Assumes nothing.
use Rattle.std.specs.Prelude.{ℕ, ◌≡◌, Bool, true, false, List, length}
use Rattle.formats.specs.Formats.{ReadAnswer, reading, WriteAnswer, wrote}
use Rattle.formats.specs.Numbers.{Bytes}

-- of contents: `Typed` is what the code's types say of them, `ok` which are well formed, `malformed` the number of the others
pub record RoundTrip {A : Type 0} (Typed : A → Type 0) (ok : A → Bool) (malformed size : ℕ) (read : List ℕ → ReadAnswer A)
    (write : A → List ℕ → WriteAnswer)
    : Type 0 where
  -- all well-formed contents are written, and what is written is read back the same
  pub back : (a : A) (bs : List ℕ) → Typed a → ok a ≡ true → length bs ≡ size → ((write a bs).number ≡ 0) ×
      (read (write a bs).out ≡ reading 0 a)
  -- whatever is read is written back to the same bytes
  pub same : (bs : List ℕ) (a : A) → Bytes bs → read bs ≡ reading 0 a → (out : List ℕ) → length out ≡ size → write a out ≡ wrote 0 bs
  -- contents that reading would refuse, since no bytes are read as them, are refused with reading's number
  pub refused : (a : A) (bs : List ℕ) → ok a ≡ false → length bs ≡ size → ((write a bs).number ≡ malformed) ×
      ((cs : List ℕ) → read cs ≡ reading 0 a → ⊥)
