-- Reading and writing, one law a branch. Assumes nothing.
use Rattle.std.specs.Prelude.{Option, Some, None}
use Prim.Native.Nat.{ℕ}
use mathlib.Core.Path.{◌≡◌, refl, ap}
use mathlib.Core.Bool.{Bool, true, false, cond}
use mathlib.Core.List.{List}
use native.Mathlib.Omega.{arith}
use lib.Dec.{eqb}
use lib.ListN.{length, get_or}
use borrow.Author.Tests.{eq-eqb, ne_eqb, eqb-true}
use Rattle.tally.specs.Refusal.{number_of}
use Rattle.tally.specs.declared.Engine.{Engine}
use Rattle.tally.specs.declared.Refusal.TheVariants.{Length}
use Rattle.formats.specs.Codes.{engine_of, with_engine}
use Rattle.formats.specs.Formats.{ReadAnswer, reading, wrote, Format, with_zero, numbers_in, zero_byte, checked, from_numbers}
use Rattle.formats.specs.Formats.{read_bytes, to_bytes, write_bytes}
use Rattle.formats.specs.InnerNumbers.{pack_into, total}
use Rattle.formats.specs.InnerFormats.{stored}
use Rattle.formats.proofs.Packed.{pack_into_eq}

-- contents that were read with the number 0
pub was_read : {A : Type 0} (r : ReadAnswer A) → eqb r.number 0 ≡ true → r ≡ reading 0 r.contents
was_read r e = rw (← eqb-true r.number 0 e)

module _ {A : Type 0} (f : Format A) (bs : List ℕ) where
  pub read_length : (length bs ≡ f.size → ⊥) → read_bytes f bs ≡ reading (number_of (Some Length)) f.nothing
  read_length n = rw (ne_eqb (length bs) f.size n)

  pub read_numbers_in : length bs ≡ f.size → zero_byte f bs ≡ 0 → read_bytes f bs ≡ from_numbers f (numbers_in f bs)
  read_numbers_in e z = rw (eq-eqb (length bs) f.size e, eq-eqb (zero_byte f bs) 0 z)

  -- formats that begin with an engine's letter: it is unknown also where the zero byte is not 0
  module _ (make : Engine → List ℕ → A) (letters : (vs : List ℕ) → f.parse vs ≡ with_engine make (engine_of (get_or vs 0 0)) vs)
      (size : length bs ≡ f.size) where
    pub read_engine : (o : Option Engine) → cond (eqb (zero_byte f bs) 0) (engine_of (get_or (numbers_in f bs) 0 0)) None ≡ o
        → read_bytes f bs ≡ checked f (with_engine make o (numbers_in f bs))
    read_engine o h = rw (eq-eqb (length bs) f.size size, ← h) (go (eqb (zero_byte f bs) 0))
      where
        go : (t : Bool) → cond t (from_numbers f (numbers_in f bs)) (reading f.malformed f.nothing)
            ≡ checked f (with_engine make (cond t (engine_of (get_or (numbers_in f bs) 0 0)) None) (numbers_in f bs))
        go true = ap (checked f) (letters (numbers_in f bs))
        go false = refl

  pub write_malformed : (a : A) (kept : List ℕ) → length bs ≡ f.size → f.ok a ≡ false → write_bytes f a kept bs ≡ wrote f.malformed kept
  write_malformed a kept e ok = rw (eq-eqb (length bs) f.size e, ok)

  pub write_contents : (a : A) (kept : List ℕ) → length bs ≡ f.size → f.ok a ≡ true → write_bytes f a kept bs ≡ wrote 0 (to_bytes f a)
  write_contents a kept e ok = rw (eq-eqb (length bs) f.size e, ok)

  -- a refused write leaves what is to be kept
  pub write_kept : (a : A) (kept : List ℕ) → ((write_bytes f a kept bs).number ≡ 0 → ⊥) → (write_bytes f a kept bs).out ≡ kept
  write_kept a kept = go (eqb (length bs) f.size) (f.ok a)
    where
      go : (s t : Bool) → ((cond s (cond t (wrote 0 (to_bytes f a)) (wrote f.malformed kept)) (wrote (number_of (Some Length)) kept)).number ≡ 0 → ⊥)
          → (cond s (cond t (wrote 0 (to_bytes f a)) (wrote f.malformed kept)) (wrote (number_of (Some Length)) kept)).out ≡ kept
      go true true n = absurd (n refl)
      go true false n = refl
      go false t n = refl

  -- the numbers of contents stored in a buffer of the right length are their bytes
  pub packed : (a : A) → length (with_zero f.zero_at (f.numbers a)) ≡ length f.widths → total f.widths ≡ f.size → length bs ≡ f.size
      → pack_into bs 0 f.widths (with_zero f.zero_at (f.numbers a)) ≡ to_bytes f a
  packed a each sized e = pack_into_eq f.widths (with_zero f.zero_at (f.numbers a)) bs 0 each (omega arith)

  pub stored_other : (a : A) → (length bs ≡ f.size → ⊥) → stored f a bs ≡ bs
  unfolding stored
  stored_other a n = rw (ne_eqb (length bs) f.size n)

  pub stored_contents : (a : A) → length bs ≡ f.size → stored f a bs ≡ to_bytes f a
  unfolding stored
  stored_contents a e = rw (eq-eqb (length bs) f.size e)
