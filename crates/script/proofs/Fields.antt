-- A field of digits has no comma. Assumes nothing.
use Rattle.std.specs.Prelude.{Option, Some, None}
use Rattle.std.proofs.lemmas.Bool.{and_parts}
use Prim.Native.Nat.{ℕ, ◌+◌, ◌≤◌, ◌<◌}
use mathlib.Core.Path.{◌≡◌, refl}
use mathlib.Core.Bool.{Bool, true, false, and-false}
use mathlib.Core.List.{List, [], ◌∷◌}
use native.Mathlib.Decide.{dec_lt}
use native.Mathlib.Omega.{arith}
use borrow.Author.Tests.{leb-true, ne_eqb}
use lib.Dec.{leb}
use lib.ListN.{length, drop}
use Rattle.script.specs.Numbers.{digit_zero, digit_nine, is_digit, all_digits, is_number, read_number}
use Rattle.script.specs.Parts.{comma, parted}
use Rattle.script.specs.InnerParts.{before}
use Rattle.script.specs.Script.{both, one_of, two_of}
use Rattle.script.proofs.Parting.{parted_there, parted_none, parted_some}

pub digit_range : (b : ℕ) → is_digit b ≡ true → (digit_zero ≤ b) × (b ≤ digit_nine)
digit_range b h = let t = and_parts (leb digit_zero b) (leb b digit_nine) h in (leb-true digit_zero b t.0, leb-true b digit_nine t.1)

no_comma : (s : List ℕ) → all_digits s ≡ true → length s ≤ before comma s
no_comma [] h = omega arith
no_comma (b ∷ s) h =
    let t = and_parts (is_digit b) (all_digits s) h in
    let d = digit_range b t.0 in
    let n : b ≡ comma → ⊥ = λ e. omega arith in
    rw (ne_eqb b comma n) (omega (arith, no_comma s t.1))

pub digits_whole : (s : List ℕ) → all_digits s ≡ true → parted comma s ≡ s ∷ []
digits_whole s h = parted_none comma s (no_comma s h)

-- a field with a comma is no number
comma_in : (s : List ℕ) → before comma s < length s → read_number s ≡ None
unfolding is_number read_number
comma_in s h = go (all_digits s) refl
  where
    go : (t : Bool) → all_digits s ≡ t → read_number s ≡ None
    go true e = absurd (omega (arith, no_comma s e))
    go false e = simp (e, and-false)

pub one_number : (s : List ℕ) → one_of (parted comma s) ≡ read_number s
one_number s = go (dec_lt (before comma s) (length s))
  where
    go : Dec (before comma s < length s) → one_of (parted comma s) ≡ read_number s
    go (yes l) = rw (parted_there comma s l, comma_in s l, (parted_some comma (drop (before comma s + 1) s)).same)
    go (no n) = rw (parted_none comma s (omega arith))

pub two_numbers : (p s : List ℕ) → two_of (p ∷ parted comma s) ≡ both (read_number p) (read_number s)
two_numbers p s = go (dec_lt (before comma s) (length s))
  where
    not_both : (a : Option ℕ) → None ≡ both a None
    not_both (Some x) = refl
    not_both None = refl

    go : Dec (before comma s < length s) → two_of (p ∷ parted comma s) ≡ both (read_number p) (read_number s)
    go (yes l) = rw (parted_there comma s l, comma_in s l, (parted_some comma (drop (before comma s + 1) s)).same) (not_both (read_number p))
    go (no n) = rw (parted_none comma s (omega arith))
