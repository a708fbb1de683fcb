-- Sender marks: their ones are the marked senders, and what marking a sender changes. Assumes nothing.
use Prim.Native.Nat.{ℕ, zero, suc, ◌+◌, ◌*◌, ◌/◌, ◌%◌, ◌^◌, ◌<◌}
use mathlib.Core.Path.{◌≡◌, sym, ap, ap₂, ◌∙◌}
use mathlib.Core.Bool.{true, false}
use native.Mathlib.Nat.{mod-lt, add-zero, one-mul, zero-mul, suc-mul, zero-add, mod-one, mod-eq_of_lt}
use native.Mathlib.Numerals.{add-one, one-add}
use native.Mathlib.Omega.{arith}
use borrow.Author.Tests.{eqb-false, eq-eqb}
use Rattle.std.proofs.lemmas.Nat.Bits.{bit_at_or, bit_at-pow_same, bit_at-pow_other, bit_at-zero, bit_at-lt}
use lib.Dec.{eqb}
use lib.Bits.{bit_or, bit_and, and_block, and_mask, and_zero_r, or_disjoint}
use lib.Count.{ones, ones_step, ones_cat}
use lib.Pow.{split, mod-pow-add, pow_pos}
use Rattle.tally.specs.Limits.{senders}
use Rattle.tally.specs.Count.{bump, count}
use Rattle.tally.specs.Tally.{is_marked}

bump_bit : (k b : ℕ) → b < 2 → ones b + k ≡ bump (eqb b 1) k
unfolding ones
bump_bit k zero h = zero-add k
bump_bit k (suc zero) h = one-add k
bump_bit k (suc (suc b)) h = absurd (omega arith)

-- the lowest k marks, counted
ones_below : (m k : ℕ) → ones (m % 2 ^ k) ≡ count k (is_marked m)
unfolding ones
ones_below m zero = rw mod-one
ones_below m (suc k) =
    ap (λ (x : ℕ). ones (m % 2 ^ x)) (sym (one-add k))
    ∙ ap ones (mod-pow-add m 1 k)
    ∙ ones_cat k (m / 2 ^ k % 2) (m % 2 ^ k) (mod-lt m (pow_pos k))
    ∙ ap (λ (x : ℕ). ones (m / 2 ^ k % 2) + x) (ones_below m k)
    ∙ bump_bit (count k (is_marked m)) (m / 2 ^ k % 2) (bit_at-lt m k)

-- the ones of the marks are the number of marked senders
pub ones_senders : (m : ℕ) → m < 2 ^ senders → ones m ≡ count senders (is_marked m)
ones_senders m h = ap ones (sym (mod-eq_of_lt h)) ∙ ones_below m senders

-- setting a bit that is not set adds its value
or_clear : (m s : ℕ) → m / 2 ^ s % 2 ≡ 0 → bit_or m (2 ^ s) ≡ m + 2 ^ s
or_clear m s h =
    or_disjoint m (2 ^ s)
    (ap₂ bit_and (sym (split m s)) (sym (add-zero (1 * 2 ^ s) ∙ one-mul (2 ^ s)))
    ∙ and_block s (m / 2 ^ s) 1 (m % 2 ^ s) 0 (mod-lt m (pow_pos s)) (pow_pos s)
    ∙ ap₂ (λ (x y : ℕ). x * 2 ^ s + y) (and_mask (m / 2 ^ s) 1 ∙ h) (and_zero_r (m % 2 ^ s))
    ∙ add-zero (0 * 2 ^ s)
    ∙ zero-mul (2 ^ s))

even_ones : (n : ℕ) → n % 2 ≡ 0 → ones (n + 1) ≡ ones n + 1
even_ones n h =
    let a : (n + 1) % 2 ≡ 1 = omega arith in
    let b : (n + 1) / 2 ≡ n / 2 = omega arith in
    rw (ones_step (n + 1), ones_step n, a, b, h) (omega arith)

-- marking an unmarked sender adds exactly one
pub mark_adds : (m s : ℕ) → is_marked m s ≡ false → ones (bit_or m (2 ^ s)) ≡ ones m + 1
mark_adds m s e =
    let q = m / 2 ^ s in
    let r = m % 2 ^ s in
    let clear : q % 2 ≡ 0 = omega (arith, eqb-false (q % 2) 1 e, bit_at-lt m s) in
    let d : (q + 1) * 2 ^ s ≡ q * 2 ^ s + 2 ^ s = rw add-one (suc-mul q (2 ^ s)) in
    ap ones (or_clear m s clear ∙ omega (arith, split m s, d))
    ∙ ones_cat s (q + 1) r (mod-lt m (pow_pos s))
    ∙ ap (λ (x : ℕ). x + ones r) (even_ones q clear)
    ∙ omega arith
    ∙ ap (λ (x : ℕ). x + 1) (sym (ones_cat s q r (mod-lt m (pow_pos s))) ∙ ap ones (split m s))

-- the marked sender is marked
pub mark_same : (m s : ℕ) → is_marked (bit_or m (2 ^ s)) s ≡ true
mark_same m s = eq-eqb _ 1 (bit_at_or m (2 ^ s) s ∙ rw (bit_at-pow_same s) (omega (arith, bit_at-lt m s)))

-- other senders keep their marks
pub mark_other : (m s u : ℕ) → (u ≡ s → ⊥) → is_marked (bit_or m (2 ^ s)) u ≡ is_marked m u
mark_other m s u n = ap (λ (x : ℕ). eqb x 1) (bit_at_or m (2 ^ s) u ∙ rw (bit_at-pow_other s u n) (omega arith))

-- where there are no marks, no sender is marked
pub unmarked_none : (s : ℕ) → is_marked 0 s ≡ false
unmarked_none s = ap (λ (x : ℕ). eqb x 1) (bit_at-zero s)
