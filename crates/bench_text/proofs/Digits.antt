-- Numbers in decimal. Assumes nothing.
use Prim.Native.Nat.{ℕ, zero, suc, ◌+◌, ◌-◌, ◌*◌, ◌^◌, ◌≤◌, ◌<◌, ◌/◌, ◌%◌}
use mathlib.Core.Path.{◌≡◌}
use mathlib.Core.Bool.{Bool, true, false, cond}
use mathlib.Core.List.{[], ◌∷◌, ◌++◌}
use native.Mathlib.Nat.{pow-suc}
use native.Mathlib.Omega.{arith}
use lib.Dec.{ltb}
use borrow.Author.Tests.{lt-ltb, le-ltb}
use lib.ListN.{length, length-append}
use Rattle.script.specs.Numbers.{digit_zero}
use Rattle.bench_text.specs.Text.{digits}

-- a digit alone, and a last digit
pub few : (k n : ℕ) → 0 < k → n < 10 → digits k n ≡ (digit_zero + n) ∷ []
few zero n p h = absurd (omega arith)
few (suc k) n p h = rw (lt-ltb n 10 h)

pub many : (k n : ℕ) → 0 < k → 10 ≤ n → digits k n ≡ digits (k - 1) (n / 10) ++ ((digit_zero + n % 10) ∷ [])
many zero n p h = absurd (omega arith)
many (suc k) n p h =
    let e : suc k - 1 ≡ k = omega arith in
    rw (e, le-ltb n 10 h)

-- what is left of n takes a digit less
pub lower : (k n : ℕ) → 10 ≤ n → n < 10 ^ k → (0 < k - 1) × (n / 10 < 10 ^ (k - 1))
lower zero n h l = absurd (omega arith)
lower (suc zero) n h l = absurd (omega arith)
lower (suc (suc j)) n h l =
    let e : suc (suc j) - 1 ≡ suc j = omega arith in
    let m : n < 10 ^ suc j * 10 = rw pow-suc at l in
    (omega arith, rw e (omega arith))

-- a number below a power of ten has no more digits than the power
pub digits_most : (j k n : ℕ) → n < 10 ^ suc j → length (digits k n) ≤ suc j
digits_most j zero n h = omega arith
digits_most zero (suc k) n h =
    let l : n < 10 = h in
    rw (lt-ltb n 10 l) (omega arith)
digits_most (suc j) (suc k) n h =
    let m : n < 10 ^ suc j * 10 = rw pow-suc at h in
    let l : n / 10 < 10 ^ suc j = omega arith in
    go (ltb n 10) (digits_most j k (n / 10) l)
  where
    go : (b : Bool) → length (digits k (n / 10)) ≤ suc j
        → length (cond b ((digit_zero + n) ∷ []) (digits k (n / 10) ++ ((digit_zero + n % 10) ∷ []))) ≤ suc (suc j)
    go true e = omega arith
    go false e = rw length-append (omega arith)

-- nor more than asked for
pub digits_short : (k n : ℕ) → length (digits k n) ≤ k
digits_short zero n = omega arith
digits_short (suc k) n = go (ltb n 10) (digits_short k (n / 10))
  where
    go : (b : Bool) → length (digits k (n / 10)) ≤ k
        → length (cond b ((digit_zero + n) ∷ []) (digits k (n / 10) ++ ((digit_zero + n % 10) ∷ []))) ≤ suc k
    go true h = omega arith
    go false h = rw length-append (omega arith)
