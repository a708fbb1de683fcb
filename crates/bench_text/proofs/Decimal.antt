-- A number that is printed is read back the same. Assumes nothing.
use Rattle.std.specs.Prelude.{Some}
use Rattle.std.proofs.lemmas.Bool.{and_parts}
use Prim.Native.Nat.{ℕ, zero, suc, ◌+◌, ◌-◌, ◌*◌, ◌^◌, ◌≤◌, ◌<◌, ◌/◌, ◌%◌}
use mathlib.Core.Path.{◌≡◌, refl, sym, ◌∙◌}
use mathlib.Core.Bool.{true, false, and-false}
use mathlib.Core.List.{List, [], ◌∷◌, ◌++◌}
use native.Mathlib.Decide.{dec_lt}
use native.Mathlib.Omega.{arith}
use borrow.Author.Tests.{le-leb, lt-leb, ne_eqb}
use lib.ListN.{length, get_or, length-append, get_or-append}
use Rattle.script.specs.Numbers.{digit_zero, digit_nine, max_digits, max_number, is_digit, all_digits, leading_zero, value_from, is_number, read_number}
use Rattle.bench_text.specs.Text.{digits, decimal}
use Rattle.bench_text.proofs.Digits.{few, many, lower, digits_short}

-- the digits s say n, and begin with 0 only where that is all
record Says (n : ℕ) (s : List ℕ) : Type 0 where
  some : 0 < length s
  all : all_digits s ≡ true
  first : 0 < n → get_or s 0 0 ≡ digit_zero → ⊥
  alone : n < 10 → length s ≡ 1
  value : value_from 0 s ≡ n

digit : (d : ℕ) → d < 10 → is_digit (digit_zero + d) ≡ true
digit d h = rw (le-leb digit_zero (digit_zero + d) (omega arith), le-leb (digit_zero + d) digit_nine (omega arith))

all_snoc : (s : List ℕ) (b : ℕ) → all_digits s ≡ true → is_digit b ≡ true → all_digits (s ++ (b ∷ [])) ≡ true
all_snoc [] b h d = rw d
all_snoc (x ∷ s) b h d = let t = and_parts (is_digit x) (all_digits s) h in rw (t.0, all_snoc s b t.1 d)

value_snoc : (v : ℕ) (s : List ℕ) (b : ℕ) → value_from v (s ++ (b ∷ [])) ≡ value_from v s * 10 + (b - digit_zero)
value_snoc v [] b = refl
value_snoc v (x ∷ s) b = value_snoc (v * 10 + (x - digit_zero)) s b

-- a digit alone, and one after others
says_one : (n : ℕ) → n < 10 → Says n ((digit_zero + n) ∷ [])
says_one n h = record { some = omega arith; all = rw (digit n h); first = λ some zero. omega arith; alone = λ h. refl; value = omega arith }

says_more : (n : ℕ) (s : List ℕ) → 10 ≤ n → Says (n / 10) s → Says n (s ++ ((digit_zero + n % 10) ∷ []))
says_more n s h r =
    record {
      some = rw length-append (omega arith);
      all = all_snoc s (digit_zero + n % 10) r.all (digit (n % 10) (omega arith));
      first = λ some zero. r.first (omega arith) (sym (get_or-append s _ 0 0 r.some) ∙ zero);
      alone = λ l. absurd (omega arith);
      value = value_snoc 0 s (digit_zero + n % 10) ∙ rw r.value (omega arith);
    }

digits_say : (k n : ℕ) → 0 < k → n < 10 ^ k → Says n (digits k n)
digits_say zero n p h = absurd (omega arith)
digits_say (suc k) n p h = go (dec_lt n 10) (digits_say k (n / 10))
  where
    go : Dec (n < 10) → (0 < k → n / 10 < 10 ^ k → Says (n / 10) (digits k (n / 10))) → Says n (digits (suc k) n)
    go (yes l) others = rw (few (suc k) n p l) (says_one n l)
    go (no g) others =
        let e : suc k - 1 ≡ k = omega arith in
        let less = rw e at (lower (suc k) n (omega arith) h) in
        rw (many (suc k) n p (omega arith), e) (says_more n (digits k (n / 10)) (omega arith) (others less.0 less.1))

-- so that they are a number of a script
no_leading_zero : (n : ℕ) (s : List ℕ) → Says n s → leading_zero s ≡ false
no_leading_zero n s r = go (dec_lt 0 n)
  where
    go : Dec (0 < n) → leading_zero s ≡ false
    go (yes l) = rw (ne_eqb (get_or s 0 0) digit_zero (r.first l), and-false)
    go (no g) = rw (lt-leb 2 (length s) (omega (arith, r.alone (omega arith))))

says_read : (n : ℕ) (s : List ℕ) → Says n s → length s ≤ max_digits → n ≤ max_number → read_number s ≡ Some n
unfolding read_number is_number
says_read n s r short most =
    simp (le-leb 1 (length s) r.some, le-leb (length s) max_digits short, r.all, no_leading_zero n s r, r.value, le-leb n max_number most)

pub decimal_read : (n : ℕ) → n ≤ max_number → read_number (decimal n) ≡ Some n
unfolding decimal
decimal_read n most = says_read n (digits max_digits n) (digits_say max_digits n (omega arith) (omega arith)) (digits_short max_digits n) most
