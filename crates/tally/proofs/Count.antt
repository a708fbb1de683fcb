-- Counts: bounds, parts, weaker tests, and a unit that two counts share. Assumes nothing.
use mathlib.Core.Path.{◌≡◌, refl, ap}
use mathlib.Core.Bool.{Bool, true, false, not, ◌&&◌}
use mathlib.Core.List.{List, [], ◌∷◌}
use Prim.Native.Nat.{ℕ, zero, suc, ◌+◌, ◌≤◌, ◌<◌}
use native.Mathlib.Decide.{dec_lt}
use native.Mathlib.Omega.{arith}
use lib.ListN.{length}
pub use Rattle.std.specs.List.{AllByRecursion as Each}
use Rattle.tally.specs.Count.{bump, passing, up_to, count, Both}
use Rattle.tally.proofs.Never.{never}

-- ---- of a list

module _ {A : Type 0} where
  pub passing_le : (P : A → Bool) (xs : List A) → passing P xs ≤ length xs
  passing_le P [] = omega arith
  passing_le P (x ∷ xs) = go (P x) (passing_le P xs)
    where
      go : (b : Bool) → passing P xs ≤ length xs → bump b (passing P xs) ≤ suc (length xs)
      go true h = omega arith
      go false h = omega arith

  pub passing_all : (xs : List A) → passing (λ x. true) xs ≡ length xs
  passing_all [] = refl
  passing_all (x ∷ xs) = ap suc (passing_all xs)

  -- those that pass P are those that pass Q too and those that do not
  pub passing_split : (P Q : A → Bool) (xs : List A) → passing P xs ≡ passing (λ x. P x && Q x) xs + passing (λ x. P x && not (Q x)) xs
  passing_split P Q [] = refl
  passing_split P Q (x ∷ xs) = go (passing_split P Q xs) (P x) (Q x)
    where
      go : passing P xs ≡ passing (λ x. P x && Q x) xs + passing (λ x. P x && not (Q x)) xs → (a b : Bool)
          → bump a (passing P xs) ≡ bump (a && b) (passing (λ x. P x && Q x) xs) + bump (a && not b) (passing (λ x. P x && not (Q x)) xs)
      go ih true true = omega arith
      go ih true false = omega arith
      go ih false true = omega arith
      go ih false false = omega arith

  pub each_map : {F G : A → Type 0} → ((x : A) → F x → G x) → (xs : List A) → Each F xs → Each G xs
  each_map f [] h = tt
  each_map f (x ∷ xs) h = (f x h.0, each_map f xs h.1)

  pub each : (F : A → Type 0) → ((x : A) → F x) → (xs : List A) → Each F xs
  each F f [] = tt
  each F f (x ∷ xs) = (f x, each F f xs)

  -- a weaker test is passed by no fewer
  pub passing_mono : (P Q : A → Bool) (xs : List A) → Each (λ x. P x ≡ true → Q x ≡ true) xs → passing P xs ≤ passing Q xs
  passing_mono P Q [] f = omega arith
  passing_mono P Q (x ∷ xs) f = go (P x) (Q x) f.0 (passing_mono P Q xs f.1)
    where
      go : (a b : Bool) → (a ≡ true → b ≡ true) → passing P xs ≤ passing Q xs → bump a (passing P xs) ≤ bump b (passing Q xs)
      go true true f h = omega arith
      go true false f h = never (f refl)
      go false true f h = omega arith
      go false false f h = omega arith

-- ---- of the units below n

each_below : (n : ℕ) (F : ℕ → Type 0) → ((u : ℕ) → u < n → F u) → Each F (up_to n)
each_below zero F f = tt
each_below (suc k) F f = (f k (omega arith), each_below k F (λ u h. f u (omega arith)))

pub count_mono : (n : ℕ) (P Q : ℕ → Bool) → ((u : ℕ) → u < n → P u ≡ true → Q u ≡ true) → count n P ≤ count n Q
count_mono n P Q f = passing_mono P Q (up_to n) (each_below n (λ u. P u ≡ true → Q u ≡ true) f)

-- a count goes by what each unit passes
pub count_same : (n : ℕ) (P Q : ℕ → Bool) → ((u : ℕ) → u < n → P u ≡ Q u) → count n P ≡ count n Q
count_same zero P Q f = refl
count_same (suc k) P Q f = rw (f k (omega arith), count_same k P Q (λ u h. f u (omega arith)))

-- units that do not pass may be left out
pub count_below : (n k : ℕ) (P : ℕ → Bool) → n ≤ k → ((u : ℕ) → n ≤ u → u < k → P u ≡ false) → count k P ≡ count n P
count_below n zero P h f = let e : n ≡ 0 = omega arith in rw e
count_below n (suc k) P h f = go (λ l. count_below n k P l (λ u a b. f u a (omega arith))) (dec_lt k n)
  where
    go : (n ≤ k → count k P ≡ count n P) → Dec (k < n) → count (suc k) P ≡ count n P
    go ih (yes l) = let e : n ≡ suc k = omega arith in rw e
    go ih (no l) = let le : n ≤ k = omega arith in rw (f k le (omega arith)) (ih le)

-- two sets of units below n that have more than n members together share one
pub overlap : (n : ℕ) (P Q : ℕ → Bool) → n < count n P + count n Q → Both n P Q
overlap zero P Q h = absurd (omega arith)
overlap (suc k) P Q h = go (λ h. overlap k P Q h) (P k) (Q k) refl refl h
  where
    up : Both k P Q → Both (suc k) P Q
    up b = record { at = b.at; below = omega arith; left = b.left; right = b.right }

    go : (k < count k P + count k Q → Both k P Q) → (a b : Bool) → P k ≡ a → Q k ≡ b → suc k < bump a (count k P) + bump b (count k Q) → Both
        (suc k) P Q
    go ih true true p q h = record { at = k; below = omega arith; left = p; right = q }
    go ih true false p q h = up (ih (omega arith))
    go ih false true p q h = up (ih (omega arith))
    go ih false false p q h = up (ih (omega arith))
