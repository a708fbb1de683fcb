-- Counting: the elements of a list, and the units below n, that pass a test. Assumes nothing.
use Rattle.std.specs.Prelude.{ℕ, zero, suc, ◌<◌, ◌≡◌, Bool, true, false, List, [], ◌∷◌}

-- one more where a test is passed
abbrev pub bump : Bool → ℕ → ℕ
bump true k = suc k
bump false k = k

-- how many of xs pass the test P: a recursion, where std's count_by is a fold from the left, since each proof by cases computes with it
abbrev pub passing : {A : Type 0} → (A → Bool) → List A → ℕ
passing P [] = zero
passing P (x ∷ xs) = bump (P x) (passing P xs)

-- the unit numbers below n
abbrev pub up_to : ℕ → List ℕ
up_to zero = []
up_to (suc k) = k ∷ up_to k

-- how many units below n pass the test P
abbrev pub count : ℕ → (ℕ → Bool) → ℕ
count n P = passing P (up_to n)

-- a unit below n with both
pub record Both (n : ℕ) (P Q : ℕ → Bool) : Type 0 where
  pub at : ℕ
  pub below : at < n
  pub left : P at ≡ true
  pub right : Q at ≡ true
