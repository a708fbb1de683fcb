-- Parts by their first end. Assumes nothing.
use Prim.Native.Nat.{ℕ, suc, ◌+◌, ◌-◌, ◌≤◌, ◌<◌}
use mathlib.Core.Path.{◌≡◌, refl, ap}
use mathlib.Core.Bool.{Bool, true, false, cond}
use mathlib.Core.List.{List, [], ◌∷◌}
use native.Mathlib.Nat.{le_refl}
use native.Mathlib.Numerals.{add-one}
use native.Mathlib.Omega.{arith}
use lib.Dec.{eqb}
use lib.ListN.{length, take, drop, length-drop}
use lib.Seq.{take_all}
use Rattle.script.specs.Parts.{onto, parted}
use Rattle.script.specs.InnerParts.{before}

-- a slice from k to the end
pub from_there : (s : List ℕ) (k : ℕ) → take (length s - k) (drop k s) ≡ drop k s
from_there s k = take_all (length s - k) (drop k s) (rw length-drop (le_refl (length s - k)))

module _ (c : ℕ) where
  pub before_le : (s : List ℕ) → before c s ≤ length s
  before_le [] = omega arith
  before_le (b ∷ s) = go (before_le s) (eqb b c)
    where
      go : before c s ≤ length s → (t : Bool) → cond t 0 (suc (before c s)) ≤ suc (length s)
      go ih true = omega arith
      go ih false = omega arith

  there : (s : List ℕ) → before c s < length s → parted c s ≡ take (before c s) s ∷ parted c (drop (suc (before c s)) s)
  there [] h = absurd (omega arith)
  there (b ∷ s) h = go (there s) (eqb b c) h
    where
      go : (before c s < length s → parted c s ≡ take (before c s) s ∷ parted c (drop (suc (before c s)) s)) → (t : Bool)
          → cond t 0 (suc (before c s)) < suc (length s)
          → cond t ([] ∷ parted c s) (onto b (parted c s))
          ≡ take (cond t 0 (suc (before c s))) (b ∷ s) ∷ parted c (drop (suc (cond t 0 (suc (before c s)))) (b ∷ s))
      go ih true h = refl
      go ih false h = ap (onto b) (ih (omega arith))

  pub parted_there : (s : List ℕ) → before c s < length s → parted c s ≡ take (before c s) s ∷ parted c (drop (before c s + 1) s)
  parted_there s h = rw add-one (there s h)

  -- the same, as code has its slices
  pub parted_at : (s : List ℕ) (e : ℕ) → e ≡ before c s → e < length s
      → parted c s ≡ take e s ∷ parted c (take (length s - (e + 1)) (drop (e + 1) s))
  parted_at s e q h = let l : before c s < length s = omega arith in rw (from_there s (e + 1), q) (parted_there s l)

  pub parted_none : (s : List ℕ) → length s ≤ before c s → parted c s ≡ s ∷ []
  parted_none [] h = refl
  parted_none (b ∷ s) h = go (parted_none s) (eqb b c) h
    where
      go : (length s ≤ before c s → parted c s ≡ s ∷ []) → (t : Bool) → suc (length s) ≤ cond t 0 (suc (before c s))
          → cond t ([] ∷ parted c s) (onto b (parted c s)) ≡ (b ∷ s) ∷ []
      go ih true h = absurd (omega arith)
      go ih false h = ap (onto b) (ih (omega arith))

-- parts are one or more
pub record Some (ps : List (List ℕ)) : Type 0 where
  pub first : List ℕ
  pub others : List (List ℕ)
  pub same : ps ≡ first ∷ others

pub parted_some : (c : ℕ) (s : List ℕ) → Some (parted c s)
parted_some c [] = record { first = []; others = []; same = refl }
parted_some c (b ∷ s) = go (eqb b c) (parted_some c s)
  where
    go : (t : Bool) → Some (parted c s) → Some (cond t ([] ∷ parted c s) (onto b (parted c s)))
    go true r = record { first = []; others = parted c s; same = refl }
    go false r = record { first = b ∷ r.first; others = r.others; same = ap (onto b) r.same }
