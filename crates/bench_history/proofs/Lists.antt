-- Laws of lists that the bench's proofs share. Assumes nothing.
use Prim.Native.Nat.{ℕ, zero, suc, ◌≤◌, ◌<◌}
use mathlib.Core.Path.{◌≡◌, refl, sym, ap, subst, ◌∙◌}
use mathlib.Core.List.Memᴰ
use mathlib.Core.List.{List, [], ◌∷◌, ◌++◌, flat_map, append_assoc, append-nil, Memᴰ}
use mathlib.Core.Logic.{◌⊎◌, inl, inr}
use mathlib.Core.Option.{none, some}
use native.Mathlib.Omega.{arith}
use lib.ListN.{length, get_or, take, get_elem?}

-- what is found at a place of the first i
pub at_taken : {A : Type 0} (xs : List A) (i k : ℕ) (d : A) → k < i → i ≤ length xs → get_elem? (take i xs) k ≡ some (get_or xs k d)
at_taken xs zero k d h f = absurd (omega arith)
at_taken [] (suc i) k d h f = absurd (omega arith)
at_taken (x ∷ xs) (suc i) zero d h f = refl
at_taken (x ∷ xs) (suc i) (suc k) d h f = at_taken xs i k d (omega arith) (omega arith)

-- and past them nothing
pub past_taken : {A : Type 0} (xs : List A) (i k : ℕ) → i ≤ k → get_elem? (take i xs) k ≡ none
past_taken xs zero k h = refl
past_taken [] (suc i) k h = refl
past_taken (x ∷ xs) (suc i) zero h = absurd (omega arith)
past_taken (x ∷ xs) (suc i) (suc k) h = past_taken xs i k (omega arith)

-- what stands at a place is there
pub at_in : {A : Type 0} (xs : List A) (i : ℕ) (d : A) → i < length xs → Memᴰ (get_or xs i d) xs
at_in [] i d h = absurd (omega arith)
at_in (x ∷ xs) zero d h = Memᴰ.head refl
at_in (x ∷ xs) (suc i) d h = Memᴰ.tail (at_in xs i d (omega arith))

module _ {A B : Type 0} (f : A → List B) where
  pub flat_append : (xs ys : List A) → flat_map f (xs ++ ys) ≡ flat_map f xs ++ flat_map f ys
  unfolding flat_map
  flat_append [] ys = refl
  flat_append (x ∷ xs) ys = ap (λ zs. f x ++ zs) (flat_append xs ys) ∙ sym (append_assoc (f x) (flat_map f xs) (flat_map f ys))

  pub flat_snoc : (xs : List A) (x : A) → flat_map f (xs ++ (x ∷ [])) ≡ flat_map f xs ++ f x
  unfolding flat_map
  flat_snoc xs x = flat_append xs (x ∷ []) ∙ ap (λ zs. flat_map f xs ++ zs) (append-nil (f x))

  -- what one element gives is there
  pub flat_in : {x : A} {y : B} (xs : List A) → Memᴰ x xs → Memᴰ y (f x) → Memᴰ y (flat_map f xs)
  unfolding flat_map
  flat_in [] h i = absurd (Memᴰ.not-nil h)
  flat_in {x} {y} (z ∷ xs) h i = go (λ t. flat_in xs t i) (Memᴰ.cases_cons h)
    where
      go : (Memᴰ x xs → Memᴰ y (flat_map f xs)) → (x ≡ z) ⊎ Memᴰ x xs → Memᴰ y (f z ++ flat_map f xs)
      go later (inl e) = Memᴰ.append_left (flat_map f xs) (subst (λ a. Memᴰ y (f a)) e i)
      go later (inr t) = Memᴰ.append_right (f z) (later t)

  -- what is there, one element gives
  pub flat_from : {y : B} (xs : List A) → Memᴰ y (flat_map f xs) → (x : A) × (Memᴰ x xs × Memᴰ y (f x))
  unfolding flat_map
  flat_from [] h = absurd (Memᴰ.not-nil h)
  flat_from {y} (z ∷ xs) h = go (λ t. flat_from xs t) (Memᴰ.append_cases (f z) h)
    where
      go : (Memᴰ y (flat_map f xs) → (x : A) × (Memᴰ x xs × Memᴰ y (f x))) → Memᴰ y (f z) ⊎ Memᴰ y (flat_map f xs)
          → (x : A) × (Memᴰ x (z ∷ xs) × Memᴰ y (f x))
      go later (inl i) = (z, (Memᴰ.head refl, i))
      go later (inr t) = let r = later t in (r.0, (Memᴰ.tail r.1.0, r.1.1))
