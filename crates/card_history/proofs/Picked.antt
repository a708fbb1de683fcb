-- What is picked of a list, in its order. Assumes nothing.
use Prim.Native.Nat.{ℕ, zero, suc}
use mathlib.Core.Path.{◌≡◌, refl, sym, ap, ◌∙◌}
use mathlib.Core.List.Memᴰ
use mathlib.Core.List.{List, [], ◌∷◌, ◌++◌, append-nil, Memᴰ}
use mathlib.Core.Option.{Option, none, some}
use lib.ListN.{get_elem?}
use Rattle.tally.proofs.Never.{never}
use Rattle.card_history.specs.Cards.{added}
use Rattle.card_history.specs.Demand3.{cons_if, pick}

module _ {A B : Type 0} (f : A → Option B) where
  -- what f gives of what there is, if any
  abbrev pub taken : Option A → Option B
  taken none = none
  taken (some a) = f a

  cons_append : (o : Option B) (ys zs : List B) → cons_if o ys ++ zs ≡ cons_if o (ys ++ zs)
  cons_append none ys zs = refl
  cons_append (some y) ys zs = refl

  cons_added : (o : Option B) (ys : List B) → ys ++ cons_if o [] ≡ added ys o
  cons_added none ys = append-nil ys
  cons_added (some z) ys = refl

  pick_append : (xs ys : List A) → pick f (xs ++ ys) ≡ pick f xs ++ pick f ys
  pick_append [] ys = refl
  pick_append (x ∷ xs) ys = ap (cons_if (f x)) (pick_append xs ys) ∙ sym (cons_append (f x) (pick f xs) (pick f ys))

  -- of one more, if any
  pub pick_added : (xs : List A) (o : Option A) → pick f (added xs o) ≡ added (pick f xs) (taken o)
  pick_added xs none = refl
  pick_added xs (some a) = pick_append xs (a ∷ []) ∙ cons_added (f a) (pick f xs)

  -- what is picked at a place of the list has a place of its own
  pub picked_at : (xs : List A) (i : ℕ) (x : A) (y : B) → get_elem? xs i ≡ some x → f x ≡ some y → (j : ℕ) × (get_elem? (pick f xs) j ≡ some y)
  picked_at [] i x y h e = never cc
  picked_at (a ∷ xs) zero x y h e = let q : a ≡ x = cc in (zero, rw (q, e))
  picked_at (a ∷ xs) (suc i) x y h e = go (f a) (picked_at xs i x y h e)
    where
      go : (o : Option B) → (j : ℕ) × (get_elem? (pick f xs) j ≡ some y) → (j : ℕ) × (get_elem? (cons_if o (pick f xs)) j ≡ some y)
      go none p = p
      go (some z) p = (suc p.0, p.1)

  -- and comes from there
  pub picked_from : (xs : List A) (y : B) → Memᴰ y (pick f xs) → (x : A) × (Memᴰ x xs × (f x ≡ some y))
  picked_from [] y h = absurd (Memᴰ.not-nil h)
  picked_from (a ∷ xs) y h = go (f a) refl h (λ i. let p = picked_from xs y i in (p.0, (Memᴰ.tail p.1.0, p.1.1)))
    where
      go : (o : Option B) → f a ≡ o → Memᴰ y (cons_if o (pick f xs))
          → (Memᴰ y (pick f xs) → (x : A) × (Memᴰ x (a ∷ xs) × (f x ≡ some y)))
          → (x : A) × (Memᴰ x (a ∷ xs) × (f x ≡ some y))
      go none e i later = later i
      go (some z) e (Memᴰ.head q) later = (a, (Memᴰ.head refl, rw q e))
      go (some z) e (Memᴰ.tail i) later = later i
