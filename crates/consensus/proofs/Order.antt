-- Conditions in rising order of their numbers give the lowest number that holds. Assumes nothing.
use Rattle.std.specs.Prelude.{Some}
use Prim.Native.Nat.{ℕ, ◌≤◌, ◌<◌}
use mathlib.Core.Path.{◌≡◌, refl, sym, ◌∙◌}
use mathlib.Core.Bool.{Bool, true, false, cond}
use mathlib.Core.List.{List, [], ◌∷◌}
use mathlib.Core.Logic.{inl, inr}
use native.Mathlib.Omega.{arith}
use Rattle.tally.specs.Refusal.{number_of}
use Rattle.tally.proofs.Never.{never}
use Rattle.consensus.specs.Conditions.{Condition, condition_number, first_refusal, NumberHolds, LowestNumber}

-- the numbers rise, from above k on
abbrev pub Rising : ℕ → List Condition → Type 0
Rising k [] = Unit
Rising k (r ∷ rs) = (k < condition_number r) × Rising (condition_number r) rs

-- a condition that holds comes after k
holds_above : (k j : ℕ) (cs : List Condition) → Rising k cs → NumberHolds j cs → k < j
holds_above k j [] up h = absurd h
holds_above k j (r ∷ rs) up (inl h) = omega (arith, up.0, h.0)
holds_above k j (r ∷ rs) up (inr h) = omega (arith, up.0, holds_above (condition_number r) j rs up.1 h)

module _ (P : List Condition → ℕ → Type 0) (empty : P [] 0)
    (here : (r : Condition) (rs : List Condition) → r.holds ≡ true → P (r ∷ rs) (condition_number r))
    (later : (r : Condition) (rs : List Condition) → r.holds ≡ false → P rs (number_of (first_refusal rs))
    → P (r ∷ rs) (number_of (first_refusal rs))) where
  -- induction over the conditions up to the first that holds
  up_to_first : (cs : List Condition) → P cs (number_of (first_refusal cs))
  unfolding first_refusal
  up_to_first [] = empty
  up_to_first (r ∷ rs) = go r.holds refl (up_to_first rs)
    where
      go : (b : Bool) → r.holds ≡ b → P rs (number_of (first_refusal rs)) → P (r ∷ rs) (number_of (cond b (Some r.refusal) (first_refusal rs)))
      go true h ih = here r rs h
      go false h ih = later r rs h ih

pub first_lowest : (cs : List Condition) → Rising 0 cs → LowestNumber cs (number_of (first_refusal cs))
first_lowest cs up =
    up_to_first (λ cs k. (j : ℕ) → Rising j cs → LowestNumber cs k)
    (λ j up. record { accepted = λ e. tt; none = λ n. refl; refused = λ n. absurd (n refl); lowest = λ i h. absurd h })
    (λ r rs h j up.
    record {
      accepted = λ e. absurd (omega (arith, up.0));
      none = λ n. never (sym n.0 ∙ h);
      refused = λ n. inl (refl, h);
      lowest = λ i x. first r rs i up.1 x;
    })
    (λ r rs h ih j up.
    let low = ih (condition_number r) up.1 in
    record {
      accepted = λ e. (h, low.accepted e);
      none = λ n. low.none n.1;
      refused = λ n. inr (low.refused n);
      lowest = λ i x. rest r rs h low.lowest i x;
    })
    cs 0 up
  where
    first : (r : Condition) (rs : List Condition) (i : ℕ) → Rising (condition_number r) rs → NumberHolds i (r ∷ rs) → condition_number r ≤ i
    first r rs i up (inl x) = omega (arith, x.0)
    first r rs i up (inr x) = omega (arith, holds_above (condition_number r) i rs up x)

    rest : (r : Condition) (rs : List Condition) → r.holds ≡ false → ((i : ℕ) → NumberHolds i rs → number_of (first_refusal rs) ≤ i) → (i : ℕ)
        → NumberHolds i (r ∷ rs) → number_of (first_refusal rs) ≤ i
    rest r rs h low i (inl x) = never (sym h ∙ x.1)
    rest r rs h low i (inr x) = low i x
