-- Why a call is refused: conditions in the order of the call, each a row of the table of numbers, and the number that they give. Assumes nothing.
use Rattle.std.specs.Prelude.{ℕ, ◌≤◌, ◌≡◌, Bool, true, false, cond, List, [], ◌∷◌, ◌⊎◌, Option, Some, None}
use Rattle.tally.specs.Refusal.{number_of}
use Rattle.tally.specs.declared.Refusal.{Refusal}

-- a refusal of the table, and whether its condition holds of a call
pub record Condition : Type 0 where
  pub refusal : Refusal
  pub holds : Bool

abbrev pub condition : Refusal → Bool → Condition
condition k b = record { refusal = k; holds = b }

abbrev pub condition_number : Condition → ℕ
condition_number r = number_of (Some r.refusal)

-- the refusal of the first condition that holds
unfoldable pub first_refusal : List Condition → Option Refusal
first_refusal [] = None
first_refusal (r ∷ rs) = cond r.holds (Some r.refusal) (first_refusal rs)

-- no condition holds
abbrev pub NoneHolds : List Condition → Type 0
NoneHolds [] = Unit
NoneHolds (r ∷ rs) = (r.holds ≡ false) × NoneHolds rs

-- a condition with the number k holds
abbrev pub NumberHolds : ℕ → List Condition → Type 0
NumberHolds k [] = ⊥
NumberHolds k (r ∷ rs) = ((condition_number r ≡ k) × (r.holds ≡ true)) ⊎ NumberHolds k rs

-- the number k is 0 exactly where no condition holds, and else the lowest number of a condition that does
pub record LowestNumber (conditions : List Condition) (k : ℕ) : Type 0 where
  pub accepted : k ≡ 0 → NoneHolds conditions
  pub none : NoneHolds conditions → k ≡ 0
  pub refused : (k ≡ 0 → ⊥) → NumberHolds k conditions
  pub lowest : (j : ℕ) → NumberHolds j conditions → k ≤ j
