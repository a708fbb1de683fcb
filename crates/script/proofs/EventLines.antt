-- A line by its first two bytes, and the unit of its event. Assumes nothing.
use Rattle.std.specs.Prelude.{Option, Some, None}
use Prim.Native.Nat.{ℕ, ◌<◌}
use mathlib.Core.Path.{◌≡◌, refl, ◌∙◌}
use mathlib.Core.Bool.{Bool, true, false, cond}
use mathlib.Core.List.{List, [], ◌∷◌}
use native.Mathlib.Omega.{arith}
use borrow.Author.Tests.{ltb-true, eqb-true}
use lib.Dec.{ltb, eqb}
use lib.ListN.{length}
use Rattle.script.specs.Numbers.{is_number, read_number}
use Rattle.script.specs.Parts.{comma, onto, parted}
use Rattle.script.specs.Script.{one_of, two_of, unit_below, pair_below, of_one, of_two, letter_p, letter_d, letter_w, letter_k, letter_u, by_letter}
use Rattle.script.specs.Script.{event_fields, event_of, event_unit}
use Rattle.script.specs.declared.ScriptEvent.{ScriptEvent}

cond_same : (t : Bool) (x : ScriptEvent) → cond t x x ≡ x
cond_same true x = refl
cond_same false x = refl

module _ (n : ℕ) where
  -- ---- first bytes

  letter_malformed : (b : ℕ) (fs : List (List ℕ)) → one_of fs ≡ None → two_of fs ≡ None
      → by_letter n b fs ≡ ScriptEvent.Malformed
  unfolding by_letter
  letter_malformed b fs p q = simp (p, q, cond_same)

  pub letter_line : (b : ℕ) (s : List ℕ) → event_of n (b ∷ comma ∷ s) ≡ by_letter n b (parted comma s)
  unfolding by_letter event_of
  letter_line b s = go (eqb b comma) refl
    where
      go : (t : Bool) → eqb b comma ≡ t → event_of n (b ∷ comma ∷ s) ≡ by_letter n b (parted comma s)
      go true e = rw (eqb-true b comma e)
      go false e = rw e

  pub other_line : (b d : ℕ) (s : List ℕ) → eqb d comma ≡ false → event_of n (b ∷ d ∷ s) ≡ ScriptEvent.Malformed
  unfolding event_of
  other_line b d s e = rw e (go (eqb b comma) (parted comma s))
    where
      go : (t : Bool) (ps : List (List ℕ)) → event_fields n (cond t ([] ∷ onto d ps) (onto b (onto d ps))) ≡ ScriptEvent.Malformed
      go true ps = refl
      go false [] = refl
      go false (p ∷ ps) = refl

  pub short_line : (line : List ℕ) → length line < 3 → event_of n line ≡ ScriptEvent.Malformed
  unfolding is_number read_number event_of
  short_line [] h = refl
  short_line (b ∷ []) h = go (eqb b comma)
    where
      go : (t : Bool) → event_fields n (cond t ([] ∷ [] ∷ []) ((b ∷ []) ∷ [])) ≡ ScriptEvent.Malformed
      go true = refl
      go false = letter_malformed b [] refl refl
  short_line (b ∷ d ∷ []) h = go (eqb d comma) refl
    where
      go : (t : Bool) → eqb d comma ≡ t → event_of n (b ∷ d ∷ []) ≡ ScriptEvent.Malformed
      go true e = rw (eqb-true d comma e) (letter_line b [] ∙ letter_malformed b ([] ∷ []) refl refl)
      go false e = other_line b d [] e
  short_line (b ∷ d ∷ f ∷ s) h = absurd (omega arith)

  -- ---- units

  module _ (some : 0 < n) where
    one_unit : (make : ℕ → ScriptEvent) → ((u : ℕ) → event_unit (make u) ≡ u) → (a : Option ℕ) → event_unit (of_one make (unit_below n a)) < n
    one_unit make e (Some u) = go (ltb u n) refl
      where
        go : (t : Bool) → ltb u n ≡ t → event_unit (of_one make (cond t (Some u) None)) < n
        go true t = rw (e u) (ltb-true u n t)
        go false t = some
    one_unit make e None = some

    two_unit : (make : ℕ → ℕ → ScriptEvent) → ((u x : ℕ) → event_unit (make u x) ≡ u) → (p : Option (ℕ × ℕ))
        → event_unit (of_two make (pair_below n p)) < n
    two_unit make e (Some (u, x)) = go (ltb u n) refl
      where
        go : (t : Bool) → ltb u n ≡ t → event_unit (of_two make (cond t (Some (u, x)) None)) < n
        go true t = rw (e u x) (ltb-true u n t)
        go false t = some
    two_unit make e None = some

    either : (t : Bool) (x y : ScriptEvent) → event_unit x < n → event_unit y < n → event_unit (cond t x y) < n
    either true x y p q = p
    either false x y p q = q

    letter_unit : (b : ℕ) (fs : List (List ℕ)) → event_unit (by_letter n b fs) < n
    unfolding by_letter
    letter_unit b fs =
        let two = two_of fs in
        let one = one_of fs in
        either (eqb b letter_p) _ _ (two_unit ScriptEvent.Propose (λ u x. refl) two)
        (either (eqb b letter_d) _ _ (two_unit ScriptEvent.Deliver (λ u x. refl) two)
        (either (eqb b letter_w) _ _ (two_unit ScriptEvent.Cut (λ u x. refl) two)
        (either (eqb b letter_k) _ _ (one_unit ScriptEvent.KeyOff (λ u. refl) one)
        (either (eqb b letter_u) _ _ (one_unit ScriptEvent.KeyOn (λ u. refl) one) some))))

    fields_unit : (ps : List (List ℕ)) → event_unit (event_fields n ps) < n
    fields_unit [] = some
    fields_unit ([] ∷ fs) = some
    fields_unit ((b ∷ []) ∷ fs) = letter_unit b fs
    fields_unit ((b ∷ d ∷ s) ∷ fs) = some

pub event_unit_lem : (n : ℕ) (line : List ℕ) → 0 < n → event_unit (event_of n line) < n
unfolding event_of
event_unit_lem n line h = fields_unit n h (parted comma line)
