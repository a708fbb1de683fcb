-- Tallies with every unmarked place blank: a well-formed one is so already. Assumes nothing.
use Prim.Native.Nat.{ℕ, zero, suc, ◌+◌, ◌-◌, ◌<◌, ◌≤◌}
use mathlib.Core.Path.{◌≡◌, refl, sym, ap, ap₂, ◌∙◌}
use mathlib.Core.Bool.{Bool, true, false, cond}
use mathlib.Core.List.{List, ◌∷◌}
use native.Mathlib.Numerals.{add-one}
use native.Mathlib.Omega.{arith}
use lib.ListN.{length, drop, replicate, drop_of_length-le}
use Rattle.tally.specs.Limits.{Limits, senders}
use Rattle.tally.specs.Tally.{Typed, is_marked, blank_cell, estimate_at, held, no_marks}
use Rattle.tally.specs.declared.Cell.{Cell}
use Rattle.tally.specs.declared.Engine.{Engine}
use Rattle.tally.specs.declared.Estimate.{Estimate}
use Rattle.tally.specs.declared.Estimate.TheVariants.{Blank, Split, Mileage}
use Rattle.tally.specs.declared.Tally.{Tally}
use Rattle.tally.proofs.Never.{never}
use Rattle.tally.proofs.Tallies.{held_unmarked}
use Rattle.contents.specs.Images.{unmarked_ok}
use Rattle.contents.proofs.Facts.{TallyFacts}
use Rattle.formats.specs.InnerImages.{held_from, as_marked}
use Rattle.formats.proofs.Packed.{drop_step}

-- one turn of a loop over the senders
pub held_step : (t : Tally) (s : ℕ) → s < senders
    → held_from t s (senders - s) ≡ record { estimate = held t s } ∷ held_from t (s + 1) (senders - (s + 1))
unfolding held_from
held_step t s below = let e : senders - s ≡ suc (senders - (s + 1)) = omega arith in rw e (rw (add-one s))

pub length_held : (t : Tally) (s k : ℕ) → length (held_from t s k) ≡ k
unfolding held_from
length_held t s zero = refl
length_held t s (suc k) = ap suc (length_held t (suc s) k)

-- tallies that hold the same of every sender
held_alike : (a b : Tally) → ((s : ℕ) → held b s ≡ held a s) → (s k : ℕ) → held_from b s k ≡ held_from a s k
unfolding held_from
held_alike a b same s zero = refl
held_alike a b same s (suc k) = rw (same s, held_alike a b same (suc s) k)

pub same_marked : (a b : Tally) → b.marks ≡ a.marks → ((s : ℕ) → held b s ≡ held a s) → as_marked b ≡ as_marked a
same_marked a b e same = ap₂ (λ (m : ℕ) (cs : List Cell). record { marks = m; cells = cs }) e (held_alike a b same 0 senders)

-- without marks all are blank
held_blank : (t : Tally) → t.marks ≡ 0 → (s k : ℕ) → held_from t s k ≡ replicate k blank_cell
unfolding held_from
held_blank t e s zero = refl
held_blank t e s (suc k) = rw (held_unmarked t e s, held_blank t e (suc s) k)

pub none_marked : (t : Tally) → t.marks ≡ 0 → no_marks ≡ as_marked t
unfolding no_marks
none_marked t e = ap₂ (λ (m : ℕ) (cs : List Cell). record { marks = m; cells = cs }) (sym e) (sym (held_blank t e 0 senders))

pub typed_marked : (t : Tally) → Typed t → Typed (as_marked t)
typed_marked t typed = record { marks = typed.marks; cells = length_held t 0 senders }

-- an estimate that is blank where its sender is not marked
place_held : (marked : Bool) (e : Estimate) → unmarked_ok marked e ≡ true → cond marked e Blank ≡ e
place_held true e h = refl
place_held false Blank h = refl
place_held false Split h = never h
place_held false (Mileage m) h = never h

-- a well-formed tally is as its marks have it
module _ (l : Limits) (split : Bool) (g : Engine) (n : ℕ) (t : Tally) (f : TallyFacts l split g n t) (typed : Typed t) where
  all_held : (k s : ℕ) → s + k ≡ senders → held_from t s k ≡ drop s t.cells
  unfolding held_from held
  all_held zero s e = let all : length t.cells ≤ s = omega (arith, typed.cells) in sym (drop_of_length-le t.cells all)
  all_held (suc k) s e =
      let below : s < senders = omega arith in
      let long : s < length t.cells = omega (arith, typed.cells) in
      ap₂ (λ (x : Estimate) (cs : List Cell). record { estimate = x } ∷ cs)
      (place_held (is_marked t.marks s) (estimate_at t s) (f.places s below).unmarked)
      (all_held k (suc s) (omega arith) ∙ ap (λ (j : ℕ). drop j t.cells) (sym (add-one s)))
      ∙ sym (drop_step t.cells s blank_cell long)

  pub as_marked_lem : as_marked t ≡ t
  as_marked_lem = ap (λ (cs : List Cell). record { marks = t.marks; cells = cs }) (all_held senders 0 refl)
