-- Facts from tests that are passed. Assumes nothing.
use Rattle.std.proofs.lemmas.Bool.{and_parts}
use Prim.Native.Nat.{ℕ, zero, suc, ◌<◌}
use mathlib.Core.Path.{◌≡◌, refl, sym, subst, ap, ◌∙◌}
use mathlib.Core.Bool.{Bool, true, false, ◌||◌, and-true}
use native.Mathlib.Decide.{dec_lt}
use native.Mathlib.Omega.{arith}
use Rattle.tally.specs.Limits.{Limits, senders}
use Rattle.tally.specs.Tally.{is_marked, estimate_at}
use Rattle.tally.specs.declared.Tally.{Tally}
use Rattle.tally.specs.declared.Estimate.{Estimate}
use Rattle.tally.proofs.Marks.{unmarked_none}
use Rattle.tally.proofs.Never.{never}
use Rattle.contents.specs.Estimates.{is_blank}
use Rattle.contents.specs.Images.{every, cell_ok, cells_ok}

pub or_left : (a b : Bool) → (a || b) ≡ true → b ≡ false → a ≡ true
or_left true b e f = refl
or_left false b e f = never (sym f ∙ e)

-- what every number below k passes
pub every_at : (k : ℕ) (P : ℕ → Bool) → every k P ≡ true → (s : ℕ) → s < k → P s ≡ true
unfolding every
every_at zero P h s b = absurd (omega arith)
every_at (suc k) P h s b = go (and_parts (every k P) (P k) h) (every_at k P) (dec_lt s k)
  where
    go : (every k P ≡ true) × (P k ≡ true) → (every k P ≡ true → (s : ℕ) → s < k → P s ≡ true) → Dec (s < k) → P s ≡ true
    go a ih (yes l) = ih a.0 s l
    go a ih (no n) = let e : k ≡ s = omega arith in subst (λ x. P x ≡ true) e a.1

-- ---- places that are not marked

-- an unmarked place is tested alone
pub unmarked_place : (l : Limits) (split : Bool) (n s : ℕ) (e : Estimate) → cell_ok l split n s false e ≡ is_blank e
unfolding cell_ok
unmarked_place l split n s e = and-true (is_blank e)

every_alike : (k : ℕ) (P Q : ℕ → Bool) → ((s : ℕ) → s < k → P s ≡ Q s) → every k P ≡ every k Q
unfolding every
every_alike zero P Q same = refl
every_alike (suc k) P Q same = rw (every_alike k P Q (λ s b. same s (omega arith)), same k (omega arith))

module _ (l : Limits) (split : Bool) (n : ℕ) (t : Tally) where
  -- a tally without marks is well formed where each place passes a test that is the same as being blank
  pub tested_places : (Q : ℕ → Bool) → t.marks ≡ 0 → ((s : ℕ) → s < senders → Q s ≡ is_blank (estimate_at t s))
      → every senders Q ≡ cells_ok l split n t
  unfolding cells_ok
  tested_places Q none same =
      every_alike senders Q _
      (λ s b. same s b ∙ sym (ap (λ (m : Bool). cell_ok l split n s m (estimate_at t s)) (ap (λ (x : ℕ). is_marked x s) none ∙ unmarked_none s)
      ∙ unmarked_place l split n s (estimate_at t s)))

  -- .. where each place is blank
  pub blank_places : t.marks ≡ 0 → every senders (λ u. is_blank (estimate_at t u)) ≡ cells_ok l split n t
  blank_places none = tested_places (λ u. is_blank (estimate_at t u)) none (λ s b. refl)
