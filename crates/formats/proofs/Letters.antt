-- Letters and estimates as numbers, there and back. Assumes nothing.
use Rattle.std.specs.Prelude.{Option, Some, None}
use mathlib.Core.Path.{◌≡◌, refl, sym}
use mathlib.Core.Bool.{Bool, true, false, cond}
use mathlib.Core.List.{List, [], ◌∷◌}
use Prim.Native.Nat.{ℕ, zero, suc, ◌<◌, ◌^◌}
use native.Mathlib.Omega.{arith}
use lib.Dec.{eqb}
use lib.ListN.{length, get_or}
use borrow.Author.Tests.{ne_eqb, eqb-true}
use Rattle.tally.specs.Limits.{Limits, blank_code, split_code, Sane}
use Rattle.tally.specs.declared.Engine.{Engine}
use Rattle.tally.specs.declared.Engine.TheVariants.{B, R}
use Rattle.tally.specs.declared.Estimate.{Estimate}
use Rattle.tally.specs.declared.Estimate.TheVariants.{Blank, Split, Mileage}
use Rattle.tally.proofs.Never.{never}
use Rattle.tally.proofs.Bounds.{split_below_blank, blank_fits}
use Rattle.contents.specs.Estimates.{is_blank}
use Rattle.contents.specs.declared.Kind.{Kind}
use Rattle.contents.specs.declared.Kind.TheVariants.{Empty, First, Check, Second, Skip}
use Rattle.contents.proofs.Facts.{Known}
use Rattle.formats.specs.Codes.{letter_of, engine_of, with_engine, kind_letter, kind_of, code_of, estimate_of}

pub engine_letter : (e : Engine) → engine_of (letter_of e) ≡ Some e
engine_letter B = refl
engine_letter R = refl

pub letter_fits : (e : Engine) → letter_of e < 256 ^ 1
letter_fits B = omega arith
letter_fits R = omega arith

pub letter_engine : (x : ℕ) (e : Engine) → engine_of x ≡ Some e → letter_of e ≡ x
letter_engine x e h = go (eqb x (letter_of B)) (eqb x (letter_of R)) refl refl h
  where
    go : (t u : Bool) → eqb x (letter_of B) ≡ t → eqb x (letter_of R) ≡ u
        → cond t (Some B) (cond u (Some R) None) ≡ Some e → letter_of e ≡ x
    go true u p q r = let i : B ≡ e = cc in rw (← i) (sym (eqb-true _ _ p))
    go false true p q r = let i : R ≡ e = cc in rw (← i) (sym (eqb-true _ _ q))
    go false false p q r = never cc

-- what holds of the contents that each engine makes of numbers holds of those that were made
pub made : {A : Type 0} (P : A → Type 0) (make : Engine → List ℕ → A) (vs : List ℕ) (a : A) (x : ℕ)
    → ((e : Engine) → engine_of x ≡ Some e → P (make e vs)) → with_engine make (engine_of x) vs ≡ Some a → P a
made P make vs a x f h = go (engine_of x) refl h
  where
    go : (o : Option Engine) → engine_of x ≡ o → with_engine make o vs ≡ Some a → P a
    go (Some e) p h = let same : make e vs ≡ a = cc in rw (← same) (f e p)
    go None p h = never cc

-- a kind's letter is read as the kind, unless it is the empty message's
pub kind_letter_lem : (k : Kind) → (k ≡ Empty → ⊥) → kind_of (kind_letter k) ≡ Some k
kind_letter_lem Empty n = absurd (n refl)
kind_letter_lem First n = refl
kind_letter_lem Check n = refl
kind_letter_lem Second n = refl
kind_letter_lem Skip n = refl

pub kind_fits : (k : Kind) → kind_letter k < 256 ^ 1
kind_fits Empty = omega arith
kind_fits First = omega arith
kind_fits Check = omega arith
kind_fits Second = omega arith
kind_fits Skip = omega arith

pub letter_kind : (x : ℕ) (k : Kind) → kind_of x ≡ Some k → kind_letter k ≡ x
letter_kind x k h = go (eqb x (kind_letter First)) (eqb x (kind_letter Check)) (eqb x (kind_letter Second)) (eqb x (kind_letter Skip)) refl refl refl refl h
  where
    go : (t u v w : Bool) → eqb x (kind_letter First) ≡ t → eqb x (kind_letter Check) ≡ u → eqb x (kind_letter Second) ≡ v → eqb x
        (kind_letter Skip) ≡ w
        → cond t (Some First) (cond u (Some Check) (cond v (Some Second) (cond w (Some Skip) None))) ≡ Some k
        → kind_letter k ≡ x
    go true u v w p q r s e = let i : First ≡ k = cc in rw (← i) (sym (eqb-true _ _ p))
    go false true v w p q r s e = let i : Check ≡ k = cc in rw (← i) (sym (eqb-true _ _ q))
    go false false true w p q r s e = let i : Second ≡ k = cc in rw (← i) (sym (eqb-true _ _ r))
    go false false false true p q r s e = let i : Skip ≡ k = cc in rw (← i) (sym (eqb-true _ _ s))
    go false false false false p q r s e = never cc

-- any number is some estimate's
pub code_estimate : (x : ℕ) → code_of (estimate_of x) ≡ x
code_estimate x = go (eqb x blank_code) (eqb x split_code) refl refl
  where
    go : (t u : Bool) → eqb x blank_code ≡ t → eqb x split_code ≡ u → code_of (cond t Blank (cond u Split (Mileage x))) ≡ x
    go true u p q = sym (eqb-true _ _ p)
    go false true p q = sym (eqb-true _ _ q)
    go false false p q = refl

module _ (l : Limits) (sane : Sane l) where
  pub estimate_code : (e : Estimate) → Known l e → estimate_of (code_of e) ≡ e
  estimate_code Blank k = refl
  estimate_code Split k = refl
  estimate_code (Mileage m) k =
      let below = sane.mileage_below_split in
      rw (ne_eqb m blank_code (λ e. omega (arith, split_below_blank)), ne_eqb m split_code (λ e. omega arith))

  pub code_fits : (e : Estimate) → Known l e → code_of e < 256 ^ 4
  code_fits Blank k = blank_fits
  code_fits Split k = omega (arith, split_below_blank, blank_fits)
  code_fits (Mileage m) k = omega (arith, sane.mileage_below_split, split_below_blank, blank_fits)

-- the elements of a list from place o on, one by one
abbrev spread : ℕ → ℕ → List ℕ → List ℕ
spread o zero vs = []
spread o (suc k) vs = get_or vs o 0 ∷ spread (suc o) k vs

-- a list of k elements is its elements
pub spread_whole : (k : ℕ) (vs : List ℕ) → length vs ≡ k → spread 0 k vs ≡ vs
spread_whole zero [] e = refl
spread_whole zero (v ∷ vs) e = absurd (omega arith)
spread_whole (suc k) [] e = absurd (omega arith)
spread_whole (suc k) (v ∷ vs) e = rw (shift 0 k, spread_whole k vs (omega arith))
  where
    shift : (o k : ℕ) → spread (suc o) k (v ∷ vs) ≡ spread o k vs
    shift o zero = refl
    shift o (suc k) = rw (shift (suc o) k)

-- blank has a number of its own
pub blank_number : (x : ℕ) → eqb x blank_code ≡ is_blank (estimate_of x)
blank_number x = go (eqb x blank_code) (eqb x split_code)
  where
    go : (a b : Bool) → a ≡ is_blank (cond a Blank (cond b Split (Mileage x)))
    go true b = refl
    go false true = refl
    go false false = refl
