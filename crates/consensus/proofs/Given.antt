-- An answer that conditions may refuse: where its number is 0 it is given, and so is another of which no condition holds either. Assumes nothing.
use Rattle.std.specs.Prelude.{Some}
use Prim.Native.Nat.{ℕ}
use mathlib.Core.Path.{◌≡◌, refl, sym, ◌∙◌}
use mathlib.Core.Bool.{Bool, true, false, cond}
use mathlib.Core.List.{List, [], ◌∷◌}
use lib.Dec.{eqb}
use borrow.Author.Tests.{eqb-true, eqb-false}
use Rattle.tally.specs.Refusal.{number_of}
use Rattle.tally.proofs.Refusals.{refusal_number}
use Rattle.consensus.specs.Conditions.{Condition, first_refusal, NoneHolds}
use Rattle.consensus.proofs.Laws.{none_first}

-- no condition is first: none holds
pub none_holds : (cs : List Condition) → number_of (first_refusal cs) ≡ 0 → NoneHolds cs
unfolding first_refusal
none_holds [] e = tt
none_holds (r ∷ rs) e = go r.holds refl e (none_holds rs)
  where
    go : (b : Bool) → r.holds ≡ b → number_of (cond b (Some r.refusal) (first_refusal rs)) ≡ 0 → (number_of (first_refusal rs) ≡ 0 → NoneHolds rs)
        → (r.holds ≡ false) × NoneHolds rs
    go true q z f = absurd (eqb-false _ 0 (refusal_number r.refusal) z)
    go false q z f = (q, f z)

-- unless a condition holds, the answer is ok; else it is no, with that condition's number
module _ {A : Type 0} (number : A → ℕ) (cs : List Condition) (ok no : A) (refused : number no ≡ number_of (first_refusal cs)) where
  abbrev unless_any : A
  unless_any = cond (eqb (number_of (first_refusal cs)) 0) ok no

  pub answer_given : number unless_any ≡ 0 → NoneHolds cs × (unless_any ≡ ok)
  answer_given = go (eqb (number_of (first_refusal cs)) 0) refl
    where
      go : (b : Bool) → eqb (number_of (first_refusal cs)) 0 ≡ b → number (cond b ok no) ≡ 0 → NoneHolds cs × (cond b ok no ≡ ok)
      go true e h = (none_holds cs (eqb-true _ 0 e), refl)
      go false e h = absurd (eqb-false (number_of (first_refusal cs)) 0 e (sym refused ∙ h))

  pub answer_given_too : (ds : List Condition) (ok' no' : A) → (NoneHolds cs → NoneHolds ds × (ok' ≡ ok)) → number unless_any ≡ 0
      → cond (eqb (number_of (first_refusal ds)) 0) ok' no' ≡ unless_any
  answer_given_too ds ok' no' also h = let g = answer_given h in let t = also g.0 in rw (none_first ds t.0) (t.1 ∙ sym g.1)
