-- What each call of a unit refuses, and what a refusal leaves. Assumes nothing.
use Prim.Native.Nat.{ℕ}
use mathlib.Core.Path.{◌≡◌, refl, sym, ◌∙◌}
use mathlib.Core.Bool.{Bool, true, false, cond}
use mathlib.Core.List.{List, []}
use native.Mathlib.Omega.{arith}
use lib.Dec.{eqb}
use borrow.Author.Tests.{eqb-true}
use Rattle.tally.specs.Limits.{Limits, blank_code}
use Rattle.tally.specs.Refusal.{number_of}
use Rattle.formats.specs.Messages.{cleared}
use Rattle.consensus.specs.Conditions.{Condition, first_refusal}
use Rattle.consensus.proofs.Order.{Rising, first_lowest}
use Rattle.calls.specs.Calls.{CallAnswer, called, unless_refused, Refusing, start_call_conditions, start_call, key_on_call_conditions, key_on_call}
use Rattle.calls.specs.Calls.{propose_call_conditions, propose_call, deliver_call_conditions, deliver_call}

module _ (l : Limits) (cs : List Condition) (up : Rising 0 cs) (log image out : List ℕ) where
  -- any call that answers 0 where no condition holds
  refusing : (ok : CallAnswer) → ok.number ≡ 0 → Refusing l cs log image out (unless_refused l cs log image out ok)
  refusing ok zero = go (eqb (number_of (first_refusal cs)) 0) refl
    where
      k : ℕ
      k = number_of (first_refusal cs)

      go : (b : Bool) → eqb k 0 ≡ b → Refusing l cs log image out (cond b ok (called k log image (cleared l out) blank_code))
      go true e = record { number = rw (zero ∙ sym (eqb-true k 0 e)) (first_lowest cs up); refused = λ n. absurd (n zero) }
      go false e = record { number = first_lowest cs up; refused = λ n. refl }

module _ (l : Limits) where
  pub start_refusing : (engine n unit entry : ℕ) (log image : List ℕ)
      → Refusing l (start_call_conditions l engine n unit entry log image) log image [] (start_call l engine n unit entry log image)
  unfolding start_call start_call_conditions
  start_refusing engine n unit entry log image =
      refusing l (start_call_conditions l engine n unit entry log image) (omega arith, (omega arith, tt)) log image [] _ refl

  pub key_on_refusing : (log image : List ℕ) → Refusing l (key_on_call_conditions l log image) log image [] (key_on_call l log image)
  unfolding key_on_call key_on_call_conditions
  key_on_refusing log image = refusing l (key_on_call_conditions l log image) (omega arith, (omega arith, tt)) log image [] _ refl

  pub propose_refusing : (log image : List ℕ) (mileage : ℕ) (out : List ℕ)
      → Refusing l (propose_call_conditions l log image mileage out) log image out (propose_call l log image mileage out)
  unfolding propose_call propose_call_conditions
  propose_refusing log image mileage out =
      refusing l (propose_call_conditions l log image mileage out) (omega arith, (omega arith, (omega arith, (omega arith, tt)))) log image out _ refl

  pub deliver_refusing : (log image message out : List ℕ)
      → Refusing l (deliver_call_conditions l log image message out) log image out (deliver_call l log image message out)
  unfolding deliver_call deliver_call_conditions
  deliver_refusing log image message out =
      refusing l (deliver_call_conditions l log image message out)
      (omega arith, (omega arith, (omega arith, (omega arith, (omega arith, (omega arith, tt)))))) log image out _ refl
