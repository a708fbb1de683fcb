-- What holds of each branch's answer holds of the step's. Assumes nothing.
use Rattle.std.specs.Prelude.{Option, Some}
use Prim.Native.Nat.{◌≤◌, ◌<◌}
use mathlib.Core.Path.{◌≡◌, refl}
use mathlib.Core.Bool.{Bool, true, false, cond}
use mathlib.Core.List.{List, [], ◌∷◌}
use native.Mathlib.Omega.{arith}
use lib.Dec.{eqb, ltb}
use borrow.Author.Tests.{ltb-true, ltb-false}
use Rattle.tally.specs.Gathered.{common}
use Rattle.tally.specs.Refusal.{number_of}
use Rattle.tally.specs.Tally.{is_marked, gathered}
use Rattle.tally.specs.declared.Refusal.{Refusal}
use Rattle.tally.specs.declared.Tally.{Tally}
use Rattle.tally.proofs.Count.{Each}
use Rattle.contents.specs.Estimates.{is_blank}
use Rattle.contents.specs.declared.Kind.{Kind}
use Rattle.contents.specs.declared.Kind.TheVariants.{Empty, First, Check, Second, Skip}
use Rattle.contents.specs.declared.Message.{Message}
use Rattle.consensus.specs.Methods.{refuses, unless}
use Rattle.consensus.specs.Conditions.{Condition, condition_number, first_refusal, NoneHolds}
use Rattle.consensus.specs.Step.{quiet, with_checks, with_seconds, vote_first, take_first, on_first, is_full, vote_second, take_second, count_check}
use Rattle.consensus.specs.Step.{checks_with, mark_check, on_check, at_round, close, count_second, seconds_with, on_second, on_kind, skip, caught_up, received}
use Rattle.consensus.specs.declared.Answer.{Answer}
use Rattle.consensus.specs.declared.Unit as U

module _ (P : Answer → Type 0) where
  by_test : (b : Bool) {x y : Answer} → (b ≡ true → P x) → (b ≡ false → P y) → P (cond b x y)
  by_test true f g = f refl
  by_test false f g = g refl

  pub record Branches (k : Kind) (u : U.Unit) (m : Message) : Type 0 where
    pub nothing : P (quiet u)
    pub first : k ≡ First → is_blank u.current.first ≡ true → P (take_first u m.proposal)
    pub first_again : k ≡ First → is_blank u.current.first ≡ false → P (vote_first u)
    pub checks : k ≡ Check → is_blank u.current.second ≡ true → is_marked u.checks.marks m.sender ≡ false
        → P (count_check u (checks_with u m))
    pub second_again : k ≡ Check → is_blank u.current.second ≡ false → P (vote_second u)
    pub seconds : k ≡ Second → is_marked u.seconds.marks m.sender ≡ false → P (count_second u (seconds_with u m))

  pub by_kind : (k : Kind) (u : U.Unit) (m : Message) → Branches k u m → P (on_kind k u m)
  unfolding on_kind on_first mark_check on_check on_second
  by_kind Empty u m b = b.nothing
  by_kind First u m b = by_test (is_blank u.current.first) (b.first refl) (b.first_again refl)
  by_kind Check u m b =
      by_test (is_blank u.current.second) (λ e. by_test (is_marked u.checks.marks m.sender) (λ f. b.nothing) (b.checks refl e))
      (b.second_again refl)
  by_kind Second u m b = by_test (is_marked u.seconds.marks m.sender) (λ e. b.nothing) (b.seconds refl)
  by_kind Skip u m b = b.nothing

  -- a count is full or short of the quorum
  pub by_check : (u : U.Unit) (t : Tally) → (is_full u t ≡ true → P (take_second u (common (gathered t))))
      → (is_full u t ≡ false → P (quiet (with_checks u t))) → P (count_check u t)
  unfolding count_check
  by_check u t f g = by_test (is_full u t) f g

  pub by_second : (u : U.Unit) (t : Tally) → (is_full u t ≡ true → P (close u t)) → (is_full u t ≡ false → P (quiet (with_seconds u t)))
      → P (count_second u t)
  unfolding count_second
  by_second u t f g = by_test (is_full u t) f g

  pub by_round : (u : U.Unit) (m : Message) → (m.round < u.current.round → P (skip u m.sender))
      → (m.round ≡ u.current.round → P (on_kind m.kind u m))
      → (u.current.round < m.round → P (on_kind m.kind (at_round u m.round m.proposal) m)) → P (received u m)
  unfolding received caught_up
  by_round u m below at above =
      by_test (ltb m.round u.current.round) (λ e. below (ltb-true _ _ e)) (λ e. go (ltb-false _ _ e) (ltb u.current.round m.round) refl)
    where
      go : u.current.round ≤ m.round → (b : Bool) → ltb u.current.round m.round ≡ b
          → P (on_kind m.kind (cond b (at_round u m.round m.proposal) u) m)
      go le true e = above (ltb-true _ _ e)
      go le false e = at (omega (arith, ltb-false u.current.round m.round e))

  -- a method answers, or refuses
  pub by_unless : (cs : List Condition) (u : U.Unit) (a : Answer) → P a → ((k : Option Refusal) → P (refuses u k)) → P (unless cs u a)
  unfolding unless
  by_unless cs u a answered refused = by_test (eqb (number_of (first_refusal cs)) 0) (λ e. answered) (λ e. refused (first_refusal cs))

  -- conditions whose number is not 0, of which one refuses or none holds
  pub by_conditions : (cs : List Condition) (u : U.Unit) (a : Answer) → Each (λ r. eqb (condition_number r) 0 ≡ false) cs
      → ((k : Option Refusal) → P (refuses u k))
      → (NoneHolds cs → P a) → P (unless cs u a)
  unfolding unless first_refusal
  by_conditions [] u a each refused accepted = accepted tt
  by_conditions (r ∷ rs) u a each refused accepted = go r.holds refl (by_conditions rs u a each.1 refused)
    where
      go : (b : Bool) → r.holds ≡ b → ((NoneHolds rs → P a) → P (unless rs u a))
          → P (cond (eqb (number_of (cond b (Some r.refusal) (first_refusal rs))) 0) a (refuses u (cond b (Some r.refusal) (first_refusal rs))))
      go true e ih = rw each.0 (refused (Some r.refusal))
      go false e ih = ih (λ h. accepted (e, h))
