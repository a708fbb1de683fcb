-- A unit's methods at a greater mileage bound: a proposal that did not give 6 is answered the same, and so is a well-formed message. Assumes nothing.
use Rattle.std.specs.Prelude.{Some}
use Prim.Native.Nat.{ℕ, ◌≤◌}
use mathlib.Core.Path.{◌≡◌, refl}
use mathlib.Core.Bool.{Bool, true, false, not}
use mathlib.Core.List.{[], ◌∷◌}
use Rattle.tally.specs.Limits.{Limits, with_max_mileage}
use Rattle.tally.specs.Refusal.{number_of}
use Rattle.tally.specs.declared.Refusal.{Refusal}
use Rattle.tally.proofs.Bounds.{wider}
use Rattle.contents.specs.Estimates.{in_range}
use Rattle.contents.specs.Messages.{message_ok}
use Rattle.contents.specs.declared.Message.{Message}
use Rattle.contents.proofs.Wider.{in_range_wider, message_wider}
use Rattle.consensus.specs.Conditions.{condition, first_refusal}
use Rattle.consensus.specs.Methods.{is_up, out_of_range, closes_last, unless, propose_conditions, propose, deliver_conditions, deliver}
use Rattle.consensus.specs.Step.{proposed}
use Rattle.consensus.specs.declared.Answer.{Answer}
use Rattle.consensus.specs.declared.Unit as U

module _ (l : Limits) (k : ℕ) (more : l.max_mileage ≤ k) where
  abbrev l' : Limits
  l' = with_max_mileage k l

  pub propose_wider : (u : U.Unit) (v : ℕ) → (number_of (propose l u v).refusal ≡ number_of (Some Refusal.Mileage) → ⊥)
      → propose l' u v ≡ propose l u v
  unfolding propose propose_conditions out_of_range unless first_refusal
  propose_wider u v not6 = go (is_up u.power) (in_range l v) (in_range l' v) (in_range_wider l l' (wider l k more) v) not6
    where
      tested : Bool → Bool → Answer
      tested up good = unless (condition Refusal.Power (not up) ∷ condition Refusal.Mileage (not good) ∷ []) u (proposed u v)

      go : (up good good' : Bool) → (good ≡ true → good' ≡ true) → (number_of (tested up good).refusal ≡ number_of (Some Refusal.Mileage) → ⊥)
          → tested up good' ≡ tested up good
      go false good good' f h = refl
      go true true good' f h = rw (f refl)
      go true false good' f h = absurd (h refl)

  pub deliver_wider : (u : U.Unit) (m : Message) → message_ok l m ≡ true → deliver l' u m ≡ deliver l u m
  unfolding deliver deliver_conditions closes_last
  deliver_wider u m ok = rw (message_wider l l' (wider l k more) m ok, ok)
