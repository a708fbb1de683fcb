-- What every answer of a step has: no refusal, and the unit's power; a proposal writes no log, decides nothing, and leaves an image's marks. Assumes nothing.
use Rattle.std.specs.Prelude.{None}
use Prim.Native.Nat.{ℕ}
use mathlib.Core.Path.{◌≡◌, refl}
use Rattle.tally.specs.Limits.{Limits}
use Rattle.tally.specs.declared.Estimate.TheVariants.{Blank}
use Rattle.contents.specs.declared.Message.{Message}
use Rattle.consensus.specs.Methods.{propose_conditions, propose, deliver_conditions, deliver}
use Rattle.consensus.specs.Step.{with_current, log_write, at_round, send_first, proposed, vote_first, take_first, vote_second, take_second, checks_with}
use Rattle.consensus.specs.Step.{close, seconds_with, on_kind, skip, received}
use Rattle.consensus.specs.Units.{unit_log, unit_image}
use Rattle.consensus.specs.declared.Answer.{Answer}
use Rattle.consensus.specs.declared.Unit as U
use Rattle.consensus.proofs.Branches.{by_round, by_kind, by_check, by_second, by_unless}

-- an answer of the unit u that refuses nothing
pub record Plain (u : U.Unit) (a : Answer) : Type 0 where
  pub none : a.refusal ≡ None
  pub power : a.unit.power ≡ u.power

pub plain_received : (u : U.Unit) (m : Message) → Plain u (received u m)
unfolding skip vote_first take_first vote_second take_second close log_write at_round
plain_received u m =
    by_round (Plain u) u m (λ h. record { none = refl; power = refl }) (λ h. kind u refl) (λ h. kind (at_round u m.round m.proposal) refl)
  where
    kind : (v : U.Unit) → v.power ≡ u.power → Plain u (on_kind m.kind v m)
    kind v same =
        by_kind (Plain u) m.kind v m
        (record {
          nothing = record { none = refl; power = same };
          first = λ k h. record { none = refl; power = same };
          first_again = λ k h. record { none = refl; power = same };
          checks = λ k h i. by_check (Plain u) v (checks_with v m) (λ f. record { none = refl; power = same }) (λ f. record { none = refl; power = same });
          second_again = λ k h. record { none = refl; power = same };
          seconds = λ k h. by_second (Plain u) v (seconds_with v m) (λ f. record { none = refl; power = same }) (λ f. record { none = refl; power = same });
        })

pub plain_proposed : (u : U.Unit) (v : ℕ) → Plain u (proposed u v)
unfolding proposed send_first
plain_proposed u v = record { none = refl; power = refl }

-- a refusal keeps the unit, and so its power
pub propose_power : (l : Limits) (u : U.Unit) (v : ℕ) → (propose l u v).unit.power ≡ u.power
unfolding propose
propose_power l u v =
    by_unless (λ a. a.unit.power ≡ u.power) (propose_conditions l u v) u (proposed u v) (plain_proposed u v).power (λ k. refl)

pub deliver_power : (l : Limits) (u : U.Unit) (m : Message) → (deliver l u m).unit.power ≡ u.power
unfolding deliver
deliver_power l u m =
    by_unless (λ a. a.unit.power ≡ u.power) (deliver_conditions l u m) u (received u m) (plain_received u m).power (λ k. refl)

-- a proposal writes no log and decides nothing
abbrev pub Keeps : U.Unit → Answer → Type 0
Keeps u a = (unit_log a.unit ≡ unit_log u) × (a.decision ≡ Blank)

pub proposed_keeps : (u : U.Unit) (v : ℕ) → Keeps u (proposed u v)
unfolding proposed send_first
proposed_keeps u v = (refl, refl)

pub propose_keeps : (l : Limits) (u : U.Unit) (v : ℕ) → Keeps u (propose l u v)
unfolding propose
propose_keeps l u v = by_unless (Keeps u) (propose_conditions l u v) u (proposed u v) (proposed_keeps u v) (λ k. (refl, refl))

-- and leaves all of an image but its state
pub propose_image : (l : Limits) (u : U.Unit) (v : ℕ) → unit_image (propose l u v).unit ≡ unit_image (with_current u (propose l u v).unit.current)
unfolding propose proposed send_first
propose_image l u v =
    by_unless (λ a. unit_image a.unit ≡ unit_image (with_current u a.unit.current)) (propose_conditions l u v) u (proposed u v) refl (λ k. refl)
