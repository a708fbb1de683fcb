-- The numbers that an event can be refused with; 11 is met exactly where it would send and no place is left. Assumes nothing.
use Rattle.std.specs.Prelude.{Option, Some, None}
use Prim.Native.Nat.{ℕ, ◌≤◌, ◌<◌}
use mathlib.Core.Path.{◌≡◌, refl, ap, ◌∙◌}
use mathlib.Core.Bool.{Bool, true, false, cond}
use mathlib.Core.List.{List, [], ◌∷◌}
use native.Mathlib.Omega.{arith}
use lib.Dec.{eqb}
use borrow.Author.Tests.{eqb-true, leb-false, not-true}
use Rattle.tally.specs.Limits.{Limits, places}
use Rattle.tally.specs.Refusal.{number_of}
use Rattle.tally.specs.declared.Refusal.{Refusal}
use Rattle.contents.specs.Messages.{message_ok}
use Rattle.consensus.specs.Methods.{unless, refuses, closes_last, propose_conditions, propose, deliver_conditions, deliver, key_off, key_on}
use Rattle.consensus.specs.Conditions.{Condition, first_refusal}
use Rattle.consensus.specs.Step.{proposed, received}
use Rattle.consensus.specs.declared.Answer.{Answer}
use Rattle.consensus.specs.declared.Unit as U
use Rattle.consensus.proofs.Answers.{plain_proposed, plain_received}
use Rattle.consensus.proofs.Order.{first_lowest}
use Rattle.script.specs.Script.{event_unit}
use Rattle.script.specs.declared.ScriptEvent.{ScriptEvent}
use Rattle.bench_play.specs.Bench.{LineAnswer, unit_at, message_at}
use Rattle.bench_play.specs.Play.{delivery_conditions, delivery, cut_short, unit_answer, answer}
use Rattle.bench_play.specs.declared.Bench.{Bench}
use Rattle.bench_play.specs.Claims.{Sized, WouldSend, Sending, of_p, of_d, NoPlace}
use Rattle.bench_play.proofs.Accepting.{cut_accepted, off_accepted, on_accepted}
use Rattle.bench_play.proofs.Settled.{by_answer}

-- ---- a unit's own refusals

-- a fact of every refusal that unit u of the bench can give
pub record EachRefusal (Q : Option Refusal → Type 0) (l : Limits) (b : Bench) (u : ℕ) : Type 0 where
  pub none : Q None
  pub line : Q (Some Refusal.Line)
  pub power : Q (Some Refusal.Power)
  pub mileage : Q (Some Refusal.Mileage)
  pub unsent : Q (Some Refusal.Unsent)
  pub addressee : Q (Some Refusal.Addressee)
  -- a message sent that is malformed, or would close the last round
  pub message : (k : ℕ) → k < b.kept → message_ok l (message_at b k) ≡ false → Q (Some Refusal.Message)
  pub last : (k : ℕ) → k < b.kept → closes_last l (unit_at b u) (message_at b k) ≡ true → Q (Some Refusal.LastRound)

module _ (Q : Option Refusal → Type 0) where
  -- of each condition that holds
  abbrev Holding : List Condition → Type 0
  Holding [] = Unit
  Holding (r ∷ rs) = (r.holds ≡ true → Q (Some r.refusal)) × Holding rs

  first_of : Q None → (cs : List Condition) → Holding cs → Q (first_refusal cs)
  unfolding first_refusal
  first_of none [] h = none
  first_of none (r ∷ rs) h = go r.holds refl (first_of none rs h.1)
    where
      go : (t : Bool) → r.holds ≡ t → Q (first_refusal rs) → Q (cond t (Some r.refusal) (first_refusal rs))
      go true e later = h.0 e
      go false e later = later

  unless_of : Q None → (cs : List Condition) (u : U.Unit) (a : Answer) → Holding cs → (number_of (first_refusal cs) ≡ 0 → Q a.refusal)
      → Q (unless cs u a).refusal
  unfolding unless
  unless_of none cs u a h accepted = go (eqb (number_of (first_refusal cs)) 0) refl
    where
      go : (t : Bool) → eqb (number_of (first_refusal cs)) 0 ≡ t → Q (cond t a (refuses u (first_refusal cs))).refusal
      go true e = accepted (eqb-true _ _ e)
      go false e = first_of none cs h

  module _ (l : Limits) (b : Bench) (u : ℕ) (each : EachRefusal Q l b u) where
    of_propose : (v : ℕ) → Q (propose l (unit_at b u) v).refusal
    unfolding propose propose_conditions
    of_propose v =
        unless_of each.none (propose_conditions l (unit_at b u) v) (unit_at b u) (proposed (unit_at b u) v)
        (λ h. each.power, (λ h. each.mileage, tt)) (λ ok. rw (plain_proposed (unit_at b u) v).none each.none)

    of_delivery : (k : ℕ) → Q (delivery l b u k).refusal
    unfolding delivery delivery_conditions deliver deliver_conditions
    of_delivery k =
        let conditions = delivery_conditions (unit_at b u) b.kept k in
        unless_of each.none conditions (unit_at b u) (deliver l (unit_at b u) (message_at b k)) (λ h. each.power, (λ h. each.unsent, tt))
        (λ ok.
        let sent : k < b.kept = leb-false _ _ ((first_lowest conditions (omega arith, (omega arith, tt))).accepted ok).1.0 in
        unless_of each.none (deliver_conditions l (unit_at b u) (message_at b k)) (unit_at b u) (received (unit_at b u) (message_at b k))
        (λ h. each.message k sent (not-true _ h), (λ h. each.power, (λ h. each.addressee, (λ h. each.last k sent h, tt))))
        (λ ok. rw (plain_received (unit_at b u) (message_at b k)).none each.none))

    of_key_off : (x : U.Unit) → Q (key_off x).refusal
    unfolding key_off
    of_key_off x = unless_of each.none _ x _ (λ h. each.power, tt) (λ ok. each.none)

    of_key_on : (x : U.Unit) → Q (key_on x).refusal
    unfolding key_on
    of_key_on x = unless_of each.none _ x _ (λ h. each.power, tt) (λ ok. each.none)

    of_cut : (a : Answer) → Q a.refusal → Q (cut_short a).refusal
    unfolding cut_short
    of_cut a own = go (eqb (number_of a.refusal) 0)
      where
        go : (t : Bool) → Q (cond t (key_off a.unit) a).refusal
        go true = of_key_off a.unit
        go false = own

  pub of_unit_lem : (l : Limits) (b : Bench) (e : ScriptEvent) → EachRefusal Q l b (event_unit e) → Q (unit_answer l b e).refusal
  unfolding unit_answer
  of_unit_lem l b ScriptEvent.Malformed each = each.line
  of_unit_lem l b (ScriptEvent.Propose u v) each = of_propose l b u each v
  of_unit_lem l b (ScriptEvent.Deliver u k) each = of_delivery l b u each k
  of_unit_lem l b (ScriptEvent.Cut u k) each = of_cut l b u each (delivery l b u k) (of_delivery l b u each k)
  of_unit_lem l b (ScriptEvent.KeyOff u) each = of_key_off l b u each (unit_at b u)
  of_unit_lem l b (ScriptEvent.KeyOn u) each = of_key_on l b u each (unit_at b u)

-- ---- 11

-- 11 is none of a unit's own
own_below : (l : Limits) (b : Bench) (e : ScriptEvent) → number_of (unit_answer l b e).refusal < 11
own_below l b e =
    of_unit_lem (λ k. number_of k < 11) l b e
    (record {
      none = omega arith;
      line = omega arith;
      power = omega arith;
      mileage = omega arith;
      unsent = omega arith;
      addressee = omega arith;
      message = λ k sent bad. omega arith;
      last = λ k sent closes. omega arith;
    })

-- W, K and U send nothing
sending : (l : Limits) (b : Bench) (e : ScriptEvent) → WouldSend l b e → Sending e
unfolding unit_answer
sending l b ScriptEvent.Malformed w = absurd (omega (arith, w.accepted))
sending l b (ScriptEvent.Propose u v) w = of_p
sending l b (ScriptEvent.Deliver u k) w = of_d
sending l b (ScriptEvent.Cut u k) w =
    let c = cut_accepted (delivery l b u k) w.accepted in
    let off = off_accepted (delivery l b u k).unit (rw c.1 at w.accepted) in
    absurd (w.message (rw (c.1 ∙ off)))
sending l b (ScriptEvent.KeyOff u) w = absurd (w.message (rw (off_accepted (unit_at b u) w.accepted)))
sending l b (ScriptEvent.KeyOn u) w = absurd (w.message (rw (on_accepted (unit_at b u) w.accepted).1))

-- of any bench that is not overfull
pub full_only : (l : Limits) (b : Bench) → Sized b → (e : ScriptEvent) → (answer l b e).refusal ≡ Some Refusal.Full → NoPlace l b e
full_only l b sized e =
    by_answer (λ (r : LineAnswer). r.refusal ≡ Some Refusal.Full → NoPlace l b e) l b e
    (record {
      refuses = λ some q. absurd (omega (arith, own_below l b e, ap number_of q));
      quiet = λ ok empty q. absurd (omega (arith, ap number_of q));
      full = λ ok some full q.
          let would : WouldSend l b e = record { accepted = ok; message = some } in
          record { kept = omega (arith, sized.kept); would = would; sending = sending l b e would };
      sends = λ ok some room q. absurd (omega (arith, ap number_of q));
    })

-- and of any bench at all
pub full_met : (l : Limits) (b : Bench) (e : ScriptEvent) → WouldSend l b e → places ≤ b.kept → (answer l b e).refusal ≡ Some Refusal.Full
full_met l b e would full =
    by_answer (λ (r : LineAnswer). r.refusal ≡ Some Refusal.Full) l b e
    (record {
      refuses = λ some. absurd (some would.accepted);
      quiet = λ ok empty. absurd (would.message empty);
      full = λ ok some no. refl;
      sends = λ ok some room. absurd (omega arith);
    })
