-- What it says that a unit accepts. Assumes nothing.
use Rattle.std.specs.Prelude.{Some}
use Prim.Native.Nat.{ℕ, ◌≤◌, ◌<◌}
use mathlib.Core.Path.{◌≡◌, refl, sym, ap, ◌∙◌}
use mathlib.Core.Bool.{Bool, true, false, cond}
use native.Mathlib.Omega.{arith}
use lib.Dec.{eqb}
use borrow.Author.Tests.{eqb-true, eqb-false, leb-false, le-leb, not-false}
use Rattle.tally.specs.Limits.{Limits}
use Rattle.tally.specs.Refusal.{number_of}
use Rattle.tally.specs.declared.Refusal.{Refusal}
use Rattle.tally.proofs.Never.{never}
use Rattle.consensus.specs.Methods.{is_up, refuses, unless, propose, deliver, key_off, key_on}
use Rattle.consensus.specs.Conditions.{first_refusal}
use Rattle.consensus.specs.Step.{quiet, recovered}
use Rattle.consensus.specs.Units.{unit_log, down_unit}
use Rattle.consensus.specs.declared.Answer.{Answer}
use Rattle.consensus.specs.declared.Power.{Power}
use Rattle.consensus.specs.declared.Power.TheVariants.{Down, Up}
use Rattle.consensus.specs.declared.Unit as U
use Rattle.consensus.proofs.Answers.{deliver_power}
use Rattle.consensus.proofs.Refusals.{propose_down}
use Rattle.script.specs.declared.ScriptEvent.{ScriptEvent}
use Rattle.bench_play.specs.Bench.{LineAnswer, unit_at, message_at}
use Rattle.bench_play.specs.Play.{delivery_conditions, delivery, cut_short, unit_answer, answer}
use Rattle.bench_play.specs.declared.Bench.{Bench}
use Rattle.bench_play.proofs.Settled.{by_answer, unless_accepts}

abbrev pub Accepts : Answer → Type 0
Accepts a = number_of a.refusal ≡ 0

is_up_lem : (p : Power) → is_up p ≡ true → p ≡ Up
is_up_lem Down h = never h
is_up_lem Up h = refl

is_down_lem : (p : Power) → is_up p ≡ false → p ≡ Down
is_down_lem Down h = refl
is_down_lem Up h = never (sym h)

-- an accepted proposal is to an up unit
pub proposal_up : (l : Limits) (x : U.Unit) (v : ℕ) → Accepts (propose l x v) → x.power ≡ Up
proposal_up l x v number = go x.power refl
  where
    go : (p : Power) → x.power ≡ p → p ≡ Up
    go Up e = refl
    go Down e = absurd (omega (arith, (propose_down l x v e).number, number))

-- a delivery that is accepted is of a message sent, to an up unit
pub record Delivered (l : Limits) (b : Bench) (u k : ℕ) : Type 0 where
  pub up : (unit_at b u).power ≡ Up
  pub sent : k < b.kept
  pub same : delivery l b u k ≡ deliver l (unit_at b u) (message_at b k)

pub delivered : (l : Limits) (b : Bench) (u k : ℕ) → Accepts (delivery l b u k) → Delivered l b u k
unfolding delivery delivery_conditions
delivered l b u k zero =
    let conditions = delivery_conditions (unit_at b u) b.kept k in
    let a = unless_accepts conditions (unit_at b u) (deliver l (unit_at b u) (message_at b k)) zero in
    record { up = is_up_lem _ (not-false _ a.0.0); sent = leb-false _ _ a.0.1.0; same = a.1 }

-- 9 before 10, whatever the message; and 10 before the unit's own numbers
pub delivery_down : (l : Limits) (b : Bench) (u k : ℕ) → (unit_at b u).power ≡ Down → delivery l b u k ≡ refuses (unit_at b u) (Some Refusal.Power)
unfolding delivery delivery_conditions unless first_refusal
delivery_down l b u k down = rw down

pub delivery_unsent : (l : Limits) (b : Bench) (u k : ℕ) → (unit_at b u).power ≡ Up → b.kept ≤ k
    → delivery l b u k ≡ refuses (unit_at b u) (Some Refusal.Unsent)
unfolding delivery delivery_conditions unless first_refusal
delivery_unsent l b u k up unsent = rw (up, le-leb b.kept k unsent)

-- a cut that is accepted is a delivery that is, and the key off after it
pub cut_accepted : (a : Answer) → Accepts (cut_short a) → Accepts a × (cut_short a ≡ key_off a.unit)
unfolding cut_short
cut_accepted a = go (eqb (number_of a.refusal) 0) refl
  where
    go : (t : Bool) → eqb (number_of a.refusal) 0 ≡ t → Accepts (cond t (key_off a.unit) a)
        → Accepts a × (cond t (key_off a.unit) a ≡ key_off a.unit)
    go true e h = (eqb-true _ _ e, refl)
    go false e h = absurd (eqb-false _ _ e h)

-- a cut is refused as the delivery is: the key of an up unit can go off
pub cut_number : (l : Limits) (b : Bench) (u k : ℕ) → number_of (cut_short (delivery l b u k)).refusal ≡ number_of (delivery l b u k).refusal
unfolding cut_short key_off unless first_refusal
cut_number l b u k = go (eqb (number_of a.refusal) 0) refl
  where
    a : Answer
    a = delivery l b u k

    go : (t : Bool) → eqb (number_of a.refusal) 0 ≡ t → number_of (cond t (key_off a.unit) a).refusal ≡ number_of a.refusal
    go true e =
        let zero = eqb-true _ _ e in
        let d = delivered l b u k zero in
        let up : a.unit.power ≡ Up = ap (λ (x : Answer). x.unit.power) d.same ∙ deliver_power l (unit_at b u) (message_at b k) ∙ d.up in
        rw up (sym zero)
    go false e = refl

pub off_accepted : (x : U.Unit) → Accepts (key_off x) → key_off x ≡ quiet (down_unit (unit_log x))
unfolding key_off
off_accepted x zero = (unless_accepts _ x _ zero).1

pub on_accepted : (x : U.Unit) → Accepts (key_on x) → (x.power ≡ Down) × (key_on x ≡ quiet (recovered x))
unfolding key_on
on_accepted x zero =
    let a = unless_accepts _ x _ zero in
    (is_down_lem _ a.0.0, a.1)

-- unless 11 refuses it, the number of a line is its unit's own
pub own_number : (l : Limits) (b : Bench) (e : ScriptEvent) → ((answer l b e).refusal ≡ Some Refusal.Full → ⊥)
    → number_of (unit_answer l b e).refusal ≡ number_of (answer l b e).refusal
own_number l b e =
    by_answer (λ (r : LineAnswer). (r.refusal ≡ Some Refusal.Full → ⊥) → number_of (unit_answer l b e).refusal ≡ number_of r.refusal) l b e
    (record {
      refuses = λ some other. refl;
      quiet = λ ok empty other. ok;
      full = λ ok some no other. absurd (other refl);
      sends = λ ok some room other. ok;
    })

-- what the bench accepts, its unit does
pub accepts : (l : Limits) (b : Bench) (e : ScriptEvent) → number_of (answer l b e).refusal ≡ 0 → Accepts (unit_answer l b e)
accepts l b e zero = own_number l b e (λ full. absurd (omega (arith, ap number_of full, zero))) ∙ zero
