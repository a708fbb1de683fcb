-- An event's turn, stored in the bench, is the bench's answer. Assumes nothing.
use Prim.Native.Nat.{ℕ, ◌+◌, ◌≤◌, ◌<◌}
use mathlib.Core.Path.{◌≡◌, refl, sym, ap, ◌∙◌}
use mathlib.Core.Bool.{Bool, true, false, not, cond}
use mathlib.Core.List.{[], ◌∷◌}
use native.Mathlib.Omega.{arith}
use lib.Dec.{ltb}
use lib.ListN.{get_or, set}
use borrow.Author.Tests.{eq-eqb, ne_eqb, ltb-true, ltb-false, le-leb, lt-leb}
use Rattle.std.specs.Option.{unwrap_or}
use Rattle.tally.proofs.Never.{never}
use Rattle.tally.specs.Limits.{Limits, places}
use Rattle.tally.specs.declared.Refusal.{Refusal}
use Rattle.contents.specs.Messages.{is_empty, empty_message}
use Rattle.contents.specs.declared.Kind.{Kind}
use Rattle.contents.specs.declared.Kind.TheVariants.{Empty, First, Check, Second, Skip}
use Rattle.consensus.specs.Conditions.{condition, first_refusal}
use Rattle.consensus.specs.Methods.{is_up, unless, deliver}
use Rattle.consensus.specs.declared.Answer.{Answer}
use Rattle.consensus.specs.declared.Unit as U
use Rattle.script.specs.Script.{event_unit}
use Rattle.script.specs.declared.ScriptEvent.{ScriptEvent}
use Rattle.bench_play.specs.Bench.{LineAnswer, no_unit, unit_at, message_at, no_place_left, with_unit, with_message, settle}
use Rattle.bench_play.specs.Play.{delivery_conditions, delivery, unit_answer, answer}
use Rattle.bench_play.specs.declared.Bench.{Bench}
use Rattle.bench_play.proofs.Settled.{by_settle, by_answer, answer_line}
use Rattle.bench_turns.specs.InnerTurns.{unit_of, place_or_first, event_place, turn_delivery, turn, outcome_of, is_accepted, is_sent}
use Rattle.bench_turns.specs.declared.LineOutcome.{LineOutcome}

-- ---- the unit and the place of the message that an event takes

pub unit_or_first : (e : ScriptEvent) → unwrap_or (unit_of e) 0 ≡ event_unit e
unit_or_first ScriptEvent.Malformed = refl
unit_or_first (ScriptEvent.Propose u v) = refl
unit_or_first (ScriptEvent.Deliver u k) = refl
unit_or_first (ScriptEvent.Cut u k) = refl
unit_or_first (ScriptEvent.KeyOff u) = refl
unit_or_first (ScriptEvent.KeyOn u) = refl

place_or_first_lem : (k : ℕ) → place_or_first k < places
place_or_first_lem k = go (ltb k places) refl
  where
    go : (t : Bool) → ltb k places ≡ t → cond t k 0 < places
    go true e = ltb-true k places e
    go false e = omega arith

pub place_below : (e : ScriptEvent) → event_place e < places
place_below ScriptEvent.Malformed = omega arith
place_below (ScriptEvent.Propose u v) = omega arith
place_below (ScriptEvent.Deliver u k) = place_or_first_lem k
place_below (ScriptEvent.Cut u k) = place_or_first_lem k
place_below (ScriptEvent.KeyOff u) = omega arith
place_below (ScriptEvent.KeyOn u) = omega arith

-- ---- what comes of an answer

-- the bench after unit u's answer a, of which o came: as it was where that is a refusal
abbrev after_turn : Bench → ℕ → Answer → LineOutcome → Bench
after_turn b u a o =
    cond (is_accepted o)
    (cond (is_sent o.sent) (with_message (with_unit b u a.unit) a.message) (with_unit b u a.unit))
    b

-- and what the line is answered
abbrev pub line_answer : Bench → ℕ → Answer → LineOutcome → LineAnswer
line_answer b u a o = record { bench = after_turn b u a o; refusal = o.refusal; sent = o.sent; decision = o.decision }

some_kind : (k : Kind) → (k ≡ Empty → ⊥) → is_empty k ≡ false
some_kind Empty some = absurd (some refl)
some_kind First some = refl
some_kind Check some = refl
some_kind Second some = refl
some_kind Skip some = refl

-- it is what the bench makes of it
settles : (b : Bench) (u : ℕ) (a : Answer) → line_answer b u a (outcome_of b.kept a) ≡ settle b u a
unfolding outcome_of no_place_left
settles b u a =
    by_settle (λ r. line_answer b u a (outcome_of b.kept a) ≡ r) b u a
    (record {
      refuses = λ some. simp (ne_eqb _ _ some);
      quiet = λ ok empty. simp (eq-eqb _ _ ok, empty);
      full = λ ok some full. simp (eq-eqb _ _ ok, some_kind _ some, le-leb _ _ full);
      sends = λ ok some room. simp (eq-eqb _ _ ok, some_kind _ some, lt-leb _ _ room);
    })

-- ---- a turn

-- where there is no message of that number, none is looked at
unsent_unread : (l : Limits) (b : Bench) (u k : ℕ) → b.kept ≤ places
    → turn_delivery l (unit_at b u) b.kept (message_at b (place_or_first k)) k ≡ delivery l b u k
unfolding turn_delivery delivery delivery_conditions unless first_refusal
unsent_unread l b u k h = go (ltb k places) refl
  where
    x : U.Unit
    x = unit_at b u

    unsent : (up : Bool) (a c : Answer)
        → unless (condition Refusal.Power (not up) ∷ condition Refusal.Unsent true ∷ []) x a
        ≡ unless (condition Refusal.Power (not up) ∷ condition Refusal.Unsent true ∷ []) x c
    unsent true a c = refl
    unsent false a c = refl

    go : (t : Bool) → ltb k places ≡ t
        → unless (delivery_conditions x b.kept k) x (deliver l x (message_at b (cond t k 0)))
        ≡ unless (delivery_conditions x b.kept k) x (deliver l x (message_at b k))
    go true e = refl
    go false e =
        let past : b.kept ≤ k = omega (arith, h, ltb-false k places e) in
        rw (le-leb b.kept k past) (unsent (is_up x.power) _ _)

-- of event e on the bench b
abbrev turn_on : Limits → Bench → ScriptEvent → Answer
turn_on l b e = turn l (unit_at b (event_unit e)) b.kept (message_at b (event_place e)) e

pub turn_answers : (l : Limits) (b : Bench) (e : ScriptEvent) → b.kept ≤ places
    → line_answer b (event_unit e) (turn_on l b e) (outcome_of b.kept (turn_on l b e)) ≡ answer l b e
unfolding answer unit_answer turn outcome_of
turn_answers l b ScriptEvent.Malformed h = sym (answer_line l b)
turn_answers l b (ScriptEvent.Propose u v) h = settles b u _
turn_answers l b (ScriptEvent.Deliver u k) h = rw (← (unsent_unread l b u k h)) (settles b u _)
turn_answers l b (ScriptEvent.Cut u k) h = rw (← (unsent_unread l b u k h)) (settles b u _)
turn_answers l b (ScriptEvent.KeyOff u) h = settles b u _
turn_answers l b (ScriptEvent.KeyOn u) h = settles b u _

-- event e on the bench b: a is its unit u's answer, and o what came of it
pub record Turned (l : Limits) (b : Bench) (e : ScriptEvent) (u : ℕ) (a : Answer) (o : LineOutcome) : Type 0 where
  pub same : line_answer b u a o ≡ answer l b e

-- as the code has it, of unit u and message k of the bench
pub turned : (l : Limits) (b : Bench) (e : ScriptEvent) (u k : ℕ) (a : Answer) (o : LineOutcome) → b.kept ≤ places → u ≡ event_unit e
    → k ≡ event_place e
    → a ≡ turn l (get_or b.units u no_unit) b.kept (get_or b.messages k empty_message) e → o ≡ outcome_of b.kept a → Turned l b e u a o
unfolding unit_at message_at
turned l b e u k a o h at place took came = record { same = rw (came, took, at, place) (turn_answers l b e h) }

-- ---- the bench as the stores leave it

module _ {l : Limits} {b : Bench} {e : ScriptEvent} {u : ℕ} {a : Answer} {o : LineOutcome} (t : Turned l b e u a o) where
  -- what is sent has a place
  pub sent_room : is_sent o.sent ≡ true → b.kept < places
  sent_room s = room (ap (λ (r : LineAnswer). is_sent r.sent) (sym t.same) ∙ s)
    where
      room : is_sent (answer l b e).sent ≡ true → b.kept < places
      room =
          by_answer (λ r. is_sent r.sent ≡ true → b.kept < places) l b e
          (record { refuses = λ some h. never h; quiet = λ ok empty h. never h; full = λ ok some no h. never h; sends = λ ok some room h. room })

  same_bench : after_turn b u a o ≡ (answer l b e).bench
  same_bench = ap (λ (r : LineAnswer). r.bench) t.same

  pub after_sent : is_accepted o ≡ true → is_sent o.sent ≡ true
      → record { units = set b.units u a.unit; messages = set b.messages b.kept a.message; kept = b.kept + 1 } ≡ (answer l b e).bench
  unfolding with_unit with_message
  after_sent ok s = rw (ok, s) at same_bench

  pub after_quiet : is_accepted o ≡ true → is_sent o.sent ≡ false
      → record { units = set b.units u a.unit; messages = b.messages; kept = b.kept } ≡ (answer l b e).bench
  unfolding with_unit
  after_quiet ok s = rw (ok, s) at same_bench

  pub after_refused : is_accepted o ≡ false → b ≡ (answer l b e).bench
  after_refused refused = rw refused at same_bench
