-- Playing events on the bench: each runs a method of one unit. Assumes nothing.
use Rattle.std.specs.Prelude.{ℕ, not, cond, List, [], ◌∷◌, leb, eqb, Some}
use Rattle.tally.specs.Limits.{Limits}
use Rattle.tally.specs.Refusal.{number_of}
use Rattle.tally.specs.declared.Refusal.{Refusal}
use Rattle.consensus.specs.Methods.{is_up, refuses, unless, propose, deliver, key_off, key_on}
use Rattle.consensus.specs.Conditions.{Condition, condition}
use Rattle.consensus.specs.declared.Answer.{Answer}
use Rattle.consensus.specs.declared.Unit as U
use Rattle.script.specs.Script.{event_unit}
use Rattle.script.specs.declared.ScriptEvent.{ScriptEvent}
use Rattle.bench_play.specs.Bench.{LineAnswer, no_unit, unit_at, message_at, settle}
use Rattle.bench_play.specs.declared.Bench.{Bench}

-- 9 and 10 come before the unit's own numbers
unfoldable pub delivery_conditions : U.Unit → ℕ → ℕ → List Condition
delivery_conditions x kept k = condition Refusal.Power (not (is_up x.power)) ∷ condition Refusal.Unsent (leb kept k) ∷ []

unfoldable pub delivery : Limits → Bench → ℕ → ℕ → Answer
delivery l b u k = unless (delivery_conditions (unit_at b u) b.kept k) (unit_at b u) (deliver l (unit_at b u) (message_at b k))

-- W: as D, but the key goes off after the log write, if any; nothing is sent or decided. A refused W leaves the unit up
unfoldable pub cut_short : Answer → Answer
cut_short a = cond (eqb (number_of a.refusal) 0) (key_off a.unit) a

-- what the unit of an event answers; a malformed line is no unit's, and refused with 8
unfoldable pub unit_answer : Limits → Bench → ScriptEvent → Answer
unit_answer l b ScriptEvent.Malformed = refuses no_unit (Some Refusal.Line)
unit_answer l b (ScriptEvent.Propose u v) = propose l (unit_at b u) v
unit_answer l b (ScriptEvent.Deliver u k) = delivery l b u k
unit_answer l b (ScriptEvent.Cut u k) = cut_short (delivery l b u k)
unit_answer l b (ScriptEvent.KeyOff u) = key_off (unit_at b u)
unit_answer l b (ScriptEvent.KeyOn u) = key_on (unit_at b u)

unfoldable pub answer : Limits → Bench → ScriptEvent → LineAnswer
answer l b e = settle b (event_unit e) (unit_answer l b e)

-- an event line, and what it was answered
pub record Played : Type 0 where
  pub event : ScriptEvent
  pub answer : LineAnswer

-- play over a list of events
unfoldable pub play : Limits → Bench → List ScriptEvent → List Played
play l b [] = []
play l b (e ∷ es) = record { event = e; answer = answer l b e } ∷ play l (answer l b e).bench es

-- the bench after them
unfoldable pub bench_after : Limits → Bench → List ScriptEvent → Bench
bench_after l b [] = b
bench_after l b (e ∷ es) = bench_after l (answer l b e).bench es
