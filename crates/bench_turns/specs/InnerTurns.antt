-- What inner functions promise, of which no public call's contract speaks: an event as a turn of its unit. Assumes nothing.
use Rattle.std.specs.Prelude.{ℕ, Bool, true, false, cond, ltb, eqb, Option, Some, None}
use Rattle.tally.specs.Limits.{Limits, places}
use Rattle.tally.specs.Refusal.{number_of}
use Rattle.tally.specs.declared.Estimate.{Estimate}
use Rattle.tally.specs.declared.Estimate.TheVariants.{Blank}
use Rattle.tally.specs.declared.Refusal.{Refusal}
use Rattle.contents.specs.Messages.{is_empty}
use Rattle.contents.specs.declared.Message.{Message}
use Rattle.consensus.specs.Methods.{refuses, unless, propose, deliver, key_off, key_on}
use Rattle.consensus.specs.declared.Answer.{Answer}
use Rattle.consensus.specs.declared.Unit as U
use Rattle.script.specs.declared.ScriptEvent.{ScriptEvent}
use Rattle.bench_play.specs.Bench.{no_place_left}
use Rattle.bench_play.specs.Play.{delivery_conditions, cut_short}
use Rattle.bench_turns.specs.declared.LineOutcome.{LineOutcome}

-- ---- what an event takes of the bench: its unit, and the message at this place

-- the unit of an event that has one
abbrev pub unit_of : ScriptEvent → Option ℕ
unit_of ScriptEvent.Malformed = None
unit_of (ScriptEvent.Propose u v) = Some u
unit_of (ScriptEvent.Deliver u k) = Some u
unit_of (ScriptEvent.Cut u k) = Some u
unit_of (ScriptEvent.KeyOff u) = Some u
unit_of (ScriptEvent.KeyOn u) = Some u

-- a place's number, or the first
abbrev pub place_or_first : ℕ → ℕ
place_or_first k = cond (ltb k places) k 0

abbrev pub event_place : ScriptEvent → ℕ
event_place ScriptEvent.Malformed = 0
event_place (ScriptEvent.Propose u v) = 0
event_place (ScriptEvent.Deliver u k) = place_or_first k
event_place (ScriptEvent.Cut u k) = place_or_first k
event_place (ScriptEvent.KeyOff u) = 0
event_place (ScriptEvent.KeyOn u) = 0

-- ---- what its unit x answers, with that many messages kept and m at that place

unfoldable pub turn_delivery : Limits → U.Unit → ℕ → Message → ℕ → Answer
turn_delivery l x kept m k = unless (delivery_conditions x kept k) x (deliver l x m)

unfoldable pub turn : Limits → U.Unit → ℕ → Message → ScriptEvent → Answer
turn l x kept m ScriptEvent.Malformed = refuses x (Some Refusal.Line)
turn l x kept m (ScriptEvent.Propose u v) = propose l x v
turn l x kept m (ScriptEvent.Deliver u k) = turn_delivery l x kept m k
turn l x kept m (ScriptEvent.Cut u k) = cut_short (turn_delivery l x kept m k)
turn l x kept m (ScriptEvent.KeyOff u) = key_off x
turn l x kept m (ScriptEvent.KeyOn u) = key_on x

-- ---- what comes of it

abbrev pub refused_outcome : Option Refusal → LineOutcome
refused_outcome k = record { refusal = k; sent = None; decision = Blank }

abbrev pub accepted_outcome : Option ℕ → Estimate → LineOutcome
accepted_outcome s d = record { refusal = None; sent = s; decision = d }

-- what comes of an answer, with that many messages kept: as `send` and `settle` say, without the bench
abbrev pub send_outcome : ℕ → Estimate → LineOutcome
send_outcome kept d = cond (no_place_left kept) (refused_outcome (Some Refusal.Full)) (accepted_outcome (Some kept) d)

unfoldable pub outcome_of : ℕ → Answer → LineOutcome
outcome_of kept a =
    cond (eqb (number_of a.refusal) 0)
    (cond (is_empty a.message.kind) (accepted_outcome None a.decision) (send_outcome kept a.decision))
    (refused_outcome a.refusal)

abbrev pub is_accepted : LineOutcome → Bool
is_accepted o = eqb (number_of o.refusal) 0

abbrev pub is_sent : Option ℕ → Bool
is_sent None = false
is_sent (Some k) = true
