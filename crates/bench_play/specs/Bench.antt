-- The bench: its units and its message places. Assumes nothing.
use Rattle.std.specs.Prelude.{ℕ, zero, suc, ◌+◌, Bool, cond, List, [], ◌∷◌, ◌++◌, leb, eqb, get_or, set, replicate, Option, Some, None}
use Rattle.tally.specs.Limits.{places, senders}
use Rattle.tally.specs.Refusal.{number_of}
use Rattle.tally.specs.declared.Engine.TheVariants.{B}
use Rattle.tally.specs.declared.Estimate.{Estimate}
use Rattle.tally.specs.declared.Estimate.TheVariants.{Blank}
use Rattle.tally.specs.declared.Refusal.{Refusal}
use Rattle.contents.specs.Messages.{is_empty, empty_message}
use Rattle.contents.specs.declared.Message.{Message}
use Rattle.contents.specs.declared.Settings.{Settings}
use Rattle.consensus.specs.Step.{fresh, clean}
use Rattle.consensus.specs.declared.Answer.{Answer}
use Rattle.consensus.specs.declared.Power.TheVariants.{Down}
use Rattle.consensus.specs.declared.Unit as U
use Rattle.script.specs.declared.Header.{Header}
use Rattle.bench_play.specs.declared.Bench.{Bench}

-- ---- at the start

abbrev pub header_settings : Header → ℕ → Settings
header_settings h u = record { engine = h.engine; n = h.n; unit = u; entry = h.entry }

-- the first k units, all up and fresh
unfoldable pub fresh_units : Header → ℕ → List U.Unit
fresh_units h zero = []
fresh_units h (suc k) = fresh_units h k ++ (fresh (header_settings h k) ∷ [])

-- 128 message places, all empty; the units from n on are no event's
unfoldable pub start : Header → Bench
start h = record { units = fresh_units h senders; messages = replicate places empty_message; kept = 0 }

-- ---- units and messages by number

-- the unit of a malformed line, and what there would be past the last unit, of which there is no event
abbrev pub no_unit : U.Unit
no_unit =
    record {
      power = Down;
      settings = record { engine = B; n = 0; unit = 0; entry = 0 };
      logged = clean 0 Blank;
      current = clean 0 Blank;
      checks = record { marks = 0; cells = [] };
      seconds = record { marks = 0; cells = [] };
    }

unfoldable pub unit_at : Bench → ℕ → U.Unit
unit_at b u = get_or b.units u no_unit

-- messages are numbered from 0; past the places there is none
unfoldable pub message_at : Bench → ℕ → Message
message_at b k = get_or b.messages k empty_message

-- ---- answers

-- what an event is answered: a refusal or None, the bench after it, the message sent, and a mileage decided or blank
pub record LineAnswer : Type 0 where
  pub bench : Bench
  pub refusal : Option Refusal
  pub sent : Option ℕ
  pub decision : Estimate

-- a refused event changes nothing, sends nothing and decides nothing
abbrev pub refused : Bench → Option Refusal → LineAnswer
refused b k = record { bench = b; refusal = k; sent = None; decision = Blank }

abbrev pub accepted : Bench → Option ℕ → Estimate → LineAnswer
accepted b s d = record { bench = b; refusal = None; sent = s; decision = d }

-- 11: no place is left, with that many messages kept
unfoldable pub no_place_left : ℕ → Bool
no_place_left kept = leb places kept

-- unit u is x from now on
unfoldable pub with_unit : Bench → ℕ → U.Unit → Bench
with_unit b u x = record { units = set b.units u x; messages = b.messages; kept = b.kept }

-- a message takes the next place: places are filled from the front, and nothing is removed
unfoldable pub with_message : Bench → Message → Bench
with_message b m = record { units = b.units; messages = set b.messages b.kept m; kept = b.kept + 1 }

-- 11 is last, and refuses the whole event
unfoldable pub send : Bench → ℕ → Answer → LineAnswer
send b u a =
    cond (no_place_left b.kept) (refused b (Some Refusal.Full))
    (accepted (with_message (with_unit b u a.unit) a.message) (Some b.kept) a.decision)

-- what unit u's answer makes of the bench
unfoldable pub settle : Bench → ℕ → Answer → LineAnswer
settle b u a =
    cond (eqb (number_of a.refusal) 0)
    (cond (is_empty a.message.kind) (accepted (with_unit b u a.unit) None a.decision) (send b u a))
    (refused b a.refusal)
