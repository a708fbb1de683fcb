-- What is claimed of the bench's answers. Assumes nothing.
use Rattle.std.specs.Prelude.{ℕ, zero, suc, ◌≤◌, ◌<◌, ◌≡◌, length, Option, Some, None}
use mathlib.Core.List.{List, [], ◌∷◌, flat_map}
use Rattle.tally.specs.Limits.{Limits, senders, places}
use Rattle.tally.specs.Refusal.{number_of}
use Rattle.tally.specs.declared.Estimate.TheVariants.{Blank}
use Rattle.contents.specs.declared.Kind.TheVariants.{Empty}
use Rattle.script.specs.declared.ScriptEvent.{ScriptEvent}
use Rattle.bench_play.specs.Play.{Played, unit_answer}
use Rattle.bench_play.specs.Bench.{LineAnswer, message_at}
use Rattle.bench_play.specs.declared.Bench.{Bench}

-- 16 units and 128 places, as the code's types say, of which at most 128 are filled
pub record Sized (b : Bench) : Type 0 where
  pub units : length b.units ≡ senders
  pub messages : length b.messages ≡ places
  pub kept : b.kept ≤ places

-- from the bench b to a later one c: no fewer messages are kept, and each that was is the same
pub record KeptStays (b c : Bench) : Type 0 where
  pub kept : b.kept ≤ c.kept
  pub messages : (k : ℕ) → k < b.kept → message_at c k ≡ message_at b k

-- a refused line changes nothing, sends nothing and decides nothing
pub record Unchanged (b : Bench) (r : LineAnswer) : Type 0 where
  pub bench : r.bench ≡ b
  pub sent : r.sent ≡ None
  pub decision : r.decision ≡ Blank

-- the event would send: its unit accepts it, with a message
pub record WouldSend (l : Limits) (b : Bench) (e : ScriptEvent) : Type 0 where
  pub accepted : number_of (unit_answer l b e).refusal ≡ 0
  pub message : (unit_answer l b e).message.kind ≡ Empty → ⊥

-- P or D
pub data Sending : ScriptEvent → Type 0 where
  of_p : {u v : ℕ} → Sending (ScriptEvent.Propose u v)
  of_d : {u k : ℕ} → Sending (ScriptEvent.Deliver u k)

-- 11: all places are filled, and the event, a P or a D, would send
pub record NoPlace (l : Limits) (b : Bench) (e : ScriptEvent) : Type 0 where
  pub kept : b.kept ≡ places
  pub would : WouldSend l b e
  pub sending : Sending e

-- j numbers, from k on
abbrev pub rising : ℕ → ℕ → List ℕ
rising k zero = []
rising k (suc j) = k ∷ rising (suc k) j

-- the message numbers shown, in order: one for each line that sent a message
abbrev pub sent_of : Option ℕ → List ℕ
sent_of None = []
sent_of (Some k) = k ∷ []

unfoldable pub sent_numbers : List Played → List ℕ
sent_numbers lines = flat_map (λ (p : Played). sent_of p.answer.sent) lines
