-- A played script as a history of crate agreement: the events of its accepted lines. Assumes nothing.
use Rattle.std.specs.Prelude.{ℕ, ◌<◌, ◌≡◌, Bool, cond, eqb, take, replicate}
use mathlib.Core.List.{List, [], ◌∷◌, map, flat_map}
use Rattle.tally.specs.Limits.{Limits, log_size, image_size}
use Rattle.tally.specs.Refusal.{number_of}
use Rattle.tally.specs.declared.Estimate.{Estimate}
use Rattle.tally.specs.declared.Estimate.TheVariants.{Blank, Split, Mileage}
use Rattle.formats.specs.Messages.{empty_bytes}
use Rattle.agreement.specs.Bytes as B
use Rattle.agreement.specs.Contents as C
use Rattle.agreement.specs.Worlds.{Setup, Proposal, Decision, run}
use Rattle.script.specs.Script.{event_unit}
use Rattle.script.specs.declared.ScriptEvent.{ScriptEvent}
use Rattle.script.specs.declared.Header.{Header}
use Rattle.bench_play.specs.Bench.{LineAnswer, start, unit_at}
use Rattle.bench_play.specs.Play.{Played, play}
use Rattle.bench_play.specs.declared.Bench.{Bench}

abbrev pub setup_of : Header → Setup
setup_of h = record { engine = h.engine; n = h.n; entry = h.entry }

-- each event's unit is below n
abbrev pub Below : ℕ → List ScriptEvent → Type 0
Below n [] = Unit
Below n (e ∷ es) = (event_unit e < n) × Below n es

-- ---- the events of agreement

abbrev pub line_accepted : LineAnswer → Bool
line_accepted r = eqb (number_of r.refusal) 0

-- what f gives of an accepted line's event; of a refused line nothing
abbrev pub of_accepted : {A : Type 0} → (ScriptEvent → List A) → Played → List A
of_accepted f p = cond (line_accepted p.answer) (f p.event) []

-- over contents; a malformed line is none
abbrev pub contents_event : ScriptEvent → List C.ContentsEvent
contents_event ScriptEvent.Malformed = []
contents_event (ScriptEvent.Propose u v) = C.proposal u v ∷ []
contents_event (ScriptEvent.Deliver u k) = C.delivery u k ∷ []
contents_event (ScriptEvent.Cut u k) = C.cut u k ∷ []
contents_event (ScriptEvent.KeyOff u) = C.off u ∷ []
contents_event (ScriptEvent.KeyOn u) = C.on u ∷ []

abbrev pub zeros : ℕ → List ℕ
zeros k = replicate k 0

-- over bytes: each is the call on the unit's own log and image, with an output or image buffer of the right length
abbrev pub byte_event : Limits → ScriptEvent → List B.Event
byte_event l ScriptEvent.Malformed = []
byte_event l (ScriptEvent.Propose u v) = B.proposal u v (empty_bytes l) ∷ []
byte_event l (ScriptEvent.Deliver u k) = B.delivery u k (empty_bytes l) ∷ []
byte_event l (ScriptEvent.Cut u k) = B.cut u k (empty_bytes l) ∷ []
byte_event l (ScriptEvent.KeyOff u) = B.off u ∷ []
byte_event l (ScriptEvent.KeyOn u) = B.on u (zeros (image_size l)) ∷ []

-- in the order of the lines
unfoldable pub history : Limits → Bench → List ScriptEvent → List C.ContentsEvent
history l b es = flat_map (of_accepted contents_event) (play l b es)

unfoldable pub byte_history : Limits → Bench → List ScriptEvent → List B.Event
byte_history l b es = flat_map (of_accepted (byte_event l)) (play l b es)

-- ---- what the lines show

-- the accepted proposals, in order
abbrev pub event_proposals : ScriptEvent → List Proposal
event_proposals ScriptEvent.Malformed = []
event_proposals (ScriptEvent.Propose u v) = record { unit = u; mileage = v } ∷ []
event_proposals (ScriptEvent.Deliver u k) = []
event_proposals (ScriptEvent.Cut u k) = []
event_proposals (ScriptEvent.KeyOff u) = []
event_proposals (ScriptEvent.KeyOn u) = []

unfoldable pub proposals : List Played → List Proposal
proposals lines = flat_map (of_accepted event_proposals) lines

-- the decisions shown, in order: a mileage, and the unit of the line
pub record ShownDecision : Type 0 where
  pub unit : ℕ
  pub mileage : ℕ

abbrev pub decided_of : ℕ → Estimate → List ShownDecision
decided_of u Blank = []
decided_of u Split = []
decided_of u (Mileage v) = record { unit = u; mileage = v } ∷ []

unfoldable pub decisions : List Played → List ShownDecision
decisions lines = flat_map (λ (p : Played). decided_of (event_unit p.event) p.answer.decision) lines

-- a decision of agreement, without its round
abbrev pub without_round : Decision → ShownDecision
without_round d = record { unit = d.unit; mileage = d.mileage }

-- ---- the bench and the worlds

-- the world w is the bench b after the lines: the same units below n, messages, proposals and decisions
pub record Shows (n : ℕ) (b : Bench) (lines : List Played) (w : C.ContentsWorld) : Type 0 where
  pub units : (u : ℕ) → u < n → w.units u ≡ unit_at b u
  pub sent : w.sent ≡ take b.kept b.messages
  pub proposed : w.proposed ≡ proposals lines
  pub decided : map without_round w.decided ≡ decisions lines

-- the world after a script
unfoldable pub contents_after : Limits → Header → List ScriptEvent → C.ContentsWorld
contents_after l h es = run (C.step l h.n) (C.begun (setup_of h)) (history l (start h) es)

-- at the start each unit is started in buffers of zeros
abbrev pub start_log : Limits → ℕ → List ℕ
start_log l u = zeros (log_size l)

abbrev pub start_image : Limits → ℕ → List ℕ
start_image l u = zeros (image_size l)

abbrev pub start_bytes : Limits → Header → B.ByteWorld
start_bytes l h = B.begun l (setup_of h) (start_log l) (start_image l)

unfoldable pub bytes_after : Limits → Header → List ScriptEvent → B.ByteWorld
bytes_after l h es = run (B.step l h.n) (start_bytes l h) (byte_history l (start h) es)
