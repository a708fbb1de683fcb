-- Everything that is claimed of a played script, in one record. Assumes nothing.
use Rattle.std.specs.Prelude.{ℕ, ◌≤◌, ◌<◌, ◌≡◌, length, Some, None}
use mathlib.Core.List.{List, [], ◌∷◌, ◌++◌, map, Memᴰ}
use Rattle.tally.specs.Limits.{Limits, places}
use Rattle.tally.specs.Refusal.{number_of}
use Rattle.tally.specs.declared.Estimate.TheVariants.{Mileage}
use Rattle.tally.specs.declared.Refusal.{Refusal}
use Rattle.agreement.specs.Bytes as B
use Rattle.agreement.specs.Demand3.{view}
use Rattle.agreement.specs.Encoded.{Encodes}
use Rattle.agreement.specs.Worlds.{Agreed}
use Rattle.script.specs.declared.ScriptEvent.{ScriptEvent}
use Rattle.script.specs.declared.Header.{Header}
use Rattle.bench_play.specs.Bench.{start}
use Rattle.bench_play.specs.Claims.{Sized, Unchanged, WouldSend, NoPlace, rising, sent_numbers}
use Rattle.bench_play.specs.Play.{Played, answer, play, bench_after}
use Rattle.bench_play.specs.declared.Bench.{Bench}
use Rattle.bench_history.specs.Calls.{OwnCall}
use Rattle.bench_history.specs.History.{setup_of, byte_history, Shows, contents_after, start_log, start_image, start_bytes, bytes_after}

abbrev pub reached : Limits → Header → List ScriptEvent → Bench
reached l h es = bench_after l (start h) es

abbrev pub played_lines : Limits → Header → List ScriptEvent → List Played
played_lines l h es = play l (start h) es

-- a fact of each line, given the lines before it
abbrev pub EachLine : List ScriptEvent → (List ScriptEvent → ScriptEvent → Type 0) → Type 0
EachLine es P = (before later : List ScriptEvent) (e : ScriptEvent) → es ≡ before ++ (e ∷ later) → P before e

-- an accepted line in which a unit proposes v
pub record ProposedIn (v : ℕ) (lines : List Played) : Type 0 where
  pub line : Played
  pub there : Memᴰ line lines
  pub by : ℕ
  pub event : line.event ≡ ScriptEvent.Propose by v
  pub accepted : number_of line.answer.refusal ≡ 0

-- the numbers that a script meets: 1 to 4 and 7 are not among them
abbrev pub met : List ℕ
met =
    map number_of
    (None ∷ Some Refusal.Addressee ∷ Some Refusal.Mileage ∷ Some Refusal.Line ∷ Some Refusal.Power ∷ Some Refusal.Unsent ∷ Some Refusal.Full ∷ [])

-- of the header h and the events es
pub record Covered (l : Limits) (h : Header) (es : List ScriptEvent) : Type 0 where
  pub sized : Sized (reached l h es)
  -- the accepted lines are a history over contents, whose units, messages, proposals and decisions are the bench's
  pub contents : Shows h.n (reached l h es) (played_lines l h es) (contents_after l h es)
  -- and one over bytes, from units that are started, whose bytes are those of these contents
  pub started : (u : ℕ) → u < h.n → (B.start_of l (setup_of h) (start_log l) (start_image l) u).number ≡ 0
  pub bytes : Encodes l h.n (bytes_after l h es) (contents_after l h es)
  -- each line is the call on its unit's own log and image, of which the bench makes what `settle` says, and each message delivered was sent
  pub calls : EachLine es (λ before e. OwnCall l (bytes_after l h before) (reached l h before) e)
  -- demand 3 asks that each event `call`, of buffers of the host's choice, be refused; this history has none
  pub lawful : B.Lawful l h.n (start_bytes l h) (byte_history l (start h) es)
  -- so that demand 3 holds of it
  pub agreed : Agreed (setup_of h) (view l) (B.step l h.n) (start_bytes l h) (byte_history l (start h) es)
  -- any two decisions shown are the same
  pub decisions_same : (p q : Played) → Memᴰ p (played_lines l h es) → Memᴰ q (played_lines l h es) → (v w : ℕ)
      → p.answer.decision ≡ Mileage v
      → q.answer.decision ≡ Mileage w
      → v ≡ w
  -- each was proposed on an earlier line
  pub decision_proposed : EachLine es (λ before e.
      (v : ℕ) → (answer l (reached l h before) e).decision ≡ Mileage v → ProposedIn v (played_lines l h before))
  -- 11 exactly where no place is left for a message
  pub full_only : EachLine es (λ before e. (answer l (reached l h before) e).refusal ≡ Some Refusal.Full → NoPlace l (reached l h before) e)
  pub full_met : EachLine es (λ before e.
      WouldSend l (reached l h before) e → (reached l h before).kept ≡ places → (answer l (reached l h before) e).refusal ≡ Some Refusal.Full)
  -- a refused line changes nothing
  pub refused_stays : EachLine es (λ before e.
      (number_of (answer l (reached l h before) e).refusal ≡ 0 → ⊥) → Unchanged (reached l h before) (answer l (reached l h before) e))
  -- as many lines are played as the script has; as many messages kept as lines that sent one, and their numbers are 0, 1, 2 and so on
  pub as_many : length (played_lines l h es) ≡ length es
  pub kept : (reached l h es).kept ≡ length (sent_numbers (played_lines l h es))
  pub numbers : sent_numbers (played_lines l h es) ≡ rising 0 (reached l h es).kept
  -- where rounds go up to 128 or above, 1 to 4 and 7 are never met
  pub numbers_met : places ≤ l.last_round → (p : Played) → Memᴰ p (played_lines l h es) → Memᴰ (number_of p.answer.refusal) met
