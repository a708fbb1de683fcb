-- What inner functions promise, of which no public call's contract speaks: a listing line by line. Assumes nothing.
use Rattle.std.specs.Prelude.{ℕ, ◌+◌, ◌≡◌, ◌<◌, ◌≤◌, List, ◌∷◌, ◌++◌, length, drop}
use Rattle.tally.specs.Limits.{Limits}
use Rattle.script.specs.Parts.{newline, parted}
use Rattle.script.specs.Script.{events_of, event_unit}
use Rattle.script.specs.declared.ScriptEvent.{ScriptEvent}
use Rattle.bench_play.specs.Play.{play, bench_after}
use Rattle.bench_play.specs.declared.Bench.{Bench}
use Rattle.bench_text.specs.Text.{end_text}
use Rattle.bench.specs.Listing.{lines_text}

-- the events of a script's lines after the header
unfoldable pub events_in : ℕ → List ℕ → List ScriptEvent
events_in n s = events_of n (parted newline s)

-- the first line of what is left: its event, and where the next line begins
pub record LineAt (n : ℕ) (s : List ℕ) (event : ScriptEvent) (next : ℕ) : Type 0 where
  pub events : events_in n s ≡ event ∷ events_in n (drop next s)
  pub later : 0 < next
  pub within : next ≤ length s
  pub unit : 0 < n → event_unit event < n

-- what is left to print after i lines, with the bench b and the events es
unfoldable pub rest_text : Limits → Bench → ℕ → List ScriptEvent → List ℕ
rest_text l b i es = lines_text (i + 1) (play l b es) ++ end_text (i + length es) (bench_after l b es).kept
