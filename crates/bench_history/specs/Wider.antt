-- What is claimed of other limits: a script in which no line gave 6 prints the same listing. Assumes nothing.
use Rattle.std.specs.Prelude.{ℕ, ◌≤◌, ◌≡◌, List, length, Some}
use mathlib.Core.List.{Memᴰ}
use Rattle.tally.specs.Limits.{Limits, script_size}
use Rattle.tally.specs.Refusal.{number_of}
use Rattle.tally.specs.declared.Refusal.{Refusal}
use Rattle.script.specs.Script.{script, parse}
use Rattle.script.specs.declared.ScriptEvent.{ScriptEvent}
use Rattle.script.specs.declared.Header.{Header}
use Rattle.bench_play.specs.Play.{Played}
use Rattle.bench.specs.Listing.{listing}
use Rattle.bench_history.specs.Covered.{played_lines}

-- no line of the script s, where it is read, gives 6. It is the number that counts, and not the mileage: a P to a unit that is down gives 9
abbrev pub NoSix : Limits → List ℕ → Type 0
NoSix l s =
    (h : Header) (es : List ScriptEvent) → length s ≤ script_size → parse s ≡ script h es → (p : Played) → Memᴰ p (played_lines l h es)
    → number_of p.answer.refusal ≡ number_of (Some Refusal.Mileage)
    → ⊥

-- where no line gave 6 at the limits o, the listing at l is the same to the last byte
abbrev pub KeepsListings : Limits → Limits → Type 0
KeepsListings o l = (s : List ℕ) → NoSix o s → listing l s ≡ listing o s
