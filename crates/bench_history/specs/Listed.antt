-- What is claimed of a script, as bytes. Assumes nothing.
use Rattle.std.specs.Prelude.{ℕ, ◌≤◌, ◌<◌, ◌≡◌, List, ◌++◌, length}
use Rattle.tally.specs.Limits.{Limits, script_size}
use Rattle.script.specs.Script.{malformed, script, parse}
use Rattle.script.specs.declared.ScriptEvent.{ScriptEvent}
use Rattle.script.specs.declared.Header.{Header}
use Rattle.bench_text.specs.Text.{end_text}
use Rattle.bench.specs.Listing.{lines_text, header_line, malformed_text, listing}
use Rattle.bench_play.specs.Claims.{sent_numbers}
use Rattle.bench_history.specs.Covered.{played_lines, Covered}

pub record Listed (l : Limits) (s : List ℕ) : Type 0 where
  -- where it is read as the header h and the events es, these are covered
  pub covered : (h : Header) (es : List ScriptEvent) → parse s ≡ script h es → Covered l h es
  -- its listing has the header, a line for each of the script's, and on the final line how many these are and how many of them sent a message
  pub lines : (h : Header) (es : List ScriptEvent) → length s ≤ script_size → parse s ≡ script h es
      → listing l s
      ≡ header_line h ++ (lines_text 1 (played_lines l h es) ++ end_text (length (played_lines l h es)) (length (sent_numbers (played_lines l h es))))
  -- any other prints as a malformed header
  pub too_long : script_size < length s → listing l s ≡ malformed_text
  pub unread : parse s ≡ malformed → listing l s ≡ malformed_text
