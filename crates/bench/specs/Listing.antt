-- The listing of a script: parse, then play over a list of events, then print. Assumes nothing.
use Rattle.std.specs.Prelude.{ℕ, ◌+◌, cond, List, [], ◌∷◌, ◌++◌, leb, ltb, length, drop, Option, Some, None}
use Rattle.tally.specs.Limits.{Limits, script_size}
use Rattle.tally.specs.Refusal.{number_of}
use Rattle.tally.specs.declared.Estimate.{Estimate}
use Rattle.tally.specs.declared.Refusal.{Refusal}
use Rattle.formats.specs.Codes.{letter_of}
use Rattle.script.specs.Script.{Script, malformed, script, parse, question_mark, event_letter}
use Rattle.script.specs.declared.ScriptEvent.{ScriptEvent}
use Rattle.script.specs.declared.Header.{Header}
use Rattle.bench_play.specs.Bench.{LineAnswer, start}
use Rattle.bench_play.specs.Play.{Played, play, bench_after}
use Rattle.bench_text.specs.Text.{header_text, line_text, end_text}
use Rattle.bench_text.specs.declared.ListingLine.{ListingLine}
use Rattle.bench_text.specs.declared.Shown.{Shown}
use Rattle.bench.specs.Widths.{max_listing}

-- ---- a line for each event line: index from 1, letter, unit, number, message number sent or -, decision or -

abbrev pub unit_shown : ScriptEvent → Shown
unit_shown ScriptEvent.Malformed = Shown.Dash
unit_shown (ScriptEvent.Propose u v) = Shown.Number u
unit_shown (ScriptEvent.Deliver u k) = Shown.Number u
unit_shown (ScriptEvent.Cut u k) = Shown.Number u
unit_shown (ScriptEvent.KeyOff u) = Shown.Number u
unit_shown (ScriptEvent.KeyOn u) = Shown.Number u

abbrev pub sent_shown : Option ℕ → Shown
sent_shown None = Shown.Dash
sent_shown (Some k) = Shown.Number k

abbrev pub decision_shown : Estimate → Shown
decision_shown Estimate.Blank = Shown.Dash
decision_shown Estimate.Split = Shown.Dash
decision_shown (Estimate.Mileage v) = Shown.Number v

unfoldable pub line_with : ℕ → ScriptEvent → Option Refusal → Option ℕ → Estimate → ListingLine
line_with i e k s d =
    record { index = i; letter = event_letter e; unit = unit_shown e; number = number_of k; sent = sent_shown s; decision = decision_shown d }

unfoldable pub line_of : ℕ → ScriptEvent → LineAnswer → ListingLine
line_of i e r = line_with i e r.refusal r.sent r.decision

-- the lines of what was played, the first of them with index i
unfoldable pub lines_text : ℕ → List Played → List ℕ
lines_text i [] = []
lines_text i (p ∷ ps) = line_text (line_of i p.event p.answer) ++ lines_text (i + 1) ps

-- ---- the listing

-- the header with its letter
unfoldable pub header_line : Header → List ℕ
header_line h = header_text (letter_of h.engine) h.n h.entry

-- the final line has the event lines, malformed ones too, and the messages kept
unfoldable pub played_text : Limits → Header → List ScriptEvent → List ℕ
played_text l h es = header_line h ++ (lines_text 1 (play l (start h) es) ++ end_text (length es) (bench_after l (start h) es).kept)

-- `index,?,-,8,-,-`: what a malformed line prints (`malformed_line_lem`)
unfoldable pub malformed_line : ℕ → ListingLine
malformed_line i =
    record { index = i; letter = question_mark; unit = Shown.Dash; number = number_of (Some Refusal.Line); sent = Shown.Dash; decision = Shown.Dash }

-- a malformed header prints `0,?,-,8,-,-` and `end,0,0`
unfoldable pub malformed_text : List ℕ
malformed_text = line_text (malformed_line 0) ++ end_text 0 0

abbrev pub script_text : Limits → Script → List ℕ
script_text l malformed = malformed_text
script_text l (script h es) = played_text l h es

-- a script that is too long is a malformed header
unfoldable pub listing : Limits → List ℕ → List ℕ
listing l s = cond (leb (length s) script_size) (script_text l (parse s)) malformed_text

-- ---- the call: 1 and every byte as it was where the buffer is too short; else the listing's length, and its bytes before the buffer's own

pub record PrintAnswer : Type 0 where
  pub number : ℕ
  pub written : ℕ
  pub out : List ℕ

abbrev pub printed : ℕ → ℕ → List ℕ → PrintAnswer
printed k n out = record { number = k; written = n; out = out }

abbrev pub over : List ℕ → List ℕ → List ℕ
over text out = text ++ drop (length text) out

unfoldable pub listing_call : Limits → List ℕ → List ℕ → PrintAnswer
listing_call l s out =
    cond (ltb (length out) max_listing) (printed (number_of (Some Refusal.Length)) 0 out)
    (printed (number_of None) (length (listing l s)) (over (listing l s) out))
