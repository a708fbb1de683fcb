-- The script: its header and its events. Assumes nothing.
use Rattle.std.specs.Prelude.{ℕ, Bool, cond, ◌&&◌, List, [], ◌∷◌, leb, ltb, eqb, Option, Some, None}
use Rattle.tally.specs.Limits.{min_units, max_units, min_entry, max_entry}
use Rattle.tally.specs.declared.Engine.{Engine}
use Rattle.tally.specs.declared.Engine.TheVariants.{B}
use Rattle.formats.specs.Codes.{engine_of}
use Rattle.script.specs.Numbers.{read_number}
use Rattle.script.specs.Parts.{comma, newline, parted}
use Rattle.script.specs.declared.ScriptEvent.{ScriptEvent}
use Rattle.script.specs.declared.Header.{Header}

-- ---- numbers in fields

abbrev pub both : Option ℕ → Option ℕ → Option (ℕ × ℕ)
both (Some a) (Some b) = Some (a, b)
both (Some a) None = None
both None b = None

-- fields that are one number, or two; field counts are exact
abbrev pub one_of : List (List ℕ) → Option ℕ
one_of [] = None
one_of (a ∷ []) = read_number a
one_of (a ∷ b ∷ fs) = None

abbrev pub two_of : List (List ℕ) → Option (ℕ × ℕ)
two_of [] = None
two_of (a ∷ []) = None
two_of (a ∷ b ∷ []) = both (read_number a) (read_number b)
two_of (a ∷ b ∷ c ∷ fs) = None

-- ---- header: engine, n, entry

-- an empty engine field means B
abbrev pub empty_engine : ℕ → Engine
empty_engine n = B

abbrev pub engine_field : ℕ → List ℕ → Option Engine
engine_field n [] = Some (empty_engine n)
engine_field n (b ∷ []) = engine_of b
engine_field n (b ∷ c ∷ s) = None

-- n or entry outside the ranges is malformed
abbrev pub in_ranges : ℕ → ℕ → Bool
in_ranges n entry = leb min_units n && leb n max_units && leb min_entry entry && leb entry max_entry

abbrev pub header_with : Option Engine → ℕ → ℕ → Option Header
header_with (Some g) n entry = Some (record { engine = g; n = n; entry = entry })
header_with None n entry = None

abbrev pub with_numbers : List ℕ → Option (ℕ × ℕ) → Option Header
with_numbers f (Some (n, entry)) = cond (in_ranges n entry) (header_with (engine_field n f) n entry) None
with_numbers f None = None

abbrev pub header_fields : List (List ℕ) → Option Header
header_fields [] = None
header_fields (f ∷ fs) = with_numbers f (two_of fs)

unfoldable pub header_of : List ℕ → Option Header
header_of line = header_fields (parted comma line)

-- ---- events: P,unit,mileage; D,unit,message; W,unit,message; K,unit; U,unit

-- a unit number of n or more is malformed
abbrev pub unit_below : ℕ → Option ℕ → Option ℕ
unit_below n (Some u) = cond (ltb u n) (Some u) None
unit_below n None = None

abbrev pub pair_below : ℕ → Option (ℕ × ℕ) → Option (ℕ × ℕ)
pair_below n (Some (u, x)) = cond (ltb u n) (Some (u, x)) None
pair_below n None = None

abbrev pub of_one : (ℕ → ScriptEvent) → Option ℕ → ScriptEvent
of_one make (Some u) = make u
of_one make None = ScriptEvent.Malformed

abbrev pub of_two : (ℕ → ℕ → ScriptEvent) → Option (ℕ × ℕ) → ScriptEvent
of_two make (Some (u, x)) = make u x
of_two make None = ScriptEvent.Malformed

abbrev pub letter_p : ℕ
letter_p = 80

abbrev pub letter_d : ℕ
letter_d = 68

abbrev pub letter_w : ℕ
letter_w = 87

abbrev pub letter_k : ℕ
letter_k = 75

abbrev pub letter_u : ℕ
letter_u = 85

-- the script letter decides the event; all other bytes are malformed
unfoldable pub by_letter : ℕ → ℕ → List (List ℕ) → ScriptEvent
by_letter n b fs =
    cond (eqb b letter_p) (of_two ScriptEvent.Propose (pair_below n (two_of fs)))
    (cond (eqb b letter_d) (of_two ScriptEvent.Deliver (pair_below n (two_of fs)))
    (cond (eqb b letter_w) (of_two ScriptEvent.Cut (pair_below n (two_of fs)))
    (cond (eqb b letter_k) (of_one ScriptEvent.KeyOff (unit_below n (one_of fs)))
    (cond (eqb b letter_u) (of_one ScriptEvent.KeyOn (unit_below n (one_of fs)))
    ScriptEvent.Malformed))))

abbrev pub by_field : ℕ → List ℕ → List (List ℕ) → ScriptEvent
by_field n [] fs = ScriptEvent.Malformed
by_field n (b ∷ []) fs = by_letter n b fs
by_field n (b ∷ c ∷ s) fs = ScriptEvent.Malformed

abbrev pub event_fields : ℕ → List (List ℕ) → ScriptEvent
event_fields n [] = ScriptEvent.Malformed
event_fields n (f ∷ fs) = by_field n f fs

-- the event of a line, of which n and its bytes decide
unfoldable pub event_of : ℕ → List ℕ → ScriptEvent
event_of n line = event_fields n (parted comma line)

-- the letter of an event, as a listing shows it; ? for a malformed line
abbrev pub question_mark : ℕ
question_mark = 63

abbrev pub event_letter : ScriptEvent → ℕ
event_letter ScriptEvent.Malformed = question_mark
event_letter (ScriptEvent.Propose u v) = letter_p
event_letter (ScriptEvent.Deliver u k) = letter_d
event_letter (ScriptEvent.Cut u k) = letter_w
event_letter (ScriptEvent.KeyOff u) = letter_k
event_letter (ScriptEvent.KeyOn u) = letter_u

-- the unit of an event; 0 where there is none
abbrev pub event_unit : ScriptEvent → ℕ
event_unit ScriptEvent.Malformed = 0
event_unit (ScriptEvent.Propose u v) = u
event_unit (ScriptEvent.Deliver u k) = u
event_unit (ScriptEvent.Cut u k) = u
event_unit (ScriptEvent.KeyOff u) = u
event_unit (ScriptEvent.KeyOn u) = u

-- ---- lines

-- after the header each part but the last is a line; bytes after the last byte 10 are a malformed one
abbrev pub unended : List ℕ → List ScriptEvent
unended [] = []
unended (b ∷ s) = ScriptEvent.Malformed ∷ []

unfoldable pub events_of : ℕ → List (List ℕ) → List ScriptEvent
events_of n [] = []
events_of n (p ∷ []) = unended p
events_of n (p ∷ q ∷ ps) = event_of n p ∷ events_of n (q ∷ ps)

-- a script as it is read
pub data Script : Type 0 where
  malformed : Script
  script : Header → List ScriptEvent → Script

abbrev pub with_header : Option Header → List (List ℕ) → Script
with_header (Some h) ps = script h (events_of h.n ps)
with_header None ps = malformed

-- a header that no byte 10 ends is malformed, and so is an empty script
abbrev pub from_lines : List (List ℕ) → Script
from_lines [] = malformed
from_lines (l ∷ []) = malformed
from_lines (l ∷ p ∷ ps) = with_header (header_of l) (p ∷ ps)

unfoldable pub parse : List ℕ → Script
parse s = from_lines (parted newline s)
