-- Worked cases of numbers, headers, events and whole scripts in one table. Assumes nothing.
use Rattle.std.specs.Prelude.{Option, Some, None}
use Prim.Native.Nat.{ℕ, ◌+◌}
use mathlib.Core.Path.{◌≡◌, refl}
use mathlib.Core.List.{List, [], ◌∷◌, ◌++◌, map}
use Rattle.tally.specs.declared.Engine.{Engine}
use Rattle.script.specs.Numbers.{digit_zero, is_number, read_number}
use Rattle.script.specs.Parts.{newline, comma}
use Rattle.script.specs.Script.{letter_p, letter_d, letter_w, letter_k, letter_u, header_of, by_letter, event_of, Script, malformed, script, events_of, parse}
use Rattle.script.specs.declared.ScriptEvent.{ScriptEvent}
use Rattle.script.specs.declared.Header.{Header}

-- the bytes of a field, of a header, of a line with n = 3, and of a script
pub data Question : Type 0 where
  field header line whole : List ℕ → Question

pub data Outcome : Type 0 where
  a_number : Option ℕ → Outcome
  a_header : Option Header → Outcome
  an_event : ScriptEvent → Outcome
  a_script : Script → Outcome

abbrev outcome : Question → Outcome
outcome (field s) = a_number (read_number s)
outcome (header s) = a_header (header_of s)
outcome (line s) = an_event (event_of 3 s)
outcome (whole s) = a_script (parse s)

pub record Case : Type 0 where
  pub question : Question
  pub expected : Outcome

-- ---- bytes

abbrev digits : List ℕ → List ℕ
digits = map (λ d. digit_zero + d)

-- with commas between
abbrev fields : List (List ℕ) → List ℕ
fields [] = []
fields (f ∷ []) = f
fields (f ∷ g ∷ fs) = f ++ comma ∷ fields (g ∷ fs)

-- a byte, and fields of digits
abbrev with : ℕ → List (List ℕ) → List ℕ
with b fs = fields ((b ∷ []) ∷ map digits fs)

abbrev ended : List ℕ → List ℕ
ended s = s ++ newline ∷ []

abbrev B : ℕ
B = 66

abbrev R : ℕ
R = 82

-- lower case, a space, a plus sign, a quote, byte 13
abbrev b : ℕ
b = 98

abbrev k : ℕ
k = 107

abbrev space : ℕ
space = 32

abbrev plus : ℕ
plus = 43

abbrev quote : ℕ
quote = 34

abbrev return : ℕ
return = 13

-- ---- cases

abbrev number : List ℕ → ℕ → Case
number ds v = record { question = field (digits ds); expected = a_number (Some v) }

abbrev no_number : List ℕ → Case
no_number s = record { question = field s; expected = a_number None }

abbrev heads : List ℕ → Engine → ℕ → ℕ → Case
heads s engine n entry = record { question = header s; expected = a_header (Some (record { engine = engine; n = n; entry = entry })) }

abbrev no_header : List ℕ → Case
no_header s = record { question = header s; expected = a_header None }

abbrev event : List ℕ → ScriptEvent → Case
event s e = record { question = line s; expected = an_event e }

abbrev no_event : List ℕ → Case
no_event s = event s ScriptEvent.Malformed

abbrev reads : List ℕ → Script → Case
reads s r = record { question = whole s; expected = a_script r }

abbrev b37 : Header
b37 = record { engine = Engine.B; n = 3; entry = 7 }

-- the line B,3,7
abbrev head : List ℕ
head = with B ((3 ∷ []) ∷ (7 ∷ []) ∷ [])

abbrev cases : List Case
cases =
    -- 0; 00; 01; 120; 4294967295; 4294967296; 9999999999; eleven digits; none; a sign, a space, a quote
    number (0 ∷ []) 0
    ∷ no_number (digits (0 ∷ 0 ∷ []))
    ∷ no_number (digits (0 ∷ 1 ∷ []))
    ∷ number (1 ∷ 2 ∷ 0 ∷ []) 120
    ∷ number (4 ∷ 2 ∷ 9 ∷ 4 ∷ 9 ∷ 6 ∷ 7 ∷ 2 ∷ 9 ∷ 5 ∷ []) 4294967295
    ∷ no_number (digits (4 ∷ 2 ∷ 9 ∷ 4 ∷ 9 ∷ 6 ∷ 7 ∷ 2 ∷ 9 ∷ 6 ∷ []))
    ∷ no_number (digits (9 ∷ 9 ∷ 9 ∷ 9 ∷ 9 ∷ 9 ∷ 9 ∷ 9 ∷ 9 ∷ 9 ∷ []))
    ∷ no_number (digits (1 ∷ 0 ∷ 0 ∷ 0 ∷ 0 ∷ 0 ∷ 0 ∷ 0 ∷ 0 ∷ 0 ∷ 0 ∷ []))
    ∷ no_number []
    ∷ no_number (plus ∷ digits (1 ∷ []))
    ∷ no_number (space ∷ digits (1 ∷ []))
    ∷ no_number (quote ∷ digits (1 ∷ []))
    -- ,3,7; B,3,7; R,16,9999; B,3,1
    ∷ heads (fields ([] ∷ digits (3 ∷ []) ∷ digits (7 ∷ []) ∷ [])) Engine.B 3 7
    ∷ heads head Engine.B 3 7
    ∷ heads (with R ((1 ∷ 6 ∷ []) ∷ (9 ∷ 9 ∷ 9 ∷ 9 ∷ []) ∷ [])) Engine.R 16 9999
    ∷ heads (with B ((3 ∷ []) ∷ (1 ∷ []) ∷ [])) Engine.B 3 1
    -- B,2,7; B,17,7; B,3,0; B,3,10000; b,3,7; BB,3,7; B,3; B,3,7 and a comma
    ∷ no_header (with B ((2 ∷ []) ∷ (7 ∷ []) ∷ []))
    ∷ no_header (with B ((1 ∷ 7 ∷ []) ∷ (7 ∷ []) ∷ []))
    ∷ no_header (with B ((3 ∷ []) ∷ (0 ∷ []) ∷ []))
    ∷ no_header (with B ((3 ∷ []) ∷ (1 ∷ 0 ∷ 0 ∷ 0 ∷ 0 ∷ []) ∷ []))
    ∷ no_header (with b ((3 ∷ []) ∷ (7 ∷ []) ∷ []))
    ∷ no_header (B ∷ head)
    ∷ no_header (with B ((3 ∷ []) ∷ []))
    ∷ no_header (head ++ comma ∷ [])
    -- P,0,5; D,0,0; W,2,12; K,0; U,2
    ∷ event (with letter_p ((0 ∷ []) ∷ (5 ∷ []) ∷ [])) (ScriptEvent.Propose 0 5)
    ∷ event (with letter_d ((0 ∷ []) ∷ (0 ∷ []) ∷ [])) (ScriptEvent.Deliver 0 0)
    ∷ event (with letter_w ((2 ∷ []) ∷ (1 ∷ 2 ∷ []) ∷ [])) (ScriptEvent.Cut 2 12)
    ∷ event (with letter_k ((0 ∷ []) ∷ [])) (ScriptEvent.KeyOff 0)
    ∷ event (with letter_u ((2 ∷ []) ∷ [])) (ScriptEvent.KeyOn 2)
    -- D,1; K,3 and P,3,5: unit n; P,0,5 and a comma; K,0,0; K,00; k,0; K and a comma; K; an empty line
    ∷ no_event (with letter_d ((1 ∷ []) ∷ []))
    ∷ no_event (with letter_k ((3 ∷ []) ∷ []))
    ∷ no_event (with letter_p ((3 ∷ []) ∷ (5 ∷ []) ∷ []))
    ∷ no_event (with letter_p ((0 ∷ []) ∷ (5 ∷ []) ∷ [] ∷ []))
    ∷ no_event (with letter_k ((0 ∷ []) ∷ (0 ∷ []) ∷ []))
    ∷ no_event (with letter_k ((0 ∷ 0 ∷ []) ∷ []))
    ∷ no_event (with k ((0 ∷ []) ∷ []))
    ∷ no_event (with letter_k ([] ∷ []))
    ∷ no_event (letter_k ∷ [])
    ∷ no_event []
    -- K,0 with byte 13 after it
    ∷ no_event (with letter_k ((0 ∷ []) ∷ []) ++ return ∷ [])
    -- scripts: none; a header without its byte 10; a header; with K,0; with bytes after the last byte 10; with an empty line
    ∷ reads [] malformed
    ∷ reads head malformed
    ∷ reads (ended head) (script b37 [])
    ∷ reads (ended head ++ ended (with letter_k ((0 ∷ []) ∷ []))) (script b37 (ScriptEvent.KeyOff 0 ∷ []))
    ∷ reads (ended head ++ with letter_k ((0 ∷ []) ∷ [])) (script b37 (ScriptEvent.Malformed ∷ []))
    ∷ reads (ended head ++ newline ∷ []) (script b37 (ScriptEvent.Malformed ∷ []))
    ∷ []

pub all_cases_hold : map (λ c. outcome c.question) cases ≡ map (λ c. c.expected) cases
unfolding is_number read_number header_of by_letter event_of events_of parse
all_cases_hold = refl
