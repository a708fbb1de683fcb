-- The text of a listing's lines. Assumes nothing.
use Rattle.std.specs.Prelude.{ℕ, zero, suc, ◌+◌, ◌/◌, ◌%◌, cond, List, [], ◌∷◌, ◌++◌, ltb}
use Rattle.script.specs.Numbers.{digit_zero, max_digits}
use Rattle.script.specs.Parts.{comma, newline}
use Rattle.bench_text.specs.declared.ListingLine.{ListingLine}
use Rattle.bench_text.specs.declared.Shown.{Shown}

-- n in decimal, in at most k digits
abbrev pub digits : ℕ → ℕ → List ℕ
digits zero n = []
digits (suc k) n = cond (ltb n 10) ((digit_zero + n) ∷ []) (digits k (n / 10) ++ ((digit_zero + n % 10) ∷ []))

unfoldable pub decimal : ℕ → List ℕ
decimal n = digits max_digits n

abbrev pub dash : ℕ
dash = 45

unfoldable pub shown_text : Shown → List ℕ
shown_text Shown.Dash = dash ∷ []
shown_text (Shown.Letter b) = b ∷ []
shown_text (Shown.Number n) = decimal n

-- a field and the byte after it
unfoldable pub field_text : Shown → ℕ → List ℕ
field_text s b = shown_text s ++ (b ∷ [])

-- fields parted by commas, and byte 10
abbrev pub fields_text : List Shown → List ℕ
fields_text [] = newline ∷ []
fields_text (s ∷ []) = field_text s newline
fields_text (s ∷ t ∷ ss) = field_text s comma ++ fields_text (t ∷ ss)

-- the header with its letter
unfoldable pub header_text : ℕ → ℕ → ℕ → List ℕ
header_text letter n entry = fields_text (Shown.Letter letter ∷ Shown.Number n ∷ Shown.Number entry ∷ [])

-- index, letter, unit, number, message number sent or -, decision or -
abbrev pub line_fields : ListingLine → List Shown
line_fields r = Shown.Number r.index ∷ Shown.Letter r.letter ∷ r.unit ∷ Shown.Number r.number ∷ r.sent ∷ r.decision ∷ []

unfoldable pub line_text : ListingLine → List ℕ
line_text r = fields_text (line_fields r)

-- the bytes e, n, d and a comma
abbrev pub end_prefix : List ℕ
end_prefix = 101 ∷ 110 ∷ 100 ∷ comma ∷ []

-- the final line: event lines and messages kept
unfoldable pub end_text : ℕ → ℕ → List ℕ
end_text events kept = end_prefix ++ fields_text (Shown.Number events ∷ Shown.Number kept ∷ [])
