-- Worked lines of a listing in one table. Assumes nothing.
use Prim.Native.Nat.{ℕ}
use mathlib.Core.Path.{◌≡◌, refl}
use mathlib.Core.List.{List, [], ◌∷◌, map}
use Rattle.bench_text.specs.Text.{decimal, shown_text, field_text, header_text, line_text, end_text}
use Rattle.bench_text.specs.declared.Shown.{Shown}

pub record Case : Type 0 where
  pub text : List ℕ
  pub expected : List ℕ

abbrev case : List ℕ → List ℕ → Case
case t e = record { text = t; expected = e }

-- index, letter, unit, number, message number sent, decision
abbrev line : ℕ → ℕ → Shown → ℕ → Shown → Shown → List ℕ
line i letter u k s d = line_text (record { index = i; letter = letter; unit = u; number = k; sent = s; decision = d })

abbrev cases : List Case
cases =
    -- B,3,7
    case (header_text 66 3 7) (66 ∷ 44 ∷ 51 ∷ 44 ∷ 55 ∷ 10 ∷ [])
    -- 1,P,0,0,0,-
    ∷ case (line 1 80 (Shown.Number 0) 0 (Shown.Number 0) Shown.Dash) (49 ∷ 44 ∷ 80 ∷ 44 ∷ 48 ∷ 44 ∷ 48 ∷ 44 ∷ 48 ∷ 44 ∷ 45 ∷ 10 ∷ [])
    -- 12,D,2,0,-,120
    ∷ case (line 12 68 (Shown.Number 2) 0 Shown.Dash (Shown.Number 120))
    (49 ∷ 50 ∷ 44 ∷ 68 ∷ 44 ∷ 50 ∷ 44 ∷ 48 ∷ 44 ∷ 45 ∷ 44 ∷ 49 ∷ 50 ∷ 48 ∷ 10 ∷ [])
    -- 0,?,-,8,-,-
    ∷ case (line 0 63 Shown.Dash 8 Shown.Dash Shown.Dash) (48 ∷ 44 ∷ 63 ∷ 44 ∷ 45 ∷ 44 ∷ 56 ∷ 44 ∷ 45 ∷ 44 ∷ 45 ∷ 10 ∷ [])
    -- end,5,3
    ∷ case (end_text 5 3) (101 ∷ 110 ∷ 100 ∷ 44 ∷ 53 ∷ 44 ∷ 51 ∷ 10 ∷ [])
    ∷ []

pub all_cases_hold : map (λ c. c.text) cases ≡ map (λ c. c.expected) cases
unfolding decimal shown_text field_text header_text line_text end_text
all_cases_hold = refl
