-- The numbers of a script. Assumes nothing.
use Rattle.std.specs.Prelude.{ℕ, ◌+◌, ◌-◌, ◌*◌, Bool, true, not, cond, ◌&&◌, List, [], ◌∷◌, leb, eqb, length, get_or, Option, Some}
use Rattle.std.specs.Prelude.{None}

-- digits are in ASCII
abbrev pub digit_zero : ℕ
digit_zero = 48

abbrev pub digit_nine : ℕ
digit_nine = 57

abbrev pub max_digits : ℕ
max_digits = 10

abbrev pub max_number : ℕ
max_number = 4294967295

abbrev pub is_digit : ℕ → Bool
is_digit b = leb digit_zero b && leb b digit_nine

abbrev pub all_digits : List ℕ → Bool
all_digits [] = true
all_digits (b ∷ s) = is_digit b && all_digits s

-- 0 by itself is fine
abbrev pub leading_zero : List ℕ → Bool
leading_zero s = leb 2 (length s) && eqb (get_or s 0 0) digit_zero

-- the value of the digits s after those that v is the value of
abbrev pub value_from : ℕ → List ℕ → ℕ
value_from v [] = v
value_from v (b ∷ s) = value_from (v * 10 + (b - digit_zero)) s

-- 1 to 10 digits, no leading zero, at most 4,294,967,295
unfoldable pub is_number : List ℕ → Bool
is_number s =
    leb 1 (length s)
    && leb (length s) max_digits
    && all_digits s
    && not (leading_zero s)
    && leb (value_from 0 s) max_number

unfoldable pub read_number : List ℕ → Option ℕ
read_number s = cond (is_number s) (Some (value_from 0 s)) None
