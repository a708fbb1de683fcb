-- Letters, in ASCII, and estimates as numbers. Assumes nothing.
use Rattle.std.specs.Prelude.{ℕ, cond, List, eqb, Option, Some, None}
use Rattle.tally.specs.Limits.{blank_code, split_code}
use Rattle.tally.specs.declared.Engine.{Engine}
use Rattle.tally.specs.declared.Engine.TheVariants.{B, R}
use Rattle.tally.specs.declared.Estimate.{Estimate}
use Rattle.tally.specs.declared.Estimate.TheVariants.{Blank, Split, Mileage}
use Rattle.contents.specs.declared.Kind.{Kind}
use Rattle.contents.specs.declared.Kind.TheVariants.{Empty, First, Check, Second, Skip}

-- engine letters: B, R
abbrev pub letter_of : Engine → ℕ
letter_of B = 66
letter_of R = 82

abbrev pub engine_of : ℕ → Option Engine
engine_of x = cond (eqb x (letter_of B)) (Some B) (cond (eqb x (letter_of R)) (Some R) None)

-- contents of numbers, where the engine's letter is known
abbrev pub with_engine : {A : Type 0} → (Engine → List ℕ → A) → Option Engine → List ℕ → Option A
with_engine make (Some e) vs = Some (make e vs)
with_engine make None vs = None

-- kinds: F (FIRST), C (CHECK), S (SECOND), K (SKIP); an empty message has a zero here
abbrev pub kind_letter : Kind → ℕ
kind_letter Empty = 0
kind_letter First = 70
kind_letter Check = 67
kind_letter Second = 83
kind_letter Skip = 75

abbrev pub kind_of : ℕ → Option Kind
kind_of x =
    cond (eqb x (kind_letter First)) (Some First)
    (cond (eqb x (kind_letter Check)) (Some Check)
    (cond (eqb x (kind_letter Second)) (Some Second)
    (cond (eqb x (kind_letter Skip)) (Some Skip) None)))

-- blank and split as they are stored; a mileage is its own number
abbrev pub code_of : Estimate → ℕ
code_of Blank = blank_code
code_of Split = split_code
code_of (Mileage m) = m

-- the estimate that a number stands for; one out of range is a mileage that is not well formed
abbrev pub estimate_of : ℕ → Estimate
estimate_of x = cond (eqb x blank_code) Blank (cond (eqb x split_code) Split (Mileage x))
