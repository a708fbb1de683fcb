-- Bytes in parts: the lines of a script, and the fields of a line. Assumes nothing.
use Rattle.std.specs.Prelude.{ℕ, cond, List, [], ◌∷◌, eqb}

-- lines ended by byte 10, fields parted by commas
abbrev pub newline : ℕ
newline = 10

abbrev pub comma : ℕ
comma = 44

-- a byte in front of the first part
abbrev pub onto : ℕ → List (List ℕ) → List (List ℕ)
onto b [] = []
onto b (p ∷ ps) = (b ∷ p) ∷ ps

-- what stands before, between and after the bytes c: one part more than there are such bytes
abbrev pub parted : ℕ → List ℕ → List (List ℕ)
parted c [] = [] ∷ []
parted c (b ∷ s) = cond (eqb b c) ([] ∷ parted c s) (onto b (parted c s))
