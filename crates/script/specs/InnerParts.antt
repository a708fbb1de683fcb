-- What the laws of parts speak of, and no public call's contract. Assumes nothing.
use Rattle.std.specs.Prelude.{ℕ, suc, cond, List, [], ◌∷◌, eqb}

-- how many bytes stand before the first c; all where there is none
abbrev pub before : ℕ → List ℕ → ℕ
before c [] = 0
before c (b ∷ s) = cond (eqb b c) 0 (suc (before c s))
