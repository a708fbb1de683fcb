-- What inner functions promise, of which no public call's contract speaks. Assumes nothing.
use Rattle.std.specs.Prelude.{ℕ, ◌+◌, List, [], ◌∷◌}
use Rattle.std.proofs.lemmas.List.Edits.{sets}
use Rattle.formats.specs.Numbers.{bytes_of}

-- how many bytes numbers take, from their widths
abbrev pub total : List ℕ → ℕ
total [] = 0
total (w ∷ ws) = w + total ws

-- bs after each number has been stored in turn, the first at o
abbrev pub pack_into : List ℕ → ℕ → List ℕ → List ℕ → List ℕ
pack_into bs o [] vs = bs
pack_into bs o (w ∷ ws) [] = bs
pack_into bs o (w ∷ ws) (v ∷ vs) = pack_into (sets bs o (bytes_of w v)) (o + w) ws vs
