-- Numbers in bytes, the highest byte first, and lists of them, over the widths. Assumes nothing.
use Rattle.std.specs.Prelude.{ℕ, zero, suc, ◌+◌, ◌*◌, ◌/◌, ◌%◌, ◌<◌, List, [], ◌∷◌, ◌++◌, get_or}

-- the number that the k bytes of bs from offset o hold
unfoldable pub num_at : List ℕ → ℕ → ℕ → ℕ
num_at bs o zero = 0
num_at bs o (suc k) = num_at bs o k * 256 + get_or bs (o + k) 0

-- the k bytes that hold x
unfoldable pub bytes_of : ℕ → ℕ → List ℕ
bytes_of zero x = []
bytes_of (suc k) x = bytes_of k (x / 256) ++ (x % 256 ∷ [])

-- the elements are bytes
abbrev pub Bytes : List ℕ → Type 0
Bytes bs = (i : ℕ) → get_or bs i 0 < 256

-- the numbers that start at o
abbrev pub unpack : ℕ → List ℕ → List ℕ → List ℕ
unpack o [] bs = []
unpack o (w ∷ ws) bs = num_at bs o w ∷ unpack (o + w) ws bs

-- the bytes of numbers
abbrev pub pack : List ℕ → List ℕ → List ℕ
pack [] vs = []
pack (w ∷ ws) [] = []
pack (w ∷ ws) (v ∷ vs) = bytes_of w v ++ pack ws vs
