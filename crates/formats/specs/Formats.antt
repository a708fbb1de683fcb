-- Reading and writing contents as a list of numbers, one of which is a zero byte. Assumes nothing.
use Rattle.std.specs.Prelude.{ℕ, suc, Bool, cond, List, ◌∷◌, ◌++◌, eqb, length, get_or, take, drop, Option, Some, None}
use Rattle.tally.specs.Refusal.{number_of}
use Rattle.tally.specs.declared.Refusal.TheVariants.{Length}
use Rattle.formats.specs.Numbers.{unpack, pack}

-- what reading answers: the refusal's number or 0, and the contents
pub record ReadAnswer (A : Type 0) : Type 0 where
  pub number : ℕ
  pub contents : A

abbrev pub reading : {A : Type 0} → ℕ → A → ReadAnswer A
reading k a = record { number = k; contents = a }

-- what writing answers, and what its buffer holds then
pub record WriteAnswer : Type 0 where
  pub number : ℕ
  pub out : List ℕ

abbrev pub wrote : ℕ → List ℕ → WriteAnswer
wrote k bs = record { number = k; out = bs }

-- how contents are laid out
pub record Format (A : Type 0) : Type 0 where
  -- the length in bytes, and the bytes that each number takes
  pub size : ℕ
  pub widths : List ℕ
  -- the place of the zero byte among the numbers
  pub zero_at : ℕ
  -- how many numbers contents are, the zero byte left out; these numbers, and contents of them: none where a letter is unknown
  pub fields : ℕ
  pub numbers : A → List ℕ
  pub parse : List ℕ → Option A
  -- which contents are well formed, and the refusal's number of all others
  pub ok : A → Bool
  pub malformed : ℕ
  -- what stands in the place of contents that are refused
  pub nothing : A

-- numbers with a zero at place k, and without it
abbrev pub with_zero : ℕ → List ℕ → List ℕ
with_zero k vs = take k vs ++ (0 ∷ drop k vs)

abbrev pub without : ℕ → List ℕ → List ℕ
without k vs = take k vs ++ drop (suc k) vs

-- the numbers that bytes hold, the zero byte left out
abbrev pub numbers_in : {A : Type 0} → Format A → List ℕ → List ℕ
numbers_in f bs = without f.zero_at (unpack 0 f.widths bs)

-- contents are taken where they are known and well formed
abbrev pub checked : {A : Type 0} → Format A → Option A → ReadAnswer A
checked f None = reading f.malformed f.nothing
checked f (Some a) = cond (f.ok a) (reading 0 a) (reading f.malformed f.nothing)

-- contents from their numbers
abbrev pub from_numbers : {A : Type 0} → Format A → List ℕ → ReadAnswer A
from_numbers f vs = checked f (f.parse vs)

-- the byte that must be 0
abbrev pub zero_byte : {A : Type 0} → Format A → List ℕ → ℕ
zero_byte f bs = get_or (unpack 0 f.widths bs) f.zero_at 0

-- reading the bytes bs: 1 where their length is wrong, malformed where the zero byte is not 0
abbrev pub read_bytes : {A : Type 0} → Format A → List ℕ → ReadAnswer A
read_bytes f bs =
    cond (eqb (length bs) f.size)
    (cond (eqb (zero_byte f bs) 0) (from_numbers f (numbers_in f bs)) (reading f.malformed f.nothing))
    (reading (number_of (Some Length)) f.nothing)

-- the bytes of contents
abbrev pub to_bytes : {A : Type 0} → Format A → A → List ℕ
to_bytes f a = pack f.widths (with_zero f.zero_at (f.numbers a))

-- writing a to a buffer that holds bs: refused as reading would, and then `left` stands there
abbrev pub write_bytes : {A : Type 0} → Format A → A → List ℕ → List ℕ → WriteAnswer
write_bytes f a left bs =
    cond (eqb (length bs) f.size) (cond (f.ok a) (wrote 0 (to_bytes f a)) (wrote f.malformed left)) (wrote (number_of (Some Length)) left)
