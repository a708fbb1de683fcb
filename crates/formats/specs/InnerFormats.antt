-- What inner functions promise, of which no public call's contract speaks. Assumes nothing.
use Rattle.std.specs.Prelude.{ℕ, cond, List, eqb, length}
use Rattle.formats.specs.Formats.{Format, to_bytes}

-- contents known to be well formed go into a buffer of the right length; another keeps its bytes
unfoldable pub stored : {A : Type 0} → Format A → A → List ℕ → List ℕ
stored f a bs = cond (eqb (length bs) f.size) (to_bytes f a) bs
