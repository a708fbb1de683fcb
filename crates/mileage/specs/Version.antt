-- The version of the C interface, MILEAGE_VERSION in the header. Each landing that changes bytes, sizes, numbers, signatures or what a call
-- answers raises it. Assumes nothing.
use Rattle.std.specs.Prelude.{ℕ}

abbrev pub version : ℕ
version = 4
