-- What inner functions promise, of which no public call's contract speaks. Assumes nothing.
use Rattle.std.specs.Prelude.{ℕ, List}
use Rattle.tally.specs.Limits.{Limits}
use Rattle.formats.specs.Formats.{numbers_in}
use Rattle.formats.specs.Messages.{message_format}

-- the numbers that bytes hold, the zero byte left out
abbrev pub message_numbers_in : Limits → List ℕ → List ℕ
message_numbers_in l bs = numbers_in (message_format l) bs
