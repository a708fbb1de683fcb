-- What inner functions promise, of which no public call's contract speaks. Assumes nothing.
use Rattle.std.specs.Prelude.{ℕ, cond, List, [], ◌∷◌, eqb, Option, None}
use Rattle.tally.specs.Limits.{Limits, today}
use Rattle.contents.specs.declared.State.{State}
use Rattle.formats.specs.Codes.{engine_of, code_of}
use Rattle.formats.specs.Formats.{numbers_in}
use Rattle.formats.specs.Numbers.{num_at}
use Rattle.formats.specs.Logs.{log_zero, log_format}
use Rattle.formats.specs.InnerNumbers.{total}
use Rattle.tally.specs.declared.Engine.{Engine}

-- the engine of a log or an image, unknown also where the zero byte is not 0
abbrev pub engine_at : List ℕ → Option Engine
engine_at bs = cond (eqb (num_at bs log_zero 1) 0) (engine_of (num_at bs 0 1)) None

-- a log's settings with the zero, and its state
abbrev pub settings_widths : List ℕ
settings_widths = 1 ∷ 1 ∷ 1 ∷ 1 ∷ 2 ∷ []

abbrev pub state_widths : Limits → List ℕ
state_widths l = l.round_width ∷ 4 ∷ 4 ∷ 4 ∷ []

abbrev pub state_numbers : State → List ℕ
state_numbers s = s.round ∷ code_of s.proposal ∷ code_of s.first ∷ code_of s.second ∷ []

-- the round that a log's or an image's bytes hold
abbrev pub round_at : List ℕ → ℕ
round_at bs = num_at bs (total settings_widths) today.round_width

-- the numbers that bytes hold, the zero byte left out
abbrev pub log_numbers_in : Limits → List ℕ → List ℕ
log_numbers_in l bs = numbers_in (log_format l) bs
