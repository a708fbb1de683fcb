-- Well-formed logs. Assumes nothing.
use Rattle.std.specs.Prelude.{ℕ, Bool, ◌&&◌, leb, ltb}
use Rattle.tally.specs.Limits.{Limits, min_units, max_units, min_entry, max_entry}
use Rattle.tally.specs.declared.Engine.{Engine}
use Rattle.contents.specs.Estimates.{mileage_or_blank, second_estimate_ok}
use Rattle.contents.specs.declared.Log.{Log}
use Rattle.contents.specs.declared.Settings.{Settings}
use Rattle.contents.specs.declared.State.{State}

-- units n: 3 to 16, numbered 0 to n − 1; entry: 1 to 9,999
abbrev pub numbers_ok : ℕ → ℕ → ℕ → Bool
numbers_ok n unit entry = leb min_units n && leb n max_units && ltb unit n && leb min_entry entry && leb entry max_entry

-- round: 0 to the last
abbrev pub round_ok : Limits → ℕ → Bool
round_ok l r = leb r l.last_round

abbrev pub settings_ok : Settings → Bool
settings_ok s = numbers_ok s.n s.unit s.entry

-- proposal and first estimate are a mileage or blank; the second estimate is a mileage, split or blank; in R always blank
unfoldable pub state_ok : Limits → Engine → State → Bool
state_ok l g s = round_ok l s.round && mileage_or_blank l s.proposal && mileage_or_blank l s.first && second_estimate_ok l g s.second

unfoldable pub log_ok : Limits → Log → Bool
log_ok l r = settings_ok r.settings && state_ok l r.settings.engine r.state
