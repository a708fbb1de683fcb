-- What proofs use of the limits, instead of their values. Assumes nothing.
use mathlib.Core.Path.{◌≡◌, refl}
use Prim.Native.Nat.{ℕ, ◌^◌, ◌≤◌, ◌<◌}
use native.Mathlib.Omega.{arith}
use Rattle.tally.specs.Limits.{Limits, Sane, Wider, today, hundred_metres, with_max_mileage, blank_code, split_code, max_units, max_entry, everyone}
use Rattle.tally.specs.Limits.{log_size, image_size, message_size}

pub sane_today : Sane today
sane_today = record { mileage_below_split = omega arith; round_fits = omega arith }

-- only the greatest mileage is another since request 3
pub before_today : (hundred_metres ≡ with_max_mileage 9999999 today) × (today ≡ with_max_mileage 99999999 hundred_metres)
before_today = (refl, refl)

-- another greatest mileage moves nothing else
pub wider : (l : Limits) (k : ℕ) → l.max_mileage ≤ k → Wider l (with_max_mileage k l)
wider l k more = record { mileage = more; round = omega arith }

-- the others, which stay as they are
pub split_below_blank : split_code < blank_code
split_below_blank = omega arith

pub blank_fits : blank_code < 256 ^ 4
blank_fits = omega arith

pub units_fit : max_units < everyone
units_fit = omega arith

pub everyone_fits : everyone < 256 ^ 1
everyone_fits = omega arith

pub entry_fits : max_entry < 256 ^ 2
entry_fits = omega arith

-- the sizes as the scope paper has them
pub sizes_today : (log_size today ≡ 20) × ((image_size today ≡ 152) × (message_size today ≡ 18))
sizes_today = (refl, (refl, refl))
