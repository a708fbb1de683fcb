-- Engines and single estimates. Assumes nothing.
use Rattle.std.specs.Prelude.{ℕ, Bool, true, false, not, ◌&&◌, ◌||◌, leb}
use Rattle.tally.specs.Limits.{Limits}
use Rattle.tally.specs.Gathered.{has_value}
use Rattle.tally.specs.declared.Engine.{Engine}
use Rattle.tally.specs.declared.Engine.TheVariants.{B, R}
use Rattle.tally.specs.declared.Estimate.{Estimate}
use Rattle.tally.specs.declared.Estimate.TheVariants.{Blank, Split, Mileage}

-- engine B
abbrev pub is_b : Engine → Bool
is_b B = true
is_b R = false

-- mileage: 0 to the greatest
abbrev pub in_range : Limits → ℕ → Bool
in_range l m = leb m l.max_mileage

abbrev pub is_blank : Estimate → Bool
is_blank Blank = true
is_blank Split = false
is_blank (Mileage m) = false

abbrev pub is_split : Estimate → Bool
is_split Blank = false
is_split Split = true
is_split (Mileage m) = false

-- a mileage, in its range
abbrev pub is_mileage : Limits → Estimate → Bool
is_mileage l Blank = false
is_mileage l Split = false
is_mileage l (Mileage m) = in_range l m

-- a mileage or blank
unfoldable pub mileage_or_blank : Limits → Estimate → Bool
mileage_or_blank l e = is_mileage l e || is_blank e

-- a mileage or, in B, split
unfoldable pub mileage_or_split : Limits → Engine → Estimate → Bool
mileage_or_split l g e = is_mileage l e || (is_b g && is_split e)

-- a log's second estimate is a mileage, split or blank; in R always blank
unfoldable pub second_estimate_ok : Limits → Engine → Estimate → Bool
second_estimate_ok l g e = is_blank e || (is_b g && (is_mileage l e || is_split e))

abbrev pub same_engine : Engine → Engine → Bool
same_engine B b = is_b b
same_engine R b = not (is_b b)

abbrev pub same_estimate : Estimate → Estimate → Bool
same_estimate Blank b = is_blank b
same_estimate Split b = is_split b
same_estimate (Mileage v) b = has_value v b

-- the same mileage
unfoldable pub same_mileage : Limits → Estimate → Estimate → Bool
same_mileage l a b = is_mileage l a && same_estimate a b
