-- Only where nothing is refused is the number 0. Assumes nothing.
use Rattle.std.specs.Prelude.{◌≡◌, false, eqb, Some}
use Rattle.std.proofs.Common.{refl}
use Rattle.tally.specs.Refusal.{number_of}
use Rattle.tally.specs.declared.Refusal.{Refusal}
use Rattle.tally.specs.declared.Refusal.TheVariants.{Length, Log, Image, Message, Addressee, Mileage, LastRound, Line, Power, Unsent, Full, Row}

pub refusal_number : (k : Refusal) → eqb (number_of (Some k)) 0 ≡ false
refusal_number Length = refl
refusal_number Log = refl
refusal_number Image = refl
refusal_number Message = refl
refusal_number Addressee = refl
refusal_number Mileage = refl
refusal_number LastRound = refl
refusal_number Line = refl
refusal_number Power = refl
refusal_number Unsent = refl
refusal_number Full = refl
refusal_number Row = refl
