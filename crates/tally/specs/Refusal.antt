-- Numbers for a call turned down, as the scope paper's table and the change requests have them; 0 where it is accepted. Assumes nothing.
use Rattle.std.specs.Prelude.{ℕ, Option, Some, None}
use Rattle.tally.specs.declared.Refusal.{Refusal}
use Rattle.tally.specs.declared.Refusal.TheVariants.{Length, Log, Image, Message, Addressee, Mileage, LastRound, Line, Power, Unsent, Full, Row}

abbrev pub number_of : Option Refusal → ℕ
number_of None = 0
-- a buffer's length is wrong
number_of (Some Length) = 1
-- log malformed, or fresh-unit settings out of range
number_of (Some Log) = 2
-- image malformed or not fitting
number_of (Some Image) = 3
-- message malformed
number_of (Some Message) = 4
-- other engine, n, entry or receiver
number_of (Some Addressee) = 5
-- mileage out of range
number_of (Some Mileage) = 6
-- this SECOND would close the last round
number_of (Some LastRound) = 7
-- script line malformed
number_of (Some Line) = 8
-- unit down, or for key-on not down
number_of (Some Power) = 9
-- message number not yet sent
number_of (Some Unsent) = 10
-- event would send while all places are filled
number_of (Some Full) = 11
-- a message's entry, or a call's row number, names no row of the card (request 1)
number_of (Some Row) = 12
