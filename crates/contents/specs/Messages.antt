-- Well-formed messages. Assumes nothing.
use Rattle.std.specs.Prelude.{Bool, true, false, ◌&&◌, eqb, ltb}
use Rattle.tally.specs.Limits.{Limits, everyone}
use Rattle.tally.specs.declared.Engine.TheVariants.{B}
use Rattle.tally.specs.declared.Estimate.TheVariants.{Blank}
use Rattle.contents.specs.Estimates.{is_b, is_blank, mileage_or_blank, mileage_or_split, same_mileage}
use Rattle.contents.specs.Logs.{numbers_ok, round_ok}
use Rattle.contents.specs.declared.Kind.{Kind}
use Rattle.contents.specs.declared.Kind.TheVariants.{Empty, First, Check, Second, Skip}
use Rattle.contents.specs.declared.Message.{Message}

-- an empty message counts as no message
abbrev pub is_empty : Kind → Bool
is_empty Empty = true
is_empty First = false
is_empty Check = false
is_empty Second = false
is_empty Skip = false

-- the contents of an empty message
abbrev pub empty_message : Message
empty_message = record { kind = Empty; engine = B; n = 0; sender = 0; receiver = 0; entry = 0; round = 0; estimate = Blank; proposal = Blank }

-- F: receiver is everyone; estimate and proposal are the same mileage
unfoldable pub first_ok : Limits → Message → Bool
first_ok l m = eqb m.receiver everyone && same_mileage l m.estimate m.proposal

-- C: the same, in B only
unfoldable pub check_ok : Limits → Message → Bool
check_ok l m = is_b m.engine && first_ok l m

-- S: receiver is everyone; estimate a mileage or, in B, split; proposal a mileage or blank
unfoldable pub second_ok : Limits → Message → Bool
second_ok l m = eqb m.receiver everyone && mileage_or_split l m.engine m.estimate && mileage_or_blank l m.proposal

-- K: receiver is a unit; estimate blank; proposal a mileage or blank
unfoldable pub skip_ok : Limits → Message → Bool
skip_ok l m = ltb m.receiver m.n && is_blank m.estimate && mileage_or_blank l m.proposal

-- each kind has its rule, and an empty message is not well formed
unfoldable pub kind_ok : Limits → Kind → Message → Bool
kind_ok l Empty m = false
kind_ok l First m = first_ok l m
kind_ok l Check m = check_ok l m
kind_ok l Second m = second_ok l m
kind_ok l Skip m = skip_ok l m

-- n, a sender below it, entry and round in their ranges, and the kind's rule
unfoldable pub message_ok : Limits → Message → Bool
message_ok l m = numbers_ok m.n m.sender m.entry && round_ok l m.round && kind_ok l m.kind m
