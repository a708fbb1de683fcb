-- The invariant: the estimates so far are those of the cells so far. Assumes nothing.
use Rattle.std.proofs.Common.{◌≡◌, length, take, map}
use Rattle.tally.specs.Limits.{senders}
use Rattle.formats.specs.Images.{cell_code}
use Rattle.card_rows.proofs.tally_fields.Given as goal

abbrev pub invariant-loop-i : goal.invariant-loop-i
invariant-loop-i l = (length l.estimates ≡ senders) × (take l.i l.estimates ≡ map cell_code (take l.i l.fn.t.cells))
