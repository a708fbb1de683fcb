-- The invariant: the cells so far are those of the estimates so far. Assumes nothing.
use Rattle.std.proofs.Common.{◌≡◌, length, take, map}
use Rattle.tally.specs.Limits.{senders}
use Rattle.formats.specs.Images.{cell_of}
use Rattle.card_rows.proofs.tally_of.Given as goal

abbrev pub invariant-loop-i : goal.invariant-loop-i
invariant-loop-i l =
    (l.tally.marks ≡ l.f.marks) × (length l.tally.cells ≡ senders) × (take l.i l.tally.cells ≡ map cell_of (take l.i l.f.estimates))
