-- The blanks still to come make the whole. Assumes nothing.
use Rattle.std.proofs.Common.{◌≡◌, ◌+◌, ◌*◌, ◌-◌, length, replicate}
use Rattle.tally.specs.Limits.{senders, blank_code}
use Rattle.formats.specs.Images.{cell_widths}
use Rattle.formats.specs.InnerNumbers.{pack_into}
use Rattle.image_codec.proofs.put_blanks.Given as goal

abbrev pub invariant-loop-k : goal.invariant-loop-k
invariant-loop-k l =
    (length l.out ≡ length l.fn.out)
    × (pack_into l.out (l.at + 4 * l.k) (replicate (senders - l.k) 4) (replicate (senders - l.k) blank_code)
    ≡ pack_into l.fn.out l.at cell_widths (replicate senders blank_code))
