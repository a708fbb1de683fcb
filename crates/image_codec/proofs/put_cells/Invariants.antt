-- What is held of the senders still to come makes the whole. Assumes nothing.
use Rattle.std.proofs.Common.{◌≡◌, ◌+◌, ◌*◌, ◌-◌, map, length, replicate}
use Rattle.tally.specs.Limits.{senders}
use Rattle.formats.specs.Images.{cell_code, cell_widths}
use Rattle.formats.specs.InnerImages.{held_from}
use Rattle.formats.specs.InnerNumbers.{pack_into}
use Rattle.image_codec.proofs.put_cells.Given as goal

abbrev pub invariant-loop-k : goal.invariant-loop-k
invariant-loop-k l =
    (length l.out ≡ length l.fn.out)
    × (pack_into l.out (l.at + 4 * l.k) (replicate (senders - l.k) 4) (map cell_code (held_from l.t l.k (senders - l.k)))
    ≡ pack_into l.fn.out l.at cell_widths (map cell_code (held_from l.t 0 senders)))
