-- The listing at the front of a buffer with room for any. Assumes nothing.
use Rattle.std.proofs.Common.{rules, arith, refl}
use Rattle.tally.specs.Limits.{today}
use Rattle.bench.proofs.Whole.{begun_room, printed_whole}
use Rattle.bench.proofs.print.Goals as goal

pub put_listing-requires : goal.put_listing-requires
put_listing-requires c = begun_room c.new-listing.ensures (omega arith)

pub returns : goal.returns
returns c =
    printed_whole today _ (omega arith) c.new-listing.ensures c.put_listing.ensures (search rules) c.len.ensures refl
