-- One line, and then the final one. Assumes nothing.
use Rattle.std.proofs.Common.{arith}
use Rattle.bench_text.specs.Text.{line_text, end_text}
use Rattle.bench_text.proofs.Appending.{then, room_first, room_next}
use Rattle.bench.specs.Listing.{malformed_line, malformed_text}
use Rattle.bench.proofs.Lengths.{malformed_length}
use Rattle.bench.proofs.put_malformed.Goals as goal

pub put_line-requires : goal.put_line-requires
unfolding malformed_text
put_line-requires c =
    rw c.malformed_line.ensures
    (room_first c.args.out.now (line_text (malformed_line 0)) (end_text 0 0) (omega (arith, malformed_length, c.requires)))

pub put_end-requires : goal.put_end-requires
unfolding malformed_text
put_end-requires c =
    room_next (end_text 0 0) (rw c.malformed_line.ensures at c.put_line.ensures) (omega (arith, malformed_length, c.requires))

pub returns : goal.returns
unfolding malformed_text
returns c = then (rw c.malformed_line.ensures at c.put_line.ensures) c.put_end.ensures
