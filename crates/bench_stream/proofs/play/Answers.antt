-- The listing is within the buffer.
use Rattle.std.proofs.Common.{sym, length-take-le}
use Rattle.tally.specs.Limits.{today}
use Rattle.bench.proofs.Whole.{printed_fits}
use Rattle.bench_stream.proofs.play.Goals as goal

pub slice_bounds-write_all-end : goal.slice_bounds-write_all-end
slice_bounds-write_all-end g c = printed_fits today _ _ _ _ _ (rw (← c.unwrap_or-length.ensures) at c.print.ensures)

pub slice_bounds-write_all-end-2 : goal.slice_bounds-write_all-end-2
slice_bounds-write_all-end-2 g c = sym (length-take-le _ _ (printed_fits today _ _ _ _ _ (rw (← c.unwrap_or-length.ensures) at c.print.ensures)))
