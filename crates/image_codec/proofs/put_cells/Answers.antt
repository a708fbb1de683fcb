-- One turn stores what is held of the next sender. Assumes nothing.
use Rattle.std.proofs.Common.{◌≡◌, ◌+◌, ◌*◌, arith}
use Rattle.tally.specs.Limits.{senders}
use Rattle.tally.specs.Tally.{held}
use Rattle.formats.proofs.Marked.{held_step}
use Rattle.formats.proofs.Packed.{replicate_step}
use Rattle.image_codec.proofs.put_cells.Goals as goal

pub loop-k-preserved : goal.loop-k-preserved
unfolding held
loop-k-preserved c =
    let l = c.loop-k in
    let place : c.args.at + 4 * l.k + 4 ≡ c.args.at + 4 * (l.k + 1) = omega arith in
    let step = rw (replicate_step senders l.k 4 c.loop-k-test.true, held_step c.args.t.now l.k c.loop-k-test.true) at l.invariant.1 in
    (omega arith, rw (c.put.ensures, c.held_code.ensures, c.is_marked.ensures, ← place) step)
