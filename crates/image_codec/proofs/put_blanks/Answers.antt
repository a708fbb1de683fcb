-- One turn stores the next blank. Assumes nothing.
use Rattle.std.proofs.Common.{◌≡◌, ◌+◌, ◌*◌, arith}
use Rattle.tally.specs.Limits.{senders, blank_code}
use Rattle.formats.proofs.Packed.{replicate_step}
use Rattle.image_codec.proofs.put_blanks.Goals as goal

pub loop-k-preserved : goal.loop-k-preserved
loop-k-preserved c =
    let l = c.loop-k in
    let place : c.args.at + 4 * l.k + 4 ≡ c.args.at + 4 * (l.k + 1) = omega arith in
    let step = rw (replicate_step senders l.k 4 c.loop-k-test.true, replicate_step senders l.k blank_code c.loop-k-test.true) at l.invariant.1 in
    (omega arith, rw (c.put.ensures, ← place) step)
