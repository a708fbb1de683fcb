-- A read puts its bytes behind those that are there.
use Rattle.std.proofs.Common.{rules}
use Rattle.bench_stream.proofs.Reading.{read_on}
use Rattle.bench_stream.proofs.fill.Goals as goal

pub loop-at-preserved : goal.loop-at-preserved
loop-at-preserved g c =
    let read = c.in-Ok.ensures in
    (search rules, read_on _ _ _ _ _ _ _ _ c.loop-at.invariant.0 read.bound.0 c.loop-at.invariant.1 read.bytes.0)
