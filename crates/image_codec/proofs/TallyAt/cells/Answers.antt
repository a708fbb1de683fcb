-- One turn stores what is held of the next sender. Assumes nothing.
use Rattle.std.proofs.Common.{add-one}
use Rattle.std.proofs.Math.ListN.{length-set}
use Rattle.tally.specs.Tally.{held}
use Rattle.formats.specs.InnerImages.{tally_at}
use Rattle.formats.proofs.Marked.{held_step}
use Rattle.image_codec.proofs.TallyAt.cells.Goals as goal

pub loop-k-preserved : goal.loop-k-preserved
unfolding held
loop-k-preserved c =
    let l = c.loop-k in
    let a = c.args in
    let step = rw (
      held_step (record { marks = a.marks; cells = (tally_at a.self.now.at a.self.now.bytes.now).cells }) l.k c.loop-k-test.true,
      ← c.is_marked.ensures,
      ← c.held-cell.ensures,
    ) at l.invariant.1 in
    (simp length-set l.invariant.0, rw (add-one l.k) (rw (add-one l.k) at step))
