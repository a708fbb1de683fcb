-- A log and two tallies without marks are the image's bytes. Assumes nothing.
use Rattle.std.proofs.Common.{refl, sym, ◌∙◌}
use Rattle.tally.specs.Limits.{today}
use Rattle.tally.specs.Tally.{no_marks}
use Rattle.formats.specs.Images.{image_format, image_bytes, with_tallies}
use Rattle.formats.proofs.ImageFormat.{image_stored}
use Rattle.formats.proofs.Steps.{stored_contents}
use Rattle.image_codec.proofs.store_unmarked.Goals as goal

pub returns-then-out-eq-IMAGE_SIZE : goal.returns-then-out-eq-IMAGE_SIZE
unfolding no_marks image_bytes
returns-then-out-eq-IMAGE_SIZE c =
    let size = c.if-out-eq-IMAGE_SIZE.true in
    rw (c.put_no_marks-then-out-eq-IMAGE_SIZE.ensures, c.put_no_marks.ensures, c.put_log.ensures)
    (image_stored c.args.out.now (with_tallies c.args.log no_marks no_marks) refl refl size ∙ sym (stored_contents (image_format today) _ _ size))
