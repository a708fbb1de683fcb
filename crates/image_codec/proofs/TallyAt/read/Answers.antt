-- A tally without marks is blank. Assumes nothing.
use Rattle.std.proofs.Common.{sym, ◌∙◌}
use Rattle.formats.specs.InnerImages.{tally_at}
use Rattle.formats.proofs.Marked.{none_marked}
use Rattle.image_codec.proofs.TallyAt.read.Goals as goal

pub returns-then-marks-eq0 : goal.returns-then-marks-eq0
returns-then-marks-eq0 c =
    c.empty.ensures ∙ none_marked (tally_at c.args.self.now.at c.args.self.now.bytes.now) (sym c.marks-marks.ensures ∙ c.if-marks-eq0.true)
