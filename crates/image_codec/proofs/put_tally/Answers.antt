-- A tally without marks is blank. Assumes nothing.
use Rattle.std.proofs.Common.{ap, ◌∙◌}
use Rattle.tally.specs.declared.Tally.{Tally}
use Rattle.formats.specs.Images.{tally_widths, tally_numbers}
use Rattle.formats.specs.InnerNumbers.{pack_into}
use Rattle.formats.proofs.Marked.{none_marked}
use Rattle.image_codec.proofs.put_tally.Goals as goal

pub returns-then-t-eq0 : goal.returns-then-t-eq0
returns-then-t-eq0 c =
    let a = c.args in
    c.put_no_marks.ensures
    ∙ ap (λ (t : Tally). pack_into a.out.now a.at tally_widths (tally_numbers t)) (none_marked a.t.now c.if-t-eq0.true)
