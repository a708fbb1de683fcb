-- An image whose first numbers are read as a log is tested. Assumes nothing.
use Rattle.std.proofs.Common.{arith}
use Rattle.std.proofs.lemmas.Grind.{common_steps}
use Rattle.contents.specs.Images.{fits}
use Rattle.cards.proofs.Steps.{row_state}
use Rattle.card_rows.proofs.state_for.Goals as goal

pub returns : goal.returns
unfolding fits
returns c =
    rw (row_state c.args.r.now c.args.log, ← c.read_log.ensures, ← c.ok.ensures.value, c.in_ok-front.was) (grind (arith, common_steps))
