-- What is asked of the row is the call. Assumes nothing.
use Rattle.cards.proofs.Asked.{start_asked}
use Rattle.mileage.proofs.mileage_card_start.Goals as goal

pub returns : goal.returns
returns c =
    rw (c.number.ensures, c.on_row.ensures.1, c.on_row.ensures.0, c.card_call-c.ensures)
    (start_asked c.args.engine c.args.n c.args.unit c.args.row c.args.rows.now)
