-- What is asked of the row is the call. Assumes nothing.
use Rattle.cards.proofs.Asked.{key_on_asked}
use Rattle.mileage.proofs.mileage_card_key_on.Goals as goal

pub returns : goal.returns
returns c =
    rw (c.number.ensures, c.on_row.ensures.1, c.on_row.ensures.0, c.card_call-c.ensures)
    (key_on_asked c.args.engine c.args.n c.args.unit c.args.row c.args.rows.now)
