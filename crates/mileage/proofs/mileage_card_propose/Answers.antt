-- What is asked of the row is the call, and what it tells is stored. Assumes nothing.
use Rattle.cards.proofs.Asked.{propose_asked}
use Rattle.mileage.proofs.mileage_card_propose.Goals as goal

pub returns : goal.returns
returns c =
    rw (c.tell_message.ensures.0, c.tell_message.ensures.1, c.on_row-t.ensures.1, c.on_row-t.ensures.0, c.propose_asks-asked.ensures)
    (propose_asked c.args.engine c.args.n c.args.unit c.args.rows.now c.args.out.now c.args.row c.args.mileage)
