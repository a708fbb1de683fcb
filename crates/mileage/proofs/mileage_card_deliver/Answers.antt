-- What is asked of the row is the call, and what it tells is stored. Assumes nothing.
use Rattle.cards.proofs.Asked.{deliver_asked}
use Rattle.mileage.proofs.mileage_card_deliver.Goals as goal

pub returns : goal.returns
returns c =
    rw (c.tell.ensures.0, c.tell.ensures.1.0, c.tell.ensures.1.1, c.on_row-t.ensures.1, c.on_row-t.ensures.0, c.deliver_asks-asked.ensures)
    (deliver_asked c.args.engine c.args.n c.args.unit c.args.rows.now c.args.out.now c.args.message.now)
