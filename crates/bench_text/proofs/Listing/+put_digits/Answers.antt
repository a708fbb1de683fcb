-- The last digit comes after the others. Assumes nothing.
use Rattle.bench_text.proofs.Appending.{then, room_next}
use Rattle.bench_text.proofs.Digits.{many}
use Rattle.bench_text.proofs.Listing.+put_digits.Goals as goal

pub put_byte-requires-else-n-lt10 : goal.put_byte-requires-else-n-lt10
put_byte-requires-else-n-lt10 t c =
    room_next _ c.put_digits.ensures (rw (many c.args.k c.args.n c.requires.k_nonzero c.if-n-lt10.false) at c.requires.room)

pub returns-else-n-lt10 : goal.returns-else-n-lt10
returns-else-n-lt10 t c =
    rw (many c.args.k c.args.n c.requires.k_nonzero c.if-n-lt10.false) (then c.put_digits.ensures c.put_byte-else-n-lt10.ensures)
