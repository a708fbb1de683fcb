-- The header's line, and then the rest. Assumes nothing.
use Rattle.std.proofs.Common.{arith}
use Rattle.tally.specs.Limits.{today}
use Rattle.bench_play.specs.Bench.{start}
use Rattle.bench_text.proofs.Appending.{then, room_first, room_next}
use Rattle.bench.specs.Listing.{header_line}
use Rattle.bench.specs.InnerLines.{events_in, rest_text}
use Rattle.bench.proofs.Lengths.{played_length}
use Rattle.bench.proofs.put_played.Goals as goal

pub put_header-requires : goal.put_header-requires
unfolding header_line
put_header-requires c =
    let x = c.args in
    let most = played_length today x.h x.rest.now c.requires.h_value c.requires.rest_len_bound in
    rw (c.letter_of.ensures, c.from.ensures, c.from-2.ensures)
    (room_first x.out.now (header_line x.h) (rest_text today (start x.h) 0 (events_in x.h.n x.rest.now)) (omega (arith, most, c.requires.room)))

pub put_events-requires-clause-room : goal.put_events-requires-clause-room
unfolding header_line
put_events-requires-clause-room c =
    let x = c.args in
    let most = played_length today x.h x.rest.now c.requires.h_value c.requires.rest_len_bound in
    room_next _ (rw (c.letter_of.ensures, c.from.ensures, c.from-2.ensures) at c.put_header.ensures) (omega (arith, most, c.requires.room))

pub returns : goal.returns
unfolding header_line
returns c = then (rw (c.letter_of.ensures, c.from.ensures, c.from-2.ensures) at c.put_header.ensures) c.put_events.ensures
