-- The others come after the first. Assumes nothing.
use Rattle.std.proofs.Common.{arith}
use Rattle.bench_text.proofs.Appending.{then, room_next}
use Rattle.bench_text.proofs.Laws.{fields_more}
use Rattle.bench_text.proofs.Listing.+put_fields.Goals as goal

pub put_fields-requires : goal.put_fields-requires
put_fields-requires t c = (omega arith, room_next _ c.put_field-in-len1-up.ensures (rw (fields_more _ c.in-len1-up.len_at_least) at c.requires))

pub returns-in-len1-up : goal.returns-in-len1-up
returns-in-len1-up t c =
    rw (fields_more _ c.in-len1-up.len_at_least) (then c.put_field-in-len1-up.ensures c.put_fields.ensures)
