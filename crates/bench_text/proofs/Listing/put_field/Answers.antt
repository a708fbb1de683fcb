-- The byte comes after the field. Assumes nothing.
use Rattle.bench_text.specs.Text.{field_text}
use Rattle.bench_text.proofs.Appending.{then, room_next}
use Rattle.bench_text.proofs.Listing.put_field.Goals as goal

pub put_byte-requires : goal.put_byte-requires
unfolding field_text
put_byte-requires c = room_next _ c.put_shown.ensures c.requires

pub returns : goal.returns
unfolding field_text
returns c = then c.put_shown.ensures c.put_byte.ensures
