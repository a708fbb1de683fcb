-- The measure is how many fields are left. Assumes nothing.
use Rattle.std.proofs.Common.{length}
use Rattle.bench_text.proofs.Listing.+put_fields.Given as goal

abbrev pub decreases-put_fields : goal.decreases-put_fields
decreases-put_fields l = length l.fields.now
