-- It calls itself with one digit less, which is its measure. Assumes nothing.
use Rattle.bench_text.proofs.Listing.+put_digits.Given as goal

abbrev pub decreases-put_digits : goal.decreases-put_digits
decreases-put_digits l = l.k
