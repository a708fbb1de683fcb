-- The array's length, without the array. Assumes nothing.
use Rattle.std.proofs.Common.{◌≡◌, ℕ, length, sym}
use Rattle.std.proofs.Math.ListN.{replicate}
use Rattle.std.proofs.lemmas.List.{length-replicate}
use Rattle.bench.specs.Widths.{max_listing}
use Rattle.bench.proofs.page.Goals as goal

page_length : (n : ℕ) → n ≡ length {A = ℕ} (replicate n 0)
page_length n = sym (length-replicate n 0)

pub returns : goal.returns
returns c = page_length max_listing
