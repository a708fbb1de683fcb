-- Sixteen numbers that are all read as blank are sixteen blank codes. Assumes nothing.
use Rattle.std.proofs.Common.{ℕ, List, true, ◌≡◌, ◌<◌, sym, ◌∙◌, length, get_or, arith}
use Rattle.std.proofs.Math.ListN.{replicate}
use Rattle.std.proofs.lemmas.Grind.{same_number_lists}
use Rattle.std.proofs.lemmas.Bool.{eqb-true}
use Rattle.std.proofs.lemmas.List.{get_or-replicate}
use Rattle.tally.specs.Limits.{senders, blank_code}
use Rattle.contents.specs.Estimates.{is_blank}
use Rattle.contents.specs.Images.{every}
use Rattle.contents.proofs.Tests.{every_at}
use Rattle.formats.specs.Codes.{estimate_of}
use Rattle.formats.proofs.Letters.{blank_number}

pub all_blank : (xs : List ℕ) → length xs ≡ senders → every senders (λ u. is_blank (estimate_of (get_or xs u 0))) ≡ true
    → xs ≡ replicate senders blank_code
all_blank xs e h =
    same_number_lists xs (replicate senders blank_code) e
    (λ k b.
    let at : k < senders = omega arith in
    eqb-true _ _ (blank_number (get_or xs k 0) ∙ every_at senders (λ u. is_blank (estimate_of (get_or xs u 0))) h k at)
    ∙ sym (get_or-replicate senders k blank_code 0 at))
