-- What is held of the senders still to come makes the whole. Assumes nothing.
use Rattle.std.proofs.Common.{◌≡◌, ◌-◌, length}
use Rattle.std.proofs.lemmas.List.Edits.{sets}
use Rattle.tally.specs.Limits.{senders}
use Rattle.tally.specs.declared.Tally.{Tally}
use Rattle.formats.specs.InnerImages.{held_from, tally_at}
use Rattle.image_codec.proofs.TallyAt.cells.Given as goal

abbrev pub invariant-loop-k : goal.invariant-loop-k
invariant-loop-k l =
    let t : Tally = record { marks = l.marks; cells = (tally_at l.self.at l.self.bytes.now).cells } in
    (length l.cell-items ≡ senders) × (sets l.cell-items l.k (held_from t l.k (senders - l.k)) ≡ held_from t 0 senders)
