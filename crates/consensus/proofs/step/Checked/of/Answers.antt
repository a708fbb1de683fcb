-- A well-formed message's sender is below n, and its round no higher than the last. Assumes nothing.
use Rattle.std.proofs.Common.{sym, arith}
use Rattle.tally.specs.Limits.{today}
use Rattle.contents.proofs.Facts.{message_facts}
use Rattle.consensus.proofs.step.Checked.of.Goals as goal

pub invariant_of-result : goal.invariant_of-result
invariant_of-result c =
    let facts = message_facts today c.args.message (sym (c.if-well_formed.ensures)) in
    record { placed = omega (arith, facts.numbers.below, facts.numbers.n_high); in_rounds = facts.round }
