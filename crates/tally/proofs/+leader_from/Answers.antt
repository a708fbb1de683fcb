-- The end of the senders, one that leads, and one that does not. Assumes nothing.
use Rattle.std.proofs.Common.{sym, ◌∙◌, arith}
use Rattle.tally.specs.Gathered.{first_passing, leads}
use Rattle.tally.specs.Tally.{gathered, gathered_from}
use Rattle.tally.proofs.Tallies.{first_step}
use Rattle.tally.proofs.+leader_from.Goals.{in_default-via-in-Some+else-leads, in_default-via-in_default}
use Rattle.tally.proofs.+leader_from.Goals as goal

pub returns-then-sender-eq-MAX_UNITS : goal.returns-then-sender-eq-MAX_UNITS
unfolding first_passing gathered_from
returns-then-sender-eq-MAX_UNITS t c = rw c.if-sender-eq-MAX_UNITS.true

pub returns-in-Some : goal.returns-in-Some
returns-in-Some t c =
    let step = first_step (leads c.args.need (gathered c.args.t.now)) c.args.t.now c.args.sender (omega arith) in
    sym (step ∙ rw (← c.sent_by.ensures, c.in-Some.is, ← c.leads.ensures, c.if-leads.true))

pub returns-in_default : goal.returns-in_default
returns-in_default t c =
    let step = first_step (leads c.args.need (gathered c.args.t.now)) c.args.t.now c.args.sender (omega arith) in
    c.leader_from.ensures ∙ sym (step ∙ elim c.in_default.branch [
      | in_default-via-in-Some+else-leads w ↦ rw (← c.sent_by.ensures, w.in-Some.is, ← w.leads.ensures, w.if-leads.false)
      | in_default-via-in_default w ↦ rw (← c.sent_by.ensures, w.in_default.is)
    ])
