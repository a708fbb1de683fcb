-- A log or an image that is not read refuses the proposal; else what is stored is that of the unit read. Assumes nothing.
use Rattle.std.proofs.lemmas.Bool.{or_parts}
use Rattle.std.proofs.Common.{◌<◌, ℕ, get_or, sym, ap, ◌∙◌, rules}
use Rattle.std.specs.Result.{result_ok}
use Rattle.tally.specs.Limits.{today}
use Rattle.formats.proofs.Cleared.{length_cleared}
use Rattle.calls.specs.Calls.{unit_lengths, propose_call_conditions, propose_call}
use Rattle.calls.proofs.Entries.{passed_on, unit_sizes, out_size}
use Rattle.calls.proofs.Held.{cleared_empty, log_unread, image_unread, unit_read, held, propose_held}
use Rattle.calls.proofs.Stored.{proposal_stored}
use Rattle.unit_calls.proofs.propose.Goals as goal

pub returns-in_err-l : goal.returns-in_err-l
unfolding propose_call propose_call_conditions
returns-in_err-l c =
    let right = rw (c.wrong_lengths.ensures, c.clear.ensures, length_cleared today c.args.out.now) at c.if-wrong_lengths-out.false in
    rw (passed_on _ _ c.from_residual.ensures.1)
    (log_unread _ _ _ right c.clear.ensures c.in_err-l.field-0.0 (unit_sizes today _ _ (or_parts _ _ right).0).0 c.in_err-l.ensures)

pub returns-in_err-state : goal.returns-in_err-state
unfolding propose_call propose_call_conditions
returns-in_err-state c =
    let right = rw (c.wrong_lengths.ensures, c.clear.ensures, length_cleared today c.args.out.now) at c.if-wrong_lengths-out.false in
    let unfit = rw c.state_for.ensures at (sym c.ok_or.ensures.value ∙ c.in_err-state.was) in
    rw (passed_on _ _ c.from_residual-in_err-state.ensures.1) (image_unread _ _ _ right c.clear.ensures _ c.in_ok-l.ensures _ unfit)

pub returns : goal.returns
returns c =
    let fit = sym c.state_for.ensures ∙ c.ok_or.ensures.ok_part ∙ ap result_ok c.in_ok-state.was in
    let right = rw (c.wrong_lengths.ensures, c.clear.ensures, length_cleared today c.args.out.now) at c.if-wrong_lengths-out.false in
    let size = out_size today (unit_lengths today c.args.log.now c.args.image.now) c.args.out.now right in
    let image : (k : ℕ) → get_or c.args.image.now k 0 < 256 = search rules in
    let unit = (rw (c.tallies_of.ensures.seconds, c.tallies_of.ensures.checks) at c.up-u.ensures) ∙ unit_read _ _ _ c.in_ok-l.ensures _ fit image in
    let h = held _ _ _ c.in_ok-l.ensures _ fit image (search rules) in
    proposal_stored _ _ _ h _ (cleared_empty _ _ c.clear.ensures size) _ _ (rw (c.propose.ensures, unit) at c.put_proposal.ensures)
    ∙ propose_held _ _ _ h c.args.out.now size _
