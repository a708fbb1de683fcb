-- A log, an image or a message that is not read refuses the delivery; else what is stored is that of the unit read. Assumes nothing.
use Rattle.std.proofs.lemmas.Bool.{or_parts}
use Rattle.std.proofs.Common.{◌<◌, ℕ, get_or, sym, ap, ◌∙◌, ◌||◌, rules}
use Rattle.std.specs.Result.{result_ok}
use Rattle.tally.specs.Limits.{today, message_size}
use Rattle.tally.proofs.Bounds.{sane_today}
use Rattle.formats.proofs.Cleared.{length_cleared}
use Rattle.consensus.specs.Conditions.{first_refusal}
use Rattle.calls.specs.Calls.{wrong_length, unit_lengths, deliver_call_conditions, deliver_call}
use Rattle.calls.proofs.Entries.{passed_on, message_refused, unit_sizes, out_size}
use Rattle.calls.proofs.Held.{cleared_empty, log_good, log_unread, image_unread, image_good, unit_read, held, deliver_held}
use Rattle.calls.proofs.Stored.{answer_stored}
use Rattle.unit_calls.proofs.deliver.Goals as goal

pub returns-in_err-l : goal.returns-in_err-l
unfolding deliver_call deliver_call_conditions
returns-in_err-l c =
    let right = rw (c.wrong_lengths.ensures, c.clear.ensures, length_cleared today c.args.out.now) at c.if-wrong_lengths-message.false in
    let size = (unit_sizes today _ _ (or_parts _ _ (or_parts _ _ right).0).0).0 in
    rw (passed_on _ _ c.from_residual.ensures.1) (log_unread _ _ _ right c.clear.ensures c.in_err-l.field-0.0 size c.in_err-l.ensures)

pub returns-in_err-state : goal.returns-in_err-state
unfolding deliver_call deliver_call_conditions
returns-in_err-state c =
    let right = rw (c.wrong_lengths.ensures, c.clear.ensures, length_cleared today c.args.out.now) at c.if-wrong_lengths-message.false in
    let unfit = rw c.state_for.ensures at (sym c.ok_or.ensures.value ∙ c.in_err-state.was) in
    rw (passed_on _ _ c.from_residual-in_err-state.ensures.1) (image_unread _ _ _ right c.clear.ensures _ c.in_ok-l.ensures _ unfit)

pub returns-in_err-m : goal.returns-in_err-m
unfolding deliver_call deliver_call_conditions first_refusal
returns-in_err-m c =
    let right = rw (c.wrong_lengths.ensures, c.clear.ensures, length_cleared today c.args.out.now) at c.if-wrong_lengths-message.false in
    let fit = sym c.state_for.ensures ∙ c.ok_or.ensures.ok_part ∙ ap result_ok c.in_ok-state.was in
    let size = out_size today _ c.args.message.now (or_parts _ _ right).0 in
    let bad = message_refused today sane_today _ c.in_err-m.field-0.0 size c.in_err-m.ensures in
    rw (right, log_good _ _ c.in_ok-l.ensures, image_good _ _ _ c.in_ok-l.ensures _ fit, bad.0, passed_on _ _ c.from_residual-in_err-m.ensures.1)
    (rw (bad.1, c.clear.ensures))

pub returns : goal.returns
returns c =
    let fit = sym c.state_for.ensures ∙ c.ok_or.ensures.ok_part ∙ ap result_ok c.in_ok-state.was in
    let right = rw (c.wrong_lengths.ensures, c.clear.ensures, length_cleared today c.args.out.now) at c.if-wrong_lengths-message.false in
    let others = unit_lengths today c.args.log.now c.args.image.now || wrong_length c.args.message.now (message_size today) in
    let size = out_size today others c.args.out.now right in
    let image : (k : ℕ) → get_or c.args.image.now k 0 < 256 = search rules in
    let unit = (rw (c.tallies_of.ensures.seconds, c.tallies_of.ensures.checks) at c.up-u.ensures) ∙ unit_read _ _ _ c.in_ok-l.ensures _ fit image in
    let h = held _ _ _ c.in_ok-l.ensures _ fit image (search rules) in
    (rw (c.deliver.ensures, unit) at c.put_answer.ensures)
    ∙ answer_stored _ _ _ h _ (cleared_empty _ _ c.clear.ensures size) _
    ∙ deliver_held _ _ _ h c.args.out.now size c.args.message.now _ (search rules) c.in_ok-m.ensures
