-- A turn of the loop is the bench's turn, and its line's. Assumes nothing.
use Rattle.std.proofs.Common.{◌≡◌, sym, ◌∙◌, ap, length, arith}
use Rattle.tally.specs.Limits.{today}
use Rattle.bench_play.proofs.PlayedLines.{start_sized, sized_answer}
use Rattle.bench_play.specs.Play.{answer}
use Rattle.bench_turns.proofs.Turns.{turned, sent_room, after_sent, after_quiet, after_refused}
use Rattle.bench.proofs.LineEnds.{events_within}
use Rattle.bench.proofs.Lengths.{events_most}
use Rattle.bench.proofs.Rest.{line_turned, turn_room, left_start, left_step, left_end, end_room}
use Rattle.bench.proofs.turns.put_events.Goals as goal
use Rattle.bench.proofs.turns.put_events.Goals.{then-is_accepted+then-is_sent, then-is_accepted+else-is_sent, else-is_accepted}

pub loop-event-init : goal.loop-event-init
loop-event-init c =
    let n = c.args.h.n in
    let s = c.args.rest.now in
    rw c.into_iter-event-iterator.ensures.into_iter_gives
    record {
      counted = omega (arith, events_most n s, c.requires.rest_len_bound);
      within = events_within n c.requires.n_nonzero s;
      sized = rw c.start-b.ensures (start_sized c.args.h);
      left = rw c.start-b.ensures (left_start today _ _ _);
    }

pub put_line-requires : goal.put_line-requires
put_line-requires c =
    let inv = c.loop-event.invariant in
    let t =
    turned today c.loop-event.b _ _ _ _ _ inv.sized.kept c.event_unit-u.ensures c.event_place-k.ensures c.turn-answer.ensures
    c.outcome_of-outcome.ensures in
    rw (c.listing_line.ensures, line_turned _ t) (turn_room today inv.left c.requires.room c.in-Some.event _ c.in-Some.ensures.steps)

-- what is sent has a place
pub bounds-b-b : goal.bounds-b-b
bounds-b-b c =
    let t =
    turned today c.loop-event.b _ _ _ _ _ c.loop-event.invariant.sized.kept c.event_unit-u.ensures c.event_place-k.ensures c.turn-answer.ensures
    c.outcome_of-outcome.ensures in
    sent_room t (sym c.is_sent.ensures ∙ c.if-is_sent.true)

pub loop-event-preserved : goal.loop-event-preserved
loop-event-preserved c =
    let inv = c.loop-event.invariant in
    let event = c.in-Some.event in
    let there = c.in-Some.ensures.steps in
    let t =
    turned today c.loop-event.b _ _ _ _ _ inv.sized.kept c.event_unit-u.ensures c.event_place-k.ensures c.turn-answer.ensures
    c.outcome_of-outcome.ensures in
    let accepted = sym c.is_accepted.ensures in
    let next : c.if-is_accepted.b ≡ (answer today c.loop-event.b event).bench =
    elim c.if-is_accepted.branch [
      | then-is_accepted+then-is_sent w ↦ w.b-is ∙ after_sent t (accepted ∙ w.if-is_accepted.true) (sym w.is_sent.ensures ∙ w.if-is_sent.true)
      | then-is_accepted+else-is_sent w ↦ w.b-is ∙ after_quiet t (accepted ∙ w.if-is_accepted.true) (sym w.is_sent.ensures ∙ w.if-is_sent.false)
      | else-is_accepted w ↦ w.b-is ∙ after_refused t (accepted ∙ w.if-is_accepted.false)
    ] in record {
      counted = omega (arith, inv.counted, ap length there);
      within = (rw there at inv.within).1;
      sized = rw next (sized_answer today c.loop-event.b inv.sized event);
      left = left_step today inv.left c.requires.room event _ there _ next (rw (c.listing_line.ensures, line_turned _ t) at c.put_line.ensures);
    }

pub put_end-requires : goal.put_end-requires
put_end-requires c = end_room today c.loop-event.invariant.left c.requires.room c.in-None.ensures.steps.0

pub returns : goal.returns
returns c = left_end today c.loop-event.invariant.left c.requires.room c.in-None.ensures.steps.0 c.put_end.ensures
