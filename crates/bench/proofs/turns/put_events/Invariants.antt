-- What is left to print from here prints the whole. Assumes nothing.
use Rattle.std.proofs.Common.{◌+◌, ◌≤◌, length}
use Rattle.tally.specs.Limits.{today, script_size}
use Rattle.bench_play.specs.Bench.{start}
use Rattle.bench_play.specs.Claims.{Sized}
use Rattle.bench.specs.InnerLines.{events_in}
use Rattle.bench.proofs.LineEnds.{Within}
use Rattle.bench.proofs.Rest.{Left}
use Rattle.bench.proofs.turns.put_events.Given as goal

abbrev pub invariant-loop-event : goal.invariant-loop-event
invariant-loop-event l =
    let es = events_in l.event-iterator.n l.event-iterator.rest.now in
    record {
      counted : l.i + length es ≤ script_size;
      within : Within l.fn.h.n es;
      sized : Sized l.b;
      left : Left today l.initial.out (start l.fn.h) (events_in l.fn.h.n l.rest) l.out l.b es l.i;
    }
