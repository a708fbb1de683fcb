-- Every script of a header in range is covered. Assumes nothing.
use mathlib.Core.Path.{◌≡◌}
use mathlib.Core.Bool.{true}
use mathlib.Core.List.{List}
use native.Mathlib.Omega.{arith}
use lib.ListN.{length}
use Rattle.tally.specs.Limits.{Limits, Sane}
use Rattle.script.specs.Script.{in_ranges}
use Rattle.script.specs.declared.ScriptEvent.{ScriptEvent}
use Rattle.script.specs.declared.Header.{Header}
use Rattle.bench_play.specs.Bench.{start}
use Rattle.bench_play.specs.Play.{play, bench_after}
use Rattle.bench_play.specs.Claims.{sent_numbers}
use Rattle.bench_history.specs.Covered.{Covered}
use Rattle.bench_history.specs.History.{Below}
use Rattle.bench_history.proofs.ByteHistory.{started, byte_lawful, bytes_simulated, bytes_agreed}
use Rattle.bench_history.proofs.Decisions.{decisions_same, decision_proposed}
use Rattle.bench_play.proofs.Numbers.{full_only, full_met}
use Rattle.bench_history.proofs.OwnCalls.{calls}
use Rattle.bench_history.proofs.Rounds.{numbers_met}
use Rattle.bench_play.proofs.PlayedLines.{reached_sized, refused_stays, as_many, Numbered, numbered}
use Rattle.bench_history.proofs.Simulation.{simulated}

-- from the start, where nothing is kept
numbered_start : (l : Limits) (h : Header) (es : List ScriptEvent) → Numbered 0 (bench_after l (start h) es) (play l (start h) es)
unfolding start
numbered_start l h es = numbered l (start h) es

pub covered : (l : Limits) → Sane l → (h : Header) → in_ranges h.n h.entry ≡ true → (es : List ScriptEvent) → Below h.n es → Covered l h es
covered l sane h range es below =
    let n = numbered_start l h es in
    let kept : (bench_after l (start h) es).kept ≡ length (sent_numbers (play l (start h) es)) = omega (arith, n.kept) in
    record {
      sized = reached_sized h l es;
      contents = simulated h range l es below;
      started = started l sane h range;
      lawful = byte_lawful l sane h range es below;
      bytes = bytes_simulated l sane h range es below;
      calls = calls l sane h range es below;
      agreed = bytes_agreed l sane h range es below;
      decisions_same = decisions_same l h range es below;
      decision_proposed = decision_proposed l h range es below;
      full_only = λ before later e split. full_only l (bench_after l (start h) before) (reached_sized h l before) e;
      full_met = λ before later e split would full. full_met l (bench_after l (start h) before) e would (omega arith);
      refused_stays = λ before later e split. refused_stays l (bench_after l (start h) before) e;
      as_many = as_many l (start h) es;
      kept = kept;
      numbers = rw kept n.numbers;
      numbers_met = λ bound. numbers_met l h range bound es below;
    }
