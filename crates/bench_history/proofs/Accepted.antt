-- An accepted line is the event of agreement that it stands for. Assumes nothing.
use Prim.Native.Nat.{ℕ, ◌<◌}
use mathlib.Core.Path.{◌≡◌, refl, sym, ap, ◌∙◌}
use mathlib.Core.List.{List, [], ◌∷◌, ◌++◌, map, append-nil, map-append}
use mathlib.Core.Option.{some}
use native.Mathlib.Omega.{arith}
use lib.ListN.{get_elem?}
use borrow.Author.Tests.{eq-eqb, lt-ltb}
use Rattle.tally.specs.Limits.{Limits}
use Rattle.tally.specs.Refusal.{number_of}
use Rattle.tally.specs.declared.Estimate.{Estimate}
use Rattle.tally.specs.declared.Estimate.TheVariants.{Blank, Split, Mileage}
use Rattle.consensus.specs.Methods.{propose, deliver, key_off, key_on}
use Rattle.consensus.specs.Step.{quiet}
use Rattle.consensus.specs.Units.{unit_log, down_unit}
use Rattle.consensus.specs.declared.Answer.{Answer}
use Rattle.consensus.specs.declared.Unit as U
use Rattle.agreement.specs.Contents.{ContentsWorld, unless_empty, after, after_cut, after_proposal, delivering, apply, step}
use Rattle.agreement.specs.Contents as C
use Rattle.agreement.specs.Worlds.{Proposal, Decision, put, change, decision, run}
use Rattle.agreement.proofs.History.{added, after_is}
use Rattle.script.specs.Script.{event_unit}
use Rattle.script.specs.declared.ScriptEvent.{ScriptEvent}
use Rattle.bench_play.specs.Bench.{unit_at, message_at}
use Rattle.bench_play.specs.Claims.{Sized}
use Rattle.bench_play.specs.Play.{Played, delivery, cut_short, unit_answer}
use Rattle.bench_play.specs.declared.Bench.{Bench}
use Rattle.bench_play.proofs.Accepting.{Accepts, delivered, cut_accepted, off_accepted, on_accepted}
use Rattle.bench_history.specs.History.{contents_event, event_proposals, decided_of, without_round, Shows}
use Rattle.bench_history.proofs.Lists.{at_taken}

-- from w to w': unit u is its answer's, whose message, if any, is sent and whose decision, if any, reported; ps are proposed
pub record Went (w w' : ContentsWorld) (ps : List Proposal) (u : ℕ) (a : Answer) : Type 0 where
  pub units : w'.units ≡ put w.units u a.unit
  pub sent : w'.sent ≡ added w.sent (unless_empty a.message.kind a.message)
  pub proposed : w'.proposed ≡ w.proposed ++ ps
  pub decided : map without_round w'.decided ≡ map without_round w.decided ++ decided_of u a.decision

decided_added : (ds : List Decision) (u r : ℕ) (e : Estimate) → map without_round (added ds (decision u r e)) ≡ map without_round ds ++ decided_of u e
decided_added ds u r Blank = sym (append-nil _)
decided_added ds u r Split = sym (append-nil _)
decided_added ds u r (Mileage v) = map-append without_round ds _

module _ (w : ContentsWorld) (u : ℕ) where
  went_after : (r : ℕ) (a : Answer) → Went w (after w u r a) [] u a
  went_after r a =
      rw (after_is w u r a)
      (record { units = refl; sent = refl; proposed = sym (append-nil w.proposed); decided = decided_added w.decided u r a.decision })

  went_proposal : (v : ℕ) (a : Answer) → Accepts a → Went w (after_proposal w u v a) (record { unit = u; mileage = v } ∷ []) u a
  unfolding after_proposal
  went_proposal v a zero =
      let g = went_after 0 a in
      rw (eq-eqb (number_of a.refusal) 0 zero)
      (record {
        units = g.units;
        sent = g.sent;
        proposed = ap (λ ps. ps ++ (record { unit = u; mileage = v } ∷ [])) (g.proposed ∙ append-nil w.proposed);
        decided = g.decided;
      })

  -- nothing is sent or decided
  went_quiet : (x : U.Unit) → Went w (change w u x) [] u (quiet x)
  went_quiet x = record { units = refl; sent = refl; proposed = sym (append-nil _); decided = sym (append-nil _) }

module _ (l : Limits) (n : ℕ) (b : Bench) (sized : Sized b) (lines : List Played) (w : ContentsWorld) (shows : Shows n b lines w) where
  pub sent_at : (k : ℕ) → k < b.kept → get_elem? w.sent k ≡ some (message_at b k)
  unfolding message_at
  sent_at k h = rw shows.sent (at_taken b.messages b.kept k _ h (omega (arith, sized.messages, sized.kept)))

  module _ (u : ℕ) (below : u < n) where
    went_delivery : (k : ℕ) → Accepts (delivery l b u k) → Went w (apply l w (C.delivery u k)) [] u (delivery l b u k)
    unfolding apply delivering
    went_delivery k zero =
        let d = delivered l b u k zero in
        rw (sent_at k d.sent, shows.units u below, d.same) (went_after w u (message_at b k).round (deliver l (unit_at b u) (message_at b k)))

    went_cut : (k : ℕ) → Accepts (cut_short (delivery l b u k)) → Went w (apply l w (C.cut u k)) [] u (cut_short (delivery l b u k))
    unfolding apply delivering after_cut
    went_cut k zero =
        let c = cut_accepted (delivery l b u k) zero in
        let d = delivered l b u k c.0 in
        let a = deliver l (unit_at b u) (message_at b k) in
        let off : cut_short (delivery l b u k) ≡ key_off a.unit = c.1 ∙ ap (λ (x : Answer). key_off x.unit) d.same in
        let q : key_off a.unit ≡ quiet (down_unit (unit_log a.unit)) = off_accepted a.unit (rw off at zero) in
        rw (
          sent_at k d.sent,
          shows.units u below,
          eq-eqb (number_of a.refusal) 0 (rw d.same at c.0),
          off,
          q,
        )
        (went_quiet w u (down_unit (unit_log a.unit)))

    went_off : Accepts (key_off (unit_at b u)) → Went w (apply l w (C.off u)) [] u (key_off (unit_at b u))
    unfolding apply
    went_off zero = rw (shows.units u below, off_accepted (unit_at b u) zero) (went_quiet w u _)

    went_on : Accepts (key_on (unit_at b u)) → Went w (apply l w (C.on u)) [] u (key_on (unit_at b u))
    unfolding apply
    went_on zero = rw (shows.units u below, (on_accepted (unit_at b u) zero).1) (went_quiet w u _)

  -- the event runs as the bench's unit answers
  pub went : (e : ScriptEvent) → event_unit e < n → Accepts (unit_answer l b e)
      → Went w (run (step l n) w (contents_event e)) (event_proposals e) (event_unit e) (unit_answer l b e)
  unfolding unit_answer run step apply
  went ScriptEvent.Malformed below zero = absurd (omega (arith, zero))
  went (ScriptEvent.Propose u v) below zero =
      rw (lt-ltb u n below, shows.units u below) (went_proposal w u v (propose l (unit_at b u) v) zero)
  went (ScriptEvent.Deliver u k) below zero = rw (lt-ltb u n below) (went_delivery u below k zero)
  went (ScriptEvent.Cut u k) below zero = rw (lt-ltb u n below) (went_cut u below k zero)
  went (ScriptEvent.KeyOff u) below zero = rw (lt-ltb u n below) (went_off u below zero)
  went (ScriptEvent.KeyOn u) below zero = rw (lt-ltb u n below) (went_on u below zero)
