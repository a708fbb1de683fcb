-- Rounds rise no faster than messages are sent, so that 128 places leave number 7 unmet; and so with 4. Assumes nothing.
use Prim.Native.Nat.{ℕ, ◌+◌, ◌≤◌, ◌<◌}
use mathlib.Core.Path.{◌≡◌, refl, sym, subst, ◌∙◌}
use mathlib.Core.Bool.{Bool, true, false, cond}
use mathlib.Core.List.{List, [], ◌∷◌, Memᴰ}
use native.Mathlib.Omega.{arith}
use lib.Dec.{eqb}
use lib.ListN.{get_or, set}
use lib.Seq.{get_or-set_same, get_or-set_other}
use borrow.Author.Tests.{eqb-true, eqb-false}
use Rattle.tally.specs.Limits.{Limits, places, senders}
use Rattle.tally.specs.Refusal.{number_of}
use Rattle.tally.proofs.Never.{never}
use Rattle.contents.specs.Messages.{empty_message}
use Rattle.contents.specs.declared.Kind.{Kind}
use Rattle.contents.specs.declared.Message.{Message}
use Rattle.consensus.specs.Methods.{closes_last, propose_conditions, propose, deliver_conditions, deliver, key_off, key_on}
use Rattle.consensus.specs.Step.{says, log_write, at_round, fresh, recovered, send_first, proposed}
use Rattle.consensus.specs.Step.{vote_first, take_first, vote_second, take_second, close, on_kind, skip, received}
use Rattle.consensus.specs.Units.{at_log, down_unit}
use Rattle.consensus.specs.declared.Answer.{Answer}
use Rattle.consensus.specs.declared.Unit as U
use Rattle.consensus.proofs.Branches.{by_kind, by_check, by_second, by_round, by_unless}
use Rattle.consensus.proofs.Refusals.{closes_next}
use Rattle.agreement.specs.Contents.{begun}
use Rattle.script.specs.Script.{event_unit, in_ranges}
use Rattle.script.specs.declared.ScriptEvent.{ScriptEvent}
use Rattle.script.specs.declared.Header.{Header}
use Rattle.bench_play.specs.Bench.{LineAnswer, start, no_unit, unit_at, message_at, with_unit, with_message}
use Rattle.bench_play.specs.Play.{Played, delivery, answer, play, bench_after, unit_answer}
use Rattle.bench_play.specs.declared.Bench.{Bench}
use Rattle.bench_play.specs.Claims.{Sized}
use Rattle.bench_history.specs.History.{Below}
use Rattle.bench_history.specs.Covered.{met}
use Rattle.bench_play.proofs.Accepting.{Accepts, delivered, cut_accepted, off_accepted, on_accepted}
use Rattle.bench_history.proofs.Lists.{at_in}
use Rattle.bench_play.proofs.Numbers.{of_unit_lem}
use Rattle.bench_play.proofs.PlayedLines.{unit_set, sized_answer, start_sized, reached_sized, line_played}
use Rattle.bench_history.proofs.Lines.{below_parts}
use Rattle.bench_play.proofs.Settled.{by_answer}
use Rattle.bench_history.proofs.Simulation.{units_high, start_shows, kept_well_formed}

-- ---- a step

-- a unit in no round above k
abbrev Low : ℕ → U.Unit → Type 0
Low k x = (x.current.round ≤ k) × (x.logged.round ≤ k)

-- nor its message
abbrev LowAnswer : ℕ → Answer → Type 0
LowAnswer k a = Low k a.unit × (a.message.round ≤ k)

module _ (k : ℕ) where
  -- a SECOND closes a round below k, and so none above k is reached
  low_kind : (kind : Kind) (x : U.Unit) (m : Message) → x.current.round < k → x.logged.round ≤ k → LowAnswer k (on_kind kind x m)
  unfolding vote_first take_first vote_second take_second close log_write at_round says
  low_kind kind x m now logged =
      let same : (x.current.round ≤ k) × (x.logged.round ≤ k) = (omega arith, logged) in
      let written : (x.current.round ≤ k) × (x.current.round ≤ k) = (omega arith, omega arith) in
      by_kind (LowAnswer k) kind x m
      (record {
        nothing = (same, omega arith);
        first = λ e free. (written, written.0);
        first_again = λ e there. (same, same.0);
        checks = λ e free new. by_check (LowAnswer k) x _ (λ full. (written, written.0)) (λ short. (same, omega arith));
        second_again = λ e there. (same, same.0);
        seconds = λ e new. by_second (LowAnswer k) x _ (λ full. ((omega arith, logged), omega arith)) (λ short. (same, omega arith));
      })

  low_received : (x : U.Unit) (m : Message) → Low k x → m.round < k → LowAnswer k (received x m)
  unfolding skip says at_round
  low_received x m low h =
      by_round (LowAnswer k) x m (λ below. (low, low.0)) (λ at. low_kind m.kind x m (omega arith) low.1)
      (λ above. low_kind m.kind (at_round x m.round m.proposal) m h low.1)

  low_deliver : (l : Limits) (x : U.Unit) (m : Message) → Low k x → m.round < k → LowAnswer k (deliver l x m)
  unfolding deliver
  low_deliver l x m low h = by_unless (LowAnswer k) (deliver_conditions l x m) x (received x m) (low_received x m low h) (λ r. (low, omega arith))

  low_propose : (l : Limits) (x : U.Unit) (v : ℕ) → Low k x → LowAnswer k (propose l x v)
  unfolding propose proposed send_first says
  low_propose l x v low = by_unless (LowAnswer k) (propose_conditions l x v) x (proposed x v) (low, low.0) (λ r. (low, omega arith))

  -- an accepted key-off or key-on leaves the log's round
  low_off : (x : U.Unit) → Accepts (key_off x) → x.logged.round ≤ k → LowAnswer k (key_off x)
  unfolding down_unit at_log
  low_off x ok logged = rw (off_accepted x ok) ((logged, logged), omega arith)

  low_on : (x : U.Unit) → Accepts (key_on x) → x.logged.round ≤ k → LowAnswer k (key_on x)
  unfolding recovered at_log
  low_on x ok logged = rw (on_accepted x ok).1 ((logged, logged), omega arith)

-- ---- the bench

-- no unit's round is above the number of messages kept, and none of message k above k
record Slow (n : ℕ) (b : Bench) : Type 0 where
  units : (u : ℕ) → u < n → Low b.kept (unit_at b u)
  messages : (k : ℕ) → k < b.kept → (message_at b k).round ≤ k

module _ (l : Limits) (n : ℕ) (high : n ≤ senders) (b : Bench) (sized : Sized b) (slow : Slow n b) where
  low_delivery : (u k : ℕ) → u < n → Accepts (delivery l b u k) → LowAnswer b.kept (delivery l b u k)
  low_delivery u k below ok =
      let d = delivered l b u k ok in
      rw d.same (low_deliver b.kept l (unit_at b u) (message_at b k) (slow.units u below) (omega (arith, slow.messages k d.sent)))

  low_event : (e : ScriptEvent) → event_unit e < n → Accepts (unit_answer l b e) → LowAnswer b.kept (unit_answer l b e)
  unfolding unit_answer
  low_event ScriptEvent.Malformed below ok = absurd (omega (arith, ok))
  low_event (ScriptEvent.Propose u v) below ok = low_propose b.kept l (unit_at b u) v (slow.units u below)
  low_event (ScriptEvent.Deliver u k) below ok = low_delivery u k below ok
  low_event (ScriptEvent.Cut u k) below ok =
      let c = cut_accepted (delivery l b u k) ok in
      rw c.1 (low_off b.kept (delivery l b u k).unit (rw c.1 at ok) (low_delivery u k below c.0).0.1)
  low_event (ScriptEvent.KeyOff u) below ok = low_off b.kept (unit_at b u) ok (slow.units u below).1
  low_event (ScriptEvent.KeyOn u) below ok = low_on b.kept (unit_at b u) ok (slow.units u below).1

  slow_answer : (e : ScriptEvent) → event_unit e < n → Slow n (answer l b e).bench
  unfolding with_unit with_message unit_at message_at
  slow_answer e below =
      by_answer (λ (r : LineAnswer). Slow n r.bench) l b e
      (record {
        refuses = λ some. slow;
        quiet = λ ok empty. record { units = units ok b.kept (omega arith); messages = slow.messages };
        full = λ ok some no. slow;
        sends = λ ok some room. record { units = units ok (b.kept + 1) (omega arith); messages = messages ok room };
      })
    where
      a : Answer
      a = unit_answer l b e

      units : Accepts a → (k : ℕ) → b.kept ≤ k → (u : ℕ) → u < n → Low k (get_or (set b.units (event_unit e) a.unit) u no_unit)
      units ok k more u h = rw (unit_set b (event_unit e) a.unit u (omega (arith, sized.units))) (go (eqb u (event_unit e)))
        where
          go : (t : Bool) → Low k (cond t a.unit (unit_at b u))
          go true = let r = (low_event e below ok).0 in (omega (arith, r.0), omega (arith, r.1))
          go false = let r = slow.units u h in (omega (arith, r.0), omega (arith, r.1))

      messages : Accepts a → b.kept < places → (k : ℕ) → k < b.kept + 1
          → (get_or (set b.messages b.kept a.message) k empty_message).round ≤ k
      messages ok room k h = go (eqb k b.kept) refl
        where
          go : (t : Bool) → eqb k b.kept ≡ t → (get_or (set b.messages b.kept a.message) k empty_message).round ≤ k
          go true q =
              rw (eqb-true k b.kept q, get_or-set_same b.messages b.kept a.message empty_message (omega (arith, sized.messages)))
              (low_event e below ok).1
          go false q =
              let apart = eqb-false k b.kept q in
              rw (get_or-set_other b.messages b.kept k a.message empty_message apart) (slow.messages k (omega arith))

slow_after : (l : Limits) (n : ℕ) → n ≤ senders → (es : List ScriptEvent) → Below n es → (b : Bench) → Sized b → Slow n b
    → Slow n (bench_after l b es)
unfolding bench_after
slow_after l n high [] below b sized slow = slow
slow_after l n high (e ∷ es) below b sized slow =
    slow_after l n high es below.1 (answer l b e).bench (sized_answer l b sized e) (slow_answer l n high b sized slow e below.0)

-- ---- the script

module _ (l : Limits) (h : Header) (range : in_ranges h.n h.entry ≡ true) where
  start_slow : Slow h.n (start h)
  unfolding start fresh at_log begun
  start_slow =
      record { units = λ u below. rw (← (start_shows h range).units u below) (omega arith, omega arith); messages = λ k less. absurd (omega arith) }

  module _ (bound : places ≤ l.last_round) where
    -- on the bench after es, number 7 and number 4 are not met
    module _ (es : List ScriptEvent) (below : Below h.n es) where
      abbrev b : Bench
      b = bench_after l (start h) es

      slow : Slow h.n b
      slow = slow_after l h.n (units_high h range) es below (start h) (start_sized h) start_slow

      never_last : (u : ℕ) → u < h.n → (k : ℕ) → k < b.kept → closes_last l (unit_at b u) (message_at b k) ≡ true → ⊥
      never_last u less k sent closes =
          omega (
            arith,
            closes_next l (unit_at b u) (message_at b k) closes,
            (low_received b.kept (unit_at b u) (message_at b k) (slow.units u less) (omega (arith, slow.messages k sent))).0.0,
            (reached_sized h l es).kept,
          )

      answer_met : (e : ScriptEvent) → event_unit e < h.n → Memᴰ (number_of (answer l b e).refusal) met
      answer_met e at =
          by_answer (λ (r : LineAnswer). Memᴰ (number_of r.refusal) met) l b e
          (record {
            refuses = λ some. own;
            quiet = λ ok empty. is 0 (omega arith);
            full = λ ok some no. is 6 (omega arith);
            sends = λ ok some room. is 0 (omega arith);
          })
        where
          is : (i : ℕ) → i < 7 → Memᴰ (get_or met i 0) met
          is i less = at_in met i 0 less

          own : Memᴰ (number_of (unit_answer l b e).refusal) met
          own =
              of_unit_lem (λ k. Memᴰ (number_of k) met) l b e
              (record {
                none = is 0 (omega arith);
                line = is 3 (omega arith);
                power = is 4 (omega arith);
                mileage = is 2 (omega arith);
                unsent = is 5 (omega arith);
                addressee = is 1 (omega arith);
                message = λ k sent bad. never (sym bad ∙ kept_well_formed h range l es below k sent);
                last = λ k sent closes. absurd (never_last (event_unit e) at k sent closes);
              })

    -- 1 to 4 and 7 are never met
    pub numbers_met : (es : List ScriptEvent) → Below h.n es → (p : Played) → Memᴰ p (play l (start h) es)
        → Memᴰ (number_of p.answer.refusal) met
    numbers_met es below p there =
        let r = line_played l (start h) es p there in
        let parts = below_parts h.n r.before p.event r.after (subst (Below h.n) r.split below) in
        rw r.answer (answer_met r.before parts.0 p.event parts.1)
