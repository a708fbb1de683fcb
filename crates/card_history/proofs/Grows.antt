-- What was sent, proposed or decided of any entry stays so, and a row that was started. Assumes nothing.
use Prim.Native.Nat.{ℕ}
use mathlib.Core.Path.{◌≡◌, refl, subst}
use mathlib.Core.Bool.{Bool, false, cond}
use mathlib.Core.List.Memᴰ
use mathlib.Core.List.{List, [], ◌∷◌, Memᴰ}
use mathlib.Core.Option.{Option, none, some}
use lib.Dec.{eqb}
use lib.ListN.{get_elem?}
use borrow.Author.Tests.{eqb-true}
use Rattle.tally.specs.Limits.{Limits}
use Rattle.tally.specs.declared.Engine.{Engine}
use Rattle.contents.specs.declared.Message.{Message}
use Rattle.formats.specs.Messages.{read_message}
use Rattle.cards.specs.Calls.{CardAnswer}
use Rattle.cards.specs.declared.CardRow.{CardRow}
use Rattle.agreement.specs.Worlds.{put, run}
use Rattle.card_history.specs.Cards.{CardUnit, CardWorld, Lent, lent_card, other, CardEvent, start, proposal, delivery, cut, off, on, call, is_new, is_up}
use Rattle.card_history.specs.Cards.{is_down, added, of_entry, RowOutcome, next, leave, after, leave_lent, card_of, run_call}
use Rattle.card_history.specs.Cards.{delivering, step}
use Rattle.card_history.specs.Claims.{Grown}
use Rattle.card_history.proofs.Stages.{if_so}

more : {A : Type 0} (xs : List A) (o : Option A) (a : A) → Memᴰ a xs → Memᴰ a (added xs o)
more xs none a h = h
more xs (some b) a h = Memᴰ.append_left (b ∷ []) h

module _ (w : CardWorld) where
  grown_same : Grown w w
  grown_same = record { started = λ u k h. h; sent = λ x h. h; proposed = λ x h. h; decided = λ x h. h }

  -- unit u is y from now on
  started_put : (u : ℕ) (y : CardUnit) → ((k : ℕ) → is_new ((w.units u).stage k) ≡ false → is_new (y.stage k) ≡ false)
      → (v k : ℕ) → is_new ((w.units v).stage k) ≡ false → is_new ((put w.units u y v).stage k) ≡ false
  started_put u y f v k h =
      if_so (λ (z : CardUnit). is_new (z.stage k) ≡ false) (eqb v u) y (w.units v)
      (λ e. f k (subst (λ i. is_new ((w.units i).stage k) ≡ false) (eqb-true v u e) h)) h

  -- the outcome of a row that is started from then on
  grown_next : (u k : ℕ) (o : RowOutcome) → is_new o.stage ≡ false → Grown w (next w u k o)
  unfolding next
  grown_next u k o s =
      record {
        started =
            started_put u _ λ j h. if_so (λ z. is_new z ≡ false) (eqb j k) o.stage ((w.units u).stage j) (λ e. s) h;
        sent = more w.sent o.sent;
        proposed = more w.proposed (of_entry k o.proposed);
        decided = more w.decided (of_entry k o.decided);
      }

  grown_leave : (u : ℕ) (rows : List CardRow) → Grown w (leave w u rows)
  unfolding leave
  grown_leave u rows = record { started = started_put u _ (λ j h. h); sent = λ x h. h; proposed = λ x h. h; decided = λ x h. h }

  grown_after : (u k : ℕ) (a : CardAnswer) (o : RowOutcome) → is_new o.stage ≡ false → Grown w (after w u k a o)
  unfolding after
  grown_after u k a o s = if_so (Grown w) (eqb a.number 0) (next w u k o) (leave w u a.rows) (λ e. grown_next u k o s) (grown_leave u a.rows)

  module _ (l : Limits) (g : Engine) (n : ℕ) where
    grown_if : (b : Bool) (w' : CardWorld) → Grown w w' → Grown w (cond b w' w)
    grown_if b w' p = if_so (Grown w) b w' w (λ e. p) grown_same

    grown_message : (u : ℕ) (out : List ℕ) (f : Message → CardAnswer → RowOutcome)
        → ((m : Message) (a : CardAnswer) → is_new (f m a).stage ≡ false)
        → (o : Option (List ℕ)) → Grown w (delivering l g n w u out f o)
    unfolding delivering
    grown_message u out f s none = grown_same
    grown_message u out f s (some bs) = grown_if (is_up ((w.units u).stage (read_message l bs).contents.entry)) _ (grown_after u _ _ _ (s _ _))

    grown_lent : (b : Lent) (rows : List CardRow) → Grown w (leave_lent w b rows)
    grown_lent (lent_card u) rows = grown_leave u rows
    grown_lent (other old) rows = grown_same

    grown_step : (e : CardEvent) → Grown w (step l g n w e)
    unfolding step
    grown_step (start u k) = grown_if (is_new ((w.units u).stage k)) _ (grown_after u k _ _ refl)
    grown_step (proposal u k v out) = grown_if (is_up ((w.units u).stage k)) _ (grown_after u k _ _ refl)
    grown_step (delivery u i out) = grown_message u out _ (λ m a. refl) (get_elem? w.sent i)
    grown_step (cut u i out lost) = grown_message u out _ (λ m a. refl) (get_elem? w.sent i)
    grown_step (off u k lost) = grown_if (is_up ((w.units u).stage k)) _ (grown_next u k _ refl)
    grown_step (on u k) = grown_if (is_down ((w.units u).stage k)) _ (grown_after u k _ _ refl)
    grown_step (call c) = grown_lent (card_of c) (run_call l w c).rows

pub grown_run : (l : Limits) (g : Engine) (n : ℕ) (w : CardWorld) (es : List CardEvent) → Grown w (run (step l g n) w es)
unfolding run
grown_run l g n w [] = grown_same w
grown_run l g n w (e ∷ es) =
    let p = grown_step w l g n e in
    let q = grown_run l g n (step l g n w e) es in
    record {
      started = λ u k h. q.started u k (p.started u k h);
      sent = λ x h. q.sent x (p.sent x h);
      proposed = λ x h. q.proposed x (p.proposed x h);
      decided = λ x h. q.decided x (p.decided x h);
    }
