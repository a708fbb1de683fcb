-- A started row is one that its card has, after every event. Assumes nothing.
use Prim.Native.Nat.{ℕ, ◌-◌}
use mathlib.Core.Path.{◌≡◌, refl, sym, ap, subst, ◌∙◌}
use mathlib.Core.Bool.{Bool, true, false, cond}
use mathlib.Core.List.{List}
use mathlib.Core.Option.{Option, none, some}
use lib.Dec.{eqb}
use lib.ListN.{length, length-set, get_elem?}
use borrow.Author.Tests.{eqb-true}
use Rattle.tally.specs.Limits.{Limits, Sane}
use Rattle.tally.specs.declared.Engine.{Engine}
use Rattle.contents.specs.declared.Message.{Message}
use Rattle.formats.specs.Messages.{read_message}
use Rattle.cards.specs.Calls.{CardAnswer, names_no_row, card_deliver_call}
use Rattle.cards.specs.declared.CardRow.{CardRow}
use Rattle.agreement.specs.Worlds.{put}
use Rattle.card_history.specs.Cards.{CardUnit, CardWorld, Lent, lent_card, other, CardEvent, start, proposal, delivery}
use Rattle.card_history.specs.Cards.{cut, off, on, call, RowOutcome, next, leave, after, is_new, is_up, is_down}
use Rattle.card_history.specs.Cards.{lent_rows, leave_lent, card_of, beside_unit, delivering, step}
use Rattle.card_history.specs.Claims.{Placed}
use Rattle.card_history.proofs.Calls.{Names, Leaves, start_leaves, key_on_leaves, propose_leaves, deliver_leaves, call_leaves, start_does}
use Rattle.card_history.proofs.Entry.{setup}
use Rattle.card_history.proofs.Stages.{if_so, is_up_lem, is_down_lem}

module _ (w : CardWorld) (placed : Placed w) (u : ℕ) where
  abbrev card : List CardRow
  card = (w.units u).rows

  -- unit u has as many rows as before, and where a stage is not new its row is there
  with_unit_lem : (x : CardUnit) → length x.rows ≡ length card → ((k : ℕ) → is_new (x.stage k) ≡ false → Names card k)
      → (v k : ℕ) (b : Bool) → eqb v u ≡ b → is_new ((cond b x (w.units v)).stage k) ≡ false
      → names_no_row (length (cond b x (w.units v)).rows) k ≡ false
  with_unit_lem x long there v k true e h = subst (λ i. names_no_row i k ≡ false) (sym long) (there k h)
  with_unit_lem x long there v k false e h = placed v k h

  placed_leave : (rows : List CardRow) → length rows ≡ length card → Placed (leave w u rows)
  unfolding leave
  placed_leave rows long v k = with_unit_lem (record { rows = rows; stage = (w.units u).stage }) long (placed u) v k (eqb v u) refl

  placed_next : (j : ℕ) (o : RowOutcome) → length o.rows ≡ length card → Names card j → Placed (next w u j o)
  unfolding next
  placed_next j o long here v k =
      with_unit_lem (record { rows = o.rows; stage = put (w.units u).stage j o.stage }) long (λ i h. go i (eqb i j) refl h) v k (eqb v u) refl
    where
      go : (i : ℕ) (b : Bool) → eqb i j ≡ b → is_new (cond b o.stage ((w.units u).stage i)) ≡ false → Names card i
      go i true e h = subst (Names card) (sym (eqb-true i j e)) here
      go i false e h = placed u i h

  placed_after : (j : ℕ) (a : CardAnswer) (o : RowOutcome) → Leaves card a → length o.rows ≡ length a.rows
      → (eqb a.number 0 ≡ true → Names card j) → Placed (after w u j a o)
  unfolding after
  placed_after j a o law long here = go (eqb a.number 0) refl
    where
      go : (b : Bool) → eqb a.number 0 ≡ b → Placed (cond b (next w u j o) (leave w u a.rows))
      go true e = placed_next j o (long ∙ law.long) (here e)
      go false e = placed_leave a.rows law.long

module _ (l : Limits) (sane : Sane l) (g : Engine) (n : ℕ) (w : CardWorld) (placed : Placed w) where
  -- an event of a row that is started changes nothing where it is not up, or not down
  if_up : (u k : ℕ) (w' : CardWorld) → (Names (w.units u).rows k → Placed w') → Placed (cond (is_up ((w.units u).stage k)) w' w)
  if_up u k w' f = if_so Placed (is_up ((w.units u).stage k)) w' w (λ e. f (placed u k (ap is_new (is_up_lem ((w.units u).stage k) e)))) placed

  if_down : (u k : ℕ) (w' : CardWorld) → (Names (w.units u).rows k → Placed w') → Placed (cond (is_down ((w.units u).stage k)) w' w)
  if_down u k w' f = if_so Placed (is_down ((w.units u).stage k)) w' w (λ e. f (placed u k (ap is_new (is_down_lem ((w.units u).stage k) e)))) placed

  messages : (u : ℕ) (out : List ℕ) (f : Message → CardAnswer → RowOutcome)
      → ((m : Message) (a : CardAnswer) → length (f m a).rows ≡ length a.rows) → (o : Option (List ℕ)) → Placed (delivering l g n w u out f o)
  unfolding delivering
  messages u out f long none = placed
  messages u out f long (some bs) =
      let m = (read_message l bs).contents in
      let a = card_deliver_call l (beside_unit g n u) (w.units u).rows bs out in
      if_up u m.entry _ (λ h. placed_after w placed u m.entry a (f m a) (deliver_leaves l _ _ bs out) (long m a) (λ e. h))

  lent : (b : Lent) (rows : List CardRow) → length rows ≡ length (lent_rows w b) → Placed (leave_lent w b rows)
  lent (lent_card u) rows long = placed_leave w placed u rows long
  lent (other old) rows long = placed

  pub placed_step : (e : CardEvent) → Placed (step l g n w e)
  unfolding step
  placed_step (start u k) =
      if_so Placed (is_new ((w.units u).stage k)) _ w
      (λ h. placed_after w placed u k _ _ (start_leaves l _ _ k) refl (λ e. (start_does l sane (setup g n k) u (w.units u).rows e).0)) placed
  placed_step (proposal u k v out) =
      if_up u k _ (λ h. placed_after w placed u k _ _ (propose_leaves l _ _ k v out) refl (λ e. h))
  placed_step (delivery u i out) = messages u out _ (λ m a. refl) (get_elem? w.sent i)
  placed_step (cut u i out lost) = messages u out _ (λ m a. length-set a.rows (m.entry - 1) _) (get_elem? w.sent i)
  placed_step (off u k lost) =
      if_up u k _ (placed_next w placed u k _ (length-set (w.units u).rows (k - 1) _))
  placed_step (on u k) =
      if_down u k _ (λ h. placed_after w placed u k _ _ (key_on_leaves l _ _ k) refl (λ e. h))
  placed_step (call c) = lent (card_of c) _ (call_leaves l w c).long
