-- The calls on a card at a greater mileage bound: what was accepted keeps its answer. Assumes nothing.
use Rattle.std.proofs.lemmas.Bool.{and_parts, or_parts}
use Prim.Native.Nat.{ℕ, ◌≤◌}
use mathlib.Core.Path.{◌≡◌, refl}
use mathlib.Core.Bool.{Bool, false, ◌||◌}
use mathlib.Core.List.{List}
use native.Mathlib.Omega.{arith}
use lib.Dec.{eqb}
use borrow.Author.Tests.{eqb-true, not-false}
use Rattle.tally.specs.Limits.{Limits, hundred_metres, today, with_max_mileage}
use Rattle.contents.specs.declared.Message.{Message}
use Rattle.formats.specs.Messages.{read_message, cleared}
use Rattle.formats.proofs.Wider.{checked_wider, log_takes, image_takes}
use Rattle.consensus.specs.Methods.{closes_last}
use Rattle.consensus.specs.Step.{proposed, received}
use Rattle.consensus.proofs.Given.{answer_given_too}
use Rattle.calls.specs.Calls.{bad_message}
use Rattle.calls.proofs.Wider.{message_same, in_range_same, bytes_same}
use Rattle.cards.specs.Calls.{CardAnswer, row_at, Beside, bad_beside, settings_of_row, bad_row_log, other_row, bad_row_image, card_start_call}
use Rattle.cards.specs.Calls.{card_key_on_conditions, card_key_on_call, card_propose_conditions, card_propose_call, card_deliver_conditions}
use Rattle.cards.specs.Calls.{card_deliver_call}
use Rattle.cards.specs.Rows.{row_log, row_image, row_unit}
use Rattle.cards.specs.Wider.{KeepsCardAnswers}
use Rattle.cards.specs.declared.CardRow.{CardRow}

module _ (l : Limits) (k : ℕ) (more : l.max_mileage ≤ k) where
  abbrev l' : Limits
  l' = with_max_mileage k l

  -- a row that is not refused is read the same
  log_same : (bad : Bool) (r : CardRow) → (bad || bad_row_log l r) ≡ false → row_log l' r ≡ row_log l r
  unfolding bad_row_log row_log
  log_same bad r h = checked_wider (log_takes l k more) _ (eqb-true _ 0 (not-false _ (or_parts bad _ h).1))

  image_same : (other : Bool) (r : CardRow) → (other || bad_row_image l r) ≡ false → row_image l' r ≡ row_image l r
  unfolding bad_row_image row_image
  image_same other r h =
      checked_wider (image_takes l k more) _ (eqb-true _ 0 (and_parts (eqb (row_image l r).number 0) _ (not-false _ (or_parts other _ h).1)).0)

  module _ (b : Beside) (rows : List CardRow) where
    start_wider : (row : ℕ) → card_start_call l' b rows row ≡ card_start_call l b rows row
    unfolding card_start_call cleared
    start_wider row = refl

    key_on_wider : (row : ℕ) → (card_key_on_call l b rows row).number ≡ 0 → card_key_on_call l' b rows row ≡ card_key_on_call l b rows row
    unfolding card_key_on_call card_key_on_conditions bad_row_log other_row
    key_on_wider row h =
        answer_given_too (λ (c : CardAnswer). c.number) (card_key_on_conditions l b row rows) _ _ refl (card_key_on_conditions l' b row rows) _ _
        (λ t. rw (log_same (bad_beside b row) (row_at rows row) t.1.1.0) (t, refl)) h

    propose_wider : (row mileage : ℕ) (out : List ℕ) → (card_propose_call l b rows row mileage out).number ≡ 0
        → card_propose_call l' b rows row mileage out ≡ card_propose_call l b rows row mileage out
    unfolding card_propose_call card_propose_conditions bad_row_log other_row bad_row_image
    propose_wider row mileage out h =
        answer_given_too (λ (c : CardAnswer). c.number) (card_propose_conditions l b row rows mileage out) _ _ refl
        (card_propose_conditions l' b row rows mileage out) _ _
        (λ t.
        let r = row_at rows row in
        let a = proposed (row_unit l r) mileage in
        rw (
          log_same (bad_beside b row) r t.1.1.0,
          image_same (other_row l (settings_of_row b row) r) r t.1.1.1.0,
          bytes_same l k more a.message.kind a.message,
        )
        ((t.0, (t.1.0, (t.1.1.0, (t.1.1.1.0, (in_range_same l k more mileage t.1.1.1.1.0, tt))))), refl)) h

    deliver_wider : (message out : List ℕ) → (card_deliver_call l b rows message out).number ≡ 0
        → card_deliver_call l' b rows message out ≡ card_deliver_call l b rows message out
    unfolding card_deliver_call card_deliver_conditions bad_message bad_row_log other_row bad_row_image closes_last
    deliver_wider message out h =
        answer_given_too (λ (c : CardAnswer). c.number) (card_deliver_conditions l b m rows message out) _ _ refl
        (card_deliver_conditions l' b (read_message l' message).contents rows message out) _ _
        (λ t.
        rw (
          message_same l k more message t.1.0,
          log_same (bad_beside b m.entry) r t.1.1.1.0,
          image_same (other_row l (settings_of_row b m.entry) r) r t.1.1.1.1.0,
          bytes_same l k more (received (row_unit l r) m).message.kind (received (row_unit l r) m).message,
        )
        (t, refl)) h
      where
        m : Message
        m = (read_message l message).contents

        r : CardRow
        r = row_at rows m.entry

  -- every call, at any limits
  pub keeps_card_answers : KeepsCardAnswers l l'
  keeps_card_answers = record { start = start_wider; key_on = key_on_wider; propose = propose_wider; deliver = deliver_wider }

-- what was accepted before request 3 is accepted today, with the same answer
pub keeps_card_answers_today : KeepsCardAnswers hundred_metres today
keeps_card_answers_today = keeps_card_answers hundred_metres today.max_mileage (omega arith)
