-- A cut delivery that writes no log is a key-off of its row. Assumes nothing.
use Prim.Native.Nat.{ℕ, ◌-◌}
use mathlib.Core.Path.{◌≡◌, refl, ap, ◌∙◌}
use mathlib.Core.List.{List}
use mathlib.Core.Option.{some}
use lib.ListN.{set, get_elem?}
use lib.Seq.{set-set}
use Rattle.tally.specs.Limits.{Limits}
use Rattle.tally.specs.declared.Engine.{Engine}
use Rattle.contents.specs.declared.Message.{Message}
use Rattle.formats.specs.Messages.{read_message}
use Rattle.consensus.specs.Step.{received}
use Rattle.consensus.specs.Units.{unit_log}
use Rattle.cards.specs.Calls.{row_at, card_deliver_call}
use Rattle.cards.specs.Rows.{row_unit}
use Rattle.cards.specs.declared.CardRow.{CardRow}
use Rattle.cards.specs.declared.LogFields.{LogFields}
use Rattle.cards.proofs.Calls.{deliver_on_row, deliver_keeps_log}
use Rattle.card_history.specs.Cards.{down, CardWorld, cut, off, silent, turned_off, after, beside_unit, delivering, step}

module _ (l : Limits) (g : Engine) (n : ℕ) (w : CardWorld) (u i : ℕ) (out : List ℕ) (lost : CardRow) (bs : List ℕ) where
  abbrev m : Message
  m = (read_message l bs).contents

  abbrev rows : List CardRow
  rows = (w.units u).rows

  -- a log, and what is left of the rest
  abbrev lost_beside : LogFields → CardRow
  lost_beside f = record { log = f; image = lost.image; checks = lost.checks; seconds = lost.seconds }

  -- of a message that was sent, where the delivery is accepted
  pub cut_unwritten : get_elem? w.sent i ≡ some bs → (card_deliver_call l (beside_unit g n u) rows bs out).number ≡ 0
      → unit_log (received (row_unit l (row_at rows m.entry)) m).unit ≡ unit_log (row_unit l (row_at rows m.entry))
      → step l g n w (cut u i out lost) ≡ step l g n w (off u m.entry lost)
  unfolding step delivering after
  cut_unwritten sent accepted same =
      let stored = (deliver_on_row l (beside_unit g n u) rows rows refl bs out).stored accepted in
      let log = deliver_keeps_log l (beside_unit g n u) rows rows refl bs out accepted same in
      let off_alike : turned_off (card_deliver_call l (beside_unit g n u) rows bs out).rows m.entry lost ≡ turned_off rows m.entry lost =
      ap (λ (f : LogFields). silent (set (card_deliver_call l (beside_unit g n u) rows bs out).rows (m.entry - 1) (lost_beside f)) down) log
      ∙ ap (λ (rs : List CardRow). silent (set rs (m.entry - 1) (lost_beside (row_at rows m.entry).log)) down) stored
      ∙ ap (λ (rs : List CardRow). silent rs down) (set-set rows (m.entry - 1) _ _) in
      rw (sent, accepted, off_alike)
