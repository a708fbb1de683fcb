-- On the row of a well-formed unit the calls on a card answer what the unit's method does, accepted or refused. Assumes nothing.
use Rattle.std.specs.Prelude.{Option, None}
use Prim.Native.Nat.{ℕ, ◌-◌}
use mathlib.Core.Path.{◌≡◌, refl, sym, ap, ◌∙◌}
use mathlib.Core.Bool.{Bool, true, false, cond}
use mathlib.Core.List.{List, []}
use lib.Dec.{eqb}
use lib.ListN.{length, set}
use lib.Seq.{set-get_or}
use borrow.Author.Tests.{eq-eqb}
use Rattle.tally.specs.Limits.{Limits, Sane, message_size, blank_code}
use Rattle.tally.specs.Refusal.{number_of}
use Rattle.tally.specs.declared.Refusal.{Refusal}
use Rattle.contents.specs.Messages.{message_ok}
use Rattle.contents.specs.declared.Message.{Message}
use Rattle.contents.proofs.Facts.{log_facts, numbers_ok_lem}
use Rattle.contents.proofs.Same.{settings_same}
use Rattle.formats.specs.Codes.{letter_of, code_of}
use Rattle.formats.specs.Formats.{to_bytes}
use Rattle.formats.specs.Messages.{message_format, cleared, empty_bytes}
use Rattle.formats.proofs.Letters.{engine_letter}
use Rattle.consensus.specs.Conditions.{Condition, first_refusal}
use Rattle.consensus.specs.Methods.{propose, deliver, propose_conditions, deliver_conditions, unless, refuses}
use Rattle.consensus.specs.Step.{proposed, received, recovered, fresh}
use Rattle.consensus.proofs.Answers.{plain_received, plain_proposed}
use Rattle.consensus.specs.Units.{WellFormed, unit_log, down_unit}
use Rattle.consensus.specs.declared.Answer.{Answer}
use Rattle.consensus.specs.declared.Power.TheVariants.{Up}
use Rattle.consensus.specs.declared.Unit as U
use Rattle.calls.specs.Calls.{bad_settings, bad_message, message_bytes}
use Rattle.calls.proofs.Encoded.{read_message_lem, same_unit}
use Rattle.cards.specs.Calls.{CardAnswer, card_called, unless_card, answered_card, wrong_count, names_no_row, row_at, Beside, beside, bad_beside}
use Rattle.cards.specs.Calls.{settings_of_row, bad_row_log, other_row, bad_row_image, card_start_conditions, card_start_call, card_key_on_conditions}
use Rattle.cards.specs.Calls.{card_key_on_call, card_propose_conditions, card_propose_call, card_deliver_conditions, card_deliver_call}
use Rattle.cards.specs.Rows.{row_unit, row_of, no_row}
use Rattle.cards.specs.declared.CardRow.{CardRow}
use Rattle.cards.proofs.Rows.{row_back}

-- the unit of an up unit's row
pub unit_is : (l : Limits) → Sane l → (u : U.Unit) → WellFormed l u → u.power ≡ Up → row_unit l (row_of u) ≡ u
unit_is l sane u w up = rw ((row_back l sane u w).0, (row_back l sane u w).1) (same_unit u up)

module _ (l : Limits) (sane : Sane l) (u : U.Unit) (w : WellFormed l u) (rows : List CardRow) where
  abbrev k : ℕ
  k = u.settings.entry

  abbrev b : Beside
  b = beside (letter_of u.settings.engine) u.settings.n u.settings.unit

  -- an answer of the unit, as number, rows, bytes and decision
  abbrev pub on_card : Answer → CardAnswer
  on_card a = card_called (number_of a.refusal) (set rows (k - 1) (row_of a.unit)) (message_bytes l a.message.kind a.message) (code_of a.decision)

  settings_are : settings_of_row b k ≡ u.settings
  settings_are = rw (engine_letter u.settings.engine) refl

  in_range_lem : bad_beside b k ≡ false
  unfolding bad_settings
  in_range_lem =
      rw (engine_letter u.settings.engine, numbers_ok_lem u.settings.n u.settings.unit u.settings.entry (log_facts l (unit_log u) w.log).numbers) refl

  two : bad_row_log l (row_of u) ≡ false
  unfolding bad_row_log
  two = rw (row_back l sane u w).0

  other : other_row l (settings_of_row b k) (row_of u) ≡ false
  unfolding other_row
  other = rw (settings_are, (row_back l sane u w).0, settings_same u.settings)

  three : bad_row_image l (row_of u) ≡ false
  unfolding bad_row_image
  three = rw ((row_back l sane u w).0, (row_back l sane u w).1, w.fit)

  -- starting, whatever the rows hold
  pub card_start_encoded : wrong_count (length rows) ≡ false → names_no_row (length rows) k ≡ false
      → card_start_call l b rows k ≡ card_called 0 (set rows (k - 1) (row_of (fresh u.settings))) [] blank_code
  unfolding card_start_call card_start_conditions first_refusal
  card_start_encoded count names = rw (count, names, in_range_lem, settings_are)

  module _ (there : row_at rows k ≡ row_of u) (count : wrong_count (length rows) ≡ false) (names : names_no_row (length rows) k ≡ false) where
    -- a refused step leaves the row that is there
    same_rows : rows ≡ set rows (k - 1) (row_of u)
    same_rows = sym (set-get_or rows (k - 1) no_row) ∙ ap (set rows (k - 1)) there

    same_answer : (cs late : List Condition) (a : Answer) (out : List ℕ) → first_refusal cs ≡ first_refusal late → a.refusal ≡ None
        → length out ≡ message_size l → unless_card l cs rows out (answered_card l rows k a) ≡ on_card (unless late u a)
    unfolding unless message_bytes cleared
    same_answer cs late a out same none size =
        rw (same, eq-eqb (length out) (message_size l) size) (go (first_refusal late) (eqb (number_of (first_refusal late)) 0))
      where
        go : (r : Option Refusal) (t : Bool)
            → cond t (answered_card l rows k a) (card_called (number_of r) rows (empty_bytes l) blank_code) ≡ on_card (cond t a (refuses u r))
        go r true = ap (λ z. card_called (number_of z) (on_card a).rows (on_card a).out (on_card a).decision) (sym none)
        go r false = ap (λ z. card_called (number_of r) z (empty_bytes l) blank_code) same_rows

    -- key-on
    pub card_key_on_encoded : card_key_on_call l b rows k
        ≡ card_called 0 (set rows (k - 1) (row_of (recovered (down_unit (unit_log u))))) [] blank_code
    unfolding card_key_on_call card_key_on_conditions first_refusal
    card_key_on_encoded = rw (count, names, in_range_lem, there, two, other, (row_back l sane u w).0)

    module _ (up : u.power ≡ Up) where
      module _ (v : ℕ) (out : List ℕ) (size : length out ≡ message_size l) where
        propose_conditions_lem : first_refusal (card_propose_conditions l b k rows v out) ≡ first_refusal (propose_conditions l u v)
        unfolding card_propose_conditions propose_conditions first_refusal
        propose_conditions_lem = rw (count, names, in_range_lem, there, two, other, three, eq-eqb (length out) (message_size l) size, up)

        pub card_propose_encoded : card_propose_call l b rows k v out ≡ on_card (propose l u v)
        unfolding card_propose_call propose
        card_propose_encoded =
            ap (λ (r : CardRow). unless_card l (card_propose_conditions l b k rows v out) rows out (answered_card l rows k (proposed (row_unit l r) v))) there
            ∙ ap (λ (x : U.Unit). unless_card l (card_propose_conditions l b k rows v out) rows out (answered_card l rows k (proposed x v)))
            (unit_is l sane u w up)
            ∙ same_answer (card_propose_conditions l b k rows v out) (propose_conditions l u v) (proposed u v) out propose_conditions_lem
            (plain_proposed u v).none size

      module _ (m : Message) (out : List ℕ) (ok : message_ok l m ≡ true) (own : m.entry ≡ k) (size : length out ≡ message_size l) where
        abbrev bs : List ℕ
        bs = to_bytes (message_format l) m

        there_m : row_at rows m.entry ≡ row_of u
        there_m = rw own there

        names_m : names_no_row (length rows) m.entry ≡ false
        names_m = rw own names

        in_range_m : bad_beside b m.entry ≡ false
        in_range_m = rw own in_range_lem

        other_m : other_row l (settings_of_row b m.entry) (row_of u) ≡ false
        other_m = rw own other

        deliver_conditions_lem : first_refusal (card_deliver_conditions l b m rows bs out) ≡ first_refusal (deliver_conditions l u m)
        unfolding card_deliver_conditions deliver_conditions first_refusal bad_message
        deliver_conditions_lem =
            rw (
              eq-eqb (length bs) (message_size l) (read_message_lem l sane m ok).1,
              eq-eqb (length out) (message_size l) size,
              (read_message_lem l sane m ok).0,
              count,
              names_m,
              in_range_m,
              there_m,
              two,
              other_m,
              three,
              unit_is l sane u w up,
              up,
              ok,
            )

        pub card_deliver_encoded : card_deliver_call l b rows bs out ≡ on_card (deliver l u m)
        unfolding card_deliver_call deliver
        card_deliver_encoded =
            rw ((read_message_lem l sane m ok).0, there_m, unit_is l sane u w up)
            (ap (λ (j : ℕ). unless_card l (card_deliver_conditions l b m rows bs out) rows out (answered_card l rows j (received u m))) own
            ∙ same_answer (card_deliver_conditions l b m rows bs out) (deliver_conditions l u m) (received u m) out deliver_conditions_lem
            (plain_received u m).none size)
