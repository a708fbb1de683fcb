-- What the calls do on a card whose row holds a well-formed unit. Assumes nothing.
use Rattle.std.specs.Prelude.{None}
use Prim.Native.Nat.{ℕ, ◌-◌, ◌≤◌}
use mathlib.Core.Path.{◌≡◌, refl, sym, ap, subst, ◌∙◌}
use mathlib.Core.Bool.{Bool, true, false}
use mathlib.Core.List.{List}
use native.Mathlib.Omega.{arith}
use lib.Dec.{eqb}
use lib.ListN.{length, length-set}
use lib.Seq.{get_or-set_same}
use borrow.Author.Tests.{eqb-true, eqb-false, not-false}
use Rattle.tally.specs.Limits.{Limits, Sane}
use Rattle.tally.specs.Refusal.{number_of}
use Rattle.contents.specs.Logs.{settings_ok}
use Rattle.contents.specs.Messages.{message_ok}
use Rattle.contents.specs.declared.Log.{Log}
use Rattle.contents.specs.declared.Message.{Message}
use Rattle.formats.specs.Codes.{letter_of, code_of}
use Rattle.formats.specs.Formats.{ReadAnswer, reading, from_numbers}
use Rattle.formats.specs.Logs.{log_format}
use Rattle.formats.specs.Messages.{read_message}
use Rattle.formats.proofs.Letters.{engine_letter}
use Rattle.consensus.specs.Conditions.{Condition, first_refusal, NoneHolds}
use Rattle.consensus.specs.Methods.{for_other, out_of_range, closes_last, unless, propose_conditions, propose, deliver_conditions, deliver}
use Rattle.consensus.specs.Step.{fresh, recovered, proposed, received}
use Rattle.consensus.specs.Units.{WellFormed, unit_log, down_unit, at_log}
use Rattle.consensus.specs.declared.Answer.{Answer}
use Rattle.consensus.specs.declared.Power.TheVariants.{Up}
use Rattle.consensus.specs.declared.Unit as U
use Rattle.consensus.proofs.Answers.{plain_proposed, plain_received}
use Rattle.calls.specs.Calls.{bad_settings, bad_message, message_bytes}
use Rattle.cards.specs.Calls.{CardAnswer, row_at, answered_card, unless_card, names_no_row, Beside, beside, card_start_conditions, card_start_call}
use Rattle.cards.specs.Calls.{card_key_on_conditions, card_key_on_call, card_propose_conditions, card_propose_call, card_deliver_conditions, card_deliver_call}
use Rattle.cards.specs.Claims.{OnRow}
use Rattle.cards.specs.Rows.{numbers_of, log_fields_of, row_log, row_unit, row_of, no_row}
use Rattle.cards.specs.declared.CardRow.{CardRow}
use Rattle.cards.specs.declared.LogFields.{LogFields}
use Rattle.cards.proofs.Calls.{start_on_row, key_on_on_row, propose_on_row, deliver_on_row}
use Rattle.cards.proofs.Encoded.{unit_is}
use Rattle.cards.proofs.Steps as steps
use Rattle.cards.proofs.Rows.{row_back}
use Rattle.agreement.specs.Worlds.{Setup, settings_of}
use Rattle.card_history.specs.Cards.{CardWorld, Call, starts, keys_on, proposes, delivers, lent_rows, card_of, run_call}

-- a number that names a row
abbrev pub Names : List CardRow → ℕ → Type 0
Names card k = names_no_row (length card) k ≡ false

pub named : (card : List CardRow) (k : ℕ) → Names card k → (1 ≤ k) × (k ≤ length card)
named card k h = steps.named (length card) k h

-- ---- any call

-- a refused call leaves the card, and every call leaves as many rows
pub record Leaves (card : List CardRow) (a : CardAnswer) : Type 0 where
  pub refused : eqb a.number 0 ≡ false → a.rows ≡ card
  pub long : length a.rows ≡ length card

-- row k is x, and every other is as it was
pub record Stores (card : List CardRow) (k : ℕ) (x : CardRow) (rows : List CardRow) : Type 0 where
  pub own : row_at rows k ≡ x
  pub others : (j : ℕ) → 1 ≤ j → eqb j k ≡ false → row_at rows j ≡ row_at card j

module _ {l : Limits} {cs : List Condition} {card : List CardRow} {k : ℕ} {x : CardRow} {out : List ℕ} {a : CardAnswer}
    (law : OnRow l cs card k x out a) where
  pub leaves : Leaves card a
  leaves = record { refused = stays; long = go (eqb a.number 0) refl }
    where
      stays : eqb a.number 0 ≡ false → a.rows ≡ card
      stays e = ap (λ (z : CardAnswer). z.rows) (law.refused (eqb-false a.number 0 e))

      go : (b : Bool) → eqb a.number 0 ≡ b → length a.rows ≡ length card
      go true e = ap length (law.stored (eqb-true _ _ e)) ∙ length-set card (k - 1) x
      go false e = ap length (stays e)

  accepted : eqb a.number 0 ≡ true → NoneHolds cs
  accepted e = law.accepted (eqb-true _ _ e)

  stores : eqb a.number 0 ≡ true → Names card k → Stores card k x a.rows
  stores e n =
      let b = named card k n in
      record {
        own =
            ap (λ rows. row_at rows k) (law.stored (eqb-true _ _ e)) ∙ get_or-set_same card (k - 1) x no_row (omega (arith, b.0, b.1));
        others = λ j h q. law.others j h (eqb-false j k q);
      }

  -- an accepted call has its answer
  answer_is : (ok : CardAnswer) → a ≡ unless_card l cs card out ok → eqb a.number 0 ≡ true → a ≡ ok
  answer_is ok q e = let z : number_of (first_refusal cs) ≡ 0 = sym law.number ∙ eqb-true _ _ e in q ∙ rw z

module _ (l : Limits) (b : Beside) (card : List CardRow) where
  pub start_leaves : (k : ℕ) → Leaves card (card_start_call l b card k)
  start_leaves k = leaves (start_on_row l b card card refl k)

  pub key_on_leaves : (k : ℕ) → Leaves card (card_key_on_call l b card k)
  key_on_leaves k = leaves (key_on_on_row l b card card refl k)

  pub propose_leaves : (k v : ℕ) (out : List ℕ) → Leaves card (card_propose_call l b card k v out)
  propose_leaves k v out = leaves (propose_on_row l b card card refl k v out)

  pub deliver_leaves : (bs out : List ℕ) → Leaves card (card_deliver_call l b card bs out)
  deliver_leaves bs out = leaves (deliver_on_row l b card card refl bs out)

pub call_leaves : (l : Limits) (w : CardWorld) (c : Call) → Leaves (lent_rows w (card_of c)) (run_call l w c)
unfolding run_call
call_leaves l w (starts b card k) = start_leaves l b _ k
call_leaves l w (keys_on b card k) = key_on_leaves l b _ k
call_leaves l w (proposes b card k v out) = propose_leaves l b _ k v out
call_leaves l w (delivers b card m out) = deliver_leaves l b _ m out

-- ---- a call on a row that holds a unit

-- an accepted answer of row k, which is the unit's own answer
pub record Does (l : Limits) (card : List CardRow) (k : ℕ) (x : Answer) (a : CardAnswer) : Type 0 where
  pub accepted : number_of x.refusal ≡ 0
  pub rows : Stores card k (row_of x.unit) a.rows
  pub out : a.out ≡ message_bytes l x.message.kind x.message
  pub decision : a.decision ≡ code_of x.decision

-- where no condition holds, the unit's step is the answer
unless_none : (cs : List Condition) (x : U.Unit) (a : Answer) → first_refusal cs ≡ None → unless cs x a ≡ a
unfolding unless
unless_none cs x a e = rw e

module _ (l : Limits) (sane : Sane l) where
  -- a log alone
  pub log_back : (x : U.Unit) → WellFormed l x → (r : CardRow) → r.log ≡ log_fields_of (unit_log x) → row_log l r ≡ reading 0 (unit_log x)
  unfolding row_log
  log_back x wf r e = ap (λ (z : LogFields). from_numbers (log_format l) (numbers_of z)) e ∙ (row_back l sane x wf).0

  -- the unit of a row
  unit_back : (x : U.Unit) → WellFormed l x → x.power ≡ Up → (r : CardRow) → r ≡ row_of x → row_unit l r ≡ x
  unit_back x wf on r e = ap (row_unit l) e ∙ unit_is l sane x wf on

  -- an answer of the unit that the row holds
  does : (card : List CardRow) (k : ℕ) (cs : List Condition) (out : List ℕ) (r : CardRow) (x : Answer) (a : CardAnswer)
      → OnRow l cs card k r out a → a ≡ unless_card l cs card out (answered_card l card k x) → r ≡ row_of x.unit → x.refusal ≡ None
      → Names card k → eqb a.number 0 ≡ true → Does l card k x a
  does card k cs out r x a law q same none n acc =
      let e = answer_is law (answered_card l card k x) q acc in
      record {
        accepted = ap number_of none;
        rows = subst (λ z. Stores card k z a.rows) same (stores law acc n);
        out = ap (λ (z : CardAnswer). z.out) e;
        decision = ap (λ (z : CardAnswer). z.decision) e;
      }

  module _ (b : Beside) (card : List CardRow) (k v : ℕ) (out : List ℕ) where
    abbrev a_propose : CardAnswer
    a_propose = card_propose_call l b card k v out

    proposes_is : (x : U.Unit) → x.power ≡ Up → out_of_range l v ≡ false → propose l x v ≡ proposed x v
    unfolding propose propose_conditions first_refusal
    proposes_is x on six = unless_none (propose_conditions l x v) x (proposed x v) (rw (six, on))

    pub propose_does : (x : U.Unit) → WellFormed l x → x.power ≡ Up → row_at card k ≡ row_of x → eqb a_propose.number 0 ≡ true
        → Does l card k (propose l x v) a_propose
    unfolding card_propose_call card_propose_conditions
    propose_does x wf on e acc =
        let law = propose_on_row l b card card refl k v out in
        let t = accepted law acc in
        let back = unit_back x wf on (row_at card k) e in
        subst (λ z. Does l card k z a_propose) (sym (proposes_is x on t.1.1.1.1.0))
        (does card k (card_propose_conditions l b k card v out) out _ (proposed x v) a_propose law
        (ap (λ (y : U.Unit). unless_card l (card_propose_conditions l b k card v out) card out (answered_card l card k (proposed y v))) back)
        (ap (λ (y : U.Unit). row_of (proposed y v).unit) back) (plain_proposed x v).none t.1.0 acc)

  module _ (b : Beside) (card : List CardRow) (bs out : List ℕ) where
    abbrev a_deliver : CardAnswer
    a_deliver = card_deliver_call l b card bs out

    abbrev m : Message
    m = (read_message l bs).contents

    -- a message that is delivered is read
    pub deliver_read_lem : eqb a_deliver.number 0 ≡ true → eqb (read_message l bs).number 0 ≡ true
    unfolding card_deliver_conditions bad_message
    deliver_read_lem acc = not-false (eqb (read_message l bs).number 0) (accepted (deliver_on_row l b card card refl bs out) acc).1.0

    delivers_is : (x : U.Unit) → x.power ≡ Up → message_ok l m ≡ true → for_other x.settings m ≡ false → closes_last l x m ≡ false
        → deliver l x m ≡ received x m
    unfolding deliver deliver_conditions first_refusal
    delivers_is x on ok five seven = unless_none (deliver_conditions l x m) x (received x m) (rw (ok, five, seven, on))

    pub deliver_does : message_ok l m ≡ true → (x : U.Unit) → WellFormed l x → x.power ≡ Up → row_at card m.entry ≡ row_of x
        → eqb a_deliver.number 0 ≡ true → Does l card m.entry (deliver l x m) a_deliver
    unfolding card_deliver_call card_deliver_conditions
    deliver_does ok x wf on e acc =
        let law = deliver_on_row l b card card refl bs out in
        let t = accepted law acc in
        let back = unit_back x wf on (row_at card m.entry) e in
        let five : for_other x.settings m ≡ false = rw back at t.1.1.1.1.1.0 in
        let seven : closes_last l x m ≡ false = rw back at t.1.1.1.1.1.1.0 in
        subst (λ z. Does l card m.entry z a_deliver) (sym (delivers_is x on ok five seven))
        (does card m.entry (card_deliver_conditions l b m card bs out) out _ (received x m) a_deliver law
        (ap (λ (y : U.Unit). unless_card l (card_deliver_conditions l b m card bs out) card out (answered_card l card m.entry (received y m))) back)
        (ap (λ (y : U.Unit). row_of (received y m).unit) back) (plain_received x m).none t.1.1.0 acc)

  module _ (b : Beside) (card : List CardRow) (k : ℕ) where
    abbrev a_on : CardAnswer
    a_on = card_key_on_call l b card k

    pub key_on_does : (x : U.Unit) → WellFormed l x → (row_at card k).log ≡ log_fields_of (unit_log x) → eqb a_on.number 0 ≡ true
        → Stores card k (row_of (recovered x)) a_on.rows
    unfolding card_key_on_conditions recovered down_unit at_log
    key_on_does x wf e acc =
        let law = key_on_on_row l b card card refl k in
        subst (λ (g : ReadAnswer Log). Stores card k (row_of (recovered (down_unit g.contents))) a_on.rows) (log_back x wf (row_at card k) e)
        (stores law acc (accepted law acc).1.0)

  module _ (c : Setup) (u : ℕ) (card : List CardRow) where
    abbrev b : Beside
    b = beside (letter_of c.engine) c.n u

    abbrev a_start : CardAnswer
    a_start = card_start_call l b card c.entry

    -- a start that is accepted names a row, and has settings in range
    pub start_does : eqb a_start.number 0 ≡ true
        → Names card c.entry
        × ((settings_ok (settings_of c u) ≡ true) × Stores card c.entry (row_of (fresh (settings_of c u))) a_start.rows)
    unfolding card_start_conditions bad_settings
    start_does acc =
        let law = start_on_row l b card card refl c.entry in
        let t = accepted law acc in
        let ok : settings_ok (settings_of c u) ≡ true = not-false _ (rw (engine_letter c.engine) at t.1.1.0) in
        (t.1.0, (ok, rw (engine_letter c.engine) at (stores law acc t.1.0)))
