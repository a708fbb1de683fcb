-- The laws of the four calls on a card, over their own definitions. Assumes nothing.
use Rattle.std.proofs.lemmas.Bool.{and_parts, or_parts}
use Prim.Native.Nat.{ℕ, zero, suc, ◌-◌, ◌≤◌}
use mathlib.Core.Path.{◌≡◌, refl, sym, ap, ◌∙◌}
use mathlib.Core.Bool.{Bool, true, false, cond, ◌||◌}
use mathlib.Core.List.{List, [], ◌∷◌}
use native.Mathlib.Omega.{arith}
use lib.Dec.{eqb}
use lib.ListN.{length, get_or, set}
use lib.Seq.{set-get_or, get_or-set_other}
use borrow.Author.Tests.{eqb-true, eqb-false, not-false}
use Rattle.tally.specs.Limits.{Limits, blank_code}
use Rattle.tally.specs.Refusal.{number_of}
use Rattle.consensus.proofs.Given.{none_holds}
use Rattle.consensus.proofs.Laws.{none_first}
use Rattle.contents.specs.Images.{fits}
use Rattle.contents.specs.declared.Message.{Message}
use Rattle.formats.specs.Formats.{from_numbers}
use Rattle.formats.specs.Logs.{log_format}
use Rattle.formats.specs.Messages.{read_message, cleared}
use Rattle.consensus.specs.Conditions.{Condition, first_refusal, NoneHolds}
use Rattle.consensus.specs.Step.{fresh, recovered, proposed, received}
use Rattle.consensus.specs.Units.{unit_log, at_log, down_unit}
use Rattle.consensus.specs.declared.Unit as U
use Rattle.consensus.proofs.Answers.{proposed_keeps}
use Rattle.consensus.proofs.Repeats.{Repeats, again}
use Rattle.cards.specs.Calls.{CardAnswer, card_called, row_at, unless_card, Beside, bad_beside, settings_of_row, bad_row_log, other_row}
use Rattle.cards.specs.Calls.{bad_row_image, card_start_conditions, card_start_call, card_key_on_conditions, card_key_on_call, card_propose_conditions}
use Rattle.cards.specs.Calls.{card_propose_call, card_deliver_conditions, card_deliver_call}
use Rattle.cards.specs.Claims.{OnRow, Alike, Unread}
use Rattle.cards.specs.Rows.{numbers_of, log_fields_of, row_log, row_image, row_unit, row_of, no_row}
use Rattle.cards.specs.declared.CardRow.{CardRow}
use Rattle.cards.specs.declared.LogFields.{LogFields}
use Rattle.cards.proofs.Rows.{log_forth, row_forth}
use Rattle.cards.proofs.Steps.{named}

-- ---- conditions

module _ (l : Limits) (cs : List Condition) (rows : List CardRow) (k : ℕ) (there : NoneHolds cs → 1 ≤ k) (x : CardRow)
    (out : List ℕ) where
  -- a call that, accepted, stores x in row k
  on_row : (sent : List ℕ) (d : ℕ) → OnRow l cs rows k x out (unless_card l cs rows out (card_called 0 (set rows (k - 1) x) sent d))
  on_row sent d = go (eqb (number_of (first_refusal cs)) 0) refl
    where
      go : (b : Bool) → eqb (number_of (first_refusal cs)) 0 ≡ b
          → OnRow l cs rows k x out
          (cond b (card_called 0 (set rows (k - 1) x) sent d) (card_called (number_of (first_refusal cs)) rows (cleared l out) blank_code))
      go true e =
          let z = eqb-true (number_of (first_refusal cs)) 0 e in
          record {
            number = sym z;
            accepted = λ q. none_holds cs z;
            none = λ h. refl;
            refused = λ n. absurd (n refl);
            stored = λ q. refl;
            others = λ j h n. get_or-set_other rows (k - 1) (j - 1) x no_row (λ q. n (omega (arith, q, there (none_holds cs z))));
          }
      go false e =
          record {
            number = refl;
            accepted = λ q. absurd (eqb-false (number_of (first_refusal cs)) 0 e q);
            none = λ h. absurd (eqb-false (number_of (first_refusal cs)) 0 e (ap number_of (none_first cs h)));
            refused = λ n. refl;
            stored = λ q. absurd (eqb-false (number_of (first_refusal cs)) 0 e q);
            others = λ j h n. refl;
          }

-- ---- rows

-- what is stored at a place of two lists of one length
set_alike : (xs ys : List CardRow) (i : ℕ) (x : CardRow) → length xs ≡ length ys → get_or (set xs i x) i no_row ≡ get_or (set ys i x) i no_row
set_alike [] [] i x e = refl
set_alike [] (y ∷ ys) i x e = absurd (omega (arith, e))
set_alike (z ∷ xs) [] i x e = absurd (omega (arith, e))
set_alike (z ∷ xs) (y ∷ ys) zero x e = refl
set_alike (z ∷ xs) (y ∷ ys) (suc i) x e = set_alike xs ys i x (omega (arith, e))

unless_alike : (l : Limits) (cs : List Condition) (rows rows' : List CardRow) (k : ℕ) → length rows ≡ length rows'
    → row_at rows k ≡ row_at rows' k → (x : CardRow) (out sent : List ℕ) (d : ℕ)
    → Alike k (unless_card l cs rows out (card_called 0 (set rows (k - 1) x) sent d))
    (unless_card l cs rows' out (card_called 0 (set rows' (k - 1) x) sent d))
unless_alike l cs rows rows' k len same x out sent d = go (eqb (number_of (first_refusal cs)) 0)
  where
    go : (b : Bool)
        → Alike k (cond b (card_called 0 (set rows (k - 1) x) sent d) (card_called (number_of (first_refusal cs)) rows (cleared l out) blank_code))
        (cond b (card_called 0 (set rows' (k - 1) x) sent d) (card_called (number_of (first_refusal cs)) rows' (cleared l out) blank_code))
    go true = record { number = refl; out = refl; decision = refl; row = set_alike rows rows' (k - 1) x len }
    go false = record { number = refl; out = refl; decision = refl; row = same }

-- what the conditions of 2 and 3 say where they do not hold
log_read : (l : Limits) (r : CardRow) → bad_row_log l r ≡ false → (row_log l r).number ≡ 0
unfolding bad_row_log
log_read l r h = eqb-true _ _ (not-false _ h)

image_read : (l : Limits) (r : CardRow) → bad_row_image l r ≡ false
    → ((row_image l r).number ≡ 0) × (fits (row_image l r).contents (row_log l r).contents ≡ true)
unfolding bad_row_image
image_read l r h = let t = and_parts (eqb (row_image l r).number 0) _ (not-false _ h) in (eqb-true _ _ t.0, t.1)

-- the row of the unit that a row holds, where 2 and 3 do not hold of it
row_same : (l : Limits) (r : CardRow) (a b : Bool) → (a || bad_row_log l r) ≡ false → (b || bad_row_image l r) ≡ false → row_of (row_unit l r) ≡ r
row_same l r a b two three =
    let i = image_read l r (or_parts b _ three).1 in
    row_forth l r (log_read l r (or_parts a _ two).1) i.0 i.1

-- a part of a row that stays where the row is stored, also past the end
pub kept_part : {A : Type 0} (f : CardRow → A) (rows : List CardRow) (i : ℕ) (r : CardRow) → f r ≡ f (get_or rows i no_row)
    → f (get_or (set rows i r) i no_row) ≡ f (get_or rows i no_row)
kept_part f [] i r e = refl
kept_part f (x ∷ xs) zero r e = e
kept_part f (x ∷ xs) (suc i) r e = kept_part f xs i r e

-- and so of an accepted call
keeps_part : {A : Type 0} (f : CardRow → A) {l : Limits} {cs : List Condition} {rows : List CardRow} {k : ℕ} {x : CardRow} {out : List ℕ}
    {a : CardAnswer} → OnRow l cs rows k x out a → a.number ≡ 0 → f x ≡ f (row_at rows k) → f (row_at a.rows k) ≡ f (row_at rows k)
keeps_part f {k = k} o z e = ap (λ (rs : List CardRow). f (row_at rs k)) (o.stored z) ∙ kept_part f _ (k - 1) _ e

-- ---- the four calls

module _ (l : Limits) (b : Beside) (rows rows' : List CardRow) (len : length rows ≡ length rows') where
  module _ (k : ℕ) where
    pub start_on_row : OnRow l (card_start_conditions b k rows) rows k (row_of (fresh (settings_of_row b k))) [] (card_start_call l b rows k)
    unfolding card_start_call card_start_conditions
    start_on_row =
        on_row l _ rows k (λ h. (named _ _ h.1.0).0) _ [] []
        blank_code

    pub start_alike : row_at rows k ≡ row_at rows' k → Alike k (card_start_call l b rows k) (card_start_call l b rows' k)
    unfolding card_start_call card_start_conditions
    start_alike same = rw len (unless_alike l _ rows rows' k len same _ [] [] blank_code)

    pub key_on_on_row : OnRow l (card_key_on_conditions l b k rows) rows k (row_of (recovered (down_unit (row_log l (row_at rows k)).contents))) []
        (card_key_on_call l b rows k)
    unfolding card_key_on_call card_key_on_conditions
    key_on_on_row =
        on_row l _ rows k
        (λ h. (named _ _ h.1.0).0) _ [] [] blank_code

    -- key-on leaves the row's log to the last number
    pub key_on_keeps_log : (card_key_on_call l b rows k).number ≡ 0 → (row_at (card_key_on_call l b rows k).rows k).log ≡ (row_at rows k).log
    unfolding card_key_on_conditions recovered down_unit at_log
    key_on_keeps_log z =
        keeps_part (λ (r : CardRow). r.log) key_on_on_row z
        (log_forth l (row_at rows k) (log_read l (row_at rows k) (or_parts (bad_beside b k) _ (key_on_on_row.accepted z).1.1.0).1))

    pub key_on_alike : row_at rows k ≡ row_at rows' k → Alike k (card_key_on_call l b rows k) (card_key_on_call l b rows' k)
    unfolding card_key_on_call card_key_on_conditions
    key_on_alike same = rw (len, same) (unless_alike l _ rows rows' k len same _ [] [] blank_code)

    module _ (v : ℕ) (out : List ℕ) where
      pub propose_on_row : OnRow l (card_propose_conditions l b k rows v out) rows k (row_of (proposed (row_unit l (row_at rows k)) v).unit) out
          (card_propose_call l b rows k v out)
      unfolding card_propose_call card_propose_conditions
      propose_on_row =
          on_row l _ rows k
          (λ h. (named _ _ h.1.0).0) _ out _ _

      pub propose_alike : row_at rows k ≡ row_at rows' k → Alike k (card_propose_call l b rows k v out) (card_propose_call l b rows' k v out)
      unfolding card_propose_call card_propose_conditions
      propose_alike same = rw (len, same) (unless_alike l _ rows rows' k len same _ out _ _)

      -- whatever part of its row's unit a proposal leaves, it leaves in the row to the last number
      pub propose_keeps_part : {A : Type 0} (f : CardRow → A) → (card_propose_call l b rows k v out).number ≡ 0
          → f (row_of (proposed (row_unit l (row_at rows k)) v).unit) ≡ f (row_of (row_unit l (row_at rows k)))
          → f (row_at (card_propose_call l b rows k v out).rows k) ≡ f (row_at rows k)
      unfolding card_propose_conditions
      propose_keeps_part f z same =
          let t = propose_on_row.accepted z in
          keeps_part f propose_on_row z (same ∙ ap f (row_same l (row_at rows k) _ _ t.1.1.0 t.1.1.1.0))

      -- and so the log
      pub propose_keeps_log : (card_propose_call l b rows k v out).number ≡ 0
          → (row_at (card_propose_call l b rows k v out).rows k).log ≡ (row_at rows k).log
      propose_keeps_log z = propose_keeps_part (λ (r : CardRow). r.log) z (ap log_fields_of (proposed_keeps (row_unit l (row_at rows k)) v).0)

  module _ (bs out : List ℕ) where
    abbrev m : Message
    m = (read_message l bs).contents

    -- the row of the message's entry
    pub deliver_on_row : OnRow l (card_deliver_conditions l b m rows bs out) rows m.entry
        (row_of (received (row_unit l (row_at rows m.entry)) m).unit) out (card_deliver_call l b rows bs out)
    unfolding card_deliver_call card_deliver_conditions
    deliver_on_row =
        on_row l _ rows m.entry (λ h. (named _ _ h.1.1.0).0) _ out _ _

    pub deliver_alike : row_at rows m.entry ≡ row_at rows' m.entry
        → Alike m.entry (card_deliver_call l b rows bs out) (card_deliver_call l b rows' bs out)
    unfolding card_deliver_call card_deliver_conditions
    deliver_alike same = rw (len, same) (unless_alike l _ rows rows' m.entry len same _ out _ _)

    -- the row of an accepted delivery is the row of the unit that it holds
    delivered_same : (card_deliver_call l b rows bs out).number ≡ 0 → row_of (row_unit l (row_at rows m.entry)) ≡ row_at rows m.entry
    unfolding card_deliver_conditions
    delivered_same z = let t = deliver_on_row.accepted z in row_same l (row_at rows m.entry) _ _ t.1.1.1.0 t.1.1.1.1.0

    -- whatever part of its row's unit a delivery leaves, it leaves in the row to the last number
    pub deliver_keeps_part : {A : Type 0} (f : CardRow → A) → (card_deliver_call l b rows bs out).number ≡ 0
        → f (row_of (received (row_unit l (row_at rows m.entry)) m).unit) ≡ f (row_of (row_unit l (row_at rows m.entry)))
        → f (row_at (card_deliver_call l b rows bs out).rows m.entry) ≡ f (row_at rows m.entry)
    deliver_keeps_part f z same = keeps_part f deliver_on_row z (same ∙ ap f (delivered_same z))

    -- and so the log, where none is written
    pub deliver_keeps_log : (card_deliver_call l b rows bs out).number ≡ 0
        → unit_log (received (row_unit l (row_at rows m.entry)) m).unit ≡ unit_log (row_unit l (row_at rows m.entry))
        → (row_at (card_deliver_call l b rows bs out).rows m.entry).log ≡ (row_at rows m.entry).log
    deliver_keeps_log z same = deliver_keeps_part (λ (r : CardRow). r.log) z (ap log_fields_of same)

    -- a delivery that changes nothing of the row's unit leaves every row to the last number
    pub deliver_keeps : (card_deliver_call l b rows bs out).number ≡ 0
        → (received (row_unit l (row_at rows m.entry)) m).unit ≡ row_unit l (row_at rows m.entry) → (card_deliver_call l b rows bs out).rows ≡ rows
    deliver_keeps z same =
        deliver_on_row.stored z
        ∙ ap (λ (x : U.Unit). set rows (m.entry - 1) (row_of x)) same
        ∙ ap (set rows (m.entry - 1)) (delivered_same z)
        ∙ set-get_or rows (m.entry - 1) no_row

    -- so does a vote sent again
    pub again_keeps : (card_deliver_call l b rows bs out).number ≡ 0 → Repeats (row_unit l (row_at rows m.entry)) m
        → (card_deliver_call l b rows bs out).rows ≡ rows
    again_keeps z r = deliver_keeps z (again (row_unit l (row_at rows m.entry)) m r).unit

-- ---- what is not read

same_log : (l : Limits) (r r' : CardRow) → r.log ≡ r'.log → row_log l r ≡ row_log l r'
unfolding row_log
same_log l r r' e = ap (λ (f : LogFields). from_numbers (log_format l) (numbers_of f)) e

module _ (l : Limits) (b : Beside) (rows rows' : List CardRow) (len : length rows ≡ length rows') (k : ℕ) where
  -- calls with the same conditions that store the same
  unread : (cs : List Condition) (x : CardRow) (out : List ℕ) (a c : CardAnswer) → OnRow l cs rows k x out a → OnRow l cs rows' k x out c → Unread k a c
  unread cs x out a c p q =
      let same = p.number ∙ sym q.number in
      record {
        number = same;
        row =
            λ z.
            ap (λ (rs : List CardRow). row_at rs k) (p.stored z)
            ∙ set_alike rows rows' (k - 1) x len
            ∙ sym (ap (λ (rs : List CardRow). row_at rs k) (q.stored (sym same ∙ z)));
      }

  -- starting reads no row
  pub start_unread : Unread k (card_start_call l b rows k) (card_start_call l b rows' k)
  unfolding card_start_conditions
  start_unread =
      unread (card_start_conditions b k rows) _ [] _ _ (start_on_row l b rows rows refl k) (rw len (start_on_row l b rows' rows' refl k))

  -- key-on reads the row's log alone
  pub key_on_unread : (row_at rows k).log ≡ (row_at rows' k).log → Unread k (card_key_on_call l b rows k) (card_key_on_call l b rows' k)
  unfolding card_key_on_conditions bad_row_log other_row
  key_on_unread same =
      let read = same_log l (row_at rows k) (row_at rows' k) same in
      unread (card_key_on_conditions l b k rows) _ [] _ _ (key_on_on_row l b rows rows refl k) (rw (len, read) (key_on_on_row l b rows' rows' refl k))
