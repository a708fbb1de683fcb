-- What the calls ask of a row, and what is told, is the call's definition. Assumes nothing.
use Rattle.std.specs.Prelude.{Option, Some, Result, Ok, Err}
use Prim.Native.Nat.{ℕ, ◌-◌}
use mathlib.Core.Path.{◌≡◌, refl, sym, ap, ◌∙◌}
use mathlib.Core.Bool.{Bool, true, false, cond, ◌||◌, or-true, or-false}
use mathlib.Core.List.{List, [], ◌∷◌, ◌++◌}
use lib.Dec.{eqb}
use lib.ListN.{length, set}
use lib.Seq.{set-get_or}
use borrow.Author.Tests.{eqb-true, not-false}
use Rattle.tally.specs.Limits.{today, blank_code, message_size}
use Rattle.tally.specs.Refusal.{number_of}
use Rattle.tally.specs.declared.Refusal.{Refusal}
use Rattle.tally.proofs.Bounds.{sane_today}
use Rattle.std.proofs.lemmas.Bool.{or_parts}
use Rattle.tally.proofs.Refusals.{refusal_number}
use Rattle.contents.specs.Messages.{message_ok}
use Rattle.contents.specs.declared.Message.{Message}
use Rattle.formats.specs.Formats.{reading}
use Rattle.formats.specs.Messages.{read_message, cleared}
use Rattle.consensus.specs.Conditions.{Condition, first_refusal}
use Rattle.consensus.specs.Methods.{propose_conditions, deliver_conditions}
use Rattle.consensus.specs.Step.{proposed, send_first}
use Rattle.consensus.specs.declared.Answer.{Answer}
use Rattle.calls.specs.Calls.{wrong_length, bad_message, message_bytes}
use Rattle.calls.proofs.Entries.{message_ok_lem}
use Rattle.calls.proofs.Held.{cleared_empty}
use Rattle.calls.proofs.Stored.{message_stored}
use Rattle.cards.specs.Calls.{CardAnswer, card_called, unless_card, answered_card, wrong_count, row_at, beside, card_start_conditions, card_start_call}
use Rattle.cards.specs.Calls.{card_key_on_conditions, card_key_on_call, card_propose_conditions, card_propose_call, card_deliver_conditions, card_deliver_call}
use Rattle.cards.specs.InnerSteps.{step_conditions, unit_conditions, unit_answer, step_answer, tells, told, row_answer, unless_row, step_of, front_conditions}
use Rattle.cards.specs.InnerSteps.{front, card_told, card_rows, card_call, propose_asks, deliver_asks, put_message, told_card}
use Rattle.cards.specs.Rows.{row_unit, row_of, no_row}
use Rattle.cards.specs.declared.Act.{Act}
use Rattle.cards.specs.declared.CardCall.{CardCall}
use Rattle.cards.specs.declared.CardRow.{CardRow}
use Rattle.cards.specs.declared.UnitStep.{UnitStep}
use Rattle.cards.proofs.Steps.{unit_plain}

-- ---- conditions in two parts

first_append : (xs ys : List Condition)
    → first_refusal (xs ++ ys) ≡ cond (eqb (number_of (first_refusal xs)) 0) (first_refusal ys) (first_refusal xs)
unfolding first_refusal
first_append [] ys = refl
first_append (x ∷ xs) ys = go x.holds (first_append xs ys)
  where
    go : (b : Bool) → first_refusal (xs ++ ys) ≡ cond (eqb (number_of (first_refusal xs)) 0) (first_refusal ys) (first_refusal xs)
        → cond b (Some x.refusal) (first_refusal (xs ++ ys))
        ≡ cond (eqb (number_of (cond b (Some x.refusal) (first_refusal xs))) 0) (first_refusal ys) (cond b (Some x.refusal) (first_refusal xs))
    go true rest = rw (refusal_number x.refusal)
    go false rest = rest

-- calls with the same first condition
unless_same : (cs ds : List Condition) (rows : List CardRow) (out : List ℕ) (a b : CardAnswer) → first_refusal cs ≡ first_refusal ds
    → (number_of (first_refusal ds) ≡ 0 → a ≡ b) → unless_card today cs rows out a ≡ unless_card today ds rows out b
unless_same cs ds rows out a b e ok = rw e (go (eqb (number_of (first_refusal ds)) 0) refl)
  where
    go : (t : Bool) → eqb (number_of (first_refusal ds)) 0 ≡ t
        → cond t a (card_called (number_of (first_refusal ds)) rows (cleared today out) blank_code)
        ≡ cond t b (card_called (number_of (first_refusal ds)) rows (cleared today out) blank_code)
    go true z = ok (eqb-true _ _ z)
    go false z = refl

-- ---- a call by value

module _ (c : CardCall) (rows : List CardRow) (out : List ℕ) where
  abbrev r : CardRow
  r = row_at rows c.row

  abbrev a : Answer
  a = step_answer today c.act c r

  abbrev pub conditions_of : List Condition
  conditions_of = front_conditions (Ok c) (length rows) ++ step_conditions today c.act c r

  abbrev pub accepts : CardAnswer
  accepts = told_card today (set rows (c.row - 1) (row_of a.unit)) out (told a)

  first_is : first_refusal conditions_of
      ≡ cond (eqb (number_of (front (Ok c) (length rows))) 0) (first_refusal (step_conditions today c.act c r)) (front (Ok c) (length rows))
  unfolding front front_conditions
  first_is =
      first_append (front_conditions (Ok c) (length rows)) (step_conditions today c.act c r)

  -- a call by value is its conditions in order, and else the step
  pub asked : told_card today (card_rows today (Ok c) rows) out (card_told today (Ok c) rows) ≡ unless_card today conditions_of rows out accepts
  unfolding card_told card_rows step_of unless_row put_message
  asked = rw first_is (go (eqb (number_of (front (Ok c) (length rows))) 0) refl)
    where
      k : Option Refusal
      k = first_refusal (step_conditions today c.act c r)

      f : Option Refusal
      f = front (Ok c) (length rows)

      -- what the row says
      by : (t : Bool)
          → told_card today (set rows (c.row - 1) (cond t (row_answer (row_of a.unit) (told a)) (row_answer r (tells k))).row) out
          (cond t (row_answer (row_of a.unit) (told a)) (row_answer r (tells k))).told
          ≡ cond t accepts (card_called (number_of k) rows (cleared today out) blank_code)
      by true = refl
      by false = rw (set-get_or rows (c.row - 1) no_row)

      go : (t : Bool) → eqb (number_of f) 0 ≡ t
          → told_card today (cond t (set rows (c.row - 1) (step_of today c r).row) rows) out (cond t (step_of today c r).told (tells f))
          ≡ cond (eqb (number_of (cond t k f)) 0) accepts (card_called (number_of (cond t k f)) rows (cleared today out) blank_code)
      go true z = by (eqb (number_of k) 0)
      go false z = rw z

-- a call whose buffers are refused
refused_asked : (x : Refusal) (rows : List CardRow) (out : List ℕ) (cs : List Condition) (ok : CardAnswer)
    → first_refusal cs ≡ cond (wrong_count (length rows)) (Some Refusal.Length) (Some x)
    → told_card today (card_rows today (Err x) rows) out (card_told today (Err x) rows) ≡ unless_card today cs rows out ok
unfolding card_told card_rows front front_conditions first_refusal put_message
refused_asked x rows out cs ok e = rw e (go (wrong_count (length rows)))
  where
    go : (b : Bool) → card_called (number_of (cond b (Some Refusal.Length) (Some x))) rows (cleared today out) blank_code
        ≡ cond (eqb (number_of (cond b (Some Refusal.Length) (Some x))) 0) ok
        (card_called (number_of (cond b (Some Refusal.Length) (Some x))) rows (cleared today out) blank_code)
    go true = refl
    go false = rw (refusal_number x)

-- ---- a start and a key-on: no output buffer, and no decision

abbrev number_and_rows : CardAnswer → CardAnswer
number_and_rows x = card_called x.number x.rows [] blank_code

bare_unless : (cs : List Condition) (rows : List CardRow) (ok : CardAnswer)
    → number_and_rows (unless_card today cs rows [] ok) ≡ unless_card today cs rows [] (number_and_rows ok)
unfolding cleared
bare_unless cs rows ok = go (eqb (number_of (first_refusal cs)) 0)
  where
    go : (t : Bool) → number_and_rows (cond t ok (card_called (number_of (first_refusal cs)) rows (cleared today []) blank_code))
        ≡ cond t (number_and_rows ok) (card_called (number_of (first_refusal cs)) rows (cleared today []) blank_code)
    go true = refl
    go false = refl

module _ (engine n unit k : ℕ) (rows : List CardRow) where
  -- what such a call says, from what it asks
  abbrev bare : Act → CardAnswer
  bare act =
      let x = Ok (card_call engine n unit k act) in card_called (number_of (card_told today x rows).refusal) (card_rows today x rows) [] blank_code

  bare_asked : (act : Act)
      → bare act
      ≡ unless_card today (conditions_of (card_call engine n unit k act) rows []) rows [] (number_and_rows (accepts (card_call engine n unit k act) rows []))
  bare_asked act = ap number_and_rows (asked (card_call engine n unit k act) rows []) ∙ bare_unless _ rows _

  pub start_asked : bare Act.Start ≡ card_start_call today (beside engine n unit) rows k
  unfolding card_start_call card_start_conditions front_conditions step_conditions step_answer first_refusal
  start_asked =
      bare_asked Act.Start
      ∙ unless_same (conditions_of (card_call engine n unit k Act.Start) rows []) (card_start_conditions (beside engine n unit) k rows) rows [] _ _
      refl (λ z. refl)

  pub key_on_asked : bare Act.KeyOn ≡ card_key_on_call today (beside engine n unit) rows k
  unfolding card_key_on_call card_key_on_conditions front_conditions step_conditions step_answer first_refusal
  key_on_asked =
      bare_asked Act.KeyOn
      ∙ unless_same (conditions_of (card_call engine n unit k Act.KeyOn) rows []) (card_key_on_conditions today (beside engine n unit) k rows) rows [] _ _
      refl (λ z. refl)

-- ---- a proposal and a delivery

-- a message in a buffer of its length
put_is : (m : Message) (out : List ℕ) → eqb (length out) (message_size today) ≡ true → put_message today m out ≡ message_bytes today m.kind m
unfolding put_message
put_is m out e =
    let size : length out ≡ message_size today = eqb-true _ _ e in
    message_stored m.kind m (cleared today out) out (cleared_empty out _ refl size) size

-- a proposal gives no decision
abbrev no_decision : CardAnswer → CardAnswer
no_decision x = card_called x.number x.rows x.out blank_code

module _ (engine n unit : ℕ) (rows : List CardRow) (out : List ℕ) where
  -- what a call says, from what it asks
  abbrev said : Result CardCall Refusal → CardAnswer
  said x = told_card today (card_rows today x rows) out (card_told today x rows)

  -- a wrong length is refused first
  same_length : (b : Bool) → Some Refusal.Length ≡ cond b (Some Refusal.Length) (Some Refusal.Length)
  same_length true = refl
  same_length false = refl

  short : (cs : List Condition) (ok : CardAnswer) → first_refusal cs ≡ Some Refusal.Length
      → said (Err Refusal.Length) ≡ unless_card today cs rows out ok
  short cs ok e = refused_asked Refusal.Length rows out cs ok (e ∙ same_length (wrong_count (length rows)))

  -- an accepted step is answered as bytes
  accepted : (k : ℕ) (s : UnitStep) → eqb (length out) (message_size today) ≡ true
      → accepts (card_call engine n unit k (Act.Step s)) rows out ≡ answered_card today rows k (unit_answer s (row_unit today (row_at rows k)))
  unfolding step_answer
  accepted k s size =
      rw (unit_plain s (row_unit today (row_at rows k)), put_is (unit_answer s (row_unit today (row_at rows k))).message out size)

  module _ (k v : ℕ) where
    propose_by : (x : Bool) → wrong_length out (message_size today) ≡ x
        → said (cond x (Err Refusal.Length) (Ok (card_call engine n unit k (Act.Step (UnitStep.Propose v)))))
        ≡ card_propose_call today (beside engine n unit) rows k v out
    unfolding card_propose_call card_propose_conditions front_conditions step_conditions unit_conditions unit_answer propose_conditions first_refusal
    propose_by true e = short (card_propose_conditions today (beside engine n unit) k rows v out) _ (rw (e, or-true (wrong_count (length rows))))
    propose_by false e =
        asked (card_call engine n unit k (Act.Step (UnitStep.Propose v))) rows out
        ∙ unless_same (conditions_of (card_call engine n unit k (Act.Step (UnitStep.Propose v))) rows out)
        (card_propose_conditions today (beside engine n unit) k rows v out) rows out _ _
        (rw (e, or-false (wrong_count (length rows)))) (λ z. accepted k (UnitStep.Propose v) (not-false _ e))

    silent : no_decision (card_propose_call today (beside engine n unit) rows k v out) ≡ card_propose_call today (beside engine n unit) rows k v out
    unfolding card_propose_call proposed send_first
    silent = go (eqb (number_of (first_refusal (card_propose_conditions today (beside engine n unit) k rows v out))) 0)
      where
        ok : CardAnswer
        ok = answered_card today rows k (proposed (row_unit today (row_at rows k)) v)

        no : CardAnswer
        no =
            card_called (number_of (first_refusal (card_propose_conditions today (beside engine n unit) k rows v out))) rows (cleared today out) blank_code

        go : (t : Bool) → no_decision (cond t ok no) ≡ cond t ok no
        go true = refl
        go false = refl

    pub propose_asked : (let x = propose_asks today engine n unit k v (length out) in
        card_called (number_of (card_told today x rows).refusal) (card_rows today x rows) (put_message today (card_told today x rows).message out) blank_code)
        ≡ card_propose_call today (beside engine n unit) rows k v out
    unfolding propose_asks
    propose_asked = ap no_decision (propose_by (wrong_length out (message_size today)) refl) ∙ silent

  module _ (bs : List ℕ) where
    abbrev m : Message
    m = (read_message today bs).contents

    abbrev asks : Bool → Bool → Result CardCall Refusal
    asks x y =
        cond x (Err Refusal.Length) (cond y (Err Refusal.Message) (Ok (card_call engine n unit m.entry (Act.Step (UnitStep.Deliver m)))))

    message_read : bad_message today bs ≡ false → message_ok today m ≡ true
    unfolding bad_message
    message_read e = message_ok_lem today sane_today bs m (ap (λ (k : ℕ). reading k m) (sym (eqb-true _ _ (not-false _ e))))

    deliver_by : (x y : Bool) → (wrong_length bs (message_size today) || wrong_length out (message_size today)) ≡ x → bad_message today bs ≡ y
        → said (asks x y) ≡ card_deliver_call today (beside engine n unit) rows bs out
    unfolding card_deliver_call card_deliver_conditions front_conditions step_conditions unit_conditions unit_answer deliver_conditions first_refusal
    deliver_by true y e f =
        short (card_deliver_conditions today (beside engine n unit) m rows bs out) _ (rw (e, or-true (wrong_count (length rows))))
    deliver_by false true e f =
        refused_asked Refusal.Message rows out (card_deliver_conditions today (beside engine n unit) m rows bs out) _
        (rw (e, f, or-false (wrong_count (length rows))))
    deliver_by false false e f =
        asked (card_call engine n unit m.entry (Act.Step (UnitStep.Deliver m))) rows out
        ∙ unless_same (conditions_of (card_call engine n unit m.entry (Act.Step (UnitStep.Deliver m))) rows out)
        (card_deliver_conditions today (beside engine n unit) m rows bs out) rows out _ _
        (rw (e, f, or-false (wrong_count (length rows)), message_read f))
        (λ z. accepted m.entry (UnitStep.Deliver m) (not-false _ (or_parts (wrong_length bs (message_size today)) _ e).1))

    pub deliver_asked : said (deliver_asks today engine n unit bs (length out)) ≡ card_deliver_call today (beside engine n unit) rows bs out
    unfolding deliver_asks
    deliver_asked = deliver_by _ _ refl refl
