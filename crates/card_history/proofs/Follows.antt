-- Every event of cards is, at each entry, one event over contents or none: the invariant is kept from any world that has it. Assumes nothing.
use Prim.Native.Nat.{ℕ, ◌≤◌}
use mathlib.Core.Path.{◌≡◌, refl, sym, ap, subst, ◌∙◌}
use mathlib.Core.Bool.{Bool, true, false, cond}
use mathlib.Core.List.{List, [], ◌∷◌, ◌++◌}
use mathlib.Core.Logic.{◌⊎◌}
use mathlib.Core.Option.{Option, none, some}
use lib.Dec.{eqb}
use lib.ListN.{get_elem?}
use borrow.Author.Tests.{eqb-true, eqb-false, eq-eqb, ne_eqb}
use Rattle.tally.specs.Limits.{Limits, Sane}
use Rattle.tally.specs.declared.Engine.{Engine}
use Rattle.contents.specs.Logs.{settings_ok}
use Rattle.contents.specs.Messages.{message_ok, empty_message}
use Rattle.contents.specs.declared.Message.{Message}
use Rattle.contents.proofs.Facts.{known_or_blank}
use Rattle.formats.specs.Codes.{estimate_of}
use Rattle.formats.specs.Messages.{read_message}
use Rattle.formats.proofs.Letters.{estimate_code}
use Rattle.consensus.specs.Methods as D
use Rattle.consensus.specs.Sound.{From, Sound}
use Rattle.consensus.specs.Step.{fresh, recovered}
use Rattle.consensus.specs.Units.{unit_log, down_unit, at_log}
use Rattle.consensus.specs.declared.Answer.{Answer}
use Rattle.consensus.specs.declared.Power.TheVariants.{Up}
use Rattle.consensus.specs.declared.Unit as U
use Rattle.consensus.proofs.Answers.{propose_keeps, propose_power, deliver_power}
use Rattle.consensus.proofs.Soundness.{sound_propose, sound_deliver}
use Rattle.cards.specs.Calls.{CardAnswer, row_at, card_start_call, card_key_on_call, card_propose_call, card_deliver_call}
use Rattle.cards.specs.Rows.{log_fields_of, row_of}
use Rattle.cards.specs.declared.CardRow.{CardRow}
use Rattle.agreement.specs.Bytes.{unless_empty}
use Rattle.agreement.specs.Contents as C
use Rattle.agreement.specs.Contents.{ContentsWorld}
use Rattle.agreement.specs.Worlds.{Setup, settings_of, Decision, Proposal, put, change, decision}
use Rattle.agreement.proofs.Follows.{sent_in}
use Rattle.agreement.proofs.History as H
use Rattle.agreement.proofs.History.{answer_added, from_unit}
use Rattle.card_history.specs.Cards.{Stage, new, up, down, CardWorld, Lent, lent_card, other as any, CardEvent, start, proposal, delivery, cut, off, on}
use Rattle.card_history.specs.Cards.{call, is_new, is_up, is_down, added, RowOutcome, silent, turned_off, has_proposed, has_received, next, leave, after}
use Rattle.card_history.specs.Cards.{lent_rows, leave_lent, card_of, beside_unit, delivering, step, LawfulEvent}
use Rattle.card_history.specs.Demand3.{entry_message}
use Rattle.card_history.proofs.Calls.{Leaves, Stores, Does, start_leaves, key_on_leaves, propose_leaves, deliver_leaves, call_leaves}
use Rattle.card_history.proofs.Calls.{propose_does, deliver_read_lem, deliver_does, key_on_does, start_does}
use Rattle.card_history.proofs.Entry.{setup, Stands, EntryInv, Started, started, Moves, by_none, EntryStep, idle, left, other, own, CardInv}
use Rattle.card_history.proofs.KeyOff.{off_logs, off_others}
use Rattle.card_history.proofs.Moves.{off_unit, on_unit, recovered_up, down_unit_lem, moves_proposal, moves_delivery, moves_cut, moves_off, moves_on}
use Rattle.card_history.proofs.Picked.{taken, picked_at}
use Rattle.card_history.proofs.Places.{placed_step}
use Rattle.card_history.proofs.Sent.{sends}
use Rattle.card_history.proofs.Stages.{if_so, is_new_lem, is_up_lem, is_down_lem}

put_own : (f : ℕ → U.Unit) (u : ℕ) (x : U.Unit) → put f u x u ≡ x
put_own f u x = rw (eq-eqb u u refl)

put_other : (f : ℕ → U.Unit) (u : ℕ) (x : U.Unit) (v : ℕ) → eqb v u ≡ false → put f u x v ≡ f v
put_other f u x v e = rw e

same_added : {A : Type 0} (xs : List A) (o : Option A) → H.added xs o ≡ added xs o
same_added xs none = refl
same_added xs (some a) = refl

fresh_up : (c : Setup) (u : ℕ) (x : U.Unit) → x ≡ fresh (settings_of c u) → x.power ≡ Up
unfolding fresh at_log
fresh_up c u x e = ap (λ (y : U.Unit). y.power) e

module _ (l : Limits) (sane : Sane l) (g : Engine) (n : ℕ) (w : CardWorld) (cards : CardInv l g n w) where
  abbrev at : (k : ℕ) → EntryInv l (setup g n k) w
  at k = cards.entries k

  -- every entry is kept, or takes its own step
  abbrev pub CardStep : CardWorld → Type 0
  CardStep w' = (k : ℕ) → EntryStep l (setup g n k) w w' (at k)

  idles : CardStep w
  idles k = idle l (setup g n k) w (at k)

  module _ (u j : ℕ) where
    abbrev rows : List CardRow
    rows = (w.units u).rows

    abbrev c : Setup
    c = setup g n j

    abbrev W : ContentsWorld
    W = (at j).contents

    abbrev x : U.Unit
    x = W.units u

    -- an outcome of row j of unit u
    outcome : (o : RowOutcome) → EntryStep l c w (next w u j o) (at j)
        → ((k : ℕ) → 1 ≤ k → eqb k j ≡ false → row_at o.rows k ≡ row_at rows k)
        → ((k : ℕ) → eqb k j ≡ false → taken (entry_message l k) o.sent ≡ none) → CardStep (next w u j o)
    outcome o here same unsent k = go (eqb k j) refl
      where
        go : (b : Bool) → eqb k j ≡ b → EntryStep l (setup g n k) w (next w u j o) (at k)
        go true e = subst (λ i. EntryStep l (setup g n i) w (next w u j o) (at i)) (sym (eqb-true k j e)) here
        go false e = other l (setup g n k) w (at k) u o j e (λ h. same k h e) (unsent k e)

    -- a call, accepted or refused
    by_answer : (a : CardAnswer) (o : RowOutcome) → Leaves rows a → (eqb a.number 0 ≡ true → CardStep (next w u j o)) → CardStep (after w u j a o)
    unfolding after
    by_answer a o law yea = go (eqb a.number 0) refl
      where
        go : (b : Bool) → eqb a.number 0 ≡ b → CardStep (cond b (next w u j o) (leave w u a.rows))
        go true e = yea e
        go false e = λ k. left l (setup g n k) w (at k) u a.rows (law.refused e)

    -- what stands in the row, by its stage
    stands : (s : Stage) → (w.units u).stage j ≡ s → Stands l c s (row_at rows j) u x
    stands s e = subst (λ z. Stands l c z (row_at rows j) u x) e ((at j).units u)

    -- ---- the row is up, by a start or a key-on

    goes_up : (a : CardAnswer) (y : U.Unit) → settings_ok (settings_of c u) ≡ true → y.power ≡ Up → Stores rows j (row_of y) a.rows
        → (W' : ContentsWorld) → W'.units u ≡ y → ((v : ℕ) → eqb v u ≡ false → W'.units v ≡ W.units v) → W'.sent ≡ W.sent
        → W'.proposed ≡ W.proposed → W'.decided ≡ W.decided → Moves l c W W' → CardStep (next w u j (silent a.rows up))
    goes_up a y ok lit put W' here there s p d moves =
        outcome (silent a.rows up)
        (own l c w (at j) u (silent a.rows up) W' (started l c w (at j) u ok).all moves
        (subst (Stands l c up (row_at a.rows j) u) (sym here) (ok, (lit, put.own))) there s p d)
        put.others (λ k q. refl)

    module _ (e : (w.units u).stage j ≡ new) where
      abbrev a_start : CardAnswer
      a_start = card_start_call l (beside_unit g n u) rows j

      start_accepted : eqb a_start.number 0 ≡ true → CardStep (next w u j (silent a_start.rows up))
      start_accepted acc =
          let d = start_does l sane c u rows acc in
          goes_up a_start (fresh (settings_of c u)) d.1.0 (fresh_up c u (fresh (settings_of c u)) refl) d.1.1 W (stands new e)
          (λ v q. refl) refl refl refl (by_none l c W ((at j).inv (started l c w (at j) u d.1.0).all))

      start_at : CardStep (after w u j a_start (silent a_start.rows up))
      start_at = by_answer a_start (silent a_start.rows up) (start_leaves l _ rows j) start_accepted

    module _ (e : (w.units u).stage j ≡ down) where
      abbrev a_on : CardAnswer
      a_on = card_key_on_call l (beside_unit g n u) rows j

      on_accepted : eqb a_on.number 0 ≡ true → CardStep (next w u j (silent a_on.rows up))
      on_accepted acc =
          let h = stands down e in
          let s = started l c w (at j) u h.0 in
          goes_up a_on (recovered x) h.0 (recovered_up x) (key_on_does l sane _ rows j x s.well_formed h.1.1 acc)
          (change W u (D.key_on x).unit) (put_own W.units u (D.key_on x).unit ∙ on_unit x h.1.0) (put_other W.units u (D.key_on x).unit)
          refl refl refl (moves_on l c W ((at j).inv s.all) u s.below)

      on_at : CardStep (after w u j a_on (silent a_on.rows up))
      on_at = by_answer a_on (silent a_on.rows up) (key_on_leaves l _ rows j) on_accepted

    -- ---- the row goes down, by a key-off or a cut

    goes_down : (R : List CardRow) (lost : CardRow) (y : U.Unit) → settings_ok (settings_of c u) ≡ true
        → ((k : ℕ) → 1 ≤ k → eqb k j ≡ false → row_at R k ≡ row_at rows k) → (row_at R j).log ≡ log_fields_of (unit_log y)
        → y.power ≡ Up → Moves l c W (change W u (D.key_off y).unit) → CardStep (next w u j (turned_off R j lost))
    goes_down R lost y ok others log lit moves =
        let s = started l c w (at j) u ok in
        let q : put W.units u (D.key_off y).unit u ≡ down_unit (unit_log y) = put_own W.units u (D.key_off y).unit ∙ off_unit y lit in
        outcome (turned_off R j lost)
        (own l c w (at j) u (turned_off R j lost) (change W u (D.key_off y).unit) s.all moves
        (subst (Stands l c down (row_at (turned_off R j lost).rows j) u) (sym q)
        (ok, ((down_unit_lem y).0, off_logs R j j lost ∙ log ∙ ap log_fields_of (sym (down_unit_lem y).1))))
        (put_other W.units u (D.key_off y).unit) refl refl refl)
        (λ k h q. off_others R j k lost s.first h q ∙ others k h q)
        (λ k q. refl)

    off_at : (w.units u).stage j ≡ up → (lost : CardRow) → CardStep (next w u j (turned_off rows j lost))
    off_at e lost =
        let h = stands up e in
        let s = started l c w (at j) u h.0 in
        goes_down rows lost x h.0 (λ k b q. refl) (ap (λ (z : CardRow). z.log) h.1.1) h.1.0
        (moves_off l c W ((at j).inv s.all) u s.below)

    -- ---- an answer of an up row

    module _ (x' : Answer) (a : CardAnswer) (does : Does l rows j x' a) (sound : Sound l x x') (ok : settings_ok (settings_of c u) ≡ true) where
      from : (x'.message ≡ empty_message) ⊎ From l (settings_of c u) x'.message
      from = subst (λ z. (x'.message ≡ empty_message) ⊎ From l z x'.message) (started l c w (at j) u ok).settings sound.message

      sends_at : (k : ℕ) → taken (entry_message l k) (unless_empty a.out) ≡ cond (eqb j k) (C.unless_empty x'.message.kind x'.message) none
      sends_at k = ap (λ z. taken (entry_message l k) (unless_empty z)) does.out ∙ sends l sane c u k x'.message from

      sends_own : taken (entry_message l j) (unless_empty a.out) ≡ C.unless_empty x'.message.kind x'.message
      sends_own = sends_at j ∙ rw (eq-eqb j j refl)

      -- the row stays up, and what is sent, proposed and decided is the same to the contents
      answers : x'.unit.power ≡ Up → (ps : List Proposal) (po : Option Proposal) → ps ≡ added W.proposed po
          → (round : ℕ) (ds : Option Decision) → decision u round x'.decision ≡ ds → Moves l c W (answer_added W ps u round x')
          → CardStep (next w u j (record { rows = a.rows; stage = up; sent = unless_empty a.out; proposed = po; decided = ds }))
      answers power ps po same round ds dec moves =
          outcome o
          (own l c w (at j) u o (answer_added W ps u round x') (started l c w (at j) u ok).all moves
          (subst (Stands l c up (row_at a.rows j) u) (sym (put_own W.units u x'.unit)) (ok, (power, does.rows.own)))
          (put_other W.units u x'.unit)
          (same_added W.sent (C.unless_empty x'.message.kind x'.message) ∙ ap (added W.sent) (sym sends_own))
          same
          (same_added W.decided (decision u round x'.decision) ∙ ap (added W.decided) dec))
          does.rows.others
          (λ k e. sends_at k ∙ rw (ne_eqb j k (λ q. eqb-false k j e (sym q))))
        where
          o : RowOutcome
          o = record { rows = a.rows; stage = up; sent = unless_empty a.out; proposed = po; decided = ds }

    -- ---- a proposal

    module _ (e : (w.units u).stage j ≡ up) (v : ℕ) (out : List ℕ) where
      abbrev a_propose : CardAnswer
      a_propose = card_propose_call l (beside_unit g n u) rows j v out

      propose_accepted : eqb a_propose.number 0 ≡ true → CardStep (next w u j (has_proposed u v a_propose))
      propose_accepted acc =
          let h = stands up e in
          let s = started l c w (at j) u h.0 in
          let d = propose_does l sane _ rows j v out x s.well_formed h.1.0 h.1.1 acc in
          answers (D.propose l x v) a_propose d (sound_propose l x v s.well_formed) h.0 (propose_power l x v ∙ h.1.0)
          (W.proposed ++ (record { unit = u; mileage = v } ∷ [])) (some (record { unit = u; mileage = v })) refl 0 none
          (ap (decision u 0) (propose_keeps l x v).1) (moves_proposal l c W ((at j).inv s.all) u s.below v d.accepted)

      proposal_at : CardStep (after w u j a_propose (has_proposed u v a_propose))
      proposal_at = by_answer a_propose (has_proposed u v a_propose) (propose_leaves l _ rows j v out) propose_accepted

  -- ---- a delivery, or a cut of it

  module _ (u i : ℕ) (bs out : List ℕ) (there : get_elem? w.sent i ≡ some bs) where
    abbrev m : Message
    m = (read_message l bs).contents

    abbrev a : CardAnswer
    a = card_deliver_call l (beside_unit g n u) (w.units u).rows bs out

    abbrev c_m : Setup
    c_m = setup g n m.entry

    abbrev X : ContentsWorld
    X = (at m.entry).contents

    module _ (e : (w.units u).stage m.entry ≡ up) where
      abbrev y : U.Unit
      y = X.units u

      h : Stands l c_m up (row_at (w.units u).rows m.entry) u y
      h = stands u m.entry up e

      s : Started l c_m w (at m.entry) u
      s = started l c_m w (at m.entry) u h.0

      sound : Sound l y (D.deliver l y m)
      sound = sound_deliver l y m s.well_formed

      power : (D.deliver l y m).unit.power ≡ Up
      power = deliver_power l y m ∙ h.1.0

      module _ (acc : eqb a.number 0 ≡ true) where
        -- the message has a number among the entry's
        numbered : (j : ℕ) × (get_elem? X.sent j ≡ some m)
        unfolding entry_message
        numbered =
            let read = deliver_read_lem l sane _ (w.units u).rows bs out acc in
            let p = picked_at (entry_message l m.entry) w.sent i bs m there (rw (read, eq-eqb m.entry m.entry refl)) in
            (p.0, ap (λ z. get_elem? z p.0) (at m.entry).sent ∙ p.1)

        ok : message_ok l m ≡ true
        ok = (from_unit l c_m X ((at m.entry).inv s.all) m (sent_in X.sent numbered.0 m numbered.1)).well_formed

        does : Does l (w.units u).rows m.entry (D.deliver l y m) a
        does = deliver_does l sane _ (w.units u).rows bs out ok y s.well_formed h.1.0 h.1.1 acc

        delivery_accepted : CardStep (next w u m.entry (has_received u m.round a))
        delivery_accepted =
            let q : estimate_of a.decision ≡ (D.deliver l y m).decision =
            ap estimate_of does.decision ∙ estimate_code l sane _ (known_or_blank l _ sound.decision) in
            answers u m.entry (D.deliver l y m) a does sound h.0 power X.proposed none refl m.round _
            (ap (decision u m.round) (sym q))
            (moves_delivery l c_m X ((at m.entry).inv s.all) u s.below m numbered.0 numbered.1)

        cut_accepted : (lost : CardRow) → CardStep (next w u m.entry (turned_off a.rows m.entry lost))
        cut_accepted lost =
            goes_down u m.entry a.rows lost (D.deliver l y m).unit h.0 does.rows.others
            (ap (λ (z : CardRow). z.log) does.rows.own) power
            (moves_cut l c_m X ((at m.entry).inv s.all) u s.below m numbered.0 numbered.1 does.accepted)

      delivery_at : CardStep (after w u m.entry a (has_received u m.round a))
      delivery_at = by_answer u m.entry a _ (deliver_leaves l _ _ bs out) delivery_accepted

      cut_at : (lost : CardRow) → CardStep (after w u m.entry a (turned_off a.rows m.entry lost))
      cut_at lost = by_answer u m.entry a _ (deliver_leaves l _ _ bs out) (λ acc. cut_accepted acc lost)

  -- by whether the message was sent, and its row is up
  messages : (u i : ℕ) (out : List ℕ) (f : Message → CardAnswer → RowOutcome)
      → ((bs : List ℕ) → get_elem? w.sent i ≡ some bs → (w.units u).stage (read_message l bs).contents.entry ≡ up
      → (let a = card_deliver_call l (beside_unit g n u) (w.units u).rows bs out in
      let m = (read_message l bs).contents in CardStep (after w u m.entry a (f m a))))
      → CardStep (delivering l g n w u out f (get_elem? w.sent i))
  unfolding delivering
  messages u i out f event = go (get_elem? w.sent i) refl
    where
      go : (o : Option (List ℕ)) → get_elem? w.sent i ≡ o → CardStep (delivering l g n w u out f o)
      go none e = idles
      go (some bs) e = if_so CardStep (is_up ((w.units u).stage (read_message l bs).contents.entry)) _ w (λ h. event bs e (is_up_lem _ h)) idles

  -- ---- a refused call

  lent : (b : Lent) (rows : List CardRow) → rows ≡ lent_rows w b → CardStep (leave_lent w b rows)
  lent (lent_card u) rows e = λ k. left l (setup g n k) w (at k) u rows e
  lent (any old) rows e = idles

  -- ---- every event

  pub steps : (e : CardEvent) → LawfulEvent l g n w e → CardStep (step l g n w e)
  unfolding step
  steps (start u k) h = if_so CardStep (is_new ((w.units u).stage k)) _ w (λ e. start_at u k (is_new_lem _ e)) idles
  steps (proposal u k v out) h = if_so CardStep (is_up ((w.units u).stage k)) _ w (λ e. proposal_at u k (is_up_lem _ e) v out) idles
  steps (delivery u i out) h = messages u i out _ (λ bs e s. delivery_at u i bs out e s)
  steps (cut u i out lost) h = messages u i out _ (λ bs e s. cut_at u i bs out e s lost)
  steps (off u k lost) h = if_so CardStep (is_up ((w.units u).stage k)) _ w (λ e. off_at u k (is_up_lem _ e) lost) idles
  steps (on u k) h = if_so CardStep (is_down ((w.units u).stage k)) _ w (λ e. on_at u k (is_down_lem _ e)) idles
  steps (call c) h = lent (card_of c) _ ((call_leaves l w c).refused (ne_eqb _ _ h))

-- the invariant is kept by every event
abbrev pub card_step : (l : Limits) → Sane l → (g : Engine) (n : ℕ) (w : CardWorld) → CardInv l g n w → (e : CardEvent) → LawfulEvent l g n w e
    → CardInv l g n (step l g n w e)
card_step l sane g n w inv e h = record { entries = λ k. (steps l sane g n w inv e h k).end; placed = placed_step l sane g n w inv.placed e }
