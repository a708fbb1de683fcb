-- A history of cards: every event acts on whole cards by the calls' own definitions, and all entries of a card share it. Assumes nothing.
use Rattle.std.specs.Prelude.{ℕ, ◌-◌, ◌≡◌, Bool, true, false, cond, List, [], ◌∷◌, ◌++◌, eqb, set}
use Rattle.std.proofs.Math.Option.{Option, none, some}
use Rattle.std.proofs.Math.ListN.{get_elem?}
use Rattle.tally.specs.Limits.{Limits}
use Rattle.tally.specs.declared.Engine.{Engine}
use Rattle.contents.specs.declared.Message.{Message}
use Rattle.formats.specs.Codes.{letter_of, estimate_of}
use Rattle.formats.specs.Messages.{read_message}
use Rattle.cards.specs.Calls.{CardAnswer, Beside, beside, row_at, card_start_call, card_key_on_call, card_propose_call, card_deliver_call}
use Rattle.cards.specs.declared.CardRow.{CardRow}
use Rattle.agreement.specs.Bytes.{unless_empty}
use Rattle.agreement.specs.Worlds.{Proposal, Decision, put, decision}

-- ---- worlds

-- a row is not started, up or down
pub data Stage : Type 0 where
  new up down : Stage

-- a unit of a history: its card, of any number of rows, and where each row stands
pub record CardUnit : Type 0 where
  pub rows : List CardRow
  pub stage : ℕ → Stage

-- a proposal or a decision, with its entry
pub record OfEntry (A : Type 0) : Type 0 where
  pub entry : ℕ
  pub what : A

-- messages sent are kept as copies of their bytes; they are numbered from 0 for all entries together, without limit, and never removed
pub record CardWorld : Type 0 where
  pub units : ℕ → CardUnit
  pub sent : List (List ℕ)
  pub proposed : List (OfEntry Proposal)
  pub decided : List (OfEntry Decision)

-- at the beginning no row is started, whatever it holds, and nothing is sent
abbrev pub begun : (ℕ → List CardRow) → CardWorld
begun cards = record { units = λ u. record { rows = cards u; stage = λ k. new }; sent = []; proposed = []; decided = [] }

-- ---- events

-- a card that a host lends: a unit's, or any other
pub data Lent : Type 0 where
  lent_card : ℕ → Lent
  other : List CardRow → Lent

-- any call on a card, with any numbers and buffers
pub data Call : Type 0 where
  starts keys_on : (settings : Beside) (card : Lent) (row : ℕ) → Call
  proposes : (settings : Beside) (card : Lent) (row mileage : ℕ) (out : List ℕ) → Call
  delivers : (settings : Beside) (card : Lent) (message out : List ℕ) → Call

-- every event of a history is of a unit and a row; a delivery or a cut is of the row of the message's entry. `out` is what the output buffer held
-- before, `lost` what the row's image holds once the key is off: anything. A proposal or a key-on that is cut short is a key-off, a start that is
-- cut short is none or one with a key-off after it; the key of a whole bike is a key-off of each row (`off_all` in Claims)
pub data CardEvent : Type 0 where
  start : (unit row : ℕ) → CardEvent
  proposal : (unit row mileage : ℕ) (out : List ℕ) → CardEvent
  delivery : (unit message : ℕ) (out : List ℕ) → CardEvent
  cut : (unit message : ℕ) (out : List ℕ) (lost : CardRow) → CardEvent
  off : (unit row : ℕ) (lost : CardRow) → CardEvent
  on : (unit row : ℕ) → CardEvent
  -- a call with any card and buffers, which is an event where it is refused
  call : Call → CardEvent

-- ---- start, proposal, delivery, cut delivery, key-off, key-on

-- where a row stands
abbrev pub is_new : Stage → Bool
is_new new = true
is_new up = false
is_new down = false

abbrev pub is_up : Stage → Bool
is_up new = false
is_up up = true
is_up down = false

abbrev pub is_down : Stage → Bool
is_down new = false
is_down up = false
is_down down = true

-- one more, if any
abbrev pub added : {A : Type 0} → List A → Option A → List A
added xs none = xs
added xs (some a) = xs ++ (a ∷ [])

-- what there is, if any, with its entry
abbrev pub of_entry : {A : Type 0} → ℕ → Option A → Option (OfEntry A)
of_entry k none = none
of_entry k (some a) = some (record { entry = k; what = a })

-- what comes of an accepted event of a row: the card, where the row stands, and what is sent, proposed and decided
pub record RowOutcome : Type 0 where
  pub rows : List CardRow
  pub stage : Stage
  pub sent : Option (List ℕ)
  pub proposed : Option Proposal
  pub decided : Option Decision

-- nothing is sent, proposed or decided
abbrev pub silent : List CardRow → Stage → RowOutcome
silent rows s = record { rows = rows; stage = s; sent = none; proposed = none; decided = none }

-- row k keeps its log and nothing else, and is down
abbrev pub turned_off : List CardRow → ℕ → CardRow → RowOutcome
turned_off rows k lost =
    silent (set rows (k - 1) (record { log = (row_at rows k).log; image = lost.image; checks = lost.checks; seconds = lost.seconds })) down

-- an accepted proposal is recorded; the message that the call stores, unless empty, is kept next. It decides nothing
abbrev pub has_proposed : ℕ → ℕ → CardAnswer → RowOutcome
has_proposed u v a =
    record { rows = a.rows; stage = up; sent = unless_empty a.out; proposed = some (record { unit = u; mileage = v }); decided = none }

-- an accepted delivery's message, unless empty, is kept next, and its decision, if any, is reported as one of round r
abbrev pub has_received : ℕ → ℕ → CardAnswer → RowOutcome
has_received u r a =
    record { rows = a.rows; stage = up; sent = unless_empty a.out; proposed = none; decided = decision u r (estimate_of a.decision) }

-- row k of unit u has this outcome; a proposal and a decision are recorded with their entry, which is k
unfoldable pub next : CardWorld → ℕ → ℕ → RowOutcome → CardWorld
next w u k o =
    record {
      units = put w.units u (record { rows = o.rows; stage = put (w.units u).stage k o.stage });
      sent = added w.sent o.sent;
      proposed = added w.proposed (of_entry k o.proposed);
      decided = added w.decided (of_entry k o.decided);
    }

-- unit u has these rows, and nothing else changes
unfoldable pub leave : CardWorld → ℕ → List CardRow → CardWorld
leave w u rows =
    record {
      units = put w.units u (record { rows = rows; stage = (w.units u).stage });
      sent = w.sent;
      proposed = w.proposed;
      decided = w.decided;
    }

-- an accepted call on row k has its outcome; the rows that a refused one leaves are the unit's from then on, each standing as it did
unfoldable pub after : CardWorld → ℕ → ℕ → CardAnswer → RowOutcome → CardWorld
after w u k a o = cond (eqb a.number 0) (next w u k o) (leave w u a.rows)

-- ---- any other call

-- the rows of a lent card
abbrev pub lent_rows : CardWorld → Lent → List CardRow
lent_rows w (lent_card u) = (w.units u).rows
lent_rows w (other rows) = rows

-- what is left in a unit's card is there from then on
abbrev pub leave_lent : CardWorld → Lent → List CardRow → CardWorld
leave_lent w (lent_card u) rows = leave w u rows
leave_lent w (other old) rows = w

-- the card that a call is given
abbrev pub card_of : Call → Lent
card_of (starts b card k) = card
card_of (keys_on b card k) = card
card_of (proposes b card k v out) = card
card_of (delivers b card m out) = card

unfoldable pub run_call : Limits → CardWorld → Call → CardAnswer
run_call l w (starts b card k) = card_start_call l b (lent_rows w card) k
run_call l w (keys_on b card k) = card_key_on_call l b (lent_rows w card) k
run_call l w (proposes b card k v out) = card_propose_call l b (lent_rows w card) k v out
run_call l w (delivers b card m out) = card_deliver_call l b (lent_rows w card) m out

-- ---- histories

-- what stands beside the card of unit u
abbrev pub beside_unit : Engine → ℕ → ℕ → Beside
beside_unit g n u = beside (letter_of g) n u

-- engine and n are the same for all units; an event changes nothing where its row does not stand as it must: a start is of a row that is not
-- started, a key-on of a down one, every other of an up one
module _ (l : Limits) (g : Engine) (n : ℕ) where
  -- a delivery and a cut of it are the same call, to the row of the message's entry, and f is what the event makes of the message and the
  -- answer; with a message number not yet sent everything stays as it was
  unfoldable pub delivering : CardWorld → ℕ → List ℕ → (Message → CardAnswer → RowOutcome) → Option (List ℕ) → CardWorld
  delivering w u out f none = w
  delivering w u out f (some bs) =
      let m = (read_message l bs).contents in
      let a = card_deliver_call l (beside_unit g n u) (w.units u).rows bs out in
      cond (is_up ((w.units u).stage m.entry)) (after w u m.entry a (f m a)) w

  unfoldable pub step : CardWorld → CardEvent → CardWorld
  step w (start u k) =
      let a = card_start_call l (beside_unit g n u) (w.units u).rows k in
      cond (is_new ((w.units u).stage k)) (after w u k a (silent a.rows up)) w
  step w (proposal u k v out) =
      let a = card_propose_call l (beside_unit g n u) (w.units u).rows k v out in
      cond (is_up ((w.units u).stage k)) (after w u k a (has_proposed u v a)) w
  step w (delivery u i out) = delivering w u out (λ m a. has_received u m.round a) (get_elem? w.sent i)
  -- the log that the call gives is the row's from then on; image, message and decision are lost and the row is down
  step w (cut u i out lost) = delivering w u out (λ m a. turned_off a.rows m.entry lost) (get_elem? w.sent i)
  step w (off u k lost) = cond (is_up ((w.units u).stage k)) (next w u k (turned_off (w.units u).rows k lost)) w
  step w (on u k) =
      let a = card_key_on_call l (beside_unit g n u) (w.units u).rows k in
      cond (is_down ((w.units u).stage k)) (after w u k a (silent a.rows up)) w
  step w (call c) = leave_lent w (card_of c) (run_call l w c).rows

  -- a call with any card and buffers is an event exactly where it is refused
  abbrev pub LawfulEvent : CardWorld → CardEvent → Type 0
  LawfulEvent w (start u k) = Unit
  LawfulEvent w (proposal u k v out) = Unit
  LawfulEvent w (delivery u i out) = Unit
  LawfulEvent w (cut u i out lost) = Unit
  LawfulEvent w (off u k lost) = Unit
  LawfulEvent w (on u k) = Unit
  LawfulEvent w (call c) = (run_call l w c).number ≡ 0 → ⊥

  abbrev pub Lawful : CardWorld → List CardEvent → Type 0
  Lawful w [] = Unit
  Lawful w (e ∷ es) = LawfulEvent w e × Lawful (step w e) es
