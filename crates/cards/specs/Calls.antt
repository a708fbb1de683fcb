-- The four calls on a card: the conditions that refuse, in a card's order, and else the step of one row. Assumes nothing.
use Rattle.std.specs.Prelude.{ℕ, ◌-◌, Bool, not, cond, ◌&&◌, ◌||◌, List, [], ◌∷◌, eqb, leb, length, get_or, set}
use Rattle.tally.specs.Limits.{Limits, min_rows, max_rows, blank_code, message_size}
use Rattle.tally.specs.Refusal.{number_of}
use Rattle.tally.specs.declared.Refusal.{Refusal}
use Rattle.contents.specs.Images.{same_settings, fits}
use Rattle.contents.specs.declared.Message.{Message}
use Rattle.contents.specs.declared.Settings.{Settings}
use Rattle.formats.specs.Codes.{engine_of, code_of}
use Rattle.formats.specs.Messages.{read_message, cleared}
use Rattle.consensus.specs.Conditions.{Condition, condition, first_refusal}
use Rattle.consensus.specs.Methods.{for_other, out_of_range, closes_last}
use Rattle.consensus.specs.Step.{fresh, recovered, proposed, received}
use Rattle.consensus.specs.Units.{down_unit}
use Rattle.consensus.specs.declared.Answer.{Answer}
use Rattle.calls.specs.Calls.{wrong_length, unread, bad_settings, settings_for, bad_message, message_bytes}
use Rattle.cards.specs.Rows.{row_log, row_image, row_unit, row_of, no_row}
use Rattle.cards.specs.declared.CardRow.{CardRow}

-- what a call on a card answers: its number, what the rows and the output buffer hold at exit, and the decision as it is stored
pub record CardAnswer : Type 0 where
  pub number : ℕ
  pub rows : List CardRow
  pub out : List ℕ
  pub decision : ℕ

abbrev pub card_called : ℕ → List CardRow → List ℕ → ℕ → CardAnswer
card_called k rows out d = record { number = k; rows = rows; out = out; decision = d }

-- the first condition that holds gives its number: every row of the card stays, an output buffer of a message's length is zeros,
-- one of another length keeps its bytes, and no decision is given; where no condition holds, the answer
abbrev pub unless_card : Limits → List Condition → List CardRow → List ℕ → CardAnswer → CardAnswer
unless_card l conditions rows out ok =
    cond (eqb (number_of (first_refusal conditions)) 0) ok (card_called (number_of (first_refusal conditions)) rows (cleared l out) blank_code)

-- ---- the table's conditions on a card

-- 1: a count of rows outside 1 to 64
unfoldable pub wrong_count : ℕ → Bool
wrong_count count = not (leb min_rows count && leb count max_rows)

-- 12: a number that names no row
unfoldable pub names_no_row : ℕ → ℕ → Bool
names_no_row count k = not (leb 1 k && leb k count)

-- row k, being entry k, from 1; a number that names no row is refused before a row is looked at
abbrev pub row_at : List CardRow → ℕ → CardRow
row_at rows k = get_or rows (k - 1) no_row

-- engine, n and unit as they are given beside the card
pub record Beside : Type 0 where
  pub engine : ℕ
  pub n : ℕ
  pub unit : ℕ

abbrev pub beside : ℕ → ℕ → ℕ → Beside
beside engine n unit = record { engine = engine; n = n; unit = unit }

-- 2: engine, n or unit out of range
abbrev pub bad_beside : Beside → ℕ → Bool
bad_beside b k = bad_settings (engine_of b.engine) b.n b.unit k

-- the settings that row k must have: those beside the card, and its own entry number
abbrev pub settings_of_row : Beside → ℕ → Settings
settings_of_row b k = settings_for (engine_of b.engine) b.n b.unit k

-- 2: the row's log malformed
unfoldable pub bad_row_log : Limits → CardRow → Bool
bad_row_log l r = unread (row_log l r)

-- 3: the row's log is of other settings or of another entry
unfoldable pub other_row : Limits → Settings → CardRow → Bool
other_row l s r = not (same_settings (row_log l r).contents.settings s)

-- 3: the row's image malformed or not fitting its log
unfoldable pub bad_row_image : Limits → CardRow → Bool
bad_row_image l r = not (eqb (row_image l r).number 0 && fits (row_image l r).contents (row_log l r).contents)

-- ---- the calls

-- an accepted answer is stored in row k alone
abbrev pub answered_card : Limits → List CardRow → ℕ → Answer → CardAnswer
answered_card l rows k a =
    card_called 0 (set rows (k - 1) (row_of a.unit)) (message_bytes l a.message.kind a.message) (code_of a.decision)

-- 1, 12 and 2: starting reads no row
unfoldable pub card_start_conditions : Beside → ℕ → List CardRow → List Condition
card_start_conditions b k rows =
    condition Refusal.Length (wrong_count (length rows))
    ∷ condition Refusal.Row (names_no_row (length rows) k)
    ∷ condition Refusal.Log (bad_beside b k)
    ∷ []

unfoldable pub card_start_call : Limits → Beside → List CardRow → ℕ → CardAnswer
card_start_call l b rows k =
    unless_card l (card_start_conditions b k rows) rows []
    (card_called 0 (set rows (k - 1) (row_of (fresh (settings_of_row b k)))) [] blank_code)

-- 1, 12, 2 and 3: key-on reads the row's log alone
unfoldable pub card_key_on_conditions : Limits → Beside → ℕ → List CardRow → List Condition
card_key_on_conditions l b k rows =
    let r = row_at rows k in
    condition Refusal.Length (wrong_count (length rows))
    ∷ condition Refusal.Row (names_no_row (length rows) k)
    ∷ condition Refusal.Log (bad_beside b k || bad_row_log l r)
    ∷ condition Refusal.Image (other_row l (settings_of_row b k) r)
    ∷ []

unfoldable pub card_key_on_call : Limits → Beside → List CardRow → ℕ → CardAnswer
card_key_on_call l b rows k =
    unless_card l (card_key_on_conditions l b k rows) rows []
    (card_called 0 (set rows (k - 1) (row_of (recovered (down_unit (row_log l (row_at rows k)).contents)))) [] blank_code)

-- 1, 12, 2, 3 and 6
unfoldable pub card_propose_conditions : Limits → Beside → ℕ → List CardRow → ℕ → List ℕ → List Condition
card_propose_conditions l b k rows mileage out =
    let r = row_at rows k in
    condition Refusal.Length (wrong_count (length rows) || wrong_length out (message_size l))
    ∷ condition Refusal.Row (names_no_row (length rows) k)
    ∷ condition Refusal.Log (bad_beside b k || bad_row_log l r)
    ∷ condition Refusal.Image (other_row l (settings_of_row b k) r || bad_row_image l r)
    ∷ condition Refusal.Mileage (out_of_range l mileage)
    ∷ []

unfoldable pub card_propose_call : Limits → Beside → List CardRow → ℕ → ℕ → List ℕ → CardAnswer
card_propose_call l b rows k mileage out =
    unless_card l (card_propose_conditions l b k rows mileage out) rows out
    (answered_card l rows k (proposed (row_unit l (row_at rows k)) mileage))

-- 1, 4, 12, 2, 3, 5 and 7; a message goes to the row of its entry
unfoldable pub card_deliver_conditions : Limits → Beside → Message → List CardRow → List ℕ → List ℕ → List Condition
card_deliver_conditions l b m rows message out =
    let r = row_at rows m.entry in
    condition Refusal.Length (wrong_count (length rows) || (wrong_length message (message_size l) || wrong_length out (message_size l)))
    ∷ condition Refusal.Message (bad_message l message)
    ∷ condition Refusal.Row (names_no_row (length rows) m.entry)
    ∷ condition Refusal.Log (bad_beside b m.entry || bad_row_log l r)
    ∷ condition Refusal.Image (other_row l (settings_of_row b m.entry) r || bad_row_image l r)
    ∷ condition Refusal.Addressee (for_other (row_unit l r).settings m)
    ∷ condition Refusal.LastRound (closes_last l (row_unit l r) m)
    ∷ []

unfoldable pub card_deliver_call : Limits → Beside → List CardRow → List ℕ → List ℕ → CardAnswer
card_deliver_call l b rows message out =
    let m = (read_message l message).contents in
    unless_card l (card_deliver_conditions l b m rows message out) rows out
    (answered_card l rows m.entry (received (row_unit l (row_at rows m.entry)) m))
