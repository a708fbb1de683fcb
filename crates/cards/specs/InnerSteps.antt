-- What inner functions of card_rows and card_calls promise, of which no public call's contract speaks: a call as a value, which row it is of,
-- and the step of that row. Assumes nothing.
use Rattle.std.specs.Prelude.{ℕ, ◌-◌, Bool, true, false, not, cond, ◌&&◌, ◌||◌, List, [], ◌∷◌, eqb, length, set, Option, Some}
use Rattle.std.specs.Prelude.{None, Result, Ok, Err}
use Rattle.tally.specs.Limits.{Limits, message_size}
use Rattle.tally.specs.Refusal.{number_of}
use Rattle.tally.specs.Tally.{no_marks}
use Rattle.tally.specs.declared.Estimate.TheVariants.{Blank}
use Rattle.tally.specs.declared.Refusal.{Refusal}
use Rattle.tally.specs.declared.Tally.{Tally}
use Rattle.contents.specs.Estimates.{is_b}
use Rattle.contents.specs.Images.{image_log, tally_ok, checks_allowed, fits}
use Rattle.contents.specs.Messages.{is_empty, empty_message}
use Rattle.contents.specs.declared.Log.{Log}
use Rattle.contents.specs.declared.Message.{Message}
use Rattle.formats.specs.Codes.{code_of}
use Rattle.formats.specs.Formats.{ReadAnswer}
use Rattle.formats.specs.Images.{with_tallies}
use Rattle.formats.specs.InnerFormats.{stored}
use Rattle.formats.specs.Messages.{message_format, read_message, cleared}
use Rattle.consensus.specs.Conditions.{Condition, condition, first_refusal}
use Rattle.consensus.specs.Methods.{propose_conditions, propose, deliver_conditions, deliver}
use Rattle.consensus.specs.Step.{quiet, fresh, recovered, proposed, received}
use Rattle.consensus.specs.Units.{unit_log, unit_image, up_unit, down_unit}
use Rattle.consensus.specs.declared.Answer.{Answer}
use Rattle.consensus.specs.declared.Unit as U
use Rattle.calls.specs.Calls.{wrong_length, bad_message}
use Rattle.cards.specs.Calls.{CardAnswer, card_called, Beside, beside, wrong_count, names_no_row, bad_beside, settings_of_row, bad_row_log, other_row}
use Rattle.cards.specs.Calls.{bad_row_image, row_at}
use Rattle.cards.specs.Rows.{marks_fit, row_tally, log_fields_of, tally_fields_of, row_log, row_image, row_unit, row_of}
use Rattle.cards.specs.declared.Act.{Act}
use Rattle.cards.specs.declared.Act.TheVariants.{Start, KeyOn, Step}
use Rattle.cards.specs.declared.CardCall.{CardCall}
use Rattle.cards.specs.declared.CardRow.{CardRow}
use Rattle.cards.specs.declared.RowAnswer.{RowAnswer}
use Rattle.cards.specs.declared.TallyFields.{TallyFields}
use Rattle.cards.specs.declared.Told.{Told}
use Rattle.cards.specs.declared.UnitStep.{UnitStep}
use Rattle.cards.specs.declared.UnitStep.TheVariants.{Propose, Deliver}
use Rattle.contents.specs.declared.Settings.{Settings}

-- ---- what is read

-- the code's answer
abbrev pub log_read_of : ReadAnswer Log → Result Log Refusal
log_read_of x = cond (eqb x.number 0) (Ok x.contents) (Err Refusal.Log)

abbrev pub beside_of : CardCall → Beside
beside_of c = beside c.engine c.n c.unit

-- the settings beside the card, with the row's number as the entry, where they are in range
abbrev pub settings_read : CardCall → Option Settings
settings_read c = cond (bad_beside (beside_of c) c.row) None (Some (settings_of_row (beside_of c) c.row))

-- the row's log, of these settings
abbrev pub own_log : Limits → CardCall → CardRow → Result Log Refusal
own_log l c r =
    cond (bad_beside (beside_of c) c.row || bad_row_log l r) (Err Refusal.Log)
    (cond (other_row l (settings_of_row (beside_of c) c.row) r) (Err Refusal.Image) (Ok (row_log l r).contents))

-- a row at its log's contents, without marks
abbrev pub unmarked_row : Log → CardRow
unmarked_row g = record { log = log_fields_of g; image = log_fields_of g; checks = tally_fields_of no_marks; seconds = tally_fields_of no_marks }

-- does the image that a row's numbers make, of which the first are `front`, fit the log? `front` is well formed
abbrev pub row_fits : Limits → CardRow → Log → Log → Bool
row_fits l r front g =
    let i = with_tallies front (row_tally r.checks) (row_tally r.seconds) in
    marks_fit r.checks
    && marks_fit r.seconds
    && tally_ok l false front.settings.engine front.settings.n i.checks
    && tally_ok l (is_b front.settings.engine) front.settings.engine front.settings.n i.seconds
    && checks_allowed front.settings.engine front.state.second i.checks.marks
    && fits i g

-- what is stored of a tally: nothing where the round is the same and the row has its marks already, and no estimates where it has no marks
abbrev pub tally_fields_over : Bool → Tally → TallyFields → TallyFields
tally_fields_over same t f = cond (same && eqb t.marks f.marks) f (cond (eqb t.marks 0) (tally_fields_of no_marks) (tally_fields_of t))

-- a unit's row, stored over an older one
abbrev pub row_over : U.Unit → CardRow → CardRow
row_over u r =
    let same = eqb u.current.round r.image.round in
    record {
      log = log_fields_of (unit_log u);
      image = log_fields_of (image_log (unit_image u));
      checks = tally_fields_over same u.checks r.checks;
      seconds = tally_fields_over same u.seconds r.seconds;
    }

-- ---- the step of a row

-- what the unit refuses, what it answers else, and both as its method
unfoldable pub unit_conditions : Limits → UnitStep → U.Unit → List Condition
unit_conditions l (Propose v) u = propose_conditions l u v
unit_conditions l (Deliver m) u = deliver_conditions l u m

unfoldable pub unit_answer : UnitStep → U.Unit → Answer
unit_answer (Propose v) u = proposed u v
unit_answer (Deliver m) u = received u m

unfoldable pub takes : Limits → UnitStep → U.Unit → Answer
takes l (Propose v) u = propose l u v
takes l (Deliver m) u = deliver l u m

-- what refuses, once the row is known: 2, 3, and then the unit's own conditions
unfoldable pub step_conditions : Limits → Act → CardCall → CardRow → List Condition
step_conditions l Start c r = condition Refusal.Log (bad_beside (beside_of c) c.row) ∷ []
step_conditions l KeyOn c r =
    condition Refusal.Log (bad_beside (beside_of c) c.row || bad_row_log l r)
    ∷ condition Refusal.Image (other_row l (settings_of_row (beside_of c) c.row) r)
    ∷ []
step_conditions l (Step s) c r =
    condition Refusal.Log (bad_beside (beside_of c) c.row || bad_row_log l r)
    ∷ condition Refusal.Image (other_row l (settings_of_row (beside_of c) c.row) r || bad_row_image l r)
    ∷ unit_conditions l s (row_unit l r)

-- and else the unit's own step
unfoldable pub step_answer : Limits → Act → CardCall → CardRow → Answer
step_answer l Start c r = quiet (fresh (settings_of_row (beside_of c) c.row))
step_answer l KeyOn c r = quiet (recovered (down_unit (row_log l r).contents))
step_answer l (Step s) c r = unit_answer s (row_unit l r)

-- a refusal: an empty message and no decision
abbrev pub tells : Option Refusal → Told
tells k = record { refusal = k; message = empty_message; decision = Blank }

abbrev pub told : Answer → Told
told a = record { refusal = a.refusal; message = a.message; decision = a.decision }

abbrev pub row_answer : CardRow → Told → RowAnswer
row_answer r t = record { row = r; told = t }

-- an accepted answer changes the row, a refusal does not
abbrev pub row_answered : CardRow → Answer → RowAnswer
row_answered r a = cond (eqb (number_of a.refusal) 0) (row_answer (row_of a.unit) (told a)) (row_answer r (tells a.refusal))

-- an accepted answer, stored over the row
abbrev pub row_stored : CardRow → Answer → RowAnswer
row_stored r a = cond (eqb (number_of a.refusal) 0) (row_answer (row_over a.unit r) (told a)) (row_answer r (tells a.refusal))

-- the first condition that holds refuses; where none does, the answer
unfoldable pub unless_row : List Condition → CardRow → Answer → RowAnswer
unless_row conditions r a =
    cond (eqb (number_of (first_refusal conditions)) 0) (row_answer (row_of a.unit) (told a)) (row_answer r (tells (first_refusal conditions)))

abbrev pub act_of : Limits → Act → CardCall → CardRow → RowAnswer
act_of l act c r = unless_row (step_conditions l act c r) r (step_answer l act c r)

-- a step of a row whose log is read: 3, and else the unit's method
abbrev pub with_log : Limits → UnitStep → Log → CardRow → RowAnswer
with_log l s g r =
    cond (eqb (row_image l r).number 0 && fits (row_image l r).contents g) (row_answered r (takes l s (up_unit g (row_image l r).contents)))
    (row_answer r (tells (Some Refusal.Image)))

unfoldable pub step_of : Limits → CardCall → CardRow → RowAnswer
step_of l c r = act_of l c.act c r

-- ---- which row, of a call or of one whose buffers are refused, with 1 or 4

-- what refuses before any row is read: 1, 4, 12
unfoldable pub front_conditions : Result CardCall Refusal → ℕ → List Condition
front_conditions (Ok c) count = condition Refusal.Length (wrong_count count) ∷ condition Refusal.Row (names_no_row count c.row) ∷ []
front_conditions (Err k) count = condition Refusal.Length (wrong_count count) ∷ condition k true ∷ []

unfoldable pub front : Result CardCall Refusal → ℕ → Option Refusal
front x count = first_refusal (front_conditions x count)

-- what the caller is told, and the rows afterwards
unfoldable pub card_told : Limits → Result CardCall Refusal → List CardRow → Told
card_told l (Ok c) rows =
    cond (eqb (number_of (front (Ok c) (length rows))) 0) (step_of l c (row_at rows c.row)).told (tells (front (Ok c) (length rows)))
card_told l (Err k) rows = tells (front (Err k) (length rows))

unfoldable pub card_rows : Limits → Result CardCall Refusal → List CardRow → List CardRow
card_rows l (Ok c) rows = cond (eqb (number_of (front (Ok c) (length rows))) 0) (set rows (c.row - 1) (step_of l c (row_at rows c.row)).row) rows
card_rows l (Err k) rows = rows

-- ---- what the calls ask of a row, from numbers and buffers, and how they store what is told

abbrev pub card_call : ℕ → ℕ → ℕ → ℕ → Act → CardCall
card_call engine n unit k act = record { engine = engine; n = n; unit = unit; row = k; act = act }

unfoldable pub propose_asks : Limits → ℕ → ℕ → ℕ → ℕ → ℕ → ℕ → Result CardCall Refusal
propose_asks l engine n unit k v size =
    cond (not (eqb size (message_size l))) (Err Refusal.Length) (Ok (card_call engine n unit k (Step (Propose v))))

unfoldable pub deliver_asks : Limits → ℕ → ℕ → ℕ → List ℕ → ℕ → Result CardCall Refusal
deliver_asks l engine n unit message size =
    cond (wrong_length message (message_size l) || not (eqb size (message_size l))) (Err Refusal.Length)
    (cond (bad_message l message) (Err Refusal.Message)
    (Ok (card_call engine n unit (read_message l message).contents.entry (Step (Deliver (read_message l message).contents)))))

-- a message in an output buffer
unfoldable pub put_message : Limits → Message → List ℕ → List ℕ
put_message l m out = cond (is_empty m.kind) (cleared l out) (stored (message_format l) m out)

-- what a call tells, as number and bytes
abbrev pub told_card : Limits → List CardRow → List ℕ → Told → CardAnswer
told_card l rows out t = card_called (number_of t.refusal) rows (put_message l t.message out) (code_of t.decision)
