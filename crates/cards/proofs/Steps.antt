-- What the code of a card cites: which row, what is read of it, and its step. Assumes nothing.
use Rattle.std.specs.Prelude.{Option, Some, None, Result, Ok, Err}
use Rattle.std.specs.Result.{result_ok}
use Prim.Native.Nat.{ℕ, ◌≤◌, ◌<◌, ◌+◌, ◌-◌}
use Rattle.std.proofs.lemmas.Bool.{and_parts}
use mathlib.Core.Path.{◌≡◌, refl, sym, ap, ◌∙◌}
use mathlib.Core.Bool.{Bool, true, false, not, cond, ◌&&◌, ◌||◌}
use mathlib.Core.List.{List, [], ◌∷◌}
use native.Mathlib.Omega.{arith}
use lib.Dec.{eqb, leb}
use Rattle.std.proofs.lemmas.List.{get_or-map}
use lib.ListN.{length, get_or, set}
use borrow.Author.Tests.{eqb-true, leb-true, not-false}
use Rattle.tally.specs.Limits.{Limits, today}
use Rattle.tally.specs.Refusal.{number_of}
use Rattle.tally.specs.Tally.{blank_cell, estimate_at}
use Rattle.tally.specs.declared.Cell.{Cell}
use Rattle.tally.specs.declared.Refusal.{Refusal}
use Rattle.tally.proofs.Never.{never}
use Rattle.tally.proofs.Refusals.{refusal_number}
use Rattle.contents.specs.Images.{image_ok, fits}
use Rattle.contents.specs.Logs.{log_ok}
use Rattle.contents.specs.declared.Log.{Log}
use Rattle.contents.specs.declared.Settings.{Settings}
use Rattle.contents.specs.declared.State.{State}
use Rattle.formats.specs.Codes.{engine_of, with_engine, estimate_of}
use Rattle.formats.specs.Formats.{reading, checked, from_numbers}
use Rattle.formats.specs.Images.{cell_of, tally_of, image_format}
use Rattle.formats.specs.InnerImages.{fit_state}
use Rattle.formats.specs.Logs.{log_format, log_of, no_log}
use Rattle.formats.proofs.Places.{fit_checked, fit_none, fit_some}
use Rattle.consensus.specs.Conditions.{Condition, condition, first_refusal}
use Rattle.consensus.specs.Methods.{unless, refuses, propose, deliver}
use Rattle.consensus.specs.Step.{quiet, fresh, recovered}
use Rattle.consensus.specs.Units.{unit_log, up_unit, at_log, down_unit}
use Rattle.consensus.specs.declared.Answer.{Answer}
use Rattle.consensus.specs.declared.Unit as U
use Rattle.consensus.proofs.Answers.{plain_proposed, plain_received}
use Rattle.cards.specs.Calls.{names_no_row, bad_beside, settings_of_row, bad_row_log, other_row, bad_row_image}
use Rattle.cards.specs.InnerSteps.{log_read_of, beside_of, own_log, unmarked_row, row_fits, unit_conditions, unit_answer, takes, step_conditions}
use Rattle.cards.specs.InnerSteps.{step_answer, tells, told, row_answer, row_answered, unless_row, act_of, with_log}
use Rattle.cards.specs.InnerSteps.{front, card_told, card_rows, step_of}
use Rattle.cards.specs.Rows.{numbers_of, marks_fit, row_tally, image_with, row_log, row_image, row_unit, row_of, no_row}
use Rattle.cards.specs.declared.Act.{Act}
use Rattle.cards.specs.declared.CardCall.{CardCall}
use Rattle.cards.specs.declared.CardRow.{CardRow}
use Rattle.cards.specs.declared.RowAnswer.{RowAnswer}
use Rattle.cards.specs.declared.UnitStep.{UnitStep}
use Rattle.cards.specs.declared.UnitStep.TheVariants.{Propose, Deliver}
use Rattle.cards.proofs.Rows.{image_forth}
use Rattle.tally.specs.declared.Engine.{Engine}

-- the estimate of a sender, in a row
pub row_estimate : (marks : ℕ) (es : List ℕ) (k : ℕ) → k < length es → estimate_at (tally_of (marks ∷ es)) k ≡ estimate_of (get_or es k 0)
row_estimate marks es k h = ap (λ (c : Cell). c.estimate) (get_or-map cell_of es k 0 blank_cell h)

-- ---- which row

pub named : (count k : ℕ) → names_no_row count k ≡ false → (1 ≤ k) × (k ≤ count)
unfolding names_no_row
named count k e = let t = and_parts (leb 1 k) (leb k count) (not-false _ e) in (leb-true _ _ t.0, leb-true _ _ t.1)

-- a call without a row tells why, and leaves the rows
pub told_none : (x : Result CardCall Refusal) (rows : List CardRow) (why : Refusal) → front x (length rows) ≡ Some why
    → (tells (Some why) ≡ card_told today x rows) × (rows ≡ card_rows today x rows)
unfolding card_told card_rows
told_none (Ok c) rows why e = rw (e, refusal_number why) (refl, refl)
told_none (Err k) rows why e = rw e (refl, refl)

-- one with a row tells what its step says, and stores it there
pub told_row : (c : CardCall) (rows : List CardRow) (k : ℕ) → front (Ok c) (length rows) ≡ None → k + 1 ≡ c.row
    → (card_told today (Ok c) rows ≡ (step_of today c (get_or rows k no_row)).told)
    × (card_rows today (Ok c) rows ≡ set rows k (step_of today c (get_or rows k no_row)).row)
unfolding card_told card_rows
told_row c rows k none at = let place : c.row - 1 ≡ k = omega arith in rw (none, place) (refl, refl)

-- ---- a row's image, tested: its first numbers are read as a log

module _ (r : CardRow) (g : Log) where
  abbrev tests : Option Engine → Bool → Option State
  tests o b = fit_state (checked (image_format today) (cond b (with_engine (image_with r) o (numbers_of r.image)) None)) g

  abbrev front_read : Option Engine → Result Log Refusal
  front_read o = log_read_of (checked (log_format today) (with_engine log_of o (numbers_of r.image)))

  -- an image whose first numbers are no log
  image_unread : (o : Option Engine) (k : Refusal) (b : Bool) → front_read o ≡ Err k → tests o b ≡ None
  unfolding fit_state image_ok
  image_unread o k false e = refl
  image_unread None k true e = refl
  image_unread (Some x) k true e = by (log_ok today (log_of x (numbers_of r.image))) refl e
    where
      by : (t : Bool) → log_ok today (log_of x (numbers_of r.image)) ≡ t
          → log_read_of (cond t (reading 0 (log_of x (numbers_of r.image))) (reading (number_of (Some Refusal.Log)) no_log)) ≡ Err k
          → tests (Some x) true ≡ None
      by true ok e = never cc
      by false ok e = rw ok

  -- else the rest is tested
  image_tested : (o : Option Engine) (front : Log) → front_read o ≡ Ok front
      → tests o (marks_fit r.checks && marks_fit r.seconds) ≡ cond (row_fits today r front g) (Some front.state) None
  unfolding fit_state image_ok
  image_tested None front e = never cc
  image_tested (Some x) front e = by (log_ok today (log_of x (numbers_of r.image))) refl e
    where
      marks : (b d : Bool) → marks_fit r.checks ≡ b → marks_fit r.seconds ≡ d → log_ok today (log_of x (numbers_of r.image)) ≡ true
          → tests (Some x) (b && d) ≡ cond (row_fits today r (log_of x (numbers_of r.image)) g) (Some (log_of x (numbers_of r.image)).state)
          None
      marks false d f h ok = rw f
      marks true false f h ok = rw (f, h)
      marks true true f h ok = rw (f, h) (fit_checked (image_with r x (numbers_of r.image)) g ∙ rw ok)

      by : (t : Bool) → log_ok today (log_of x (numbers_of r.image)) ≡ t
          → log_read_of (cond t (reading 0 (log_of x (numbers_of r.image))) (reading (number_of (Some Refusal.Log)) no_log)) ≡ Ok front
          → tests (Some x) (marks_fit r.checks && marks_fit r.seconds)
          ≡ cond (row_fits today r front g) (Some front.state) None
      by false ok e = never cc
      by true ok e =
          let same : log_of x (numbers_of r.image) ≡ front = cc in
          rw (← same) (marks (marks_fit r.checks) (marks_fit r.seconds) refl refl ok)

  -- so its state is that of its first numbers, where these are a log and all of it fits
  abbrev pub state_by : Option Log → Option State
  state_by (Some front) = cond (row_fits today r front g) (Some front.state) None
  state_by None = None

  pub row_state : fit_state (row_image today r) g ≡ state_by (result_ok (log_read_of (from_numbers (log_format today) (numbers_of r.image))))
  unfolding row_image
  row_state = go (front_read o) refl
    where
      o : Option Engine
      o = engine_of r.image.engine

      go : (x : Result Log Refusal) → front_read o ≡ x → tests o (marks_fit r.checks && marks_fit r.seconds) ≡ state_by (result_ok x)
      go (Ok front) e = image_tested o front e
      go (Err k) e = image_unread o k (marks_fit r.checks && marks_fit r.seconds) e

  -- ---- the unit of a row that fits

  abbrev fit : Bool
  fit = eqb (row_image today r).number 0 && fits (row_image today r).contents g

  pub row_unfit : fit_state (row_image today r) g ≡ None → fit ≡ false
  row_unfit e = fit_none (row_image today r) g e

  -- its state, and its tallies as the row has them
  pub record FitRow (s : State) : Type 0 where
    pub fits_log : fit ≡ true
    pub checks_fit : marks_fit r.checks ≡ true
    pub seconds_fit : marks_fit r.seconds ≡ true
    pub unit : up_unit g (record { settings = g.settings; state = s; checks = row_tally r.checks; seconds = row_tally r.seconds })
        ≡ up_unit g (row_image today r).contents

  pub row_fit : (s : State) → fit_state (row_image today r) g ≡ Some s → FitRow s
  row_fit s e =
      let there = fit_some (row_image today r) g s e in
      let read = image_forth today r (eqb-true _ _ (and_parts (eqb (row_image today r).number 0) _ there.0).0) in
      record {
        fits_log = there.0;
        checks_fit = read.checks_fit;
        seconds_fit = read.seconds_fit;
        unit = rw (← there.1, ← read.checks, ← read.seconds);
      }

-- ---- a row's step is its unit's

-- the unit's conditions, after others that do not hold, refuse as the unit does
answered_unless : (cs : List Condition) (r : CardRow) (u : U.Unit) (a : Answer) → a.refusal ≡ None
    → row_answered r (unless cs u a) ≡ unless_row cs r a
unfolding unless unless_row
answered_unless cs r u a plain = go (eqb (number_of (first_refusal cs)) 0) refl
  where
    go : (t : Bool) → eqb (number_of (first_refusal cs)) 0 ≡ t
        → row_answered r (cond t a (refuses u (first_refusal cs))) ≡ cond t (row_answer (row_of a.unit) (told a)) (row_answer r (tells (first_refusal cs)))
    go true e = rw plain
    go false e = rw e

takes_unless : (l : Limits) (s : UnitStep) (u : U.Unit) → takes l s u ≡ unless (unit_conditions l s u) u (unit_answer s u)
unfolding takes unit_conditions unit_answer propose deliver
takes_unless l (Propose v) u = refl
takes_unless l (Deliver m) u = refl

pub unit_plain : (s : UnitStep) (u : U.Unit) → (unit_answer s u).refusal ≡ None
unfolding unit_answer
unit_plain (Propose v) u = (plain_proposed u v).none
unit_plain (Deliver m) u = (plain_received u m).none

module _ (l : Limits) (c : CardCall) (r : CardRow) where
  -- what a unit's step of the row, and its key-on, answer by what the row's log is read as
  abbrev pub step_by_log : UnitStep → Result Log Refusal → RowAnswer
  step_by_log s (Ok g) = with_log l s g r
  step_by_log s (Err k) = row_answer r (tells (Some k))

  abbrev pub key_on_by_log : Result Log Refusal → RowAnswer
  key_on_by_log (Ok g) = row_answer (unmarked_row g) (tells None)
  key_on_by_log (Err k) = row_answer r (tells (Some k))

  pub unit_step : (s : UnitStep) → act_of l (Act.Step s) c r ≡ step_by_log s (own_log l c r)
  unfolding step_conditions step_answer unless_row first_refusal bad_row_image
  unit_step s = go (bad_beside (beside_of c) c.row || bad_row_log l r) (other_row l (settings_of_row (beside_of c) c.row) r) test refl
    where
      test : Bool
      test = eqb (row_image l r).number 0 && fits (row_image l r).contents (row_log l r).contents

      cs : List Condition
      cs = unit_conditions l s (row_unit l r)

      go : (b₁ b₂ b₃ : Bool) → test ≡ b₃
          → unless_row (condition Refusal.Log b₁ ∷ condition Refusal.Image (b₂ || not test) ∷ cs) r (unit_answer s (row_unit l r))
          ≡ step_by_log s
          (cond b₁ (Err Refusal.Log) (cond b₂ (Err Refusal.Image) (Ok (row_log l r).contents)))
      go true b₂ b₃ h = refl
      go false true b₃ h = refl
      go false false false h = rw h
      go false false true h =
          rw h
          (sym (ap (row_answered r) (takes_unless l s (row_unit l r)) ∙ answered_unless cs r (row_unit l r) (unit_answer s (row_unit l r)) (unit_plain s _)))

  pub key_on_step : act_of l Act.KeyOn c r ≡ key_on_by_log (own_log l c r)
  unfolding step_conditions step_answer unless_row first_refusal recovered down_unit at_log
  key_on_step = go (bad_beside (beside_of c) c.row || bad_row_log l r) (other_row l (settings_of_row (beside_of c) c.row) r)
    where
      go : (b₁ b₂ : Bool)
          → unless_row (condition Refusal.Log b₁ ∷ condition Refusal.Image b₂ ∷ []) r (quiet (recovered (down_unit (row_log l r).contents)))
          ≡ key_on_by_log (cond b₁ (Err Refusal.Log) (cond b₂ (Err Refusal.Image) (Ok (row_log l r).contents)))
      go true b₂ = refl
      go false true = refl
      go false false = refl

-- a fresh unit's row
pub fresh_row : (s : Settings) → row_of (fresh s) ≡ unmarked_row (unit_log (fresh s))
unfolding fresh at_log
fresh_row s = refl
