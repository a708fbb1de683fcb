-- What a step stores of its unit over the row is the unit's row. Assumes nothing.
use Rattle.std.specs.Prelude.{Option, Some, None, Result, Ok, Err}
use Rattle.std.proofs.lemmas.Bool.{and_parts}
use Prim.Native.Nat.{ℕ}
use mathlib.Core.Path.{◌≡◌, refl, sym, ap, ap₂, ◌∙◌}
use mathlib.Core.Bool.{Bool, true, false, cond, ◌&&◌, ◌||◌}
use native.Mathlib.Omega.{arith}
use lib.Dec.{eqb}
use lib.ListN.{length}
use borrow.Author.Tests.{eqb-true, ltb-true, not-false}
use Rattle.tally.specs.Limits.{today, senders}
use Rattle.tally.specs.Tally.{held, no_marks}
use Rattle.tally.specs.declared.Refusal.{Refusal}
use Rattle.tally.specs.declared.Tally.{Tally}
use Rattle.tally.proofs.Never.{never}
use Rattle.tally.proofs.Tallies.{held_unmarked}
use Rattle.contents.specs.Images.{image_ok, fits}
use Rattle.contents.specs.Logs.{log_ok}
use Rattle.contents.specs.declared.Image.{Image}
use Rattle.contents.specs.declared.Log.{Log}
use Rattle.formats.specs.Formats.{Format, checked}
use Rattle.formats.specs.Images.{image_format}
use Rattle.formats.specs.InnerImages.{held_from, as_marked}
use Rattle.formats.specs.Logs.{log_format}
use Rattle.formats.proofs.Marked.{same_marked}
use Rattle.consensus.specs.Methods.{propose, propose_conditions, deliver}
use Rattle.consensus.specs.Step.{proposed, send_first}
use Rattle.consensus.specs.Units.{WellFormed, up_unit}
use Rattle.consensus.specs.declared.Unit as U
use Rattle.consensus.proofs.Branches.{by_unless}
use Rattle.consensus.proofs.Soundness.{sound_propose, sound_deliver}
use Rattle.consensus.proofs.Stays.{TalliesStay, tallies_same}
use Rattle.calls.specs.Calls.{unread}
use Rattle.calls.proofs.Held.{fit_well_formed}
use Rattle.calls.proofs.Stored.{all_checks, all_seconds, deliver_stays}
use Rattle.cards.specs.Calls.{bad_beside, settings_of_row, bad_row_log, other_row}
use Rattle.cards.specs.InnerSteps.{beside_of, own_log, takes, tally_fields_over, row_over, row_stored, with_log}
use Rattle.cards.specs.Rows.{row_tally, tally_fields_of, row_log, row_image, row_of}
use Rattle.cards.specs.declared.CardCall.{CardCall}
use Rattle.cards.specs.declared.CardRow.{CardRow}
use Rattle.cards.specs.declared.LogFields.{LogFields}
use Rattle.cards.specs.declared.TallyFields.{TallyFields}
use Rattle.cards.specs.declared.UnitStep.{UnitStep}
use Rattle.cards.specs.declared.UnitStep.TheVariants.{Propose, Deliver}
use Rattle.cards.proofs.Rows.{OfRow, image_forth, tally_fields_back}

-- ---- what is read is well formed

checked_ok : {A : Type 0} (f : Format A) → (f.malformed ≡ 0 → ⊥) → (o : Option A) → (checked f o).number ≡ 0
    → f.ok (checked f o).contents ≡ true
checked_ok f refused None z = absurd (refused z)
checked_ok f refused (Some a) z = by (f.ok a) refl z
  where
    by : (b : Bool) → f.ok a ≡ b → (checked f (Some a)).number ≡ 0 → f.ok (checked f (Some a)).contents ≡ true
    by true ok z = rw ok ok
    by false ok z = absurd (refused (rw ok at z))

row_log_ok : (r : CardRow) → (row_log today r).number ≡ 0 → log_ok today (row_log today r).contents ≡ true
unfolding row_log
row_log_ok r z = checked_ok (log_format today) (λ e. omega (arith, e)) _ z

row_image_ok : (r : CardRow) → (row_image today r).number ≡ 0 → image_ok today (row_image today r).contents ≡ true
unfolding row_image
row_image_ok r z = checked_ok (image_format today) (λ e. omega (arith, e)) _ z

-- a log that a call reads
pub own_log_ok : (c : CardCall) (r : CardRow) (g : Log) → own_log today c r ≡ Ok g → log_ok today g ≡ true
unfolding bad_row_log
own_log_ok c r g e =
    go (bad_beside (beside_of c) c.row) (unread (row_log today r)) (other_row today (settings_of_row (beside_of c) c.row) r) refl e
  where
    go : (b₁ b₂ b₃ : Bool) → unread (row_log today r) ≡ b₂
        → ◌≡◌ {A = Result Log Refusal} (cond (b₁ || b₂) (Err Refusal.Log) (cond b₃ (Err Refusal.Image) (Ok (row_log today r).contents))) (Ok g)
        → log_ok today g ≡ true
    go true b₂ b₃ h e = never cc
    go false true b₃ h e = never cc
    go false false true h e = never cc
    go false false false h e =
        let same : (row_log today r).contents ≡ g = cc in
        rw (← same) (row_log_ok r (eqb-true _ _ (not-false _ h)))

-- ---- a step, stored

as_marked_none : as_marked no_marks ≡ no_marks
unfolding held_from no_marks held
as_marked_none = refl

propose_stays : (u : U.Unit) (v : ℕ) → TalliesStay u (propose today u v).unit
unfolding propose proposed send_first
propose_stays u v = by_unless (λ a. TalliesStay u a.unit) (propose_conditions today u v) u (proposed u v) (tallies_same u) (λ k. tallies_same u)

-- the unit of a log and of an image that fits it
module _ (r : CardRow) (g : Log) (checks : length (row_tally r.checks).cells ≡ senders) (seconds : length (row_tally r.seconds).cells ≡ senders)
    (ok : log_ok today g ≡ true) (fit : (eqb (row_image today r).number 0 && fits (row_image today r).contents g) ≡ true) where
  abbrev i : Image
  i = (row_image today r).contents

  abbrev u : U.Unit
  u = up_unit g i

  there : ((row_image today r).number ≡ 0) × (fits i g ≡ true)
  there = let t = and_parts (eqb (row_image today r).number 0) (fits i g) fit in (eqb-true _ _ t.0, t.1)

  read : OfRow today r i
  read = image_forth today r there.0

  well_formed : WellFormed today u
  well_formed =
      fit_well_formed i g ok (row_image_ok r there.0) (
        rw read.checks (record { marks = ltb-true _ _ read.checks_fit; cells = checks }),
        rw read.seconds (record { marks = ltb-true _ _ read.seconds_fit; cells = seconds }),
      ) there.1

  -- a tally without marks
  unmarked : (b : Tally) → as_marked b ≡ b → (m : Bool) → eqb b.marks 0 ≡ m
      → cond m (tally_fields_of no_marks) (tally_fields_of b) ≡ tally_fields_of b
  unfolding no_marks
  unmarked b all_b false h = refl
  unmarked b all_b true h =
      let none : b.marks ≡ 0 = eqb-true _ _ h in
      let same = same_marked no_marks b none (λ s. held_unmarked b none s ∙ sym (held_unmarked no_marks refl s)) in
      ap tally_fields_of (sym as_marked_none ∙ sym same ∙ all_b)

  -- a tally of the marks that stand there, in its round, is the one that stands there
  tally_there : (f : TallyFields) (a b : Tally) (same : Bool) → a ≡ row_tally f → as_marked a ≡ a → as_marked b ≡ b
      → (same ≡ true → b.marks ≡ a.marks → (s : ℕ) → held b s ≡ held a s) → tally_fields_over same b f ≡ tally_fields_of b
  tally_there f a b same e all_a all_b kept = go same (eqb b.marks f.marks) refl refl
    where
      go : (t m : Bool) → same ≡ t → eqb b.marks f.marks ≡ m
          → cond (t && m) f (cond (eqb b.marks 0) (tally_fields_of no_marks) (tally_fields_of b)) ≡ tally_fields_of b
      go false m z h = unmarked b all_b (eqb b.marks 0) refl
      go true false z h = unmarked b all_b (eqb b.marks 0) refl
      go true true z h =
          let marks : b.marks ≡ a.marks = eqb-true _ _ h ∙ sym (ap (λ (t : Tally). t.marks) e) in
          let b_is : b ≡ a = sym all_b ∙ same_marked a b marks (kept z marks) ∙ all_a in
          sym (ap tally_fields_of (b_is ∙ e) ∙ tally_fields_back f)

  over : (v : U.Unit) → WellFormed today v → TalliesStay u v → row_over v r ≡ row_of v
  over v w kept =
      let round : (eqb v.current.round r.image.round ≡ true) → v.current.round ≡ u.current.round =
      λ e. eqb-true _ _ e ∙ sym (ap (λ (f : LogFields). f.round) read.image) in
      ap₂ (λ (c s : TallyFields). record { log = (row_of v).log; image = (row_of v).image; checks = c; seconds = s })
      (tally_there r.checks u.checks v.checks (eqb v.current.round r.image.round) read.checks (all_checks u well_formed) (all_checks v w)
      (λ e. (kept (round e)).0))
      (tally_there r.seconds u.seconds v.seconds (eqb v.current.round r.image.round) read.seconds (all_seconds u well_formed) (all_seconds v w)
      (λ e. (kept (round e)).1))

  over_step : (s : UnitStep) → row_over (takes today s u).unit r ≡ row_of (takes today s u).unit
  unfolding takes
  over_step (Propose v) = over (propose today u v).unit (sound_propose today u v well_formed).unit (propose_stays u v)
  over_step (Deliver m) = over (deliver today u m).unit (sound_deliver today u m well_formed).unit (deliver_stays u m)

  -- what a step stores is what it answers
  pub step_stored : (s : UnitStep) → row_stored r (takes today s u) ≡ with_log today s g r
  step_stored s = rw (fit, over_step s) refl
