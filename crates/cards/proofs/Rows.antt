-- Rows and contents, both ways: a unit's row is read back as that unit, and a row that is read is written back to the last number. Assumes nothing.
use Rattle.std.specs.Prelude.{Option, Some, None}
use Rattle.std.proofs.lemmas.Bool.{and_parts}
use Prim.Native.Nat.{ℕ}
use mathlib.Core.Path.{◌≡◌, refl, sym, ap, ap₂, ◌∙◌}
use mathlib.Core.Bool.{Bool, true, false, cond, ◌&&◌}
use mathlib.Core.List.{List, ◌∷◌}
use native.Mathlib.Omega.{arith}
use lib.ListN.{get_or, drop}
use borrow.Author.Tests.{lt-ltb}
use Rattle.tally.specs.Limits.{Limits, Sane}
use Rattle.tally.specs.declared.Engine.{Engine}
use Rattle.tally.specs.declared.Tally.{Tally}
use Rattle.contents.specs.Estimates.{is_b}
use Rattle.contents.specs.Images.{image_ok, image_log, same_settings, fits}
use Rattle.contents.specs.Logs.{log_ok}
use Rattle.contents.specs.declared.Image.{Image}
use Rattle.contents.specs.declared.Log.{Log}
use Rattle.contents.specs.declared.Settings.{Settings}
use Rattle.contents.proofs.Facts.{image_facts}
use Rattle.contents.proofs.Same.{same_settings_lem}
use Rattle.formats.specs.Codes.{engine_of, with_engine}
use Rattle.formats.specs.Formats.{reading, checked}
use Rattle.formats.specs.Images.{with_tallies, image_format}
use Rattle.formats.specs.Logs.{log_of, log_format}
use Rattle.formats.proofs.ImageFormat.{numbers_tally, known_cells, tally_back}
use Rattle.formats.proofs.Letters.{engine_letter}
use Rattle.formats.proofs.LogFormat.{numbers_of_lem, of_numbers, lawful}
use Rattle.formats.proofs.RoundTrips.{from_numbers_lem}
use Rattle.consensus.specs.Units.{unit_log, unit_image, WellFormed}
use Rattle.consensus.specs.declared.Unit as U
use Rattle.cards.specs.Rows.{numbers_of, log_fields_of, marks_fit, tally_fields_of, row_tally, image_with, row_log, row_image, row_unit, row_of}
use Rattle.cards.specs.declared.CardRow.{CardRow}
use Rattle.cards.specs.declared.LogFields.{LogFields}
use Rattle.cards.specs.declared.TallyFields.{TallyFields}

-- ---- from a unit to its row and back

pub row_back : (l : Limits) → Sane l → (x : U.Unit) → WellFormed l x
    → (row_log l (row_of x) ≡ reading 0 (unit_log x)) × (row_image l (row_of x) ≡ reading 0 (unit_image x))
unfolding row_log row_image
row_back l sane x wf =
    let i = unit_image x in
    let f = image_facts l i wf.image in
    let g = x.settings.engine in
    let c = tally_back l sane x.checks wf.checks (known_cells l sane false g x.settings.n x.checks f.checks wf.checks) in
    let s = tally_back l sane x.seconds wf.seconds
    (known_cells l sane (is_b g) g x.settings.n x.seconds f.seconds wf.seconds) in
    let same : image_with (row_of x) g (numbers_of (row_of x).image) ≡ i =
    ap (λ (r : Log). with_tallies r (row_tally (tally_fields_of x.checks)) (row_tally (tally_fields_of x.seconds)))
    (of_numbers l sane (image_log i) f.log)
    ∙ ap₂ (λ (y z : Tally). with_tallies (image_log i) y z) c s in
    let read : checked (image_format l) (Some i) ≡ reading 0 i = rw wf.image in (
      from_numbers_lem (log_format l) (λ r. Unit) (lawful l sane) (unit_log x) tt wf.log,
      rw (lt-ltb _ _ wf.checks.marks, lt-ltb _ _ wf.seconds.marks, engine_letter g)
          (ap (λ (z : Image). checked (image_format l) (Some z)) same ∙ read),
    )

-- ---- from a row to its unit and back

-- numbers as fields
abbrev fields_from : List ℕ → LogFields
fields_from vs =
    record {
      engine = get_or vs 0 0;
      n = get_or vs 1 0;
      unit = get_or vs 2 0;
      entry = get_or vs 3 0;
      round = get_or vs 4 0;
      proposal = get_or vs 5 0;
      first = get_or vs 6 0;
      second = get_or vs 7 0;
    }

-- a log made of fields has these fields
fields_back : (f : LogFields) (e : Engine) → engine_of f.engine ≡ Some e → log_fields_of (log_of e (numbers_of f)) ≡ f
fields_back f e p = ap fields_from (numbers_of_lem e (numbers_of f) refl p)

abbrev tally_fields_from : List ℕ → TallyFields
tally_fields_from vs = record { marks = get_or vs 0 0; estimates = drop 1 vs }

pub tally_fields_back : (f : TallyFields) → tally_fields_of (row_tally f) ≡ f
tally_fields_back f = ap tally_fields_from (numbers_tally (f.marks ∷ f.estimates) (omega arith))

module _ (l : Limits) (r : CardRow) where
  pub log_forth : (row_log l r).number ≡ 0 → log_fields_of (row_log l r).contents ≡ r.log
  unfolding row_log
  log_forth z = go (engine_of r.log.engine) refl z
    where
      go : (o : Option Engine) → engine_of r.log.engine ≡ o → (checked (log_format l) (with_engine log_of o (numbers_of r.log))).number ≡ 0
          → log_fields_of (checked (log_format l) (with_engine log_of o (numbers_of r.log))).contents ≡ r.log
      go None p z = absurd (omega (arith, z))
      go (Some e) p z = by (log_ok l (log_of e (numbers_of r.log))) refl z
        where
          by : (b : Bool) → log_ok l (log_of e (numbers_of r.log)) ≡ b → (checked (log_format l) (Some (log_of e (numbers_of r.log)))).number ≡ 0
              → log_fields_of (checked (log_format l) (Some (log_of e (numbers_of r.log)))).contents ≡ r.log
          by true ok z = rw ok (fields_back r.log e p)
          by false ok z = absurd (omega (arith, rw ok at z))

  -- an image that is read from the row
  pub record OfRow (i : Image) : Type 0 where
    pub image : log_fields_of (image_log i) ≡ r.image
    pub checks_fit : marks_fit r.checks ≡ true
    pub seconds_fit : marks_fit r.seconds ≡ true
    pub checks : i.checks ≡ row_tally r.checks
    pub seconds : i.seconds ≡ row_tally r.seconds

  pub image_forth : (row_image l r).number ≡ 0 → OfRow (row_image l r).contents
  unfolding row_image
  image_forth z = go (marks_fit r.checks) (marks_fit r.seconds) (engine_of r.image.engine) refl refl refl z
    where
      go : (b d : Bool) (o : Option Engine) → marks_fit r.checks ≡ b → marks_fit r.seconds ≡ d → engine_of r.image.engine ≡ o
          → (checked (image_format l) (cond (b && d) (with_engine (image_with r) o (numbers_of r.image)) None)).number ≡ 0
          → OfRow (checked (image_format l) (cond (b && d) (with_engine (image_with r) o (numbers_of r.image)) None)).contents
      go false d o f h p z = absurd (omega (arith, z))
      go true false o f h p z = absurd (omega (arith, z))
      go true true None f h p z = absurd (omega (arith, z))
      go true true (Some e) f h p z = by (image_ok l (image_with r e (numbers_of r.image))) refl z
        where
          by : (b : Bool) → image_ok l (image_with r e (numbers_of r.image)) ≡ b
              → (checked (image_format l) (Some (image_with r e (numbers_of r.image)))).number ≡ 0
              → OfRow (checked (image_format l) (Some (image_with r e (numbers_of r.image)))).contents
          by true ok z = rw ok (record { image = fields_back r.image e p; checks_fit = f; seconds_fit = h; checks = refl; seconds = refl })
          by false ok z = absurd (omega (arith, rw ok at z))

  -- the row of the unit that a row holds is that row
  pub row_forth : (row_log l r).number ≡ 0 → (row_image l r).number ≡ 0 → fits (row_image l r).contents (row_log l r).contents ≡ true
      → row_of (row_unit l r) ≡ r
  unfolding fits
  row_forth z y f =
      let b = image_forth y in
      let s = same_settings_lem (row_image l r).contents.settings (row_log l r).contents.settings
      (and_parts (same_settings (row_image l r).contents.settings (row_log l r).contents.settings) _ f).0 in
      let i : log_fields_of (record { settings = (row_log l r).contents.settings; state = (row_image l r).contents.state }) ≡ r.image =
      ap (λ (q : Settings). log_fields_of (record { settings = q; state = (row_image l r).contents.state })) (sym s) ∙ b.image in
      let w = row_of (row_unit l r) in
      ap (λ (f : LogFields). record { log = f; image = w.image; checks = w.checks; seconds = w.seconds }) (log_forth z)
      ∙ ap (λ (f : LogFields). record { log = r.log; image = f; checks = w.checks; seconds = w.seconds }) i
      ∙ ap₂ (λ (c s : TallyFields). record { log = r.log; image = r.image; checks = c; seconds = s })
      (ap tally_fields_of b.checks ∙ tally_fields_back r.checks)
      (ap tally_fields_of b.seconds ∙ tally_fields_back r.seconds)
