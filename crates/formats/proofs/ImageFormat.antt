-- An image's format is lawful, and its bytes are a log's and two tallies', one after the other. Assumes nothing.
use Rattle.std.specs.Prelude.{Some}
use mathlib.Core.Path.{◌≡◌, refl, sym, ap, ap₂, ◌∙◌}
use mathlib.Core.Bool.{Bool, true, false}
use mathlib.Core.List.{List, [], ◌∷◌, ◌++◌, map}
use Prim.Native.Nat.{ℕ, suc, ◌+◌, ◌<◌}
use native.Mathlib.Omega.{arith}
use lib.ListN.{length, get_or, take, drop, replicate, length-append, length-drop, length-map, take-append-drop}
use lib.Seq.{take_at, drop_at, get_or-take, length-take-le}
use Rattle.tally.specs.Limits.{Limits, today, log_size, image_size, log_fields, senders, Sane}
use Rattle.tally.specs.Tally.{Typed, blank_cell, is_marked, estimate_at}
use Rattle.tally.specs.declared.Cell.{Cell}
use Rattle.tally.specs.declared.Engine.{Engine}
use Rattle.tally.specs.declared.Tally.{Tally}
use Rattle.tally.specs.Refusal.{number_of}
use Rattle.tally.specs.declared.Refusal.{Refusal}
use Rattle.contents.specs.Estimates.{is_b}
use Rattle.contents.specs.Images.{image_log, image_ok}
use Rattle.contents.specs.Logs.{log_ok}
use Rattle.contents.specs.declared.Image.{Image}
use Rattle.contents.proofs.Facts.{Known, TallyFacts, image_facts, known_cell}
use Rattle.formats.specs.Codes.{engine_of}
use Rattle.formats.specs.Formats.{reading, with_zero, numbers_in}
use Rattle.formats.specs.Images.{cell_of, cell_code, tally_widths, tally_numbers, tally_of, tally_fields, TypedImage, image_widths, image_numbers, image_of}
use Rattle.formats.specs.Images.{with_tallies, parse_image, image_format, image_bytes, read_image, write_image}
use Rattle.formats.specs.Logs.{log_widths, log_zero, log_numbers}
use Rattle.formats.specs.Numbers.{Bytes}
use Rattle.formats.specs.InnerNumbers.{pack_into, total}
use Rattle.formats.specs.RoundTrip.{RoundTrip}
use Rattle.formats.proofs.Letters.{engine_letter, made, code_estimate, estimate_code, code_fits}
use Rattle.formats.proofs.LogFormat as log
use Rattle.formats.proofs.RoundTrips.{LawfulFormat, round_trip, read_parsed}
use Rattle.formats.proofs.Packed.{Fit, num_fits, fit_append, pack_into_append, pack_into_eq}

pub length_tally : (t : Tally) → length t.cells ≡ senders → length (tally_numbers t) ≡ length tally_widths
length_tally t e = ap suc (length-map t.cells cell_code ∙ e)

-- a log and two tallies stored one after the other, from the front to the end, are an image's bytes
pub image_stored : (bs : List ℕ) (i : Image) → length i.checks.cells ≡ senders → length i.seconds.cells ≡ senders
    → length bs ≡ image_size today
    → pack_into
    (pack_into (pack_into bs 0 (log_widths today) (with_zero log_zero (log_numbers (image_log i)))) (log_size today) tally_widths (tally_numbers i.checks))
    (log_size today + total tally_widths) tally_widths (tally_numbers i.seconds)
    ≡ image_bytes today i
unfolding image_bytes
image_stored bs i c s size =
    let front = with_zero log_zero (log_numbers (image_log i)) in
    let rest = tally_numbers i.checks ++ tally_numbers i.seconds in
    sym
    (pack_into_append (log_widths today) (tally_widths ++ tally_widths) front rest bs 0 refl
    ∙ pack_into_append tally_widths tally_widths (tally_numbers i.checks) (tally_numbers i.seconds) (pack_into bs 0 (log_widths today) front) (log_size today)
    (length_tally i.checks c))
    ∙ pack_into_eq (image_widths today) (front ++ rest) bs 0 (simp (length-append, length_tally i.checks c, length_tally i.seconds s)) (sym size)

-- any numbers are some cells'
codes_cells : (vs : List ℕ) → map cell_code (map cell_of vs) ≡ vs
codes_cells [] = refl
codes_cells (v ∷ vs) = ap₂ ◌∷◌ (code_estimate v) (codes_cells vs)

pub numbers_tally : (vs : List ℕ) → 0 < length vs → tally_numbers (tally_of vs) ≡ vs
numbers_tally [] h = absurd (omega arith)
numbers_tally (v ∷ vs) h = ap (◌∷◌ v) (codes_cells vs)

numbers_image : (e : Engine) (vs : List ℕ) → length vs ≡ log_fields + tally_fields + tally_fields → engine_of (get_or vs 0 0) ≡ Some e
    → image_numbers (image_of e vs) ≡ vs
numbers_image e vs len p =
    let rest = drop log_fields vs in
    let long : length rest ≡ tally_fields + tally_fields = simp length-drop (omega arith) in
    let front : length (take log_fields vs) ≡ log_fields = length-take-le log_fields vs (omega arith) in
    let checks : length (take tally_fields rest) ≡ tally_fields = length-take-le tally_fields rest (omega arith) in
    let seconds : length (drop tally_fields rest) ≡ tally_fields = simp length-drop (omega arith) in
    ap₂ ◌++◌ (log.numbers_of_lem e (take log_fields vs) front (ap engine_of (get_or-take log_fields vs 0 0 (omega arith)) ∙ p))
    (ap₂ ◌++◌ (numbers_tally (take tally_fields rest) (omega arith)) (numbers_tally (drop tally_fields rest) (omega arith))
    ∙ take-append-drop tally_fields rest)
    ∙ take-append-drop log_fields vs

module _ (l : Limits) (sane : Sane l) where
  pub AllKnown : List Cell → Type 0
  AllKnown cs = (s : ℕ) → s < length cs → Known l (get_or cs s blank_cell).estimate

  later : (c : Cell) (cs : List Cell) → AllKnown (c ∷ cs) → AllKnown cs
  unfolding AllKnown
  later c cs k s h = k (suc s) (omega arith)

  cells_codes : (cs : List Cell) → AllKnown cs → map cell_of (map cell_code cs) ≡ cs
  unfolding AllKnown
  cells_codes [] k = refl
  cells_codes (c ∷ cs) k = rw (estimate_code l sane c.estimate (k 0 (omega arith)), cells_codes cs (later c cs k))

  cells_fit : (cs : List Cell) → AllKnown cs → Fit (replicate (length cs) 4) (map cell_code cs)
  unfolding AllKnown
  cells_fit [] k = tt
  cells_fit (c ∷ cs) k = (code_fits l sane c.estimate (k 0 (omega arith)), cells_fit cs (later c cs k))

  pub known_cells : (split : Bool) (g : Engine) (n : ℕ) (t : Tally) → TallyFacts l split g n t → Typed t → AllKnown t.cells
  unfolding AllKnown
  known_cells split g n t f typed s h =
      let b : s < senders = omega (arith, typed.cells) in known_cell l split n s (is_marked t.marks s) (estimate_at t s) (f.places s b)

  module _ (t : Tally) (typed : Typed t) (known : AllKnown t.cells) where
    pub tally_back : tally_of (tally_numbers t) ≡ t
    tally_back = rw (cells_codes t.cells known)

    pub tally_fit : Fit tally_widths (tally_numbers t)
    tally_fit = (omega (arith, typed.marks), rw typed.cells at (cells_fit t.cells known))

  parsed : (i : Image) → TypedImage i → image_ok l i ≡ true → parse_image (image_numbers i) ≡ Some i
  parsed i t ok =
      let f = image_facts l i ok in
      let g = i.settings.engine in
      let c = tally_numbers i.checks in
      let s = tally_numbers i.seconds in
      let len : length c ≡ tally_fields = length_tally i.checks t.0.cells in
      rw (engine_letter g)
      (ap (λ r. Some (with_tallies r (tally_of (take tally_fields (c ++ s))) (tally_of (drop tally_fields (c ++ s)))))
      (log.of_numbers l sane (image_log i) f.log)
      ∙ ap₂ (λ x y. Some (with_tallies (image_log i) x y))
      (ap tally_of (take_at c s tally_fields len) ∙ tally_back i.checks t.0 (known_cells false g i.settings.n i.checks f.checks t.0))
      (ap tally_of (drop_at c s tally_fields len) ∙ tally_back i.seconds t.1 (known_cells (is_b g) g i.settings.n i.seconds f.seconds t.1)))

  fits : (i : Image) → TypedImage i → image_ok l i ≡ true → Fit (image_widths l) (with_zero log_zero (image_numbers i))
  fits i t ok =
      let f = image_facts l i ok in
      let g = i.settings.engine in
      fit_append (log_widths l) (tally_widths ++ tally_widths) (with_zero log_zero (log_numbers (image_log i)))
      (tally_numbers i.checks ++ tally_numbers i.seconds)
      (log.fits l sane (image_log i) f.log)
      (fit_append tally_widths tally_widths (tally_numbers i.checks) (tally_numbers i.seconds)
      (tally_fit i.checks t.0 (known_cells false g i.settings.n i.checks f.checks t.0))
      (tally_fit i.seconds t.1 (known_cells (is_b g) g i.settings.n i.seconds f.seconds t.1)))

  pub lawful : LawfulFormat (image_format l) TypedImage
  unfolding image_ok log_ok
  lawful =
      record {
        sized = omega arith;
        counted = refl;
        placed = omega arith;
        refuses = λ e. omega arith;
        unread = refl;
        each = λ i t. simp (length-append, length_tally i.checks t.0.cells, length_tally i.seconds t.1.cells);
        fit = fits;
        parsed = parsed;
        back = λ vs i len e. made (λ i. image_numbers i ≡ vs) image_of vs i (get_or vs 0 0) (λ g p. numbers_image g vs len p) e;
      }

  pub image_round_trip : RoundTrip TypedImage (image_ok l) (number_of (Some Refusal.Image)) (image_size l) (read_image l) (write_image l)
  unfolding read_image write_image
  image_round_trip = round_trip (image_format l) TypedImage lawful _

-- what is read has the code's types
pub read_typed : (l : Limits) (sane : Sane l) (bs : List ℕ) (i : Image) → Bytes bs → read_image l bs ≡ reading 0 i → TypedImage i
unfolding read_image
read_typed l sane bs i b e =
    made TypedImage image_of (numbers_in (image_format l) bs) i (get_or (numbers_in (image_format l) bs) 0 0)
    (λ g p. (record { marks = num_fits 2 _ bs b; cells = refl }, record { marks = num_fits 2 _ bs b; cells = refl }))
    (read_parsed (image_format l) TypedImage (lawful l sane) bs i e)
