-- No listing is longer than its widths say. Assumes nothing.
use Prim.Native.Nat.{ℕ, suc, ◌+◌, ◌*◌, ◌≤◌, ◌<◌, ◌^◌}
use mathlib.Core.Path.{◌≡◌, refl, sym, ap, ◌∙◌}
use mathlib.Core.Bool.{Bool, true, false, cond}
use mathlib.Core.List.{List, [], ◌∷◌, ◌++◌}
use native.Mathlib.Omega.{arith}
use lib.Dec.{leb, eqb}
use lib.ListN.{length, length-append}
use borrow.Author.Tests.{leb-true, leb-false}
use Rattle.tally.specs.Limits.{Limits, today, script_size}
use Rattle.formats.specs.Codes.{letter_of}
use Rattle.script.specs.Numbers.{max_digits}
use Rattle.script.specs.Parts.{comma, newline, onto, parted}
use Rattle.script.specs.Script.{question_mark, event_letter, in_ranges, event_of, unended, events_of}
use Rattle.script.specs.declared.ScriptEvent.{ScriptEvent}
use Rattle.script.specs.declared.Header.{Header}
use Rattle.script.proofs.EventLines.{short_line}
use Rattle.script.proofs.HeaderLines.{ranges}
use Rattle.script.proofs.Parting.{Some, parted_some}
use Rattle.bench_play.specs.Bench.{LineAnswer, start}
use Rattle.bench_play.specs.Play.{answer, play, bench_after}
use Rattle.bench_play.specs.declared.Bench.{Bench}
use Rattle.bench_play.proofs.PlayedLines.{reached_sized}
use Rattle.bench_text.specs.Text.{decimal, shown_text, field_text, fields_text, header_text, line_fields, line_text, end_text}
use Rattle.bench_text.specs.declared.ListingLine.{ListingLine}
use Rattle.bench_text.specs.declared.Shown.{Shown}
use Rattle.bench_text.proofs.Digits.{digits_most, digits_short}
use Rattle.bench.specs.Listing.{line_of, line_with, lines_text, header_line, malformed_line, malformed_text}
use Rattle.bench.specs.InnerLines.{events_in, rest_text}
use Rattle.bench.specs.Widths.{index_width, kept_width, header_width, malformed_width, end_width, max_listing}
use Rattle.bench.proofs.Rest.{malformed_line_lem}

-- ---- the bytes of parts, with those between

abbrev size : List (List ℕ) → ℕ
size [] = 0
size (p ∷ []) = length p
size (p ∷ q ∷ ps) = suc (length p + size (q ∷ ps))

parted_size : (c : ℕ) (s : List ℕ) → size (parted c s) ≡ length s
parted_size c [] = refl
parted_size c (b ∷ s) = go (eqb b c) (parted_some c s) (parted_size c s)
  where
    onto_size : (q : List ℕ) (ps : List (List ℕ)) → size ((b ∷ q) ∷ ps) ≡ suc (size (q ∷ ps))
    onto_size q [] = refl
    onto_size q (p ∷ ps) = omega arith

    go : (t : Bool) → Some (parted c s) → size (parted c s) ≡ length s → size (cond t ([] ∷ parted c s) (onto b (parted c s))) ≡ suc (length s)
    go true r h = rw r.same (omega (arith, ap size (sym r.same) ∙ h))
    go false r h = ap (λ (ps : List (List ℕ)). size (onto b ps)) r.same ∙ onto_size r.first r.others ∙ ap suc (ap size (sym r.same) ∙ h)

-- ---- a line of the listing

shown_short : (s : Shown) → length (shown_text s) ≤ max_digits
unfolding shown_text decimal
shown_short Shown.Dash = omega arith
shown_short (Shown.Letter b) = omega arith
shown_short (Shown.Number n) = digits_short max_digits n

number_most : (j n : ℕ) → n < 10 ^ suc j → length (shown_text (Shown.Number n)) ≤ suc j
unfolding shown_text decimal
number_most j n h = digits_most j max_digits n h

field_length : (s : Shown) (b : ℕ) → length (field_text s b) ≡ length (shown_text s) + 1
unfolding field_text
field_length s b = length-append (shown_text s) (b ∷ [])

-- a byte after each field
abbrev line_length : List Shown → ℕ
line_length [] = 1
line_length (s ∷ []) = length (shown_text s) + 1
line_length (s ∷ t ∷ ss) = length (shown_text s) + 1 + line_length (t ∷ ss)

line_text_lem : (ss : List Shown) → length (fields_text ss) ≡ line_length ss
line_text_lem [] = refl
line_text_lem (s ∷ []) = field_length s newline
line_text_lem (s ∷ t ∷ ss) = rw length-append (omega (arith, field_length s comma, line_text_lem (t ∷ ss)))

letter_length : (b : ℕ) → length (shown_text (Shown.Letter b)) ≡ 1
unfolding shown_text
letter_length b = refl

dash_length : length (shown_text Shown.Dash) ≡ 1
unfolding shown_text
dash_length = refl

shown_length : (r : ListingLine) → length (line_text r) ≡ line_length (line_fields r)
unfolding line_text
shown_length r = line_text_lem (line_fields r)

module _ (i : ℕ) (small : i < 10 ^ index_width) where
  malformed_shown : length (line_text (malformed_line i)) ≤ malformed_width
  unfolding malformed_line
  malformed_shown =
      omega (
        arith,
        shown_length (malformed_line i),
        number_most 4 i small,
        letter_length question_mark,
        number_most 0 8 (omega arith),
        dash_length,
      )

  any_shown : (e : ScriptEvent) (r : LineAnswer) → length (line_text (line_of i e r)) ≤ 4 * malformed_width
  unfolding line_of line_with
  any_shown e r =
      omega (
        arith,
        shown_length (line_of i e r),
        number_most 4 i small,
        letter_length (event_letter e),
        shown_short (line_of i e r).unit,
        shown_short (Shown.Number (line_of i e r).number),
        shown_short (line_of i e r).sent,
        shown_short (line_of i e r).decision,
      )

-- ---- the lines of a script

module _ (l : Limits) (n : ℕ) where
  -- a line has no more than a malformed line's bytes for each of its own
  line_length_lem : (b : Bench) (i : ℕ) (p : List ℕ) → i < 10 ^ index_width
      → length (line_text (line_of i (event_of n p) (answer l b (event_of n p)))) ≤ malformed_width * suc (length p)
  line_length_lem b i p small = go (leb 3 (length p)) refl
    where
      none : event_of n p ≡ ScriptEvent.Malformed → length (line_text (line_of i (event_of n p) (answer l b (event_of n p)))) ≤ malformed_width
      none e = rw (e, malformed_line_lem l b i) (malformed_shown i small)

      go : (t : Bool) → leb 3 (length p) ≡ t
          → length (line_text (line_of i (event_of n p) (answer l b (event_of n p)))) ≤ malformed_width * suc (length p)
      go true h = omega (arith, leb-true 3 (length p) h, any_shown i small (event_of n p) (answer l b (event_of n p)))
      go false h = omega (arith, none (short_line n p (leb-false 3 (length p) h)))

  left_length : (b : Bench) (i : ℕ) (p : List ℕ) → i < 10 ^ index_width → length (lines_text i (play l b (unended p))) ≤ malformed_width * length p
  unfolding lines_text play
  left_length b i [] small = omega arith
  left_length b i (x ∷ p) small = rw (malformed_line_lem l b i, length-append) (omega (arith, malformed_shown i small))

  lines_length : (b : Bench) (i : ℕ) (ps : List (List ℕ)) → i + size ps < 10 ^ index_width
      → length (lines_text i (play l b (events_of n ps))) ≤ malformed_width * size ps
  unfolding lines_text play events_of
  lines_length b i [] small = omega arith
  lines_length b i (p ∷ []) small = left_length b i p (omega arith)
  lines_length b i (p ∷ q ∷ ps) small =
      let e = event_of n p in
      rw length-append
      (omega (arith, line_length_lem b i p (omega arith), lines_length (answer l b e).bench (i + 1) (q ∷ ps) (omega arith)))

  left_count : (p : List ℕ) → length (unended p) ≤ length p
  left_count [] = omega arith
  left_count (x ∷ p) = omega arith

  events_count : (ps : List (List ℕ)) → length (events_of n ps) ≤ size ps
  unfolding events_of
  events_count [] = omega arith
  events_count (p ∷ []) = left_count p
  events_count (p ∷ q ∷ ps) = omega (arith, events_count (q ∷ ps))

-- ---- header and final line

header_length : (h : Header) → in_ranges h.n h.entry ≡ true → length (header_line h) ≤ header_width
unfolding header_line header_text
header_length h ok =
    let r = ranges h.n h.entry ok in
    let letter = letter_of h.engine in
    omega (
      arith,
      line_text_lem (Shown.Letter letter ∷ Shown.Number h.n ∷ Shown.Number h.entry ∷ []),
      letter_length letter,
      number_most 1 h.n (omega (arith, r.1)),
      number_most 3 h.entry (omega (arith, r.3)),
    )

end_length : (events kept : ℕ) → events < 10 ^ index_width → kept < 10 ^ kept_width → length (end_text events kept) ≤ end_width
unfolding end_text
end_length events kept e k =
    rw length-append (omega (arith, line_text_lem (Shown.Number events ∷ Shown.Number kept ∷ []), number_most 4 events e, number_most 2 kept k))

-- ---- the whole

-- a script has no more events than bytes
pub events_most : (n : ℕ) (s : List ℕ) → length (events_in n s) ≤ length s
unfolding events_in
events_most n s = omega (arith, events_count today n (parted newline s), parted_size newline s)

pub played_length : (l : Limits) (h : Header) (s : List ℕ) → in_ranges h.n h.entry ≡ true → length s ≤ script_size
    → length (header_line h ++ rest_text l (start h) 0 (events_in h.n s)) ≤ max_listing
unfolding rest_text events_in
played_length l h s ok short =
    let ps = parted newline s in
    let least : size ps ≤ script_size = omega (arith, parted_size newline s) in
    let lines = lines_length l h.n (start h) 1 ps (omega arith) in
    let count = events_count l h.n ps in
    let kept = (reached_sized h l (events_of h.n ps)).kept in
    let end = end_length (0 + length (events_of h.n ps)) (bench_after l (start h) (events_of h.n ps)).kept (omega (arith, count)) (omega (arith, kept)) in
    simp length-append (omega (arith, header_length h ok, lines, end))

pub malformed_length : length malformed_text ≤ max_listing
unfolding malformed_text malformed_line line_text end_text field_text shown_text decimal
malformed_length = leb-true _ _ refl
