-- An image's bytes as its parts, one after the other: what is read at a part's place, and what a write there leaves. Assumes nothing.
use Rattle.std.specs.Prelude.{Some, None}
use Rattle.std.proofs.lemmas.Bool.{and_parts}
use Prim.Native.Nat.{ℕ, zero, suc, ◌+◌, ◌*◌, ◌^◌, ◌<◌}
use mathlib.Core.Path.{◌≡◌, refl, sym, ap, ◌∙◌}
use mathlib.Core.Bool.{Bool, true, false, cond, ◌&&◌}
use mathlib.Core.List.{List, [], ◌∷◌, ◌++◌, map, append_assoc, append-nil}
use native.Mathlib.Omega.{arith}
use lib.Dec.{eqb}
use lib.ListN.{length, get_or, replicate, length-append}
use borrow.Author.Tests.{eq-eqb, ne_eqb, eqb-true}
use Rattle.tally.specs.Limits.{today, image_size, senders}
use Rattle.tally.specs.Tally.{Typed, blank_cell, estimate_at, is_marked, held}
use Rattle.tally.specs.declared.Estimate.TheVariants.{Blank}
use Rattle.tally.specs.declared.Engine.{Engine}
use Rattle.tally.specs.declared.Tally.{Tally}
use Rattle.tally.specs.Refusal.{number_of}
use Rattle.tally.specs.declared.Refusal.{Refusal}
use Rattle.tally.proofs.Bounds.{sane_today}
use Rattle.tally.proofs.Never.{never}
use Rattle.contents.specs.Images.{image_ok, fits}
use Rattle.contents.specs.declared.Image.{Image}
use Rattle.contents.specs.declared.Log.{Log}
use Rattle.contents.specs.declared.Settings.{Settings}
use Rattle.contents.specs.declared.State.{State}
use Rattle.contents.proofs.Facts.{TallyFacts, image_facts}
use Rattle.formats.specs.Codes.{letter_of, code_of, estimate_of}
use Rattle.formats.specs.Formats.{ReadAnswer, reading, checked, with_zero}
use Rattle.formats.specs.Images.{TypedImage, cell_of, cell_code, cell_widths, tally_widths, tally_of, tally_numbers, with_tallies, image_widths, image_numbers}
use Rattle.formats.specs.Images.{image_format, image_bytes, no_image}
use Rattle.formats.specs.InnerImages.{tally_at, fit_state, checks_at, seconds_at, in_image, as_marked, tally_from, state_over, tally_over, image_over}
use Rattle.formats.specs.Logs.{log_zero}
use Rattle.formats.specs.InnerLogs.{settings_widths, state_widths, state_numbers, round_at}
use Rattle.formats.specs.Numbers.{num_at, bytes_of, unpack, pack}
use Rattle.formats.specs.InnerNumbers.{pack_into, total}
use Rattle.formats.proofs.ImageFormat as image
use Rattle.formats.proofs.Marked.{length_held, typed_marked, as_marked_lem}
use Rattle.formats.proofs.Packed.{num_bytes, unpack_part, pack_append, pack_into_part, length_packed}

-- an image's settings with another state
abbrev with_state : State → Image → Log
with_state s i = record { settings = i.settings; state = s }

-- ---- a tally's places

-- the number in a place of the estimates
cell_at : (n k o : ℕ) (bs : List ℕ) → k < n → get_or (map cell_of (unpack o (replicate n 4) bs)) k blank_cell ≡ cell_of (num_at bs (o + 4 * k) 4)
cell_at zero k o bs h = absurd (omega arith)
cell_at (suc n) zero o bs h = let e : o + 4 * 0 ≡ o = omega arith in rw e
cell_at (suc n) (suc k) o bs h =
    let e : o + 4 + 4 * k ≡ o + 4 * suc k = omega arith in
    cell_at n k (o + 4) bs (omega arith) ∙ ap (λ (x : ℕ). cell_of (num_at bs x 4)) e

-- what an unmarked or marked cell holds, as its four bytes have it
pub held_at : (marks o k : ℕ) (bs : List ℕ) → k < senders
    → held (record { marks = marks; cells = map cell_of (unpack o cell_widths bs) }) k
    ≡ cond (is_marked marks k) (estimate_of (num_at bs (o + 4 * k) 4)) Blank
unfolding held
held_at marks o k bs h = rw (cell_at senders k o bs h)

pub estimate_at_lem : (o k : ℕ) (bs : List ℕ) → k < senders → estimate_at (tally_at o bs) k ≡ estimate_of (num_at bs (o + 2 + 4 * k) 4)
estimate_at_lem o k bs h = rw (cell_at senders k (o + 2) bs h)

-- ---- an image that is tested where it stands

pub fit_checked : (i : Image) (log : Log)
    → fit_state (checked (image_format today) (Some i)) log ≡ cond (image_ok today i && fits i log) (Some i.state) None
unfolding fit_state
fit_checked i log = go (image_ok today i)
  where
    go : (b : Bool) → fit_state (cond b (reading 0 i) (reading (number_of (Some Refusal.Image)) no_image)) log
        ≡ cond (b && fits i log) (Some i.state) None
    go true = refl
    go false = refl

-- an image that does not fit a log, and the state of one that does
module _ (x : ReadAnswer Image) (log : Log) where
  abbrev fit : Bool
  fit = eqb x.number 0 && fits x.contents log

  pub fit_none : fit_state x log ≡ None → fit ≡ false
  unfolding fit_state
  fit_none e = go fit refl e
    where
      go : (t : Bool) → fit ≡ t → cond t (Some x.contents.state) None ≡ None → fit ≡ false
      go true b e = never cc
      go false b e = b

  pub fit_some : (s : State) → fit_state x log ≡ Some s → (fit ≡ true) × (x.contents.state ≡ s)
  unfolding fit_state
  fit_some s e = go fit refl e
    where
      go : (t : Bool) → fit ≡ t → cond t (Some x.contents.state) None ≡ Some s → (fit ≡ true) × (x.contents.state ≡ s)
      go true b e = (b, cc)
      go false b e = never cc

-- ---- the parts

abbrev tally_bytes : Tally → List ℕ
tally_bytes t = pack tally_widths (tally_numbers t)

-- a log's settings with the zero
abbrev settings_numbers : Settings → List ℕ
settings_numbers s = letter_of s.engine ∷ s.n ∷ s.unit ∷ 0 ∷ s.entry ∷ []

abbrev settings_bytes : Image → List ℕ
settings_bytes i = pack settings_widths (settings_numbers i.settings)

abbrev state_bytes : State → List ℕ
state_bytes s = pack (state_widths today) (state_numbers s)

image_parts : (i : Image) → TypedImage i
    → image_bytes today i ≡ settings_bytes i ++ (state_bytes i.state ++ (tally_bytes i.checks ++ tally_bytes i.seconds))
unfolding image_bytes
image_parts i t =
    let c = tally_numbers i.checks in
    let s = tally_numbers i.seconds in
    pack_append settings_widths (state_widths today ++ (tally_widths ++ tally_widths)) (settings_numbers i.settings) (state_numbers i.state ++ (c ++ s)) refl
    ∙ ap (λ (xs : List ℕ). settings_bytes i ++ xs)
    (pack_append (state_widths today) (tally_widths ++ tally_widths) (state_numbers i.state) (c ++ s) refl
    ∙ ap (λ (xs : List ℕ). state_bytes i.state ++ xs) (pack_append tally_widths tally_widths c s (image.length_tally i.checks t.0.cells)))

length_settings : (i : Image) → length (settings_bytes i) ≡ total settings_widths
length_settings i = length_packed settings_widths (settings_numbers i.settings) refl

length_state : (s : State) → length (state_bytes s) ≡ total (state_widths today)
length_state s = length_packed (state_widths today) (state_numbers s) refl

length_counted : (t : Tally) → length t.cells ≡ senders → length (tally_bytes t) ≡ total tally_widths
length_counted t e = length_packed tally_widths (tally_numbers t) (image.length_tally t e)

pub length_image : (i : Image) → TypedImage i → length (image_bytes today i) ≡ image_size today
unfolding image_bytes
length_image i t =
    length_packed (image_widths today) (with_zero log_zero (image_numbers i))
    (simp (length-append, image.length_tally i.checks t.0.cells, image.length_tally i.seconds t.1.cells))

-- a round that was stored is read back
round_there : (i : Image) → TypedImage i → i.state.round < 256 ^ today.round_width → round_at (image_bytes today i) ≡ i.state.round
round_there i t fit =
    let a = bytes_of today.round_width i.state.round in
    let r = pack (4 ∷ 4 ∷ 4 ∷ []) (code_of i.state.proposal ∷ code_of i.state.first ∷ code_of i.state.second ∷ []) in
    let q = tally_bytes i.checks ++ tally_bytes i.seconds in
    rw (image_parts i t, append_assoc a r q)
    (num_bytes today.round_width i.state.round (settings_bytes i) (r ++ q) (total settings_widths) (length_settings i) fit)

pub state_written : (s : State) (i : Image) → TypedImage i
    → state_over s (image_bytes today i) ≡ image_bytes today (with_tallies (with_state s i) i.checks i.seconds)
state_written s i t =
    rw (image_parts i t, image_parts (with_tallies (with_state s i) i.checks i.seconds) t)
    (pack_into_part (state_widths today) (state_numbers s) (settings_bytes i) (state_bytes i.state) _ _
    (length_settings i) (length_state i.state) refl)

-- ---- the tallies

front : Image → List ℕ
front i = settings_bytes i ++ state_bytes i.state

module _ (i : Image) (t : TypedImage i) where
  length_front : length (front i) ≡ checks_at
  unfolding front
  length_front = length-append (settings_bytes i) (state_bytes i.state) ∙ omega (arith, length_settings i, length_state i.state)

  -- before each tally what stands before it, and after it the rest
  by_checks : image_bytes today i ≡ front i ++ (tally_bytes i.checks ++ tally_bytes i.seconds)
  unfolding front
  by_checks = image_parts i t ∙ sym (append_assoc (settings_bytes i) (state_bytes i.state) (tally_bytes i.checks ++ tally_bytes i.seconds))

  length_before : length (front i ++ tally_bytes i.checks) ≡ seconds_at
  length_before = length-append (front i) (tally_bytes i.checks) ∙ omega (arith, length_front, length_counted i.checks t.0.cells)

  by_seconds : image_bytes today i ≡ (front i ++ tally_bytes i.checks) ++ (tally_bytes i.seconds ++ [])
  by_seconds =
      by_checks
      ∙ rw (append-nil (tally_bytes i.seconds)) (sym (append_assoc (front i) (tally_bytes i.checks) (tally_bytes i.seconds)))

-- a tally written over an older one, at any place
tally_over_lem : (same : Bool) (t old : Tally) (p q : List ℕ) (o : ℕ) → Typed old → length p ≡ o
    → (same ≡ true → t.marks ≡ old.marks → as_marked t ≡ old)
    → tally_over o same t (p ++ (tally_bytes old ++ q)) ≡ p ++ (tally_bytes (as_marked t) ++ q)
tally_over_lem same t old p q o typed len kept = rw there (go (same && eqb t.marks old.marks) refl)
  where
    there : num_at (p ++ (tally_bytes old ++ q)) o 2 ≡ old.marks
    there =
        let a = bytes_of 2 old.marks in
        let r = pack cell_widths (map cell_code old.cells) in
        rw (append_assoc a r q) (num_bytes 2 old.marks p (r ++ q) o len (omega (arith, typed.marks)))

    go : (b : Bool) → (same && eqb t.marks old.marks) ≡ b
        → cond b (p ++ (tally_bytes old ++ q)) (pack_into (p ++ (tally_bytes old ++ q)) o tally_widths (tally_numbers (as_marked t)))
        ≡ p ++ (tally_bytes (as_marked t) ++ q)
    go true e =
        let h = and_parts same (eqb t.marks old.marks) e in
        ap (λ (x : Tally). p ++ (tally_bytes x ++ q)) (sym (kept h.0 (eqb-true _ _ h.1)))
    go false e =
        pack_into_part tally_widths (tally_numbers (as_marked t)) p (tally_bytes old) q o len (length_counted old typed.cells)
        (image.length_tally (as_marked t) (length_held t 0 senders))

-- a state and tallies written over an older image, which has a tally already where neither the round nor its marks are others
pub image_over_lem : (i : Image) (s : State) (c d : Tally) → TypedImage i → Typed c → Typed d → i.state.round < 256 ^ today.round_width
    → (s.round ≡ i.state.round → c.marks ≡ i.checks.marks → as_marked c ≡ i.checks)
    → (s.round ≡ i.state.round → d.marks ≡ i.seconds.marks → as_marked d ≡ i.seconds)
    → image_over s c d (image_bytes today i) ≡ image_bytes today (with_tallies (with_state s i) (as_marked c) (as_marked d))
unfolding front
image_over_lem i s c d t tc td fit kc kd =
    let j = with_tallies (with_state s i) i.checks i.seconds in
    let k = with_tallies (with_state s i) (as_marked c) i.seconds in
    let z = with_tallies (with_state s i) (as_marked c) (as_marked d) in
    let same = eqb s.round i.state.round in
    rw (round_there i t fit, state_written s i t)
    (ap (λ (bs : List ℕ). tally_over seconds_at same d (tally_over checks_at same c bs)) (by_checks j t)
    ∙ ap (tally_over seconds_at same d)
    (tally_over_lem same c i.checks (front j) (tally_bytes i.seconds) checks_at t.0 (length_front j t) (λ e. kc (eqb-true _ _ e))
    ∙ sym (by_checks k (typed_marked c tc, t.1))
    ∙ by_seconds k (typed_marked c tc, t.1))
    ∙ tally_over_lem same d i.seconds (front k ++ tally_bytes (as_marked c)) [] seconds_at t.1 (length_before k (typed_marked c tc, t.1))
    (λ e. kd (eqb-true _ _ e))
    ∙ sym (by_seconds z (typed_marked c tc, typed_marked d td)))

-- ---- what is read back

-- a tally that stands somewhere in an image is read from there
tally_read : (split : Bool) (g : Engine) (n : ℕ) (t : Tally) (bs p q : List ℕ) (o : ℕ) → Typed t → TallyFacts today split g n t
    → length bs ≡ image_size today → bs ≡ p ++ (tally_bytes t ++ q) → length p ≡ o → tally_from o bs ≡ t
unfolding tally_from
tally_read split g n t bs p q o typed facts size e len =
    let known = image.known_cells today sane_today split g n t facts typed in
    rw (eq-eqb _ _ size)
    (ap (λ (xs : List ℕ). as_marked (tally_at o xs)) e
    ∙ ap (λ (vs : List ℕ). as_marked (tally_of vs)) (unpack_part tally_widths (tally_numbers t) p q o len (image.tally_fit today sane_today t typed known))
    ∙ ap as_marked (image.tally_back today sane_today t typed known)
    ∙ as_marked_lem today split g n t facts typed)

module _ (i : Image) (t : TypedImage i) (ok : image_ok today i ≡ true) where
  pub checks_read : tally_from checks_at (image_bytes today i) ≡ i.checks
  checks_read =
      tally_read false _ _ i.checks _ (front i) (tally_bytes i.seconds) checks_at t.0 (image_facts today i ok).checks (length_image i t)
      (by_checks i t) (length_front i t)

  pub seconds_read : tally_from seconds_at (image_bytes today i) ≡ i.seconds
  seconds_read =
      tally_read _ _ _ i.seconds _ (front i ++ tally_bytes i.checks) [] seconds_at t.1 (image_facts today i ok).seconds (length_image i t)
      (by_seconds i t) (length_before i t)

-- ---- a change is made to a buffer of an image's length, and to no other

pub in_image_other : (change : List ℕ → List ℕ) (bs : List ℕ) → (length bs ≡ image_size today → ⊥) → in_image change bs ≡ bs
unfolding in_image
in_image_other change bs n = rw (ne_eqb (length bs) (image_size today) n)

pub in_image_lem : (change : List ℕ → List ℕ) (bs : List ℕ) → length bs ≡ image_size today → in_image change bs ≡ change bs
unfolding in_image
in_image_lem change bs e = rw (eq-eqb (length bs) (image_size today) e)
