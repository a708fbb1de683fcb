-- The calls over any lawful format: what writing contents answers, and both round trips between fields and bytes. Assumes nothing.
use Rattle.std.specs.Prelude.{Option, Some, None}
use Rattle.std.proofs.lemmas.Bool.{and_parts}
use Prim.Native.Nat.{ℕ, ◌+◌, ◌≤◌}
use mathlib.Core.Path.{◌≡◌, refl, sym, ap, ◌∙◌}
use mathlib.Core.Bool.{Bool, true, false, cond, ◌&&◌}
use mathlib.Core.List.{List, append-nil}
use native.Mathlib.Omega.{arith}
use lib.Dec.{eqb}
use lib.ListN.{length, drop_of_length-le}
use lib.Seq.{sets, sets-eq}
use borrow.Author.Tests.{eq-eqb, ne_eqb, eqb-true, eqb-false}
use Rattle.formats.specs.Formats.{ReadAnswer, reading, wrote, Format, with_zero, checked, from_numbers, read_bytes, to_bytes, write_bytes}
use Rattle.formats.specs.Numbers.{Bytes, pack}
use Rattle.formats.proofs.Packed.{Fit}
use Rattle.tally.specs.Refusal.{number_of}
use Rattle.tally.specs.declared.Refusal.TheVariants.{Length}
use Rattle.formats.proofs.RoundTrips.{LawfulFormat, from_numbers_lem, numbers_back, read_numbers, read_written, written_read, refused_number}
use Rattle.formats.proofs.Steps.{was_read}
use Rattle.formats.specs.Logs.{log_format}
use Rattle.formats.specs.Messages.{message_format, cleared}
use Rattle.formats.proofs.LogFormat as log
use Rattle.formats.proofs.MessageFormat as message
use Rattle.tally.specs.Limits.{Limits, log_fields, log_size, message_fields, message_size, Sane}
use Rattle.calls.specs.InnerFields.{narrow, head_widths}
use Rattle.calls.proofs.Narrow.{taken_narrow}
use Rattle.calls.specs.Fields.{put_numbers, put_checked, read_call, write_call, FieldTrip, read_log_call, write_log_call, read_message_call, write_message_call}

-- storing as many numbers as there are leaves these numbers
pub sets_whole : (fs vs : List ℕ) → length fs ≡ length vs → sets fs 0 vs ≡ vs
sets_whole fs vs e =
    let short : length fs ≤ 0 + length vs = omega arith in
    rw (sets-eq vs fs 0 (omega arith), drop_of_length-le fs short) (append-nil vs)

module _ {A : Type 0} (f : Format A) (law : LawfulFormat f (λ a. Unit)) where
  -- contents that were parsed are written as contents are
  pub put_checked_lem : (a : A) (kept bs : List ℕ) → length bs ≡ f.size → put_checked f (checked f (Some a)) kept ≡ write_bytes f a kept bs
  put_checked_lem a kept bs len = rw (eq-eqb (length bs) f.size len) (go (f.ok a))
    where
      go : (t : Bool) → put_checked f (cond t (reading 0 a) (reading f.malformed f.nothing)) kept ≡ cond t (wrote 0 (to_bytes f a))
          (wrote f.malformed kept)
      go true = refl
      go false = rw (ne_eqb f.malformed 0 law.refuses)

  -- of the right lengths: what is taken of the numbers is written as contents are, and where nothing is, since one does not fit its bytes or a letter is
  -- unknown, they are refused
  module _ (k : ℕ) (fs kept bs : List ℕ) (len : length fs ≡ f.fields) (size : length bs ≡ f.size) where
    written : (o : Option A) → cond (narrow true 0 (head_widths f k) fs) (f.parse fs) None ≡ o
        → write_call f fs kept bs ≡ put_checked f (checked f o) kept
    written o e =
        rw (eq-eqb (length fs) f.fields len, eq-eqb (length bs) f.size size)
        (ap (λ (r : ReadAnswer A). put_checked f r kept) (sym (taken_narrow f law fs k len) ∙ ap (checked f) e))

    pub none_written : cond (narrow true 0 (head_widths f k) fs) (f.parse fs) None ≡ None → write_call f fs kept bs ≡ wrote f.malformed kept
    none_written e = written None e ∙ rw (ne_eqb f.malformed 0 law.refuses)

    pub some_written : (a : A) → cond (narrow true 0 (head_widths f k) fs) (f.parse fs) None ≡ Some a
        → write_call f fs kept bs ≡ write_bytes f a kept bs
    some_written a e = written (Some a) e ∙ put_checked_lem a kept bs size

  -- what a read call answers where the fields' length is right
  pub read_accepted : (bs fs : List ℕ) (a : A) → length fs ≡ f.fields → read_bytes f bs ≡ reading 0 a → read_call f bs fs ≡ wrote 0 (f.numbers a)
  read_accepted bs fs a len e = rw (eq-eqb (length fs) f.fields len, e)

  pub read_refused : (bs fs : List ℕ) (k : ℕ) → length fs ≡ f.fields → read_bytes f bs ≡ reading k f.nothing → read_call f bs fs ≡ wrote k fs
  read_refused bs fs k len e = rw (eq-eqb (length fs) f.fields len, e, refused_number f (λ a. Unit) law bs k e)

  -- writing numbers that fit their bytes gives the number that reading these bytes would give
  pub same_number : (fs kept bs : List ℕ) → length fs ≡ f.fields → length bs ≡ f.size → Fit f.widths (with_zero f.zero_at fs)
      → (write_call f fs kept bs).number ≡ (read_bytes f (pack f.widths (with_zero f.zero_at fs))).number
  same_number fs kept bs len size fit =
      rw (eq-eqb (length fs) f.fields len, eq-eqb (length bs) f.size size, read_numbers f (λ a. Unit) law fs len fit)
      (go (from_numbers f fs) (eqb (from_numbers f fs).number 0) refl)
    where
      go : (r : ReadAnswer A) (t : Bool) → eqb r.number 0 ≡ t → (cond t (wrote 0 (to_bytes f r.contents)) (wrote r.number kept)).number ≡ r.number
      go r true e = sym (eqb-true r.number 0 e)
      go r false e = refl

  -- what is written is read back as the same fields, and what is read is written back to the same bytes
  pub field_trip : (kept : List ℕ → List ℕ) → FieldTrip f.fields f.size (read_call f) (λ fs bs. write_call f fs (kept bs) bs)
  field_trip kept = record { back = back; same = same }
    where
      back : (fs bs out : List ℕ) → (write_call f fs (kept bs) bs).number ≡ 0 → length out ≡ f.fields
          → read_call f (write_call f fs (kept bs) bs).out out ≡ wrote 0 fs
      back fs bs out e len = go (eqb (length fs) f.fields && eqb (length bs) f.size) refl e
        where
          r : ReadAnswer A
          r = from_numbers f fs

          go : (t : Bool) → (eqb (length fs) f.fields && eqb (length bs) f.size) ≡ t → (cond t (put_checked f r (kept bs))
              (wrote (number_of (Some Length)) (kept bs))).number ≡ 0
              → read_call f (cond t (put_checked f r (kept bs)) (wrote (number_of (Some Length)) (kept bs))).out out ≡ wrote 0 fs
          go false l e = absurd (omega arith)
          go true l e = by (eqb r.number 0) refl e
            where
              by : (t : Bool) → eqb r.number 0 ≡ t → (cond t (wrote 0 (to_bytes f r.contents)) (wrote r.number (kept bs))).number ≡ 0
                  → read_call f (cond t (wrote 0 (to_bytes f r.contents)) (wrote r.number (kept bs))).out out ≡ wrote 0 fs
              by false n e = absurd (eqb-false r.number 0 n e)
              by true n e =
                  let many = eqb-true (length fs) f.fields (and_parts (eqb (length fs) f.fields) (eqb (length bs) f.size) l).0 in
                  let g = numbers_back f (λ a. Unit) law fs r.contents many (was_read r n) in
                  rw (eq-eqb (length out) f.fields len, read_written f (λ a. Unit) law r.contents tt g.0) (ap (wrote 0) g.1)

      same : (bs fs out : List ℕ) → Bytes bs → (read_call f bs fs).number ≡ 0 → length out ≡ f.size
          → write_call f (read_call f bs fs).out (kept out) out ≡ wrote 0 bs
      same bs fs out b e len = go (eqb (length fs) f.fields) e
        where
          r : ReadAnswer A
          r = read_bytes f bs

          go : (t : Bool) → (cond t (put_numbers f r fs) (wrote (number_of (Some Length)) fs)).number ≡ 0
              → write_call f (cond t (put_numbers f r fs) (wrote (number_of (Some Length)) fs)).out (kept out) out ≡ wrote 0 bs
          go false e = absurd (omega arith)
          go true e = by (eqb r.number 0) refl e
            where
              by : (t : Bool) → eqb r.number 0 ≡ t → (cond t (wrote 0 (f.numbers r.contents)) (wrote r.number fs)).number ≡ 0
                  → write_call f (cond t (wrote 0 (f.numbers r.contents)) (wrote r.number fs)).out (kept out) out ≡ wrote 0 bs
              by false n e = absurd (eqb-false r.number 0 n e)
              by true n e =
                  let g = written_read f (λ a. Unit) law bs r.contents b (was_read r n) in
                  rw (
                    eq-eqb (length (f.numbers r.contents)) f.fields (law.each r.contents tt),
                    eq-eqb (length out) f.size len,
                    from_numbers_lem f (λ a. Unit) law r.contents tt g.0,
                  )
                  (ap (wrote 0) g.1)

-- of the four calls
module _ (l : Limits) (sane : Sane l) where
  pub log_fields_lem : FieldTrip log_fields (log_size l) (read_log_call l) (write_log_call l)
  unfolding read_log_call write_log_call
  log_fields_lem = field_trip (log_format l) (log.lawful l sane) (λ bs. bs)

  pub message_fields_lem : FieldTrip message_fields (message_size l) (read_message_call l) (write_message_call l)
  unfolding read_message_call write_message_call
  message_fields_lem = field_trip (message_format l) (message.lawful l sane) (cleared l)
