-- What the code of the four calls meets on its way: what is refused, and what is stored. Assumes nothing.
use Rattle.std.specs.Prelude.{Option, Some, None, Result, Ok, Err}
use Rattle.std.specs.Result.{IsErrAnd, result_err}
use Rattle.std.proofs.lemmas.Bool.{or_parts}
use Rattle.std.proofs.lemmas.Map.Entries.{option_filter}
use Prim.Native.Nat.{ℕ, ◌<◌, ◌^◌}
use mathlib.Core.Path.{◌≡◌, refl, sym, ap, ◌∙◌}
use mathlib.Core.Bool.{Bool, true, false, not, cond, ◌||◌}
use mathlib.Core.List.{List}
use native.Mathlib.Omega.{arith}
use lib.ListN.{length}
use lib.Dec.{eqb}
use borrow.Author.Tests.{eqb-true, eq-eqb, lt-ltb, not-false}
use Rattle.contents.specs.Messages.{message_ok, empty_message}
use Rattle.tally.specs.Limits.{Limits, Sane, log_size, image_size, message_size}
use Rattle.tally.specs.Refusal.{number_of}
use Rattle.tally.specs.declared.Refusal.{Refusal}
use Rattle.tally.proofs.Bounds.{entry_fits, units_fit, everyone_fits}
use Rattle.tally.proofs.Never.{never}
use Rattle.tally.proofs.Refusals.{refusal_number}
use Rattle.contents.specs.Logs.{numbers_ok, settings_ok}
use Rattle.contents.specs.declared.Image.{Image}
use Rattle.contents.specs.declared.Log.{Log}
use Rattle.contents.specs.declared.Message.{Message}
use Rattle.contents.specs.declared.Settings.{Settings}
use Rattle.contents.proofs.Facts.{numbers_facts}
use Rattle.formats.specs.Codes.{engine_of}
use Rattle.formats.specs.Formats.{ReadAnswer, reading, Format, numbers_in, zero_byte, checked, read_bytes}
use Rattle.formats.specs.Images.{image_format, image_bytes}
use Rattle.formats.specs.Logs.{log_format, no_log, read_log}
use Rattle.formats.specs.Messages.{message_format, read_message}
use Rattle.formats.specs.InnerFormats.{stored}
use Rattle.formats.proofs.Letters.{letter_engine, letter_fits}
use Rattle.formats.proofs.LogFormat as log
use Rattle.formats.proofs.MessageFormat as message
use Rattle.formats.proofs.RoundTrips.{refused_number, read_fields}
use Rattle.formats.proofs.Steps.{stored_contents}
use Rattle.calls.specs.Calls.{wrong_length, unit_lengths, bad_log, bad_settings, settings_for, bad_message, log_bytes}
use Rattle.calls.specs.InnerCalls.{settings_narrow, settings_known, settings_from}
use Rattle.tally.specs.declared.Engine.{Engine}

-- a refusal that `?` passes on is the refusal of the result
pub passed_on : {T : Type 0} (r : Result T Refusal) (k : Refusal) → IsErrAnd r (λ x. x ≡ k) → result_err r ≡ Some k
passed_on (Ok t) k h = absurd h
passed_on (Err x) k h = ap Some h

-- ---- the settings of a start

module _ (engine n unit entry : ℕ) where
  -- a number that is too large is out of its range, or no engine's letter
  pub settings_too_large : settings_narrow engine n unit entry ≡ false → bad_settings (engine_of engine) n unit entry ≡ true
  unfolding settings_narrow bad_settings
  settings_too_large h = go (engine_of engine) refl
    where
      go : (o : Option Engine) → engine_of engine ≡ o → bad_settings o n unit entry ≡ true
      go None e = refl
      go (Some g) e = by (numbers_ok n unit entry) refl
        where
          by : (b : Bool) → numbers_ok n unit entry ≡ b → not b ≡ true
          by false ok = refl
          by true ok =
              let f = numbers_facts n unit entry ok in
              let letter : engine < 256 ^ 1 = rw (← letter_engine engine g e) (letter_fits g) in
              sym h
              ∙ rw (
                lt-ltb engine (256 ^ 1) letter,
                lt-ltb n (256 ^ 1) (omega (arith, f.n_high, units_fit, everyone_fits)),
                lt-ltb unit (256 ^ 1) (omega (arith, f.below, f.n_high, units_fit, everyone_fits)),
                lt-ltb entry (256 ^ 2) (omega (arith, f.entry_high, entry_fits)),
              )

  -- settings of numbers that fit their types are taken where they are in range
  pub settings_taken : option_filter settings_ok (cond (settings_narrow engine n unit entry) (settings_known (engine_of engine) n unit entry) None)
      ≡ settings_from engine n unit entry
  unfolding settings_known bad_settings
  settings_taken = go (settings_narrow engine n unit entry) refl
    where
      by : (o : Option Engine) → option_filter settings_ok (settings_known o n unit entry)
          ≡ cond (bad_settings o n unit entry) None (Some (settings_for o n unit entry))
      by None = refl
      by (Some g) = flip (numbers_ok n unit entry)
        where
          flip : (t : Bool) → cond t (Some (settings_for (Some g) n unit entry)) None ≡ cond (not t) None (Some (settings_for (Some g) n unit entry))
          flip true = refl
          flip false = refl

      go : (t : Bool) → settings_narrow engine n unit entry ≡ t
          → option_filter settings_ok (cond t (settings_known (engine_of engine) n unit entry) None) ≡ settings_from engine n unit entry
      go true e = by (engine_of engine)
      go false e = rw (settings_too_large e)

-- where settings are read they are good, and else they are out of range
module _ (engine n unit entry : ℕ) where
  pub settings_bad : settings_from engine n unit entry ≡ None → bad_settings (engine_of engine) n unit entry ≡ true
  settings_bad = go (bad_settings (engine_of engine) n unit entry) refl
    where
      go : (t : Bool) → bad_settings (engine_of engine) n unit entry ≡ t
          → ◌≡◌ {A = Option Settings} (cond t None (Some (settings_for (engine_of engine) n unit entry))) None
          → bad_settings (engine_of engine) n unit entry ≡ true
      go true e h = e
      go false e h = never cc

  pub settings_good : (s : Settings) → settings_from engine n unit entry ≡ Some s
      → (bad_settings (engine_of engine) n unit entry ≡ false) × (settings_for (engine_of engine) n unit entry ≡ s)
  settings_good s = go (bad_settings (engine_of engine) n unit entry) refl
    where
      go : (t : Bool) → bad_settings (engine_of engine) n unit entry ≡ t
          → ◌≡◌ {A = Option Settings} (cond t None (Some (settings_for (engine_of engine) n unit entry))) (Some s)
          → (bad_settings (engine_of engine) n unit entry ≡ false) × (settings_for (engine_of engine) n unit entry ≡ s)
      go true e h = never cc
      go false e h = (e, cc)

-- ---- what is read

-- bytes of the right length that are not read are malformed
module _ {A : Type 0} (f : Format A) (bs : List ℕ) (size : length bs ≡ f.size) (k : Refusal)
    (e : reading (number_of (Some k)) f.nothing ≡ read_bytes f bs) where
  as_malformed : number_of (Some k) ≡ f.malformed
  as_malformed =
      let same = rw (eq-eqb (length bs) f.size size) at e in
      go (eqb (zero_byte f bs) 0) (f.parse (numbers_in f bs)) (ap (λ (r : ReadAnswer A). r.number) same)
    where
      by : (a : A) (t : Bool) → number_of (Some k) ≡ (cond t (reading 0 a) (reading f.malformed f.nothing)).number → number_of (Some k) ≡ f.malformed
      by a true h = never (sym (refusal_number k) ∙ rw h)
      by a false h = h

      go : (t : Bool) (o : Option A) → number_of (Some k) ≡ (cond t (checked f o) (reading f.malformed f.nothing)).number
          → number_of (Some k) ≡ f.malformed
      go false o h = h
      go true None h = h
      go true (Some a) h = by a (f.ok a) h

module _ (l : Limits) (sane : Sane l) (bs : List ℕ) where
  pub log_bad : (k : Option Refusal) → reading (number_of k) no_log ≡ read_log l bs → bad_log l bs ≡ true
  unfolding bad_log read_log
  log_bad k e = rw (← e, refused_number (log_format l) (λ r. Unit) (log.lawful l sane) bs (number_of k) (sym e))

  -- .. of the right length: the number is that of a malformed log
  pub log_refused : (k : Refusal) → length bs ≡ log_size l → reading (number_of (Some k)) no_log ≡ read_log l bs
      → (bad_log l bs ≡ true) × (number_of (Some k) ≡ number_of (Some Refusal.Log))
  unfolding read_log
  log_refused k size e = (log_bad (Some k) e, as_malformed (log_format l) bs size k e)

  pub message_bad : (k : Option Refusal) → reading (number_of k) empty_message ≡ read_message l bs → bad_message l bs ≡ true
  unfolding bad_message read_message
  message_bad k e = rw (← e, refused_number (message_format l) (λ m. Unit) (message.lawful l sane) bs (number_of k) (sym e))

  pub message_refused : (k : Refusal) → length bs ≡ message_size l → reading (number_of (Some k)) empty_message ≡ read_message l bs
      → (bad_message l bs ≡ true) × (number_of (Some k) ≡ number_of (Some Refusal.Message))
  unfolding read_message
  message_refused k size e = (message_bad (Some k) e, as_malformed (message_format l) bs size k e)

  -- a message that was read is well formed
  pub message_ok_lem : (m : Message) → reading 0 m ≡ read_message l bs → message_ok l m ≡ true
  unfolding read_message
  message_ok_lem m e = (read_fields (message_format l) (λ m. Unit) (message.lawful l sane) bs m (sym e)).0

module _ (l : Limits) where
  -- ---- lengths

  size : (bs : List ℕ) (k : ℕ) → wrong_length bs k ≡ false → length bs ≡ k
  size bs k e = eqb-true (length bs) k (not-false _ e)

  pub unit_sizes : (log image : List ℕ) → unit_lengths l log image ≡ false → (length log ≡ log_size l) × (length image ≡ image_size l)
  unfolding unit_lengths
  unit_sizes log image e =
      let h = or_parts (wrong_length log (log_size l)) _ e in (size log (log_size l) h.0, size image (image_size l) h.1)

  -- the output buffer is the last that is looked at
  pub out_size : (others : Bool) (out : List ℕ) → (others || wrong_length out (message_size l)) ≡ false → length out ≡ message_size l
  out_size others out e = size out (message_size l) (or_parts others _ e).1

  -- ---- what is stored

  pub log_stored : (r : Log) (bs : List ℕ) → length bs ≡ log_size l → stored (log_format l) r bs ≡ log_bytes l r
  unfolding log_bytes
  log_stored r bs e = stored_contents (log_format l) bs r e

  pub image_stored : (i : Image) (bs : List ℕ) → length bs ≡ image_size l → stored (image_format l) i bs ≡ image_bytes l i
  unfolding image_bytes
  image_stored i bs e = stored_contents (image_format l) bs i e
