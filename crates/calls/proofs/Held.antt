-- What the bytes of a log and of an image that fits it hold. Assumes nothing.
use Rattle.std.specs.Prelude.{Option, Some, None, Err}
use Rattle.std.specs.Option.{ok_or}
use Rattle.std.proofs.lemmas.Bool.{and_parts}
use Prim.Native.Nat.{ℕ}
use mathlib.Core.Path.{◌≡◌, refl, sym, ap, ◌∙◌}
use mathlib.Core.Bool.{Bool, true, false, ◌&&◌}
use mathlib.Core.List.{List, ◌∷◌}
use lib.Dec.{eqb}
use lib.ListN.{length}
use borrow.Author.Tests.{eq-eqb}
use Rattle.tally.specs.Limits.{today, log_size, message_size, blank_code}
use Rattle.tally.specs.Refusal.{number_of}
use Rattle.tally.specs.declared.Refusal.{Refusal}
use Rattle.tally.proofs.Bounds.{sane_today}
use Rattle.tally.proofs.Never.{never}
use Rattle.contents.specs.Images.{image_ok, fits}
use Rattle.contents.specs.Logs.{log_ok}
use Rattle.contents.specs.Messages.{message_ok}
use Rattle.contents.specs.declared.Image.{Image}
use Rattle.contents.specs.declared.Log.{Log}
use Rattle.contents.specs.declared.Message.{Message}
use Rattle.contents.specs.declared.Settings.{Settings}
use Rattle.contents.specs.declared.State.{State}
use Rattle.contents.proofs.Same.{same_settings_lem}
use Rattle.formats.specs.Formats.{reading, to_bytes}
use Rattle.formats.specs.Images.{TypedImage, image_format, image_bytes, read_image}
use Rattle.formats.specs.InnerImages.{fit_state, checks_at, seconds_at, tally_from}
use Rattle.formats.specs.Logs.{log_format, no_log, read_log}
use Rattle.formats.specs.Messages.{message_format, read_message, empty_bytes, cleared}
use Rattle.formats.specs.Numbers.{Bytes}
use Rattle.formats.proofs.ImageFormat as images
use Rattle.formats.proofs.LogFormat as logs
use Rattle.formats.proofs.MessageFormat as messages
use Rattle.formats.proofs.Places.{fit_none, fit_some, checks_read, seconds_read}
use Rattle.formats.proofs.RoundTrips.{written_read}
use Rattle.formats.proofs.Steps.{was_read}
use Rattle.consensus.specs.Conditions.{Condition, condition, first_refusal}
use Rattle.consensus.specs.Methods.{propose, deliver}
use Rattle.consensus.specs.Units.{WellFormed, unit_log, unit_image, up_unit}
use Rattle.consensus.specs.declared.Power.TheVariants.{Up}
use Rattle.consensus.specs.declared.Unit as U
use Rattle.calls.specs.Calls.{CallAnswer, called, answered, unless_refused, bad_log, bad_image, log_bytes, unit_of, propose_call, deliver_call}
use Rattle.calls.proofs.Entries.{log_refused}
use Rattle.calls.proofs.Encoded.{propose_encoded, deliver_encoded}

-- an image that fits has the log's settings, and so is the image of the unit
pub fit_image : (i : Image) (r : Log) → fits i r ≡ true → unit_image (up_unit r i) ≡ i
unfolding fits
fit_image i r h =
    ap (λ (x : Settings). record { settings = x; state = i.state; checks = i.checks; seconds = i.seconds })
    (sym (same_settings_lem i.settings r.settings (and_parts _ _ h).0))

-- and well formed where log and image are
pub fit_well_formed : (i : Image) (r : Log) → log_ok today r ≡ true → image_ok today i ≡ true → TypedImage i → fits i r ≡ true
    → WellFormed today (up_unit r i)
fit_well_formed i r log image typed fit =
    let same = fit_image i r fit in
    record { log = log; image = ap (image_ok today) same ∙ image; fit = ap (λ (x : Image). fits x r) same ∙ fit; checks = typed.0; seconds = typed.1 }

-- what was read is well formed, and has these bytes
log_back : (log : List ℕ) (r : Log) → Bytes log → read_log today log ≡ reading 0 r → (log_ok today r ≡ true) × (log_bytes today r ≡ log)
unfolding read_log log_bytes
log_back log r b e = written_read (log_format today) (λ r. Unit) (logs.lawful today sane_today) log r b e

image_back : (image : List ℕ) (i : Image) → Bytes image → read_image today image ≡ reading 0 i
    → (image_ok today i ≡ true) × (image_bytes today i ≡ image)
unfolding read_image image_bytes
image_back image i b e = written_read (image_format today) TypedImage (images.lawful today sane_today) image i b e

message_back : (bs : List ℕ) (m : Message) → Bytes bs → read_message today bs ≡ reading 0 m
    → (message_ok today m ≡ true) × (to_bytes (message_format today) m ≡ bs)
unfolding read_message
message_back bs m b e = written_read (message_format today) (λ m. Unit) (messages.lawful today sane_today) bs m b e

-- a buffer that was cleared is an empty message
pub cleared_empty : (out out2 : List ℕ) → out2 ≡ cleared today out → length out ≡ message_size today → out2 ≡ empty_bytes today
unfolding cleared
cleared_empty out out2 e n = e ∙ rw (eq-eqb (length out) (message_size today) n)

pub log_good : (log : List ℕ) (r : Log) → reading 0 r ≡ read_log today log → bad_log today log ≡ false
unfolding bad_log
log_good log r read = rw (← read)

-- bytes that hold a well-formed up unit
pub record Held (log image : List ℕ) (u : U.Unit) : Type 0 where
  pub well_formed : WellFormed today u
  pub up : u.power ≡ Up
  pub log_bytes_lem : log ≡ log_bytes today (unit_log u)
  pub image_bytes_lem : image ≡ image_bytes today (unit_image u)

-- a log that was read
module _ (log image : List ℕ) (r : Log) (read : reading 0 r ≡ read_log today log) where
  abbrev test : Bool
  test = eqb (read_image today image).number 0 && fits (read_image today image).contents r

  -- an image that does not fit it
  pub image_bad : fit_state (read_image today image) r ≡ None → bad_image today log image ≡ true
  unfolding bad_image
  image_bad h = rw (← read, fit_none (read_image today image) r h)

  -- an image that does
  module _ (s : State) (fit : fit_state (read_image today image) r ≡ Some s) where
    tested : (test ≡ true) × ((read_image today image).contents.state ≡ s)
    tested = fit_some (read_image today image) r s fit

    pub image_good : bad_image today log image ≡ false
    unfolding bad_image
    image_good = rw (← read, tested.0)

    module _ (b : Bytes image) where
      i : Image
      i = (read_image today image).contents

      there : (eqb (read_image today image).number 0 ≡ true) × (fits i r ≡ true)
      unfolding i
      there = and_parts (eqb (read_image today image).number 0) (fits i r) tested.0

      back : (image_ok today i ≡ true) × (image_bytes today i ≡ image)
      unfolding i
      back = image_back image i b (was_read (read_image today image) there.0)

      typed : TypedImage i
      unfolding i
      typed = images.read_typed today sane_today image i b (was_read (read_image today image) there.0)

      -- the unit that is made of what was read is the one that the bytes hold
      pub unit_read : up_unit r (record { settings = r.settings; state = s; checks = tally_from checks_at image; seconds = tally_from seconds_at image })
          ≡ unit_of today log image
      unfolding i
      unit_read =
          rw (
            ← read,
            tested.1,
            ap (tally_from checks_at) (sym back.1) ∙ checks_read i typed back.0,
            ap (tally_from seconds_at) (sym back.1) ∙ seconds_read i typed back.0,
          )

      pub held : Bytes log → Held log image (unit_of today log image)
      unfolding i
      held lb =
          rw (← read)
          (record {
            well_formed = fit_well_formed i r (log_back log r lb (sym read)).0 back.0 typed there.1;
            up = refl;
            log_bytes_lem = sym (log_back log r lb (sym read)).1;
            image_bytes_lem = sym (ap (image_bytes today) (fit_image i r there.1) ∙ back.1);
          })

-- ---- what is not read is refused, after the lengths

none_err : {A : Type 0} (o : Option A) (why k : Refusal) → ok_or o why ≡ Err k → (o ≡ None) × (why ≡ k)
none_err None why k e = (refl, cc)
none_err (Some a) why k e = never cc

module _ {log image out2 : List ℕ} {wrong : Bool} (out : List ℕ) (late : List Condition) (ok : CallAnswer)
    (right : wrong ≡ false) (clear : out2 ≡ cleared today out) where
  pub log_unread : (k : Refusal) → length log ≡ log_size today → reading (number_of (Some k)) no_log ≡ read_log today log
      → called (number_of (Some k)) log image out2 blank_code
      ≡ unless_refused today (condition Refusal.Length wrong ∷ condition Refusal.Log (bad_log today log) ∷ late) log image out ok
  unfolding first_refusal
  log_unread k size e = let r = log_refused today sane_today log k size e in rw (right, r.0, r.1, clear) refl

  pub image_unread : (r : Log) → reading 0 r ≡ read_log today log → (k : Refusal) → ok_or (fit_state (read_image today image) r) Refusal.Image ≡ Err k
      → called (number_of (Some k)) log image out2 blank_code
      ≡ unless_refused today
      (condition Refusal.Length wrong ∷ condition Refusal.Log (bad_log today log) ∷ condition Refusal.Image (bad_image today log image) ∷ late)
      log image out ok
  unfolding first_refusal
  image_unread r read k e =
      let none = none_err _ _ _ e in
      rw (← none.1, right, log_good log r read, image_bad log image r read none.0, clear) refl

-- ---- the calls of a unit that is held are its methods, as bytes

module _ (log image : List ℕ) (u : U.Unit) (h : Held log image u) (out : List ℕ) (size : length out ≡ message_size today) where
  pub propose_held : (v : ℕ) → answered today (propose today u v) ≡ propose_call today log image v out
  propose_held v = rw (h.log_bytes_lem, h.image_bytes_lem) (sym (propose_encoded today sane_today u h.well_formed h.up v out size))

  pub deliver_held : (message : List ℕ) (m : Message) → Bytes message → reading 0 m ≡ read_message today message
      → answered today (deliver today u m) ≡ deliver_call today log image message out
  deliver_held message m b e =
      let back = message_back message m b (sym e) in
      rw (h.log_bytes_lem, h.image_bytes_lem, ← back.1) (sym (deliver_encoded today sane_today u h.well_formed h.up m out back.0 size))
