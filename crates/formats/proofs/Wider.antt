-- Reading and writing at a greater mileage bound: what was accepted is read and written the same. Assumes nothing.
use Rattle.std.specs.Prelude.{Option, Some, None}
use Prim.Native.Nat.{ℕ, ◌≤◌}
use mathlib.Core.Path.{◌≡◌, refl}
use mathlib.Core.Bool.{Bool, true, false, cond}
use mathlib.Core.List.{List}
use native.Mathlib.Omega.{arith}
use lib.Dec.{eqb}
use lib.ListN.{length}
use Rattle.tally.specs.Limits.{Limits, with_max_mileage}
use Rattle.tally.specs.Refusal.{number_of}
use Rattle.tally.specs.declared.Refusal.TheVariants.{Length}
use Rattle.tally.proofs.Bounds.{wider}
use Rattle.contents.specs.Images.{image_ok}
use Rattle.contents.specs.Logs.{log_ok}
use Rattle.contents.specs.Messages.{message_ok}
use Rattle.contents.specs.declared.Log.{Log}
use Rattle.contents.specs.declared.Message.{Message}
use Rattle.contents.proofs.Wider.{log_wider, image_wider, message_wider}
use Rattle.formats.specs.Formats.{ReadAnswer, reading, WriteAnswer, wrote, Format, numbers_in, zero_byte, checked, from_numbers, read_bytes, to_bytes}
use Rattle.formats.specs.Formats.{write_bytes}
use Rattle.formats.specs.Images.{image_format, read_image}
use Rattle.formats.specs.Logs.{log_format, read_log, write_log}
use Rattle.formats.specs.Messages.{message_format, read_message, cleared, write_message}

-- the format f with another test of its contents
abbrev pub with_ok : {A : Type 0} → Format A → (A → Bool) → Format A
with_ok f ok =
    record {
      size = f.size;
      widths = f.widths;
      zero_at = f.zero_at;
      fields = f.fields;
      numbers = f.numbers;
      parse = f.parse;
      ok = ok;
      malformed = f.malformed;
      nothing = f.nothing;
    }

-- the test ok takes what the format f takes, and more; f refuses with a number
pub record TakesMore {A : Type 0} (f : Format A) (ok : A → Bool) : Type 0 where
  pub more : (a : A) → f.ok a ≡ true → ok a ≡ true
  pub malformed : f.malformed ≡ 0 → ⊥

module _ {A : Type 0} {f : Format A} {ok : A → Bool} (t : TakesMore f ok) where
  pub checked_wider : (o : Option A) → (checked f o).number ≡ 0 → checked (with_ok f ok) o ≡ checked f o
  checked_wider None h = absurd (t.malformed h)
  checked_wider (Some a) h = go (f.ok a) refl h
    where
      go : (b : Bool) → f.ok a ≡ b → (cond b (reading 0 a) (reading f.malformed f.nothing)).number ≡ 0
          → cond (ok a) (reading 0 a) (reading f.malformed f.nothing) ≡ cond b (reading 0 a) (reading f.malformed f.nothing)
      go true e h = rw (t.more a e)
      go false e h = absurd (t.malformed h)

  pub read_wider : (bs : List ℕ) → (read_bytes f bs).number ≡ 0 → read_bytes (with_ok f ok) bs ≡ read_bytes f bs
  read_wider bs = go (eqb (length bs) f.size) (eqb (zero_byte f bs) 0)
    where
      no : ReadAnswer A
      no = reading f.malformed f.nothing

      short : ReadAnswer A
      short = reading (number_of (Some Length)) f.nothing

      go : (s z : Bool) → (cond s (cond z (from_numbers f (numbers_in f bs)) no) short).number ≡ 0
          → cond s (cond z (from_numbers (with_ok f ok) (numbers_in f bs)) no) short ≡ cond s (cond z (from_numbers f (numbers_in f bs)) no) short
      go true true h = checked_wider (f.parse (numbers_in f bs)) h
      go true false h = absurd (t.malformed h)
      go false z h = absurd (omega (arith, h))

  pub write_wider : (a : A) (left bs : List ℕ) → (write_bytes f a left bs).number ≡ 0 → write_bytes (with_ok f ok) a left bs ≡ write_bytes f a left bs
  write_wider a left bs = go (eqb (length bs) f.size) (f.ok a) refl
    where
      to : Bool → Bool → WriteAnswer
      to s b = cond s (cond b (wrote 0 (to_bytes f a)) (wrote f.malformed left)) (wrote (number_of (Some Length)) left)

      go : (s b : Bool) → f.ok a ≡ b → (to s b).number ≡ 0 → to s (ok a) ≡ to s b
      go true true e h = rw (t.more a e)
      go true false e h = absurd (t.malformed h)
      go false b e h = refl

-- ---- the three formats

module _ (l : Limits) (k : ℕ) (more : l.max_mileage ≤ k) where
  pub log_takes : TakesMore (log_format l) (log_ok (with_max_mileage k l))
  log_takes = record { more = log_wider l (with_max_mileage k l) (wider l k more); malformed = λ e. omega (arith, e) }

  pub image_takes : TakesMore (image_format l) (image_ok (with_max_mileage k l))
  image_takes = record { more = image_wider l (with_max_mileage k l) (wider l k more); malformed = λ e. omega (arith, e) }

  pub message_takes : TakesMore (message_format l) (message_ok (with_max_mileage k l))
  message_takes = record { more = message_wider l (with_max_mileage k l) (wider l k more); malformed = λ e. omega (arith, e) }

  -- reading and writing of bytes
  pub read_log_wider : (bs : List ℕ) → (read_log l bs).number ≡ 0 → read_log (with_max_mileage k l) bs ≡ read_log l bs
  unfolding read_log
  read_log_wider = read_wider log_takes

  pub write_log_wider : (r : Log) (bs : List ℕ) → (write_log l r bs).number ≡ 0 → write_log (with_max_mileage k l) r bs ≡ write_log l r bs
  unfolding write_log
  write_log_wider r bs = write_wider log_takes r bs bs

  pub read_image_wider : (bs : List ℕ) → (read_image l bs).number ≡ 0 → read_image (with_max_mileage k l) bs ≡ read_image l bs
  unfolding read_image
  read_image_wider = read_wider image_takes

  pub read_message_wider : (bs : List ℕ) → (read_message l bs).number ≡ 0 → read_message (with_max_mileage k l) bs ≡ read_message l bs
  unfolding read_message
  read_message_wider = read_wider message_takes

  pub write_message_wider : (m : Message) (bs : List ℕ) → (write_message l m bs).number ≡ 0
      → write_message (with_max_mileage k l) m bs ≡ write_message l m bs
  unfolding write_message cleared
  write_message_wider m bs = write_wider message_takes m (cleared l bs) bs
