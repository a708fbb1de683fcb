-- Logs and messages between plain numbers and bytes: what the four calls of fields answer. Assumes nothing.
use Rattle.std.specs.Prelude.{ℕ, cond, ◌&&◌, List, ◌≡◌, eqb, length, Some}
use Rattle.tally.specs.Limits.{Limits}
use Rattle.tally.specs.Refusal.{number_of}
use Rattle.tally.specs.declared.Refusal.TheVariants.{Length}
use Rattle.formats.specs.Formats.{ReadAnswer, WriteAnswer, wrote, Format, from_numbers, read_bytes, to_bytes}
use Rattle.formats.specs.Logs.{log_format}
use Rattle.formats.specs.Messages.{message_format, cleared}
use Rattle.formats.specs.Numbers.{Bytes}

-- the numbers of what was read, or the fields as they were
abbrev pub put_numbers : {A : Type 0} → Format A → ReadAnswer A → List ℕ → WriteAnswer
put_numbers f r fs = cond (eqb r.number 0) (wrote 0 (f.numbers r.contents)) (wrote r.number fs)

-- the bytes of what was read, or what is left after a refusal
abbrev pub put_checked : {A : Type 0} → Format A → ReadAnswer A → List ℕ → WriteAnswer
put_checked f r left = cond (eqb r.number 0) (wrote 0 (to_bytes f r.contents)) (wrote r.number left)

-- reading bytes into fields: 1 where a length is wrong
abbrev pub read_call : {A : Type 0} → Format A → List ℕ → List ℕ → WriteAnswer
read_call f bs fs = cond (eqb (length fs) f.fields) (put_numbers f (read_bytes f bs) fs) (wrote (number_of (Some Length)) fs)

-- writing fields as bytes: 1 where a length is wrong
abbrev pub write_call : {A : Type 0} → Format A → List ℕ → List ℕ → List ℕ → WriteAnswer
write_call f fs left bs =
    cond (eqb (length fs) f.fields && eqb (length bs) f.size) (put_checked f (from_numbers f fs) left) (wrote (number_of (Some Length)) left)

unfoldable pub read_log_call : Limits → List ℕ → List ℕ → WriteAnswer
read_log_call l bs fs = read_call (log_format l) bs fs

-- a refused log write leaves every byte
unfoldable pub write_log_call : Limits → List ℕ → List ℕ → WriteAnswer
write_log_call l fs bs = write_call (log_format l) fs bs bs

unfoldable pub read_message_call : Limits → List ℕ → List ℕ → WriteAnswer
read_message_call l bs fs = read_call (message_format l) bs fs

-- a refused message write leaves an empty message in a buffer of its length
unfoldable pub write_message_call : Limits → List ℕ → List ℕ → WriteAnswer
write_message_call l fs bs = write_call (message_format l) fs (cleared l bs) bs

-- reading into fields and writing of them undo each other
pub record FieldTrip (fields size : ℕ) (read write : List ℕ → List ℕ → WriteAnswer) : Type 0 where
  -- what is written is read back as the same fields
  pub back : (fs bs out : List ℕ) → (write fs bs).number ≡ 0 → length out ≡ fields → read (write fs bs).out out ≡ wrote 0 fs
  -- whatever is read is written back to the same bytes
  pub same : (bs fs out : List ℕ) → Bytes bs → (read bs fs).number ≡ 0 → length out ≡ size → write (read bs fs).out out ≡ wrote 0 bs
