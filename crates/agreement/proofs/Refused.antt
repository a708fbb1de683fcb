-- A refused call of any entry, whatever its buffers, leaves every unit's bytes as they were. Assumes nothing.
use Prim.Native.Nat.{ℕ, ◌<◌}
use mathlib.Core.Path.{◌≡◌, refl, ap, ◌∙◌}
use mathlib.Core.Bool.{Bool, true, false, cond, ◌&&◌}
use mathlib.Core.List.{List, [], ◌∷◌}
use mathlib.Core.Logic.{◌⊎◌, inl, inr}
use native.Mathlib.Omega.{arith}
use lib.Dec.{eqb}
use lib.ListN.{length}
use borrow.Author.Tests.{ne_eqb}
use Rattle.tally.specs.Limits.{Limits, Sane, message_size}
use Rattle.tally.proofs.Count.{Each, each_map}
use Rattle.formats.specs.Formats.{wrote, Format, from_numbers, read_bytes, to_bytes}
use Rattle.formats.specs.Images.{image_bytes}
use Rattle.formats.specs.Logs.{log_format}
use Rattle.formats.specs.Messages.{message_format, cleared}
use Rattle.consensus.specs.Conditions.{Condition}
use Rattle.consensus.specs.Units.{unit_log, unit_image}
use Rattle.consensus.specs.declared.Power.{Power}
use Rattle.consensus.specs.declared.Power.TheVariants.{Down, Up}
use Rattle.calls.specs.Calls.{CallAnswer, Refusing, log_bytes}
use Rattle.calls.specs.Fields.{read_call, write_call, read_log_call, write_log_call, read_message_call, write_message_call}
use Rattle.calls.proofs.Encoded.{read_log_lem, read_image_lem}
use Rattle.calls.proofs.Refusals.{start_refusing, key_on_refusing, propose_refusing, deliver_refusing}
use Rattle.agreement.specs.Bytes.{ByteWorld, Lent, lent_log, lent_image, other, Call, starts, keys_on, proposes, delivers, reads_log, reads_message, writes_log}
use Rattle.agreement.specs.Bytes.{writes_message, lent_bytes, bytes_or, image_left, Exit, run_call, ended, leave, leave_all}
use Rattle.agreement.specs.Contents.{ContentsWorld}
use Rattle.agreement.specs.Encoded.{unit_bytes_at, Encodes}
use Rattle.agreement.proofs.Encoding.{Valid, encodes_same}

-- a buffer at exit holds what it held, or that cleared
abbrev ExitStays : Limits → ByteWorld → Exit → Type 0
ExitStays l b x = (x.bytes ≡ lent_bytes b x.lent) ⊎ (x.bytes ≡ cleared l (lent_bytes b x.lent))

-- of reading and writing fields: where an answer is refused, `kept` stands in the buffer
kept_out : (a c : Bool) (done kept : List ℕ) (j k : ℕ) → ((cond a (cond c (wrote 0 done) (wrote j kept)) (wrote k kept)).number ≡ 0 → ⊥)
    → (cond a (cond c (wrote 0 done) (wrote j kept)) (wrote k kept)).out ≡ kept
kept_out true true done kept j k n = absurd (n refl)
kept_out true false done kept j k n = refl
kept_out false c done kept j k n = refl

module _ {A : Type 0} (f : Format A) where
  read_kept : (bs fs : List ℕ) → ((read_call f bs fs).number ≡ 0 → ⊥) → (read_call f bs fs).out ≡ fs
  read_kept bs fs = kept_out (eqb (length fs) f.fields) (eqb (read_bytes f bs).number 0) (f.numbers (read_bytes f bs).contents) fs _ _

  write_kept : (fs kept bs : List ℕ) → ((write_call f fs kept bs).number ≡ 0 → ⊥) → (write_call f fs kept bs).out ≡ kept
  write_kept fs kept bs =
      kept_out (eqb (length fs) f.fields && eqb (length bs) f.size) (eqb (from_numbers f fs).number 0) (to_bytes f (from_numbers f fs).contents) kept _ _

module _ (l : Limits) (b : ByteWorld) where
  -- of the calls of a unit
  unit_stays : (cs : List Condition) (log image out : Lent) (c : CallAnswer) → Refusing l cs (lent_bytes b log) (lent_bytes b image) (lent_bytes b out) c
      → (c.number ≡ 0 → ⊥) → Each (ExitStays l b) (ended c log image out).exits
  unit_stays cs log image out c law n =
      let same = law.refused n in
      (inl (ap (λ (r : CallAnswer). r.log) same), (inl (ap (λ (r : CallAnswer). r.image) same), (inr (ap (λ (r : CallAnswer). r.out) same), tt)))

  call_stays : (c : Call) → ((run_call l b c).number ≡ 0 → ⊥) → Each (ExitStays l b) (run_call l b c).exits
  unfolding run_call read_log_call read_message_call write_log_call write_message_call
  call_stays (starts engine n unit entry log image) h = unit_stays _ log image (other []) _ (start_refusing l engine n unit entry _ _) h
  call_stays (keys_on log image) h = unit_stays _ log image (other []) _ (key_on_refusing l _ _) h
  call_stays (proposes log image mileage out) h = unit_stays _ log image out _ (propose_refusing l _ _ mileage _) h
  call_stays (delivers log image message out) h = unit_stays _ log image out _ (deliver_refusing l _ _ _ _) h
  call_stays (reads_log bytes fields) h = (inl (read_kept (log_format l) (lent_bytes b bytes) fields h), tt)
  call_stays (reads_message bytes fields) h = (inl (read_kept (message_format l) (lent_bytes b bytes) fields h), tt)
  call_stays (writes_log fields bytes) h = (inl (write_kept (log_format l) fields (lent_bytes b bytes) (lent_bytes b bytes) h), tt)
  call_stays (writes_message fields bytes) h = (inr (write_kept (message_format l) fields (cleared l (lent_bytes b bytes)) (lent_bytes b bytes) h), tt)

-- a buffer of another length than a message's is not cleared
cleared_other : (l : Limits) (bs : List ℕ) → (length bs ≡ message_size l → ⊥) → cleared l bs ≡ bs
unfolding cleared
cleared_other l bs n = rw (ne_eqb (length bs) (message_size l) n)

-- what is left in a unit's log or image is what it had
abbrev LentStays : Limits → ℕ → ContentsWorld → Lent → List ℕ → Type 0
LentStays l n w (lent_log u) bs = u < n → bs ≡ log_bytes l (unit_log (w.units u))
LentStays l n w (lent_image u) bs = u < n → (w.units u).power ≡ Up → bs ≡ image_bytes l (unit_image (w.units u))
LentStays l n w (other cs) bs = Unit

module _ (l : Limits) (sane : Sane l) (n : ℕ) (w : ContentsWorld) (valid : Valid l n w) where
  module _ (b : ByteWorld) (enc : Encodes l n b w) where
    pub has_log : (u : ℕ) → u < n → (b.units u).log ≡ log_bytes l (unit_log (w.units u))
    has_log u h = rw (enc.units u h) (go (w.units u).power)
      where
        go : (p : Power) → (unit_bytes_at l p (w.units u)).log ≡ log_bytes l (unit_log (w.units u))
        go Up = refl
        go Down = refl

    has_image : (u : ℕ) → u < n → (w.units u).power ≡ Up → bytes_or (b.units u).image ≡ image_bytes l (unit_image (w.units u))
    has_image u h on = rw (enc.units u h, on)

    -- a log or an image is longer than a message
    stays_kept : (lent : Lent) (bs : List ℕ) → (bs ≡ lent_bytes b lent) ⊎ (bs ≡ cleared l (lent_bytes b lent)) → LentStays l n w lent bs
    stays_kept (lent_log u) bs (inl e) = λ h. e ∙ has_log u h
    stays_kept (lent_log u) bs (inr e) =
        λ h. e ∙ ap (cleared l) (has_log u h)
        ∙ cleared_other l _ (λ q. omega (arith, (read_log_lem l sane (unit_log (w.units u)) (valid.units u h).log).1))
    stays_kept (lent_image u) bs (inl e) = λ h on. e ∙ has_image u h on
    stays_kept (lent_image u) bs (inr e) =
        λ h on. e ∙ ap (cleared l) (has_image u h on) ∙ cleared_other l _ (λ q. omega (arith, (read_image_lem l sane (w.units u) (valid.units u h)).1))
    stays_kept (other cs) bs e = tt

    encodes_leave : (lent : Lent) (bs : List ℕ) → LentStays l n w lent bs → Encodes l n (leave b lent bs) w
    encodes_leave (lent_log u) bs k = encodes_same l n b w enc u _ (λ h. rw (k h, enc.units u h) (go (w.units u).power))
      where
        go : (p : Power) → record { log = log_bytes l (unit_log (w.units u)); image = (unit_bytes_at l p (w.units u)).image }
            ≡ unit_bytes_at l p (w.units u)
        go Up = refl
        go Down = refl
    encodes_leave (lent_image u) bs k = encodes_same l n b w enc u _ (λ h. rw (enc.units u h) (go (w.units u).power (k h)))
      where
        go : (p : Power) → (p ≡ Up → bs ≡ image_bytes l (unit_image (w.units u)))
            → record { log = (unit_bytes_at l p (w.units u)).log; image = image_left (unit_bytes_at l p (w.units u)).image bs }
            ≡ unit_bytes_at l p (w.units u)
        go Up k = rw (k refl)
        go Down k = refl
    encodes_leave (other cs) bs k = enc

  encodes_all : (b : ByteWorld) → Encodes l n b w → (xs : List Exit) → Each (λ x. LentStays l n w x.lent x.bytes) xs → Encodes l n (leave_all b xs) w
  unfolding leave_all
  encodes_all b enc [] k = enc
  encodes_all b enc (x ∷ xs) k = encodes_all (leave b x.lent x.bytes) (encodes_leave b enc x.lent x.bytes k.0) xs k.1

  -- the event of a refused call
  pub on_call : (b : ByteWorld) → Encodes l n b w → (c : Call) → ((run_call l b c).number ≡ 0 → ⊥)
      → Encodes l n (leave_all b (run_call l b c).exits) w
  on_call b enc c h =
      encodes_all b enc (run_call l b c).exits
      (each_map (λ x s. stays_kept b enc x.lent x.bytes s) (run_call l b c).exits (call_stays l b c h))
