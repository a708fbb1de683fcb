-- The calls at a greater mileage bound: what was accepted keeps its answer. Assumes nothing.
use Rattle.std.specs.Prelude.{Some}
use Rattle.std.proofs.lemmas.Bool.{and_parts}
use Prim.Native.Nat.{ℕ, ◌≤◌}
use mathlib.Core.Path.{◌≡◌, refl}
use mathlib.Core.Bool.{Bool, true, false, cond, ◌&&◌}
use mathlib.Core.List.{List}
use native.Mathlib.Omega.{arith}
use lib.Dec.{eqb}
use lib.ListN.{length}
use borrow.Author.Tests.{eqb-true, not-false}
use Rattle.tally.specs.Limits.{Limits, hundred_metres, today, with_max_mileage}
use Rattle.tally.specs.Refusal.{number_of}
use Rattle.tally.specs.declared.Refusal.TheVariants.{Length}
use Rattle.contents.specs.declared.Kind.{Kind}
use Rattle.contents.specs.declared.Kind.TheVariants.{Empty, First, Check, Second, Skip}
use Rattle.contents.specs.declared.Message.{Message}
use Rattle.contents.proofs.Wider.{in_range_wider}
use Rattle.tally.proofs.Bounds.{wider}
use Rattle.formats.specs.Formats.{ReadAnswer, WriteAnswer, wrote, Format, from_numbers, read_bytes, to_bytes}
use Rattle.formats.specs.Images.{read_image, image_bytes}
use Rattle.formats.specs.Logs.{read_log}
use Rattle.formats.specs.Messages.{read_message, cleared}
use Rattle.formats.proofs.Wider.{with_ok, TakesMore, checked_wider, read_wider, log_takes, message_takes, read_log_wider, read_image_wider}
use Rattle.formats.proofs.Wider.{read_message_wider}
use Rattle.consensus.specs.Methods.{out_of_range, closes_last}
use Rattle.consensus.specs.Step.{proposed, received}
use Rattle.consensus.proofs.Given.{answer_given_too}
use Rattle.calls.specs.Calls.{CallAnswer, unit_of, unit_lengths, bad_log, bad_image, bad_message, log_bytes, message_bytes, start_call_conditions, start_call}
use Rattle.calls.specs.Calls.{key_on_call_conditions, key_on_call, propose_call_conditions, propose_call, deliver_call_conditions, deliver_call}
use Rattle.calls.specs.Fields.{put_numbers, put_checked, read_call, write_call, read_log_call, write_log_call, read_message_call, write_message_call}
use Rattle.calls.specs.Wider.{KeepsAnswers}

-- ---- logs and messages as numbers

-- what was answered with 0 was read, and gives what is made of it
put_wider : {A : Type 0} (r s : ReadAnswer A) (f : A → List ℕ) (left : List ℕ) → (r.number ≡ 0 → s ≡ r)
    → (cond (eqb r.number 0) (wrote 0 (f r.contents)) (wrote r.number left)).number ≡ 0
    → cond (eqb s.number 0) (wrote 0 (f s.contents)) (wrote s.number left) ≡ cond (eqb r.number 0) (wrote 0 (f r.contents)) (wrote r.number left)
put_wider r s f left same h = rw (same (zero (eqb r.number 0) refl h))
  where
    zero : (b : Bool) → eqb r.number 0 ≡ b → (cond b (wrote 0 (f r.contents)) (wrote r.number left)).number ≡ 0 → r.number ≡ 0
    zero true e h = eqb-true r.number 0 e
    zero false e h = h

-- 1 comes first, at each bound
length_wider : (right : Bool) (left : List ℕ) (w w' : WriteAnswer) → (w.number ≡ 0 → w' ≡ w)
    → (cond right w (wrote (number_of (Some Length)) left)).number ≡ 0
    → cond right w' (wrote (number_of (Some Length)) left) ≡ cond right w (wrote (number_of (Some Length)) left)
length_wider true left w w' same h = same h
length_wider false left w w' same h = refl

module _ {A : Type 0} {f : Format A} {ok : A → Bool} (t : TakesMore f ok) where
  read_call_wider : (bs fs : List ℕ) → (read_call f bs fs).number ≡ 0 → read_call (with_ok f ok) bs fs ≡ read_call f bs fs
  read_call_wider bs fs h =
      length_wider (eqb (length fs) f.fields) fs (put_numbers f (read_bytes f bs) fs) (put_numbers f (read_bytes (with_ok f ok) bs) fs)
      (put_wider (read_bytes f bs) (read_bytes (with_ok f ok) bs) f.numbers fs (read_wider t bs)) h

  write_call_wider : (fs left bs : List ℕ) → (write_call f fs left bs).number ≡ 0 → write_call (with_ok f ok) fs left bs ≡ write_call f fs left bs
  write_call_wider fs left bs h =
      length_wider (eqb (length fs) f.fields && eqb (length bs) f.size) left (put_checked f (from_numbers f fs) left)
      (put_checked f (from_numbers (with_ok f ok) fs) left)
      (put_wider (from_numbers f fs) (from_numbers (with_ok f ok) fs) (to_bytes f) left (checked_wider t (f.parse fs))) h

-- ---- the four calls of a unit

module _ (l : Limits) (k : ℕ) (more : l.max_mileage ≤ k) where
  abbrev l' : Limits
  l' = with_max_mileage k l

  -- bytes that are not refused are read the same
  log_same : (log : List ℕ) → bad_log l log ≡ false → read_log l' log ≡ read_log l log
  unfolding bad_log
  log_same log h = read_log_wider l k more log (eqb-true _ 0 (not-false _ h))

  pub message_same : (bs : List ℕ) → bad_message l bs ≡ false → read_message l' bs ≡ read_message l bs
  unfolding bad_message
  message_same bs h = read_message_wider l k more bs (eqb-true _ 0 (not-false _ h))

  image_same : (log image : List ℕ) → bad_image l log image ≡ false → read_image l' image ≡ read_image l image
  unfolding bad_image
  image_same log image h = read_image_wider l k more image (eqb-true _ 0 (and_parts (eqb (read_image l image).number 0) _ (not-false _ h)).0)

  pub in_range_same : (v : ℕ) → out_of_range l v ≡ false → out_of_range l' v ≡ false
  unfolding out_of_range
  in_range_same v h = rw (in_range_wider l l' (wider l k more) v (not-false _ h))

  pub bytes_same : (kind : Kind) (m : Message) → message_bytes l' kind m ≡ message_bytes l kind m
  unfolding message_bytes
  bytes_same Empty m = refl
  bytes_same First m = refl
  bytes_same Check m = refl
  bytes_same Second m = refl
  bytes_same Skip m = refl

  start_wider : (engine n unit entry : ℕ) (log image : List ℕ)
      → start_call l' engine n unit entry log image ≡ start_call l engine n unit entry log image
  unfolding start_call start_call_conditions unit_lengths log_bytes image_bytes cleared
  start_wider engine n unit entry log image = refl

  key_on_wider : (log image : List ℕ) → (key_on_call l log image).number ≡ 0 → key_on_call l' log image ≡ key_on_call l log image
  unfolding key_on_call key_on_call_conditions unit_lengths bad_log image_bytes
  key_on_wider log image h =
      answer_given_too (λ (c : CallAnswer). c.number) (key_on_call_conditions l log image) _ _ refl (key_on_call_conditions l' log image) _ _
      (λ t. rw (log_same log t.1.0) (t, refl)) h

  propose_wider : (log image : List ℕ) (mileage : ℕ) (out : List ℕ) → (propose_call l log image mileage out).number ≡ 0
      → propose_call l' log image mileage out ≡ propose_call l log image mileage out
  unfolding propose_call propose_call_conditions unit_lengths bad_log bad_image image_bytes
  propose_wider log image mileage out h =
      answer_given_too (λ (c : CallAnswer). c.number) (propose_call_conditions l log image mileage out) _ _ refl
      (propose_call_conditions l' log image mileage out) _ _
      (λ t.
      let a = proposed (unit_of l log image) mileage in
      rw (log_same log t.1.0, image_same log image t.1.1.0, bytes_same a.message.kind a.message)
      ((t.0, (t.1.0, (t.1.1.0, (in_range_same mileage t.1.1.1.0, tt)))), refl)) h

  deliver_wider : (log image message out : List ℕ) → (deliver_call l log image message out).number ≡ 0
      → deliver_call l' log image message out ≡ deliver_call l log image message out
  unfolding deliver_call deliver_call_conditions unit_lengths bad_log bad_image bad_message closes_last log_bytes image_bytes
  deliver_wider log image message out h =
      answer_given_too (λ (c : CallAnswer). c.number) (deliver_call_conditions l log image message out) _ _ refl
      (deliver_call_conditions l' log image message out) _ _
      (λ t.
      let a = received (unit_of l log image) (read_message l message).contents in
      rw (
        log_same log t.1.0,
        image_same log image t.1.1.0,
        message_same message t.1.1.1.0,
        bytes_same a.message.kind a.message,
      )
      (t, refl)) h

  -- every call, at any limits
  pub keeps_answers : KeepsAnswers l l'
  unfolding read_log_call write_log_call read_message_call write_message_call cleared
  keeps_answers =
      record {
        start = start_wider;
        key_on = key_on_wider;
        propose = propose_wider;
        deliver = deliver_wider;
        read_log = read_call_wider (log_takes l k more);
        write_log = λ fs bs. write_call_wider (log_takes l k more) fs bs bs;
        read_message = read_call_wider (message_takes l k more);
        write_message = λ fs bs. write_call_wider (message_takes l k more) fs (cleared l bs) bs;
      }

-- what was accepted before request 3 is accepted today, with the same answer
pub keeps_answers_today : KeepsAnswers hundred_metres today
keeps_answers_today = keeps_answers hundred_metres today.max_mileage (omega arith)
