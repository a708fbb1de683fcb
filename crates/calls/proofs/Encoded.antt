-- The calls on the bytes of well-formed units and messages answer what the step does, as bytes. Assumes nothing.
use Rattle.std.specs.Prelude.{Option, Some, None}
use Prim.Native.Nat.{ℕ}
use mathlib.Core.Path.{◌≡◌, refl, sym, ap, ap₂, ◌∙◌}
use mathlib.Core.Bool.{Bool, true, false, cond}
use mathlib.Core.List.{List, []}
use lib.Dec.{eqb}
use lib.ListN.{length}
use borrow.Author.Tests.{eq-eqb, not-false}
use Rattle.tally.specs.Limits.{Limits, Sane, blank_code, log_size, image_size, message_size}
use Rattle.tally.specs.Refusal.{number_of}
use Rattle.tally.specs.declared.Engine.{Engine}
use Rattle.tally.specs.declared.Refusal.{Refusal}
use Rattle.tally.proofs.Never.{never}
use Rattle.contents.specs.Logs.{log_ok, numbers_ok, settings_ok}
use Rattle.contents.specs.Messages.{message_ok}
use Rattle.contents.specs.declared.Log.{Log}
use Rattle.contents.specs.declared.Message.{Message}
use Rattle.formats.specs.Codes.{code_of, engine_of}
use Rattle.formats.specs.Formats.{reading, Format, read_bytes, to_bytes}
use Rattle.formats.specs.Images.{image_format, read_image, image_bytes}
use Rattle.formats.specs.Logs.{log_format, read_log}
use Rattle.formats.specs.Messages.{message_format, read_message, empty_bytes, cleared}
use Rattle.formats.proofs.ImageFormat as image
use Rattle.formats.proofs.LogFormat as log
use Rattle.formats.proofs.MessageFormat as message
use Rattle.formats.proofs.RoundTrips.{LawfulFormat, read_written}
use Rattle.formats.proofs.Packed.{length_pack}
use Rattle.consensus.specs.Methods.{propose, deliver, propose_conditions, deliver_conditions, unless, refuses}
use Rattle.consensus.specs.Conditions.{Condition, first_refusal, NoneHolds}
use Rattle.consensus.specs.Step.{received, recovered, proposed, fresh}
use Rattle.consensus.proofs.Answers.{plain_received, plain_proposed, proposed_keeps}
use Rattle.consensus.specs.Units.{WellFormed, unit_log, unit_image, up_unit, down_unit}
use Rattle.consensus.specs.declared.Answer.{Answer}
use Rattle.consensus.specs.declared.Power.TheVariants.{Up}
use Rattle.consensus.specs.declared.Unit as U
use Rattle.calls.proofs.Refusals.{start_refusing}
use Rattle.calls.specs.Calls.{CallAnswer, called, settings_for, unless_refused, unit_lengths, bad_log, bad_image, bad_message, bad_settings, log_bytes}
use Rattle.calls.specs.Calls.{message_bytes, answered, start_call_conditions, start_call, key_on_call_conditions, key_on_call, propose_call_conditions}
use Rattle.calls.specs.Calls.{propose_call, deliver_call_conditions, deliver_call}

-- an answer that is accepted, as bytes
abbrev pub accepted : Limits → Answer → CallAnswer
accepted l a = called 0 (answered l a).log (answered l a).image (answered l a).out (answered l a).decision

-- a start that is accepted
pub record Started (l : Limits) (engine n unit entry : ℕ) (c : CallAnswer) : Type 0 where
  pub known : Engine
  pub letter : engine_of engine ≡ Some known
  pub range : settings_ok (settings_for (Some known) n unit entry) ≡ true
  pub answer : c
      ≡ called 0 (log_bytes l (unit_log (fresh (settings_for (Some known) n unit entry))))
      (image_bytes l (unit_image (fresh (settings_for (Some known) n unit entry)))) [] blank_code

-- an up unit is that of its log and image
pub same_unit : (u : U.Unit) → u.power ≡ Up → up_unit (unit_log u) (unit_image u) ≡ u
same_unit u up =
    ap (λ p. record { power = p; settings = u.settings; logged = u.logged; current = u.current; checks = u.checks; seconds = u.seconds }) (sym up)

-- the bytes of good contents are read as these, and have the format's size
bytes_read : {A : Type 0} (f : Format A) (Typed : A → Type 0) (law : LawfulFormat f Typed) (a : A) → Typed a → f.ok a ≡ true
    → (read_bytes f (to_bytes f a) ≡ reading 0 a) × (length (to_bytes f a) ≡ f.size)
bytes_read f Typed law a t ok = (read_written f Typed law a t ok, length_pack f.widths _ (law.fit a t ok) ∙ sym law.sized)

module _ (l : Limits) (sane : Sane l) where
  pub read_log_lem : (r : Log) → log_ok l r ≡ true → (read_log l (log_bytes l r) ≡ reading 0 r) × (length (log_bytes l r) ≡ log_size l)
  unfolding read_log log_bytes
  read_log_lem r ok = bytes_read (log_format l) (λ r. Unit) (log.lawful l sane) r tt ok

  pub read_image_lem : (u : U.Unit) → WellFormed l u
      → (read_image l (image_bytes l (unit_image u)) ≡ reading 0 (unit_image u)) × (length (image_bytes l (unit_image u)) ≡ image_size l)
  unfolding read_image image_bytes
  read_image_lem u w = bytes_read (image_format l) _ (image.lawful l sane) (unit_image u) (w.checks, w.seconds) w.image

  pub read_message_lem : (m : Message) → message_ok l m ≡ true
      → (read_message l (to_bytes (message_format l) m) ≡ reading 0 m) × (length (to_bytes (message_format l) m) ≡ message_size l)
  unfolding read_message
  read_message_lem m ok = bytes_read (message_format l) (λ m. Unit) (message.lawful l sane) m tt ok

  -- the conditions of a unit's bytes
  module _ (u : U.Unit) (w : WellFormed l u) where
    abbrev log_b : List ℕ
    log_b = log_bytes l (unit_log u)

    abbrev image_b : List ℕ
    image_b = image_bytes l (unit_image u)

    unit_lengths_lem : unit_lengths l log_b image_b ≡ false
    unfolding unit_lengths
    unit_lengths_lem =
        rw (
          eq-eqb (length log_b) (log_size l) (read_log_lem (unit_log u) w.log).1,
          eq-eqb (length image_b) (image_size l) (read_image_lem u w).1,
        )

    unit_log_lem : bad_log l log_b ≡ false
    unfolding bad_log
    unit_log_lem = rw (read_log_lem (unit_log u) w.log).0

    unit_image_lem : bad_image l log_b image_b ≡ false
    unfolding bad_image
    unit_image_lem = rw ((read_log_lem (unit_log u) w.log).0, (read_image_lem u w).0, w.fit)

    -- where the conditions of a call come to those of the method, the call's answer is the method's, as bytes
    same_answer : (cs late : List Condition) (a : Answer) (out : List ℕ) → first_refusal cs ≡ first_refusal late → a.refusal ≡ None
        → length out ≡ message_size l → unless_refused l cs log_b image_b out (accepted l a) ≡ answered l (unless late u a)
    unfolding unless message_bytes cleared
    same_answer cs late a out same none size =
        rw (same, eq-eqb (length out) (message_size l) size) (go (first_refusal late) (eqb (number_of (first_refusal late)) 0) refl)
      where
        go : (k : Option Refusal) (b : Bool) → eqb (number_of k) 0 ≡ b
            → cond b (accepted l a) (called (number_of k) log_b image_b (empty_bytes l) blank_code) ≡ answered l (cond b a (refuses u k))
        go k true e = ap (λ r. called (number_of r) (answered l a).log (answered l a).image (answered l a).out (answered l a).decision) (sym none)
        go k false e = refl

    module _ (up : u.power ≡ Up) where
      module _ (m : Message) (out : List ℕ) (ok : message_ok l m ≡ true) (size : length out ≡ message_size l) where
        deliver_conditions_lem : first_refusal (deliver_call_conditions l log_b image_b (to_bytes (message_format l) m) out)
            ≡ first_refusal (deliver_conditions l u m)
        unfolding deliver_call_conditions deliver_conditions first_refusal bad_message
        deliver_conditions_lem =
            rw (
              unit_lengths_lem,
              unit_log_lem,
              unit_image_lem,
              eq-eqb (length (to_bytes (message_format l) m)) (message_size l) (read_message_lem m ok).1,
              eq-eqb (length out) (message_size l) size,
              (read_message_lem m ok).0,
              (read_log_lem (unit_log u) w.log).0,
              (read_image_lem u w).0,
              same_unit u up,
              up,
              ok,
            )

        pub deliver_encoded : deliver_call l log_b image_b (to_bytes (message_format l) m) out
            ≡ answered l (deliver l u m)
        unfolding deliver_call deliver
        deliver_encoded =
            rw ((read_message_lem m ok).0, (read_log_lem (unit_log u) w.log).0, (read_image_lem u w).0, same_unit u up)
            (same_answer (deliver_call_conditions l log_b image_b (to_bytes (message_format l) m) out) (deliver_conditions l u m) (received u m) out
            deliver_conditions_lem (plain_received u m).none size)

      module _ (v : ℕ) (out : List ℕ) (size : length out ≡ message_size l) where
        propose_conditions_lem : first_refusal (propose_call_conditions l log_b image_b v out) ≡ first_refusal (propose_conditions l u v)
        unfolding propose_call_conditions propose_conditions first_refusal
        propose_conditions_lem = rw (unit_lengths_lem, unit_log_lem, unit_image_lem, eq-eqb (length out) (message_size l) size, up)

        pub propose_encoded : propose_call l log_b image_b v out ≡ answered l (propose l u v)
        unfolding propose_call propose
        propose_encoded =
            rw ((read_log_lem (unit_log u) w.log).0, (read_image_lem u w).0, same_unit u up)
            (ap₂ (λ (r : Log) (d : ℕ).
            unless_refused l (propose_call_conditions l log_b image_b v out) log_b image_b out
            (called 0 (log_bytes l r) (answered l (proposed u v)).image (answered l (proposed u v)).out d))
            (sym (proposed_keeps u v).0) (ap code_of (sym (proposed_keeps u v).1))
            ∙ same_answer (propose_call_conditions l log_b image_b v out) (propose_conditions l u v) (proposed u v) out propose_conditions_lem
            (plain_proposed u v).none size)

  -- key-on of a log's bytes, whatever the image buffer holds
  pub key_on_encoded : (r : Log) (image : List ℕ) → log_ok l r ≡ true → length image ≡ image_size l
      → key_on_call l (log_bytes l r) image ≡ called 0 (log_bytes l r) (image_bytes l (unit_image (recovered (down_unit r)))) [] blank_code
  unfolding key_on_call key_on_call_conditions first_refusal bad_log unit_lengths
  key_on_encoded r image ok size =
      rw (
        eq-eqb (length (log_bytes l r)) (log_size l) (read_log_lem r ok).1,
        eq-eqb (length image) (image_size l) size,
        (read_log_lem r ok).0,
      )

  -- starting, whatever the buffers hold
  pub start_accepted : (engine n unit entry : ℕ) (log image : List ℕ) → (start_call l engine n unit entry log image).number ≡ 0
      → Started l engine n unit entry (start_call l engine n unit entry log image)
  unfolding start_call start_call_conditions first_refusal bad_settings
  start_accepted engine n unit entry log image zero = go (engine_of engine) refl cs.1.0
    where
      cs : NoneHolds (start_call_conditions l engine n unit entry log image)
      cs = (start_refusing l engine n unit entry log image).number.accepted zero

      go : (o : Option Engine) → engine_of engine ≡ o → bad_settings o n unit entry ≡ false
          → Started l engine n unit entry (start_call l engine n unit entry log image)
      go None e h = never (sym h)
      go (Some g) e h = record { known = g; letter = e; range = not-false (numbers_ok n unit entry) h; answer = rw (cs.0, e, h) }
