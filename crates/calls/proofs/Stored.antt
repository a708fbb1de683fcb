-- What a call stores of its unit's answer is the answer, as bytes. Assumes nothing.
use Rattle.std.specs.Prelude.{None}
use Prim.Native.Nat.{ℕ}
use mathlib.Core.Path.{◌≡◌, refl, sym, ap, ap₂, ◌∙◌}
use mathlib.Core.Bool.{Bool, true, false, cond}
use mathlib.Core.List.{List, []}
use native.Mathlib.Omega.{arith}
use lib.Dec.{eqb}
use lib.ListN.{length, length-replicate}
use borrow.Author.Tests.{eq-eqb}
use Rattle.tally.specs.Limits.{today, blank_code, image_size, message_size}
use Rattle.tally.specs.Refusal.{number_of}
use Rattle.tally.specs.declared.Tally.{Tally}
use Rattle.tally.proofs.Bounds.{sane_today}
use Rattle.tally.proofs.Never.{never}
use Rattle.contents.specs.Estimates.{is_b}
use Rattle.contents.specs.Messages.{is_empty}
use Rattle.contents.specs.declared.Kind.{Kind}
use Rattle.contents.specs.declared.Kind.TheVariants.{Empty, First, Check, Second, Skip}
use Rattle.contents.specs.declared.Message.{Message}
use Rattle.contents.specs.declared.Settings.{Settings}
use Rattle.contents.proofs.Facts.{image_facts, log_facts}
use Rattle.formats.specs.Codes.{code_of}
use Rattle.formats.specs.Images.{image_bytes, with_tallies}
use Rattle.formats.specs.InnerImages.{as_marked, state_over, image_over, in_image}
use Rattle.formats.specs.Logs.{log_format}
use Rattle.formats.specs.Messages.{message_format, empty_bytes}
use Rattle.formats.specs.InnerFormats.{stored}
use Rattle.formats.proofs.Marked.{as_marked_lem, same_marked}
use Rattle.formats.proofs.Places.{length_image, state_written, image_over_lem}
use Rattle.formats.proofs.Steps.{stored_contents}
use Rattle.consensus.specs.Methods.{propose_conditions, propose, deliver_conditions, deliver, unless}
use Rattle.consensus.specs.Conditions.{Condition}
use Rattle.consensus.specs.Step.{proposed, received}
use Rattle.consensus.specs.Units.{WellFormed, unit_log, unit_image}
use Rattle.consensus.specs.declared.Answer.{Answer}
use Rattle.consensus.specs.declared.Unit as U
use Rattle.consensus.proofs.Answers.{plain_received, plain_proposed, propose_keeps, propose_image}
use Rattle.consensus.proofs.Branches.{by_unless}
use Rattle.consensus.proofs.Soundness.{sound_deliver}
use Rattle.consensus.proofs.Stays.{TalliesStay, tallies_same, tallies_stay}
use Rattle.calls.specs.Calls.{CallAnswer, called, answered, message_bytes}
use Rattle.calls.specs.InnerCalls.{stored_message, stored_proposal, stored_answer}
use Rattle.calls.proofs.Encoded.{read_log_lem}
use Rattle.calls.proofs.Entries.{log_stored}
use Rattle.calls.proofs.Held.{Held}

-- ---- what is held of a well-formed unit is all of its tallies

module _ (u : U.Unit) (w : WellFormed today u) where
  pub all_checks : as_marked u.checks ≡ u.checks
  all_checks = as_marked_lem today false _ _ u.checks (image_facts today (unit_image u) w.image).checks w.checks

  pub all_seconds : as_marked u.seconds ≡ u.seconds
  all_seconds =
      as_marked_lem today (is_b u.settings.engine) _ _ u.seconds (image_facts today (unit_image u) w.image).seconds w.seconds

-- a delivery keeps what is held of tallies whose marks stay, in its round
pub deliver_stays : (u : U.Unit) (m : Message) → TalliesStay u (deliver today u m).unit
unfolding deliver
deliver_stays u m = by_unless (λ a. TalliesStay u a.unit) (deliver_conditions today u m) u (received u m) (tallies_stay u m) (λ k. tallies_same u)

-- ---- what is written

-- a message that is stored, or an empty one that is kept
pub message_stored : (k : Kind) (m : Message) (kept out : List ℕ) → kept ≡ empty_bytes today → length out ≡ message_size today
    → cond (is_empty k) kept (stored (message_format today) m out) ≡ message_bytes today k m
unfolding message_bytes
message_stored Empty m kept out empty size = empty
message_stored First m kept out empty size = stored_contents (message_format today) out m size
message_stored Check m kept out empty size = stored_contents (message_format today) out m size
message_stored Second m kept out empty size = stored_contents (message_format today) out m size
message_stored Skip m kept out empty size = stored_contents (message_format today) out m size

module _ (log image : List ℕ) (u : U.Unit) (h : Held log image u) where
  w : WellFormed today u
  w = h.well_formed

  image_length : length image ≡ image_size today
  unfolding w
  image_length = ap length h.image_bytes_lem ∙ length_image (unit_image u) (w.checks, w.seconds)

  -- the image of a unit whose tallies are others only where their marks or the round are
  over : (v : U.Unit) → WellFormed today v → v.settings ≡ u.settings → TalliesStay u v
      → in_image (image_over v.current v.checks v.seconds) image ≡ image_bytes today (unit_image v)
  unfolding in_image w
  over v x settings kept =
      rw (eq-eqb _ _ image_length, h.image_bytes_lem)
      (image_over_lem (unit_image u) v.current v.checks v.seconds (w.checks, w.seconds) x.checks x.seconds
      (omega (arith, (log_facts today _ (image_facts today (unit_image u) w.image).log).state.round))
      (λ r e. same_marked u.checks v.checks e ((kept r).0 e) ∙ all_checks u w)
      (λ r e. same_marked u.seconds v.seconds e ((kept r).1 e) ∙ all_seconds u w)
      ∙ ap₂ (λ (c d : Tally). image_bytes today (with_tallies (record { settings = u.settings; state = v.current }) c d))
      (all_checks v x) (all_seconds v x)
      ∙ ap (λ (s : Settings). image_bytes today (with_tallies (record { settings = s; state = v.current }) v.checks v.seconds)) (sym settings))

  module _ (out : List ℕ) (empty : out ≡ empty_bytes today) where
    message_there : (m : Message) → stored_message m out ≡ message_bytes today m.kind m
    unfolding stored_message
    message_there m = message_stored m.kind m out out empty (ap length empty ∙ length-replicate {A = ℕ} (message_size today) 0)

    -- a refusal stores nothing, and the answer is the unit's own
    refused_there : (cs : List Condition) (a : Answer) → a.refusal ≡ None → eqb (number_of (unless cs u a).refusal) 0 ≡ false
        → called (number_of (unless cs u a).refusal) log image out blank_code ≡ answered today (unless cs u a)
    unfolding message_bytes
    refused_there cs a none =
        by_unless (λ a. eqb (number_of a.refusal) 0 ≡ false → called (number_of a.refusal) log image out blank_code ≡ answered today a) cs u a
        (λ e. never (sym e ∙ ap (λ k. eqb (number_of k) 0) none)) (λ k e. rw (h.log_bytes_lem, h.image_bytes_lem, empty))

    -- ---- a delivery

    pub answer_stored : (m : Message) → stored_answer (deliver today u m) log image out blank_code ≡ answered today (deliver today u m)
    unfolding stored_answer deliver w
    answer_stored m = go (eqb (number_of a.refusal) 0) refl
      where
        a : Answer
        a = deliver today u m

        go : (b : Bool) → eqb (number_of a.refusal) 0 ≡ b
            → cond b (called (number_of a.refusal) (stored (log_format today) (unit_log a.unit) log)
            (in_image (image_over a.unit.current a.unit.checks a.unit.seconds) image) (stored_message a.message out) (code_of a.decision))
            (called (number_of a.refusal) log image out blank_code) ≡ answered today a
        go false e = refused_there (deliver_conditions today u m) (received u m) (plain_received u m).none e
        go true e =
            let s = sound_deliver today u m w in
            let long = ap length h.log_bytes_lem ∙ (read_log_lem today sane_today (unit_log u) w.log).1 in
            rw (log_stored today (unit_log a.unit) log long, over a.unit s.unit s.settings (deliver_stays u m), message_there a.message)

    -- ---- a proposal

    pub proposal_stored : (v : ℕ) (c : CallAnswer) → c ≡ stored_proposal (propose today u v) image out
        → called c.number log c.image c.out blank_code ≡ answered today (propose today u v)
    unfolding stored_proposal in_image propose
    proposal_stored v c stored = rw stored (go (eqb (number_of a.refusal) 0) refl)
      where
        a : Answer
        a = propose today u v

        in_log : CallAnswer → CallAnswer
        in_log c = called c.number log c.image c.out blank_code

        go : (b : Bool) → eqb (number_of a.refusal) 0 ≡ b
            → in_log (cond b
            (called (number_of a.refusal) [] (in_image (state_over a.unit.current) image) (stored_message a.message out) blank_code)
            (called (number_of a.refusal) [] image out blank_code)) ≡ answered today a
        go false e = refused_there (propose_conditions today u v) (proposed u v) (plain_proposed u v).none e
        go true e =
            rw (
              eq-eqb (length image) (image_size today) image_length,
              message_there a.message,
              (propose_keeps today u v).0,
              (propose_keeps today u v).1,
              propose_image today u v,
              h.log_bytes_lem,
              h.image_bytes_lem,
              state_written a.unit.current (unit_image u) (h.well_formed.checks, h.well_formed.seconds),
            )
