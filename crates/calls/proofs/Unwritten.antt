-- A step that writes no log leaves the old one whole, and one that changes no image its image: to the last byte. Assumes nothing.
use Rattle.std.proofs.lemmas.Bool.{and_parts}
use Prim.Native.Nat.{ℕ, ◌<◌}
use mathlib.Core.Path.{◌≡◌, refl, ap, ◌∙◌}
use mathlib.Core.Bool.{true}
use mathlib.Core.List.{List}
use lib.Dec.{eqb}
use borrow.Author.Tests.{not-false}
use Rattle.tally.specs.Limits.{Limits, Sane}
use Rattle.contents.specs.Images.{fits}
use Rattle.contents.specs.declared.Message.{Message}
use Rattle.formats.specs.Images.{image_format, read_image, image_bytes}
use Rattle.formats.specs.Logs.{log_format, read_log}
use Rattle.formats.specs.Messages.{read_message}
use Rattle.formats.specs.Numbers.{Bytes}
use Rattle.formats.proofs.ImageFormat as images
use Rattle.formats.proofs.LogFormat as logs
use Rattle.formats.proofs.RoundTrips.{written_read}
use Rattle.consensus.specs.Conditions.{Condition, NoneHolds}
use Rattle.consensus.specs.Step.{received}
use Rattle.consensus.specs.Units.{unit_log, unit_image}
use Rattle.consensus.specs.declared.Answer.{Answer}
use Rattle.consensus.specs.declared.Unit as U
use Rattle.consensus.proofs.Given.{answer_given}
use Rattle.consensus.proofs.Laws.{received_below}
use Rattle.consensus.proofs.Repeats.{Repeats, again}
use Rattle.calls.specs.Calls.{CallAnswer, unless_refused, bad_log, bad_image, log_bytes, unit_of, deliver_call_conditions, deliver_call}
use Rattle.formats.proofs.Steps.{was_read}
use Rattle.calls.proofs.Held.{fit_image}
use Rattle.calls.proofs.Refusals.{deliver_refusing}

-- a call whose number is 0 gives its answer
answers : (l : Limits) (cs : List Condition) (log image out : List ℕ) (ok : CallAnswer) → (unless_refused l cs log image out ok).number ≡ 0
    → unless_refused l cs log image out ok ≡ ok
answers l cs log image out ok number = (answer_given (λ (c : CallAnswer). c.number) cs ok _ refl number).1

module _ (l : Limits) (sane : Sane l) (log image message out : List ℕ) (number : (deliver_call l log image message out).number ≡ 0) where
  cs : NoneHolds (deliver_call_conditions l log image message out)
  cs = (deliver_refusing l log image message out).number.accepted number

  pub log_stays : Bytes log → unit_log (received (unit_of l log image) (read_message l message).contents).unit ≡ unit_log (unit_of l log image)
      → (deliver_call l log image message out).log ≡ log
  unfolding deliver_call deliver_call_conditions bad_log log_bytes read_log
  log_stays bytes same =
      ap (λ (c : CallAnswer). c.log) (answers l _ log image out _ number)
      ∙ ap (log_bytes l) same
      ∙ (written_read (log_format l) (λ r. Unit) (logs.lawful l sane) log _ bytes (was_read (read_log l log) (not-false _ cs.1.0))).1

  -- the image that was read has the log's settings
  read_image_lem : (eqb (read_image l image).number 0 ≡ true) × (unit_image (unit_of l log image) ≡ (read_image l image).contents)
  unfolding deliver_call_conditions bad_image
  read_image_lem =
      let i = (read_image l image).contents in
      let a = and_parts (eqb (read_image l image).number 0) (fits i (read_log l log).contents) (not-false _ cs.1.1.0) in
      (a.0, fit_image i (read_log l log).contents a.1)

  pub image_stays : Bytes image → unit_image (received (unit_of l log image) (read_message l message).contents).unit ≡ unit_image (unit_of l log image)
      → (deliver_call l log image message out).image ≡ image
  unfolding deliver_call image_bytes read_image
  image_stays bytes same =
      ap (λ (c : CallAnswer). c.image) (answers l _ log image out _ number)
      ∙ ap (image_bytes l) (same ∙ read_image_lem.1)
      ∙ (written_read (image_format l) _ (images.lawful l sane) image _ bytes (was_read (read_image l image) read_image_lem.0)).1

  module _ (bytes : Bytes log × Bytes image) where
    abbrev u : U.Unit
    u = unit_of l log image

    abbrev m : Message
    m = (read_message l message).contents

    abbrev Stay : Type 0
    Stay = ((deliver_call l log image message out).log ≡ log) × ((deliver_call l log image message out).image ≡ image)

    unit_stays : (received u m).unit ≡ u → Stay
    unit_stays same = (log_stays bytes.0 (ap unit_log same), image_stays bytes.1 (ap unit_image same))

    -- a message below the unit's round changes neither
    pub below_stays : m.round < u.current.round → Stay
    below_stays h =
        unit_stays (ap (λ (x : Answer). x.unit) (received_below u.power u.settings u.logged u.current u.checks u.seconds m h))

    -- nor does a vote sent again
    pub again_stays : Repeats u m → Stay
    again_stays r = unit_stays (again u m r).unit
