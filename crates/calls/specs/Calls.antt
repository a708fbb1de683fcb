-- The four calls of a unit over bytes: the conditions that refuse, in order, and else the step. Assumes nothing.
use Rattle.std.specs.Prelude.{ℕ, Bool, true, not, cond, ◌&&◌, ◌||◌, List, [], ◌∷◌, ◌≡◌, eqb, length, Option, Some, None}
use Rattle.tally.specs.Limits.{Limits, blank_code, log_size, image_size, message_size}
use Rattle.tally.specs.Refusal.{number_of}
use Rattle.tally.specs.declared.Engine.TheVariants.{B}
use Rattle.tally.specs.declared.Refusal.{Refusal}
use Rattle.contents.specs.Images.{fits}
use Rattle.contents.specs.Logs.{numbers_ok}
use Rattle.contents.specs.declared.Kind.{Kind}
use Rattle.contents.specs.declared.Kind.TheVariants.{Empty, First, Check, Second, Skip}
use Rattle.contents.specs.declared.Log.{Log}
use Rattle.contents.specs.declared.Message.{Message}
use Rattle.contents.specs.declared.Settings.{Settings}
use Rattle.formats.specs.Codes.{engine_of, code_of}
use Rattle.formats.specs.Formats.{ReadAnswer, to_bytes}
use Rattle.formats.specs.Images.{read_image, image_bytes}
use Rattle.formats.specs.Logs.{log_format, read_log}
use Rattle.formats.specs.Messages.{message_format, read_message, empty_bytes, cleared}
use Rattle.consensus.specs.Methods.{for_other, out_of_range, closes_last}
use Rattle.consensus.specs.Conditions.{Condition, condition, first_refusal, LowestNumber}
use Rattle.consensus.specs.Step.{fresh, recovered, proposed, received}
use Rattle.consensus.specs.Units.{unit_log, unit_image, up_unit, down_unit}
use Rattle.consensus.specs.declared.Answer.{Answer}
use Rattle.consensus.specs.declared.Unit as U
use Rattle.tally.specs.declared.Engine.{Engine}

-- what a call answers: its number, what the log, image and output buffers hold at exit, and the decision as it is stored
pub record CallAnswer : Type 0 where
  pub number : ℕ
  pub log : List ℕ
  pub image : List ℕ
  pub out : List ℕ
  pub decision : ℕ

abbrev pub called : ℕ → List ℕ → List ℕ → List ℕ → ℕ → CallAnswer
called k log image out d = record { number = k; log = log; image = image; out = out; decision = d }

-- the first condition that holds gives its number: log and image keep their bytes, an output buffer of a message's length is zeros,
-- one of another length keeps its bytes, and no decision is given; where no condition holds, the answer
abbrev pub unless_refused : Limits → List Condition → List ℕ → List ℕ → List ℕ → CallAnswer → CallAnswer
unless_refused l conditions log image out ok =
    cond (eqb (number_of (first_refusal conditions)) 0) ok (called (number_of (first_refusal conditions)) log image (cleared l out) blank_code)

-- ---- the table's conditions

-- 1: a buffer's length is wrong
abbrev pub wrong_length : List ℕ → ℕ → Bool
wrong_length bs k = not (eqb (length bs) k)

-- 1, of a unit's log and image
unfoldable pub unit_lengths : Limits → List ℕ → List ℕ → Bool
unit_lengths l log image = wrong_length log (log_size l) || wrong_length image (image_size l)

-- bytes that reading refuses
abbrev pub unread : {A : Type 0} → ReadAnswer A → Bool
unread r = not (eqb r.number 0)

-- 2: log malformed
unfoldable pub bad_log : Limits → List ℕ → Bool
bad_log l log = unread (read_log l log)

-- 2: fresh-unit settings out of range; an unknown engine letter counts as such
unfoldable pub bad_settings : Option Engine → ℕ → ℕ → ℕ → Bool
bad_settings None n unit entry = true
bad_settings (Some g) n unit entry = not (numbers_ok n unit entry)

-- 3: image malformed or not fitting
unfoldable pub bad_image : Limits → List ℕ → List ℕ → Bool
bad_image l log image = not (eqb (read_image l image).number 0 && fits (read_image l image).contents (read_log l log).contents)

-- 4: message malformed
unfoldable pub bad_message : Limits → List ℕ → Bool
bad_message l message = unread (read_message l message)

-- ---- the bytes that a call writes

unfoldable pub log_bytes : Limits → Log → List ℕ
log_bytes l r = to_bytes (log_format l) r

-- an empty message is zeros
unfoldable pub message_bytes : Limits → Kind → Message → List ℕ
message_bytes l Empty m = empty_bytes l
message_bytes l First m = to_bytes (message_format l) m
message_bytes l Check m = to_bytes (message_format l) m
message_bytes l Second m = to_bytes (message_format l) m
message_bytes l Skip m = to_bytes (message_format l) m

-- an answer as bytes, where the buffers' lengths are right
abbrev pub answered : Limits → Answer → CallAnswer
answered l a =
    called (number_of a.refusal) (log_bytes l (unit_log a.unit)) (image_bytes l (unit_image a.unit)) (message_bytes l a.message.kind a.message)
    (code_of a.decision)

-- the up unit that a log and an image hold
abbrev pub unit_of : Limits → List ℕ → List ℕ → U.Unit
unit_of l log image = up_unit (read_log l log).contents (read_image l image).contents

-- ---- the calls

-- B stands in the place of an engine that is not known
abbrev pub settings_for : Option Engine → ℕ → ℕ → ℕ → Settings
settings_for None n unit entry = record { engine = B; n = n; unit = unit; entry = entry }
settings_for (Some g) n unit entry = record { engine = g; n = n; unit = unit; entry = entry }

-- 1 and 2
unfoldable pub start_call_conditions : Limits → ℕ → ℕ → ℕ → ℕ → List ℕ → List ℕ → List Condition
start_call_conditions l engine n unit entry log image =
    condition Refusal.Length (unit_lengths l log image)
    ∷ condition Refusal.Log (bad_settings (engine_of engine) n unit entry)
    ∷ []

-- starting a unit writes its log and its image, and reads neither; the engine is its letter's number
unfoldable pub start_call : Limits → ℕ → ℕ → ℕ → ℕ → List ℕ → List ℕ → CallAnswer
start_call l engine n unit entry log image =
    unless_refused l (start_call_conditions l engine n unit entry log image) log image []
    (let u = fresh (settings_for (engine_of engine) n unit entry) in called 0 (log_bytes l (unit_log u)) (image_bytes l (unit_image u)) [] blank_code)

-- 1 and 2
unfoldable pub key_on_call_conditions : Limits → List ℕ → List ℕ → List Condition
key_on_call_conditions l log image =
    condition Refusal.Length (unit_lengths l log image)
    ∷ condition Refusal.Log (bad_log l log)
    ∷ []

-- key-on writes the image alone and does not read what it held
unfoldable pub key_on_call : Limits → List ℕ → List ℕ → CallAnswer
key_on_call l log image =
    unless_refused l (key_on_call_conditions l log image) log image []
    (called 0 log (image_bytes l (unit_image (recovered (down_unit (read_log l log).contents)))) [] blank_code)

-- 1, 2, 3 and 6
unfoldable pub propose_call_conditions : Limits → List ℕ → List ℕ → ℕ → List ℕ → List Condition
propose_call_conditions l log image mileage out =
    condition Refusal.Length (unit_lengths l log image || wrong_length out (message_size l))
    ∷ condition Refusal.Log (bad_log l log)
    ∷ condition Refusal.Image (bad_image l log image)
    ∷ condition Refusal.Mileage (out_of_range l mileage)
    ∷ []

-- no log write
unfoldable pub propose_call : Limits → List ℕ → List ℕ → ℕ → List ℕ → CallAnswer
propose_call l log image mileage out =
    unless_refused l (propose_call_conditions l log image mileage out) log image out
    (let a = proposed (unit_of l log image) mileage in
    called 0 log (image_bytes l (unit_image a.unit)) (message_bytes l a.message.kind a.message) blank_code)

-- 1, 2, 3, 4, 5 and 7
unfoldable pub deliver_call_conditions : Limits → List ℕ → List ℕ → List ℕ → List ℕ → List Condition
deliver_call_conditions l log image message out =
    condition Refusal.Length (unit_lengths l log image || wrong_length message (message_size l) || wrong_length out (message_size l))
    ∷ condition Refusal.Log (bad_log l log)
    ∷ condition Refusal.Image (bad_image l log image)
    ∷ condition Refusal.Message (bad_message l message)
    ∷ condition Refusal.Addressee (for_other (read_log l log).contents.settings (read_message l message).contents)
    ∷ condition Refusal.LastRound (closes_last l (unit_of l log image) (read_message l message).contents)
    ∷ []

-- the log is written too, as the step gives it
unfoldable pub deliver_call : Limits → List ℕ → List ℕ → List ℕ → List ℕ → CallAnswer
deliver_call l log image message out =
    unless_refused l (deliver_call_conditions l log image message out) log image out
    (let a = received (unit_of l log image) (read_message l message).contents in
    called 0 (log_bytes l (unit_log a.unit)) (image_bytes l (unit_image a.unit)) (message_bytes l a.message.kind a.message) (code_of a.decision))

-- the number is 0 exactly where no condition holds, and else the lowest of one that does; after a refusal log and image keep their
-- bytes, an output buffer of a message's length is zeros, one of another length keeps its bytes, and the decision is blank
pub record Refusing (l : Limits) (conditions : List Condition) (log image out : List ℕ) (c : CallAnswer) : Type 0 where
  pub number : LowestNumber conditions c.number
  pub refused : (c.number ≡ 0 → ⊥) → c ≡ called c.number log image (cleared l out) blank_code
