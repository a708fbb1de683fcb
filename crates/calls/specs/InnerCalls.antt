-- What inner functions of unit_calls and numbers promise, of which no public call's contract speaks. Assumes nothing.
use Rattle.std.specs.Prelude.{ℕ, ◌^◌, Bool, cond, ◌&&◌, List, [], eqb, ltb, Option, Some, None}
use Rattle.tally.specs.Limits.{today, blank_code}
use Rattle.tally.specs.Refusal.{number_of}
use Rattle.tally.specs.declared.Engine.{Engine}
use Rattle.contents.specs.Messages.{is_empty}
use Rattle.contents.specs.declared.Message.{Message}
use Rattle.contents.specs.declared.Settings.{Settings}
use Rattle.formats.specs.Codes.{code_of, engine_of}
use Rattle.formats.specs.InnerImages.{state_over, image_over, in_image}
use Rattle.formats.specs.Logs.{log_format}
use Rattle.formats.specs.Messages.{message_format}
use Rattle.formats.specs.InnerFormats.{stored}
use Rattle.consensus.specs.Units.{unit_log}
use Rattle.consensus.specs.declared.Answer.{Answer}
use Rattle.calls.specs.Calls.{CallAnswer, called, bad_settings, settings_for}

-- the numbers of a start fit the code's types
unfoldable pub settings_narrow : ℕ → ℕ → ℕ → ℕ → Bool
settings_narrow engine n unit entry = ltb engine (256 ^ 1) && ltb n (256 ^ 1) && ltb unit (256 ^ 1) && ltb entry (256 ^ 2)

-- settings of a known engine, in range or not
unfoldable pub settings_known : Option Engine → ℕ → ℕ → ℕ → Option Settings
settings_known None n unit entry = None
settings_known (Some e) n unit entry = Some (record { engine = e; n = n; unit = unit; entry = entry })

-- the settings of a start's numbers, where they are in range
abbrev pub settings_from : ℕ → ℕ → ℕ → ℕ → Option Settings
settings_from engine n unit entry =
    cond (bad_settings (engine_of engine) n unit entry) None (Some (settings_for (engine_of engine) n unit entry))

-- a message stored in a cleared buffer: an empty one leaves it
unfoldable pub stored_message : Message → List ℕ → List ℕ
stored_message m out = cond (is_empty m.kind) out (stored (message_format today) m out)

-- a proposal that refuses nothing is stored, of the image its state alone; no bytes stand for the log, which it does not write
unfoldable pub stored_proposal : Answer → List ℕ → List ℕ → CallAnswer
stored_proposal a image out =
    cond (eqb (number_of a.refusal) 0)
    (called (number_of a.refusal) [] (in_image (state_over a.unit.current) image) (stored_message a.message out) blank_code)
    (called (number_of a.refusal) [] image out blank_code)

-- an answer that refuses nothing is stored, its image over the one before it; a refusal leaves all as it is
unfoldable pub stored_answer : Answer → List ℕ → List ℕ → List ℕ → ℕ → CallAnswer
stored_answer a log image out d =
    cond (eqb (number_of a.refusal) 0)
    (called (number_of a.refusal) (stored (log_format today) (unit_log a.unit) log)
    (in_image (image_over a.unit.current a.unit.checks a.unit.seconds) image) (stored_message a.message out) (code_of a.decision))
    (called (number_of a.refusal) log image out d)
