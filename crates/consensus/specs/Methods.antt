-- The methods of a unit: what is refused first, and else the step. Assumes nothing.
use Rattle.std.specs.Prelude.{ℕ, Bool, true, false, not, cond, ◌&&◌, ◌||◌, List, [], ◌∷◌, eqb, Option}
use Rattle.tally.specs.Limits.{Limits, everyone}
use Rattle.tally.specs.Refusal.{number_of}
use Rattle.tally.specs.Tally.{is_marked}
use Rattle.tally.specs.declared.Estimate.TheVariants.{Blank}
use Rattle.tally.specs.declared.Refusal.{Refusal}
use Rattle.contents.specs.Estimates.{in_range, same_engine}
use Rattle.contents.specs.Messages.{message_ok, empty_message}
use Rattle.contents.specs.declared.Kind.{Kind}
use Rattle.contents.specs.declared.Kind.TheVariants.{Empty, First, Check, Second, Skip}
use Rattle.contents.specs.declared.Message.{Message}
use Rattle.contents.specs.declared.Settings.{Settings}
use Rattle.consensus.specs.Conditions.{Condition, condition, first_refusal}
use Rattle.consensus.specs.Step.{quiet, is_full, seconds_with, proposed, received, recovered}
use Rattle.consensus.specs.Units.{unit_log, down_unit}
use Rattle.consensus.specs.declared.Answer.{Answer}
use Rattle.consensus.specs.declared.Power.{Power}
use Rattle.consensus.specs.declared.Power.TheVariants.{Down, Up}
use Rattle.consensus.specs.declared.Unit as U

-- ---- the table's conditions

-- 9: unit down, or for key-on not down
abbrev pub is_up : Power → Bool
is_up Down = false
is_up Up = true

-- 5: other engine, n, entry or receiver
unfoldable pub for_other : Settings → Message → Bool
for_other s m =
    not (
    same_engine s.engine m.engine
    && eqb s.n m.n
    && eqb s.entry m.entry
    && (eqb m.receiver everyone || eqb m.receiver s.unit)
    )

-- 6: mileage out of range
unfoldable pub out_of_range : Limits → ℕ → Bool
out_of_range l v = not (in_range l v)

abbrev pub is_second : Kind → Bool
is_second Empty = false
is_second First = false
is_second Check = false
is_second Second = true
is_second Skip = false

-- 7: this SECOND would close the last round: message and unit are in it, its sender is unmarked, and with it the quorum is there
unfoldable pub closes_last : Limits → U.Unit → Message → Bool
closes_last l u m =
    is_second m.kind
    && eqb m.round l.last_round
    && eqb u.current.round l.last_round
    && not (is_marked u.seconds.marks m.sender)
    && is_full u (seconds_with u m)

-- ---- the methods

-- a refusal changes nothing, sends nothing and decides nothing
abbrev pub refuses : U.Unit → Option Refusal → Answer
refuses u k = record { refusal = k; unit = u; message = empty_message; decision = Blank }

-- the first condition that holds refuses; where none does, the answer
unfoldable pub unless : List Condition → U.Unit → Answer → Answer
unless conditions u a = cond (eqb (number_of (first_refusal conditions)) 0) a (refuses u (first_refusal conditions))

-- the lowest number first, but 9 before 5, 6 and 7, as on the bench
unfoldable pub propose_conditions : Limits → U.Unit → ℕ → List Condition
propose_conditions l u v = condition Refusal.Power (not (is_up u.power)) ∷ condition Refusal.Mileage (out_of_range l v) ∷ []

unfoldable pub propose : Limits → U.Unit → ℕ → Answer
propose l u v = unless (propose_conditions l u v) u (proposed u v)

unfoldable pub deliver_conditions : Limits → U.Unit → Message → List Condition
deliver_conditions l u m =
    condition Refusal.Message (not (message_ok l m))
    ∷ condition Refusal.Power (not (is_up u.power))
    ∷ condition Refusal.Addressee (for_other u.settings m)
    ∷ condition Refusal.LastRound (closes_last l u m)
    ∷ []

unfoldable pub deliver : Limits → U.Unit → Message → Answer
deliver l u m = unless (deliver_conditions l u m) u (received u m)

-- key-off (the scope paper's term): the image is lost
unfoldable pub key_off : U.Unit → Answer
key_off u = unless (condition Refusal.Power (not (is_up u.power)) ∷ []) u (quiet (down_unit (unit_log u)))

-- key-on (the scope paper's term)
unfoldable pub key_on : U.Unit → Answer
key_on u = unless (condition Refusal.Power (is_up u.power) ∷ []) u (quiet (recovered u))
