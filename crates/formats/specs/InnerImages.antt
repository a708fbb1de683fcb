-- What inner functions promise, of which no public call's contract speaks. Assumes nothing.
use Rattle.std.specs.Prelude.{ℕ, zero, suc, ◌+◌, Bool, cond, ◌&&◌, eqb, List, [], ◌∷◌, length, Option, Some, None}
use Rattle.tally.specs.Limits.{today, log_size, image_size, senders}
use Rattle.tally.specs.Tally.{held, no_marks}
use Rattle.tally.specs.declared.Cell.{Cell}
use Rattle.tally.specs.declared.Tally.{Tally}
use Rattle.contents.specs.Images.{fits}
use Rattle.contents.specs.declared.Image.{Image}
use Rattle.contents.specs.declared.Log.{Log}
use Rattle.contents.specs.declared.State.{State}
use Rattle.formats.specs.Formats.{ReadAnswer}
use Rattle.formats.specs.InnerLogs.{settings_widths, state_widths, state_numbers, round_at}
use Rattle.formats.specs.Numbers.{num_at, unpack}
use Rattle.formats.specs.InnerNumbers.{pack_into, total}
use Rattle.formats.specs.Images.{tally_widths, tally_numbers, tally_of}

-- where the tallies stand, and the tally at a place
abbrev pub checks_at : ℕ
checks_at = log_size today

abbrev pub seconds_at : ℕ
seconds_at = log_size today + total tally_widths

abbrev pub tally_at : ℕ → List ℕ → Tally
tally_at o bs = tally_of (unpack o tally_widths bs)

-- the state of an image that was read and fits the log
unfoldable pub fit_state : ReadAnswer Image → Log → Option State
fit_state r l = cond (eqb r.number 0 && fits r.contents l) (Some r.contents.state) None

-- the k estimates from the sender s on, blank where it is not marked
unfoldable pub held_from : Tally → ℕ → ℕ → List Cell
held_from t s zero = []
held_from t s (suc k) = record { estimate = held t s } ∷ held_from t (suc s) k

-- a tally with every unmarked cell blank; a well-formed one is so already
abbrev pub as_marked : Tally → Tally
as_marked t = record { marks = t.marks; cells = held_from t 0 senders }

-- a tally of an image's bytes, at its place; bytes of another length have no marks
unfoldable pub tally_from : ℕ → List ℕ → Tally
tally_from o bs = cond (eqb (length bs) (image_size today)) (as_marked (tally_at o bs)) no_marks

-- a state written at its place
abbrev pub state_over : State → List ℕ → List ℕ
state_over s bs = pack_into bs (total settings_widths) (state_widths today) (state_numbers s)

-- a tally written at the place o, unless the round is the same and the bytes have its marks already
abbrev pub tally_over : ℕ → Bool → Tally → List ℕ → List ℕ
tally_over o same t bs = cond (same && eqb t.marks (num_at bs o 2)) bs (pack_into bs o tally_widths (tally_numbers (as_marked t)))

-- a state and tallies written over those of an older image
abbrev pub image_over : State → Tally → Tally → List ℕ → List ℕ
image_over s c d bs =
    let same = eqb s.round (round_at bs) in
    tally_over seconds_at same d (tally_over checks_at same c (state_over s bs))

-- a change to the bytes of an image; a buffer of another length keeps its bytes
unfoldable pub in_image : (List ℕ → List ℕ) → List ℕ → List ℕ
in_image change bs = cond (eqb (length bs) (image_size today)) (change bs) bs
