-- Well-formed images, and images that fit their logs. Assumes nothing.
use Rattle.std.specs.Prelude.{ℕ, zero, suc, Bool, true, false, not, ◌&&◌, ◌||◌, eqb, ltb}
use Rattle.std.specs.Int.Count.{ones}
use Rattle.tally.specs.Limits.{Limits, senders}
use Rattle.tally.specs.Quorum.{quorum_of}
use Rattle.tally.specs.Tally.{is_marked, estimate_at}
use Rattle.tally.specs.declared.Engine.{Engine}
use Rattle.tally.specs.declared.Estimate.{Estimate}
use Rattle.tally.specs.declared.Tally.{Tally}
use Rattle.contents.specs.Estimates.{is_b, is_blank, is_split, is_mileage, same_engine, same_estimate}
use Rattle.contents.specs.Logs.{log_ok}
use Rattle.contents.specs.declared.Image.{Image}
use Rattle.contents.specs.declared.Log.{Log}
use Rattle.contents.specs.declared.Settings.{Settings}
use Rattle.contents.specs.declared.State.{State}

-- 20 bytes laid out as a log, with current contents
abbrev pub image_log : Image → Log
image_log i = record { settings = i.settings; state = i.state }

-- all numbers below k pass the test P
unfoldable pub every : ℕ → (ℕ → Bool) → Bool
every zero P = true
every (suc k) P = every k P && P k

-- only units below n are marked
abbrev pub below_ok : ℕ → ℕ → Bool → Bool
below_ok n s marked = not marked || ltb s n

-- unmarked estimates are blank
abbrev pub unmarked_ok : Bool → Estimate → Bool
unmarked_ok marked e = marked || is_blank e

-- CHECK estimates are mileages; SECOND estimates are mileages or, in B, split: `split` says whether it is allowed
abbrev pub marked_ok : Limits → Bool → Bool → Estimate → Bool
marked_ok l split marked e = not marked || is_mileage l e || (split && is_split e)

unfoldable pub cell_ok : Limits → Bool → ℕ → ℕ → Bool → Estimate → Bool
cell_ok l split n s marked e = below_ok n s marked && unmarked_ok marked e && marked_ok l split marked e

-- these three, of every sender
unfoldable pub cells_ok : Limits → Bool → ℕ → Tally → Bool
cells_ok l split n t = every senders (λ s. cell_ok l split n s (is_marked t.marks s) (estimate_at t s))

-- each count is below the quorum
unfoldable pub tally_ok : Limits → Bool → Engine → ℕ → Tally → Bool
tally_ok l split g n t = cells_ok l split n t && ltb (ones t.marks) (quorum_of g n)

-- in R, or when the second estimate is not blank, there are no CHECK marks
unfoldable pub checks_allowed : Engine → Estimate → ℕ → Bool
checks_allowed g second marks = (is_b g && is_blank second) || eqb marks 0

-- an image (the scope paper's term): a well-formed log, and the rules of both tallies
unfoldable pub image_ok : Limits → Image → Bool
image_ok l i =
    log_ok l (image_log i)
    && tally_ok l false i.settings.engine i.settings.n i.checks
    && tally_ok l (is_b i.settings.engine) i.settings.engine i.settings.n i.seconds
    && checks_allowed i.settings.engine i.state.second i.checks.marks

-- an image fits its log (the scope paper's term) when engine, n, unit and entry agree,
unfoldable pub same_settings : Settings → Settings → Bool
same_settings a b = same_engine a.engine b.engine && eqb a.n b.n && eqb a.unit b.unit && eqb a.entry b.entry

-- and either the rounds are equal and both estimates too, or the image's round is higher and both its estimates are blank
unfoldable pub state_fits : State → State → Bool
state_fits i l =
    (eqb i.round l.round && same_estimate i.first l.first && same_estimate i.second l.second)
    || (ltb l.round i.round && is_blank i.first && is_blank i.second)

unfoldable pub fits : Image → Log → Bool
fits i l = same_settings i.settings l.settings && state_fits i.state l.state
