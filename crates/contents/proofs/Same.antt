-- Engines, estimates and settings that test the same are the same, and what a fit says. Assumes nothing.
use Rattle.std.proofs.lemmas.Bool.{and_parts}
use Prim.Native.Nat.{ℕ, ◌<◌}
use mathlib.Core.Path.{◌≡◌, refl, sym, ap, ◌∙◌}
use mathlib.Core.Bool.{Bool, true, false, ◌&&◌, ◌||◌}
use mathlib.Core.Logic.{◌⊎◌, inl, inr}
use lib.Dec.{eqb, ltb}
use borrow.Author.Tests.{eqb-true, eq-eqb, ltb-true}
use Rattle.tally.specs.declared.Engine.{Engine}
use Rattle.tally.specs.declared.Engine.TheVariants.{B, R}
use Rattle.tally.specs.declared.Estimate.{Estimate}
use Rattle.tally.specs.declared.Estimate.TheVariants.{Blank, Split, Mileage}
use Rattle.contents.specs.Estimates.{is_blank, same_engine, same_estimate}
use Rattle.contents.specs.Images.{same_settings, state_fits}
use Rattle.contents.specs.declared.Settings.{Settings}
use Rattle.contents.specs.declared.State.{State}
use Rattle.tally.proofs.Never.{never}

pub same_engine_lem : (a b : Engine) → same_engine a b ≡ true → a ≡ b
same_engine_lem B B h = refl
same_engine_lem B R h = never h
same_engine_lem R B h = never h
same_engine_lem R R h = refl

pub engine_same : (a : Engine) → same_engine a a ≡ true
engine_same B = refl
engine_same R = refl

pub same_estimate_lem : (a b : Estimate) → same_estimate a b ≡ true → a ≡ b
same_estimate_lem Blank Blank h = refl
same_estimate_lem Blank Split h = never h
same_estimate_lem Blank (Mileage w) h = never h
same_estimate_lem Split Blank h = never h
same_estimate_lem Split Split h = refl
same_estimate_lem Split (Mileage w) h = never h
same_estimate_lem (Mileage v) Blank h = never h
same_estimate_lem (Mileage v) Split h = never h
same_estimate_lem (Mileage v) (Mileage w) h = ap Mileage (sym (eqb-true w v h))

pub estimate_same : (a : Estimate) → same_estimate a a ≡ true
estimate_same Blank = refl
estimate_same Split = refl
estimate_same (Mileage v) = eq-eqb v v refl

abbrev settings : Engine → ℕ → ℕ → ℕ → Settings
settings e n u t = record { engine = e; n = n; unit = u; entry = t }

pub same_settings_lem : (a b : Settings) → same_settings a b ≡ true → a ≡ b
unfolding same_settings
same_settings_lem a b h =
    let p = and_parts (same_engine a.engine b.engine && eqb a.n b.n && eqb a.unit b.unit) (eqb a.entry b.entry) h in
    let q = and_parts (same_engine a.engine b.engine && eqb a.n b.n) (eqb a.unit b.unit) p.0 in
    let r = and_parts (same_engine a.engine b.engine) (eqb a.n b.n) q.0 in
    let fields : ◌≡◌ {A = Settings} (settings a.engine a.n a.unit a.entry) (settings b.engine b.n b.unit b.entry) =
    cc (
      same_engine_lem a.engine b.engine r.0,
      eqb-true a.n b.n r.1,
      eqb-true a.unit b.unit q.1,
      eqb-true a.entry b.entry
          p.1,
    ) in
    fields

pub settings_same : (a : Settings) → same_settings a a ≡ true
unfolding same_settings
settings_same a = rw (engine_same a.engine, eq-eqb a.n a.n refl, eq-eqb a.unit a.unit refl, eq-eqb a.entry a.entry refl)

-- an image's state that fits a log's: the round is higher and both estimates are blank, or the round and both estimates are the same
abbrev pub Fits : State → State → Type 0
Fits i s =
    ((s.round < i.round) × ((i.first ≡ Blank) × (i.second ≡ Blank)))
    ⊎ ((s.round ≡ i.round) × ((s.first ≡ i.first) × (s.second ≡ i.second)))

-- so an estimate of the image that is not blank is the log's, in the same round
pub first_fits : (i s : State) → Fits i s → is_blank i.first ≡ false → (s.round ≡ i.round) × (s.first ≡ i.first)
first_fits i s (inl h) n = never (sym n ∙ ap is_blank h.1.0)
first_fits i s (inr h) n = (h.0, h.1.0)

pub second_fits : (i s : State) → Fits i s → is_blank i.second ≡ false → (s.round ≡ i.round) × (s.second ≡ i.second)
second_fits i s (inl h) n = never (sym n ∙ ap is_blank h.1.1)
second_fits i s (inr h) n = (h.0, h.1.1)

pub state_fits_lem : (i s : State) → state_fits i s ≡ true → Fits i s
unfolding state_fits
state_fits_lem i s h = go (eqb i.round s.round && same_estimate i.first s.first && same_estimate i.second s.second) refl h
  where
    go : (b : Bool) → (eqb i.round s.round && same_estimate i.first s.first && same_estimate i.second s.second) ≡ b
        → (b || (ltb s.round i.round && is_blank i.first && is_blank i.second)) ≡ true → Fits i s
    go false e h =
        let p = and_parts (ltb s.round i.round && is_blank i.first) (is_blank i.second) h in
        let q = and_parts (ltb s.round i.round) (is_blank i.first) p.0 in
        inl (ltb-true _ _ q.0, (sym (same_estimate_lem Blank _ q.1), sym (same_estimate_lem Blank _ p.1)))
    go true e h =
        let p = and_parts _ _ e in
        let q = and_parts (eqb i.round s.round) _ p.0 in
        inr (sym (eqb-true i.round s.round q.0), (sym (same_estimate_lem _ _ q.1), sym (same_estimate_lem _ _ p.1)))
