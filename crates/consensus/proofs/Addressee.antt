-- Messages for a unit: what the test of the addressee says in plain facts. Assumes nothing.
use Rattle.std.proofs.lemmas.Bool.{and_parts}
use mathlib.Core.Path.{◌≡◌, refl, sym}
use mathlib.Core.Bool.{Bool, true, false, not, ◌&&◌, ◌||◌, or-true}
use mathlib.Core.Logic.{◌⊎◌, inl, inr}
use lib.Dec.{eqb}
use borrow.Author.Tests.{eqb-true, eq-eqb, not-false}
use Rattle.tally.specs.Limits.{everyone}
use Rattle.contents.specs.Estimates.{same_engine}
use Rattle.contents.specs.declared.Message.{Message}
use Rattle.contents.specs.declared.Settings.{Settings}
use Rattle.contents.proofs.Same.{same_engine_lem, engine_same}
use Rattle.consensus.specs.Methods.{for_other}

-- the message is for the unit with these settings
pub record Mine (s : Settings) (m : Message) : Type 0 where
  pub engine : m.engine ≡ s.engine
  pub n : m.n ≡ s.n
  pub entry : m.entry ≡ s.entry
  pub receiver : (m.receiver ≡ everyone) ⊎ (m.receiver ≡ s.unit)

either : (a b : Bool) → (a || b) ≡ true → (a ≡ true) ⊎ (b ≡ true)
either true b h = inl refl
either false b h = inr h

pub mine_passes : (s : Settings) (m : Message) → Mine s m → for_other s m ≡ false
unfolding for_other
mine_passes s m h =
    rw (
      h.engine,
      h.n,
      h.entry,
      engine_same s.engine,
      eq-eqb s.n s.n refl,
      eq-eqb s.entry s.entry refl,
    )
    (to h.receiver)
  where
    to : (m.receiver ≡ everyone) ⊎ (m.receiver ≡ s.unit) → not (eqb m.receiver everyone || eqb m.receiver s.unit) ≡ false
    to (inl e) = rw (eq-eqb m.receiver everyone e)
    to (inr e) = rw (eq-eqb m.receiver s.unit e, or-true (eqb m.receiver everyone))

pub passes_mine : (s : Settings) (m : Message) → for_other s m ≡ false → Mine s m
unfolding for_other
passes_mine s m h =
    let a = and_parts (same_engine s.engine m.engine && eqb s.n m.n && eqb s.entry m.entry) _ (not-false _ h) in
    let b = and_parts (same_engine s.engine m.engine && eqb s.n m.n) _ a.0 in
    let c = and_parts (same_engine s.engine m.engine) _ b.0 in
    record {
      engine = sym (same_engine_lem _ _ c.0);
      n = sym (eqb-true s.n m.n c.1);
      entry = sym (eqb-true s.entry m.entry b.1);
      receiver = to (either _ _ a.1);
    }
  where
    to : (eqb m.receiver everyone ≡ true) ⊎ (eqb m.receiver s.unit ≡ true) → (m.receiver ≡ everyone) ⊎ (m.receiver ≡ s.unit)
    to (inl e) = inl (eqb-true _ _ e)
    to (inr e) = inr (eqb-true _ _ e)
