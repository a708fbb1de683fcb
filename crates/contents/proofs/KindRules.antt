-- What the rule of each kind says of a message's estimate and proposal. Assumes nothing.
use Rattle.std.proofs.lemmas.Bool.{and_parts}
use mathlib.Core.Path.{◌≡◌, refl, sym}
use mathlib.Core.Bool.{true, ◌&&◌}
use lib.Dec.{eqb, ltb}
use Rattle.tally.specs.Limits.{Limits, everyone}
use Rattle.tally.specs.declared.Engine.{Engine}
use Rattle.tally.specs.declared.Engine.TheVariants.{B, R}
use Rattle.tally.specs.declared.Estimate.{Estimate}
use Rattle.tally.specs.declared.Estimate.TheVariants.{Blank}
use Rattle.tally.proofs.Never.{never}
use Rattle.contents.specs.Estimates.{is_b, is_blank, is_mileage, mileage_or_blank, mileage_or_split, same_mileage}
use Rattle.contents.specs.Messages.{first_ok, check_ok, second_ok, skip_ok, kind_ok}
use Rattle.contents.specs.declared.Kind.{Kind}
use Rattle.contents.specs.declared.Kind.TheVariants.{Empty, First, Check, Second, Skip}
use Rattle.contents.specs.declared.Message.{Message}
use Rattle.contents.proofs.Same.{same_estimate_lem}

module _ (l : Limits) where
  same_mileage_lem : (a b : Estimate) → same_mileage l a b ≡ true → (is_mileage l a ≡ true) × (is_mileage l b ≡ true)
  unfolding same_mileage
  same_mileage_lem a b h = let p = and_parts (is_mileage l a) _ h in (p.0, rw (same_estimate_lem a b p.1) at p.0)

  -- a FIRST's estimate and proposal are mileages
  pub first_mileage : (m : Message) → first_ok l m ≡ true → (is_mileage l m.estimate ≡ true) × (is_mileage l m.proposal ≡ true)
  unfolding first_ok
  first_mileage m h = same_mileage_lem m.estimate m.proposal (and_parts (eqb m.receiver everyone) _ h).1

  -- and a CHECK's, which is of B
  pub check_mileage : (m : Message) → kind_ok l Check m ≡ true
      → (m.engine ≡ B) × ((is_mileage l m.estimate ≡ true) × (is_mileage l m.proposal ≡ true))
  unfolding kind_ok check_ok
  check_mileage m h = let a = and_parts (is_b m.engine) (first_ok l m) h in (engine m.engine a.0, first_mileage m a.1)
    where
      engine : (g : Engine) → is_b g ≡ true → g ≡ B
      engine B h = refl
      engine R h = never h

  -- a SECOND's estimate is a mileage or, in B, split
  pub second_estimate : (m : Message) → kind_ok l Second m ≡ true → mileage_or_split l m.engine m.estimate ≡ true
  unfolding kind_ok second_ok
  second_estimate m h =
      let a = and_parts (eqb m.receiver everyone && mileage_or_split l m.engine m.estimate) _ h in
      (and_parts (eqb m.receiver everyone) _ a.0).1

  -- a SKIP's estimate is blank
  pub skip_estimate : (m : Message) → kind_ok l Skip m ≡ true → m.estimate ≡ Blank
  unfolding kind_ok skip_ok
  skip_estimate m h =
      let a = and_parts (ltb m.receiver m.n && is_blank m.estimate) _ h in
      sym (same_estimate_lem Blank _ (and_parts (ltb m.receiver m.n) _ a.0).1)

  pub mileage_blank : (e : Estimate) → is_mileage l e ≡ true → mileage_or_blank l e ≡ true
  unfolding mileage_or_blank
  mileage_blank e h = rw h

  -- every proposal is a mileage or blank
  pub kind_proposal : (k : Kind) (m : Message) → kind_ok l k m ≡ true → mileage_or_blank l m.proposal ≡ true
  unfolding kind_ok second_ok skip_ok
  kind_proposal Empty m h = never h
  kind_proposal First m h = mileage_blank m.proposal (first_mileage m h).1
  kind_proposal Check m h = mileage_blank m.proposal (check_mileage m h).1.1
  kind_proposal Second m h = (and_parts (eqb m.receiver everyone && mileage_or_split l m.engine m.estimate) _ h).1
  kind_proposal Skip m h = (and_parts (ltb m.receiver m.n && is_blank m.estimate) _ h).1
