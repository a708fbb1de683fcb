-- What is found among the estimates gathered is of their kind: a mileage in range, or split, or blank. Assumes nothing.
use Prim.Native.Nat.{ℕ, zero, suc, ◌+◌, ◌≤◌, ◌<◌}
use mathlib.Core.Path.{◌≡◌, refl, sym, ◌∙◌}
use mathlib.Core.Bool.{Bool, true, false, cond, ◌||◌}
use mathlib.Core.List.{List, [], ◌∷◌}
use native.Mathlib.Omega.{arith}
use borrow.Author.Tests.{le-leb}
use Rattle.tally.specs.Gathered.{any_mileage, all_hold, common, first_passing, lowest, majority, leads}
use Rattle.tally.specs.Limits.{Limits, senders}
use Rattle.tally.specs.Quorum.{majority_of}
use Rattle.tally.specs.Tally.{is_marked, estimate_at, gathered_from, gathered}
use Rattle.tally.specs.declared.Engine.{Engine}
use Rattle.tally.specs.declared.Engine.TheVariants.{B, R}
use Rattle.tally.specs.declared.Estimate.{Estimate}
use Rattle.tally.specs.declared.Estimate.TheVariants.{Blank, Split, Mileage}
use Rattle.tally.specs.declared.Tally.{Tally}
use Rattle.tally.proofs.Count.{Each, each_map}
use Rattle.tally.proofs.Gathered.{found}
use Rattle.tally.proofs.Never.{never}
use Rattle.contents.specs.Estimates.{in_range, is_blank, mileage_or_blank}
use Rattle.contents.proofs.Facts.{known_or_split}
use Rattle.consensus.specs.Step.{decided, next_proposal}
use Rattle.consensus.proofs.Parts.{Takes, Places, or_first}

-- what holds of each marked place holds of each gathered
module _ (P : Estimate → Type 0) (t : Tally) (marked : (s : ℕ) → s < senders → is_marked t.marks s ≡ true → P (estimate_at t s)) where
  each_from : (s k : ℕ) → s + k ≤ senders → Each P (gathered_from t s k)
  unfolding gathered_from
  each_from s zero h = tt
  each_from s (suc k) h = go (is_marked t.marks s) refl (each_from (suc s) k (omega arith))
    where
      go : (b : Bool) → is_marked t.marks s ≡ b → Each P (gathered_from t (suc s) k)
          → Each P (cond b (estimate_at t s ∷ gathered_from t (suc s) k) (gathered_from t (suc s) k))
      go true e r = (marked s (omega arith) e, r)
      go false e r = r

  each_gathered : Each P (gathered t)
  unfolding gathered
  each_gathered = each_from 0 senders (omega arith)

module _ (l : Limits) (split : Bool) where
  -- marked places hold votes
  pub votes : (n : ℕ) (t : Tally) → Places l split n t → Each (Takes l split) (gathered t)
  votes n t f = each_gathered (Takes l split) t (λ s b e. rw e at (f s b).vote)

  in_range_lem : (v : ℕ) → Takes l split (Mileage v) → (in_range l v || false) ≡ true
  in_range_lem v h = or_first false (le-leb _ _ (known_or_split l split (Mileage v) h))

  -- the common one is a mileage, or split
  pub common_vote : (es : List Estimate) → Each (Takes l split) es → Takes l true (common es)
  unfolding common
  common_vote [] f = refl
  common_vote (Blank ∷ es) f = refl
  common_vote (Split ∷ es) f = refl
  common_vote (Mileage v ∷ es) f = go (all_hold v es)
    where
      go : (b : Bool) → Takes l true (cond b (Mileage v) Split)
      go true = in_range_lem v f.0
      go false = refl

  -- what is found by a test that split fails is a mileage, or blank
  found_blank : (P : Estimate → Bool) → P Split ≡ false → (es : List Estimate) → Each (Takes l split) es
      → mileage_or_blank l (first_passing P es) ≡ true
  unfolding mileage_or_blank
  found_blank P fails es f = found P (λ e. mileage_or_blank l e ≡ true) refl es (each_map go es f)
    where
      go : (e : Estimate) → Takes l split e → P e ≡ true → mileage_or_blank l e ≡ true
      go Blank v q = refl
      go Split v q = never (sym fails ∙ q)
      go (Mileage w) v q = in_range_lem w v

  pub next_proposal_lem : (g : Engine) (n : ℕ) (t : Tally) (own : Estimate) → Each (Takes l split) (gathered t) → mileage_or_blank l own ≡ true
      → mileage_or_blank l (next_proposal g n t own) ≡ true
  unfolding next_proposal lowest majority leads
  next_proposal_lem R n t own f h = found_blank (leads (majority_of n) (gathered t)) refl (gathered t) f
  next_proposal_lem B n t own f h = go (is_blank seen)
    where
      seen : Estimate
      seen = first_passing any_mileage (gathered t)

      go : (b : Bool) → mileage_or_blank l (cond b own seen) ≡ true
      go true = h
      go false = found_blank any_mileage refl (gathered t) f

pub decided_blank : (l : Limits) (e : Estimate) → Takes l true e → mileage_or_blank l (decided e) ≡ true
unfolding mileage_or_blank
decided_blank l Blank h = refl
decided_blank l Split h = refl
decided_blank l (Mileage v) h = h
