-- The first stop is where `position` finds it. Assumes nothing.
use Rattle.std.proofs.Common.{◌≡◌, ◌<◌, ℕ, Option, Some, None, MatchOption, List, length, sym, Bool, eqb, true, false, refl, rules, tests, arith}
use Rattle.std.specs.List.{AllWithin, HoldsAt}
use Rattle.std.specs.Option.{unwrap_or}
use Rattle.std.proofs.lemmas.Iterator.{YieldsList-from_slice, IsFirst-from_position, index_from_first}
use Rattle.script.specs.InnerParts.{before}
use Rattle.script.proofs.Parting.{parted_at, parted_none}
use Rattle.bench_script.proofs.parts.split_once.Goals as goal

module _ (stop : ℕ) where
  abbrev Is : Bool → ℕ → Type 0
  Is t b = eqb b stop ≡ t

  by_place : (s : List ℕ) (r : Option ℕ)
      → MatchOption r (AllWithin (Is false) s 0 (length s)) (λ i. (i < length s) × HoldsAt (Is true) s i × AllWithin (Is false) s 0 i)
      → before stop s ≡ unwrap_or r (length s)
  by_place s r h = index_from_first (before stop) (Is true) (Is false) refl (λ b s e. rw e refl) (λ b s e. rw e (omega arith)) s r h

pub returns-in_err-k-clause-parts : goal.returns-in_err-k-clause-parts
returns-in_err-k-clause-parts c =
    let s = c.args.s.now in
    let stop = c.args.stop in
    let none =
    IsFirst-from_position _ _ _ (Is stop true) (Is stop false) c.in_err-k.ensures.ran (YieldsList-from_slice s cc) (λ x q k. search (rules, tests))
    (λ x q k. search (rules, tests)) in
    rw c.from_residual.ensures (parted_none stop s (omega (arith, by_place stop s None none)))

pub returns-clause-parts : goal.returns-clause-parts
returns-clause-parts c =
    let s = c.args.s.now in
    let stop = c.args.stop in
    let first =
    IsFirst-from_position _ _ _ (Is stop true) (Is stop false) c.in_ok-k.ensures.ran (YieldsList-from_slice s cc) (λ x q k. search (rules, tests))
    (λ x q k. search (rules, tests)) in
    parted_at stop s c.in_ok-k.k (sym (by_place stop s (Some c.in_ok-k.k) first)) first.0
