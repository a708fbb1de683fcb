-- Chains over the senders: what the marked ones sent are those gathered, and what a chain counts, finds or tests is what the definitions say.
-- Assumes nothing.
use Prim.Native.Nat.{ℕ, zero, suc, ◌+◌}
use mathlib.Core.Path.{◌≡◌, refl, ap, subst, sym, ◌∙◌}
use mathlib.Core.Bool.{Bool, true, false, cond, ◌&&◌}
use mathlib.Core.List.{List, [], ◌∷◌}
use native.Mathlib.Numerals.{add-one}
use native.Mathlib.Omega.{arith}
use denote.Param.Members.{Mut}
use Rattle.std.proofs.Common.{Option, Some, None}
use Rattle.std.proofs.iter.Yields.{nat_range_steps}
use Rattle.std.proofs.lemmas.Iterator.{YieldsList, YieldsList-from_range}
use Rattle.std.proofs.lemmas.Iterator.Consumers.{YieldsList-from_filter_map}
use Rattle.std.proofs.lemmas.List.Sums.{sum_by-cons}
use Rattle.std.specs.Fn.{Called}
use Rattle.std.specs.Iterator.Adapters.{filter_map_source, filter_map_callee, filter_map_steps}
use Rattle.std.specs.List.{cons_option, count_by, filter_map, find, list_all, range_with_len}
use Rattle.std.specs.Option.{unwrap_or}
use Rattle.std.specs.declared.iter.FilterMap.{FilterMap}
use Rattle.std.specs.declared.ops.Range.{Range}
use Rattle.tally.specs.Limits.{senders}
use Rattle.tally.specs.Count.{bump, passing}
use Rattle.tally.specs.Gathered.{any_mileage, has_value, all_hold, common, first_passing}
use Rattle.tally.specs.InnerGathered.{sent_by}
use Rattle.tally.specs.Tally.{is_marked, estimate_at, gathered_from, gathered}
use Rattle.tally.specs.declared.Estimate.{Estimate}
use Rattle.tally.specs.declared.Estimate.TheVariants.{Blank, Split, Mileage}
use Rattle.tally.specs.declared.Tally.{Tally}
use Rattle.tally.proofs.Never.{never}

sent_from : (t : Tally) (s k : ℕ) → filter_map (sent_by t) (range_with_len s k) ≡ gathered_from t s k
unfolding gathered_from
sent_from t s zero = refl
sent_from t s (suc k) = go (is_marked t.marks s) (rw add-one (sent_from t (suc s) k))
  where
    later : List Estimate
    later = filter_map (sent_by t) (range_with_len (s + 1) k)

    go : (b : Bool) → later ≡ gathered_from t (suc s) k
        → cons_option (cond b (Some (estimate_at t s)) None) later ≡ cond b (estimate_at t s ∷ gathered_from t (suc s) k) (gathered_from t (suc s) k)
    go true h = ap (λ (es : List Estimate). estimate_at t s ∷ es) h
    go false h = h

-- the chain over all senders
pub chain_gathered : {F : Type 0} {g : Mut F (ℕ × Unit {0}) (Option Estimate)} {s : FilterMap (Range ℕ) F} {f : F} (t : Tally)
    → filter_map_source s ≡ record { start = 0; end = senders } → filter_map_callee s ≡ f
    → ((x : ℕ) (r : Option Estimate) (q : F) → Called g f (x, tt) r q → (q ≡ f) × (r ≡ sent_by t x))
    → YieldsList (filter_map_steps nat_range_steps g) (λ y. y) s (gathered t)
unfolding gathered
chain_gathered {g = g} {s = s} t source closure calls =
    subst (λ (es : List Estimate). YieldsList (filter_map_steps nat_range_steps g) (λ y. y) s es) (sent_from t 0 senders)
    (YieldsList-from_filter_map g (sent_by t) (YieldsList-from_range 0 senders senders source refl) closure calls)

-- counted and found
module _ (P : Estimate → Bool) where
  -- from any sender on
  pub passing_sum : (t : Tally) (s k : ℕ)
      → count_by (λ u. is_marked t.marks u && P (estimate_at t u)) (range_with_len s k) ≡ passing P (gathered_from t s k)
  unfolding gathered_from
  passing_sum t s zero = refl
  passing_sum t s (suc k) =
      sum_by-cons (λ u. cond (is_marked t.marks u && P (estimate_at t u)) 1 0) s (range_with_len (s + 1) k)
      ∙ go (is_marked t.marks s) (rw add-one (passing_sum t (suc s) k))
    where
      later : ℕ
      later = count_by (λ u. is_marked t.marks u && P (estimate_at t u)) (range_with_len (s + 1) k)

      go : (b : Bool) → later ≡ passing P (gathered_from t (suc s) k) → cond (b && P (estimate_at t s)) 1 0 + later
          ≡ passing P (cond b (estimate_at t s ∷ gathered_from t (suc s) k) (gathered_from t (suc s) k))
      go true h = by (P (estimate_at t s))
        where
          by : (c : Bool) → cond c 1 0 + later ≡ bump c (passing P (gathered_from t (suc s) k))
          by true = omega arith
          by false = omega arith
      go false h = omega arith

  pub passing_chain : (t : Tally) → count_by (λ u. is_marked t.marks u && P (estimate_at t u)) (range_with_len 0 senders) ≡ passing P (gathered t)
  unfolding gathered
  passing_chain t = passing_sum t 0 senders

  pub find_first : (es : List Estimate) → unwrap_or (find P es) Blank ≡ first_passing P es
  unfolding first_passing
  find_first [] = refl
  find_first (e ∷ es) = go (P e) (find_first es)
    where
      go : (b : Bool) → unwrap_or (find P es) Blank ≡ first_passing P es
          → unwrap_or (cond b (Some e) (find P es)) Blank ≡ cond b e (first_passing P es)
      go true h = refl
      go false h = h

-- what is common, where v came first, and then rest
pub common_first : (v : ℕ) (rest : List Estimate) → common (Mileage v ∷ rest) ≡ cond (list_all (has_value v) rest) (Mileage v) Split
unfolding common all_hold
common_first v rest = ap (λ (b : Bool). cond b (Mileage v) Split) (same rest)
  where
    same : (es : List Estimate) → all_hold v es ≡ list_all (has_value v) es
    same [] = refl
    same (e ∷ es) = ap (λ (b : Bool). has_value v e && b) (same es)

-- and where it was no mileage
pub common_other : (e : Estimate) (rest : List Estimate) → any_mileage e ≡ false → common (e ∷ rest) ≡ Split
unfolding common
common_other Blank rest h = refl
common_other Split rest h = refl
common_other (Mileage v) rest h = never cc

-- a chain that ends at once gave nothing, and after its first item comes the rest
module _ {S A : Type 0} {steps : S → Option A → S → Type 0} {s : S} (u : S) where
  pub none_first : (xs : List A) → steps s None u → YieldsList steps (λ x. x) s xs → xs ≡ []
  none_first [] h road = refl
  none_first (x ∷ xs) h road = absurd (road.runs.0 u h)

  pub some_first : (x : A) (xs : List A) → steps s (Some x) u → YieldsList steps (λ x. x) s xs
      → (rest : List A) × ((xs ≡ x ∷ rest) × YieldsList steps (λ x. x) u rest)
  some_first x [] h road = absurd (road.runs x u h)
  some_first x (y ∷ ys) h road =
      let next = road.runs.1 x u h in
      (ys, (ap (λ (z : A). z ∷ ys) (sym next.0), record { runs = next.1 }))

-- what is common where the chain gave a mileage first, and b says whether all of the rest have it
pub common_by : {S : Type 0} {steps : S → Option Estimate → S → Type 0} {s u : S} (t : Tally) (v : ℕ) (b : Bool)
    → steps s (Some (Mileage v)) u → YieldsList steps (λ x. x) s (gathered t)
    → ((rest : List Estimate) → YieldsList steps (λ x. x) u rest → b ≡ list_all (has_value v) rest)
    → common (gathered t) ≡ cond b (Mileage v) Split
common_by {u = u} t v b h road all =
    let first = some_first u (Mileage v) (gathered t) h road in rw (first.1.0, common_first v first.0, ← all first.0 first.1.1)
