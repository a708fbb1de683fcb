-- What the estimates of a tally show, over the units below n: what decides, and what blocks. Assumes nothing.
use Rattle.std.proofs.lemmas.Bool.{and_parts}
use Prim.Native.Nat.{ℕ, zero, suc, ◌+◌, ◌≤◌, ◌<◌}
use mathlib.Core.Path.{◌≡◌, refl, sym, ap, ◌∙◌}
use mathlib.Core.Bool.{Bool, true, false, cond, not, ◌&&◌}
use mathlib.Core.List.{List}
use native.Mathlib.Decide.{dec_lt}
use native.Mathlib.Omega.{arith}
use lib.Count.{ones}
use lib.Dec.{eqb}
use lib.ListN.{length}
use borrow.Author.Tests.{eqb-true, eqb-false}
use Rattle.tally.specs.Count.{bump, passing, count}
use Rattle.tally.specs.Gathered.{any_mileage, has_value, holders, common, lowest, majority}
use Rattle.tally.specs.Limits.{Limits, senders, max_units}
use Rattle.tally.specs.Quorum.{quorum_of, majority_of}
use Rattle.tally.specs.Tally.{Typed, OnlyBelow, no_marks, is_marked, estimate_at, held, mark, gathered}
use Rattle.tally.specs.declared.Engine.{Engine}
use Rattle.tally.specs.declared.Engine.TheVariants.{R}
use Rattle.tally.specs.declared.Estimate.{Estimate}
use Rattle.tally.specs.declared.Estimate.TheVariants.{Blank, Split, Mileage}
use Rattle.tally.specs.declared.Tally.{Tally}
use Rattle.tally.proofs.Count.{count_mono, count_below, each}
use Rattle.tally.proofs.Gathered.{all_counted, common_all, lowest_held, lowest_none, majority_held, majority_found, others_block, found}
use Rattle.tally.proofs.Marks.{mark_other, unmarked_none}
use Rattle.tally.proofs.Never.{never}
use Rattle.tally.proofs.Quorums.{majority_over_half}
use Rattle.tally.proofs.Tallies.{passing_senders, length_gathered, holders_senders, ones_units, typed_mark, estimate_same_at, estimate_other_at, typed_empty}
use Rattle.contents.specs.Estimates.{is_blank, is_b}
use Rattle.contents.specs.Images.{marked_ok}
use Rattle.contents.proofs.Facts.{TallyFacts, image_facts, log_facts, only_below}
use Rattle.consensus.specs.Step.{next_proposal}
use Rattle.consensus.specs.Units.{WellFormed, unit_log, unit_image}
use Rattle.consensus.specs.declared.Unit as U

-- only units below n are marked, none with blank
pub record Proper (n : ℕ) (t : Tally) : Type 0 where
  pub typed : Typed t
  pub low : n ≤ senders
  pub only : OnlyBelow n t.marks
  pub vote : (s : ℕ) → s < senders → is_marked t.marks s ≡ true → is_blank (estimate_at t s) ≡ false

-- a sender that is marked with some estimate
abbrev pub voted : Tally → ℕ → Bool
voted t s = not (is_blank (held t s))

-- with another than the mileage v
abbrev pub others : Tally → ℕ → ℕ → Bool
others t v s = voted t s && not (has_value v (held t s))

pub holds_mileage : (v : ℕ) (e : Estimate) → has_value v e ≡ true → e ≡ Mileage v
holds_mileage v Blank h = never h
holds_mileage v Split h = never h
holds_mileage v (Mileage w) h = ap Mileage (eqb-true w v h)

-- some unit passes where the count is not 0
some_unit : (n : ℕ) (P : ℕ → Bool) → 1 ≤ count n P → (s : ℕ) × ((s < n) × (P s ≡ true))
some_unit zero P h = absurd (omega arith)
some_unit (suc k) P h = go (some_unit k P) (P k) refl h
  where
    go : (1 ≤ count k P → (s : ℕ) × ((s < k) × (P s ≡ true))) → (b : Bool) → P k ≡ b → 1 ≤ bump b (count k P)
        → (s : ℕ) × ((s < suc k) × (P s ≡ true))
    go ih true e h = (k, (omega arith, e))
    go ih false e h = let s = ih h in (s.0, (omega (arith, s.1.0), s.1.1))

count_has : (n : ℕ) (P : ℕ → Bool) (s : ℕ) → s < n → P s ≡ true → 1 ≤ count n P
count_has zero P s b h = absurd (omega arith)
count_has (suc k) P s b h = go (count_has k P s) (P k) refl (dec_lt s k)
  where
    go : (s < k → P s ≡ true → 1 ≤ count k P) → (x : Bool) → P k ≡ x → Dec (s < k) → 1 ≤ bump x (count k P)
    go ih true e d = omega arith
    go ih false e (yes l) = ih l h
    go ih false e (no l) = let q : s ≡ k = omega arith in never (sym e ∙ rw (sym q) h)

blank_is : (e : Estimate) → is_blank e ≡ true → e ≡ Blank
blank_is Blank h = refl
blank_is Split h = never h
blank_is (Mileage v) h = never h

module _ (n : ℕ) (t : Tally) (p : Proper n t) where
  -- those gathered that pass a test, counted over the units below n
  passing_units : (P : Estimate → Bool) → passing P (gathered t) ≡ count n (λ s. is_marked t.marks s && P (estimate_at t s))
  passing_units P =
      passing_senders P t
      ∙ count_below n senders (λ s. is_marked t.marks s && P (estimate_at t s)) p.low (λ s a b. ap (λ (x : Bool). x && P (estimate_at t s)) (p.only s a b))

  -- a unit that is marked votes with what it is marked with
  voted_placed : (s : ℕ) → s < senders → is_marked t.marks s ≡ true → (held t s ≡ estimate_at t s) × (voted t s ≡ true)
  unfolding held
  voted_placed s b h = rw h (refl, rw (p.vote s b h))

  marked_units : ones t.marks ≡ count n (is_marked t.marks)
  marked_units = ones_units n t.marks p.low p.typed.marks p.only

  pub full_voted : (q : ℕ) → q ≤ ones t.marks → q ≤ count n (voted t)
  full_voted q h =
      let c = count_mono n (is_marked t.marks) (voted t) (λ s b m. (voted_placed s (omega (arith, p.low)) m).1) in
      omega (arith, marked_units)

  holders_units : (v : ℕ) → holders v (gathered t) ≡ count n (λ s. has_value v (held t s))
  unfolding held
  holders_units v =
      holders_senders v t
      ∙ count_below n senders (λ s. has_value v (held t s)) p.low (λ s a b. ap (λ (x : Bool). has_value v (cond x (estimate_at t s) Blank)) (p.only s a b))

  -- a mileage that some of those gathered hold is some unit's
  holder : (v k : ℕ) → 1 ≤ k → k ≤ holders v (gathered t) → (s : ℕ) × ((s < n) × (held t s ≡ Mileage v))
  holder v k a b =
      let s = some_unit n (λ s. has_value v (held t s)) (omega (arith, holders_units v)) in
      (s.0, (s.1.0, holds_mileage v (held t s.0) s.1.1))

  -- the common mileage of a quorum is each one's
  pub common_voted : (q v : ℕ) → common (gathered t) ≡ Mileage v → q ≤ ones t.marks → q ≤ count n (λ s. has_value v (held t s))
  common_voted q v e h =
      let all = eqb-true (holders v (gathered t)) (length (gathered t)) (sym (all_counted v (gathered t)) ∙ common_all (gathered t) v e) in
      omega (arith, holders_units v, length_gathered t p.typed.marks)

  pub lowest_voted : (v : ℕ) → lowest (gathered t) ≡ Mileage v → (s : ℕ) × ((s < n) × (held t s ≡ Mileage v))
  lowest_voted v e = holder v 1 (omega arith) (lowest_held (gathered t) v e)

  pub majority_voted : (k v : ℕ) → 1 ≤ k → majority k (gathered t) ≡ Mileage v → (s : ℕ) × ((s < n) × (held t s ≡ Mileage v))
  majority_voted k v a e = holder v k a (majority_held k (gathered t) v e)

  marked_held : (s v : ℕ) → held t s ≡ Mileage v → (is_marked t.marks s && any_mileage (estimate_at t s)) ≡ true
  unfolding held
  marked_held s v e = go (is_marked t.marks s) e
    where
      go : (b : Bool) → cond b (estimate_at t s) Blank ≡ Mileage v → (b && any_mileage (estimate_at t s)) ≡ true
      go true h = rw h refl
      go false h = never cc

  -- B: where no mileage is seen, no unit has one
  pub lowest_blank : is_blank (lowest (gathered t)) ≡ true → (s : ℕ) → s < n → (v : ℕ) → held t s ≡ Mileage v → ⊥
  lowest_blank h s b v e =
      let none = lowest_none (gathered t) (blank_is (lowest (gathered t)) h) in
      let one = count_has n (λ s. is_marked t.marks s && any_mileage (estimate_at t s)) s b (marked_held s v e) in
      omega (arith, passing_units any_mileage)

  -- R: unless v is the next proposal, those gathered that are not v stop a quorum of v
  pub next_r_blocks : (own : Estimate) (v : ℕ) → ones t.marks ≡ quorum_of R n → (next_proposal R n t own ≡ Mileage v → ⊥)
      → n < count n (others t v) + quorum_of R n
  unfolding next_proposal
  next_r_blocks own v full not_v = go (dec_lt (holders v (gathered t)) (majority_of n))
    where
      many : length (gathered t) ≡ quorum_of R n
      many = length_gathered t p.typed.marks ∙ full

      weaker : (s : ℕ) → s < n → (is_marked t.marks s && not (has_value v (estimate_at t s))) ≡ true → others t v s ≡ true
      weaker s b h =
          let m = and_parts (is_marked t.marks s) (not (has_value v (estimate_at t s))) h in
          let here = voted_placed s (omega (arith, p.low)) m.0 in
          rw here.1 (rw here.0 m.1)

      go : Dec (holders v (gathered t) < majority_of n) → n < count n (others t v) + quorum_of R n
      go (yes few) =
          let c = count_mono n (λ s. is_marked t.marks s && not (has_value v (estimate_at t s))) (others t v) weaker in
          omega (arith, others_block n v (gathered t) many few, passing_units (λ e. not (has_value v e)))
      go (no lot) = absurd (not_v (majority_found (majority_of n) (gathered t) v (omega (arith, many, majority_over_half n)) (omega arith)))

  pub next_r_voted : (own : Estimate) (v : ℕ) → next_proposal R n t own ≡ Mileage v → (s : ℕ) × ((s < n) × (held t s ≡ Mileage v))
  unfolding next_proposal
  next_r_voted own v e = majority_voted (majority_of n) v (omega arith) e

  -- marking a unit below n, not with blank
  pub proper_mark : (s : ℕ) (e : Estimate) → s < n → is_blank e ≡ false → Proper n (mark t s e)
  unfolding mark
  proper_mark s e b nonblank =
      record {
        typed = typed_mark t s e p.typed (omega (arith, p.low));
        low = p.low;
        only = λ u a c. mark_other t.marks s u (λ q. omega (arith, q)) ∙ p.only u a c;
        vote = λ u c h. go u c h (eqb u s) refl;
      }
    where
      go : (u : ℕ) → u < senders → is_marked (mark t s e).marks u ≡ true → (x : Bool) → eqb u s ≡ x
          → is_blank (estimate_at (mark t s e) u) ≡ false
      go u c h true q = rw (eqb-true u s q) (ap is_blank (estimate_same_at t s e (omega (arith, p.typed.cells, p.low))) ∙ nonblank)
      go u c h false q =
          let other = eqb-false u s q in
          ap is_blank (estimate_other_at t s u e other) ∙ p.vote u c (sym (mark_other t.marks s u other) ∙ h)

-- no marks
pub proper_none : (n : ℕ) → n ≤ senders → Proper n no_marks
unfolding no_marks
proper_none n low =
    record { typed = typed_empty; low = low; only = λ u a b. unmarked_none u; vote = λ s b m. never (sym (unmarked_none s) ∙ m) }

-- the mileage seen is never split
pub lowest_not_split : (es : List Estimate) → lowest es ≡ Split → ⊥
unfolding lowest
lowest_not_split es =
    found any_mileage (λ e. e ≡ Split → ⊥) (λ h. never cc) es
    (each (λ e. any_mileage e ≡ true → e ≡ Split → ⊥) (λ e p h. never (rw h at p)) es)

-- the tallies of a well-formed unit are proper
proper_tally : (l : Limits) (split : Bool) (g : Engine) (n : ℕ) (t : Tally) → n ≤ max_units → Typed t → TallyFacts l split g n t → Proper n t
proper_tally l split g n t low typed f =
    record { typed = typed; low = low; only = only_below l split g n t f; vote = λ s b h. go (estimate_at t s) (rw h at (f.places s b).vote) }
  where
    go : (e : Estimate) → marked_ok l split true e ≡ true → is_blank e ≡ false
    go Blank h = by split h
      where
        by : (x : Bool) → marked_ok l x true Blank ≡ true → true ≡ false
        by true h = sym h
        by false h = sym h
    go Split h = refl
    go (Mileage v) h = refl

pub proper_unit : (l : Limits) (u : U.Unit) → WellFormed l u → Proper u.settings.n u.checks × Proper u.settings.n u.seconds
proper_unit l u w =
    let i = image_facts l (unit_image u) w.image in
    let n = (log_facts l (unit_log u) w.log).numbers.n_high in
    let g = u.settings.engine in
    let k = u.settings.n in
    (proper_tally l false g k u.checks n w.checks i.checks, proper_tally l (is_b g) g k u.seconds n w.seconds i.seconds)
