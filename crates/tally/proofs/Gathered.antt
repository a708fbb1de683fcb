-- Counting finds what the definitions over the estimates gathered say. Assumes nothing.
use Prim.Native.Nat.{ℕ, suc, ◌+◌, ◌-◌, ◌≤◌, ◌<◌}
use mathlib.Core.Path.{◌≡◌, refl, sym, ap, ◌∙◌}
use mathlib.Core.Bool.{Bool, true, false, cond, not, ◌&&◌}
use mathlib.Core.List.{List, [], ◌∷◌}
use native.Mathlib.Omega.{arith}
use lib.Dec.{eqb, eqb-suc-suc}
use lib.ListN.{length}
use borrow.Author.Tests.{eq-eqb, ne_eqb, eqb-true, eqb-false, le-leb, lt-leb, leb-true}
use Rattle.tally.specs.Count.{bump, passing}
use Rattle.tally.specs.Gathered.{any_mileage, has_value, holders, all_hold, common, first_passing, lowest, leads, majority}
use Rattle.tally.specs.Quorum.{quorum_of, majority_of}
use Rattle.tally.specs.declared.Engine.TheVariants.{R}
use Rattle.tally.specs.declared.Estimate.{Estimate}
use Rattle.tally.specs.declared.Estimate.TheVariants.{Blank, Split, Mileage}
use Rattle.tally.proofs.Count.{passing_le, passing_all, passing_split, passing_mono, Each, each}
use Rattle.tally.proofs.Never.{never}
use Rattle.tally.proofs.Quorums.{majority_blocks}

-- R: where fewer than a majority of the quorum gathered hold v, those that do not stop a quorum of v
pub others_block : (n v : ℕ) (es : List Estimate) → length es ≡ quorum_of R n → holders v es < majority_of n
    → n - quorum_of R n + 1 ≤ passing (λ e. not (has_value v e)) es
unfolding holders
others_block n v es q h = omega (arith, majority_blocks n (passing (has_value v) es) h, passing_split (λ e. true) (has_value v) es, passing_all es)

-- all hold v exactly where as many hold v as there are
pub all_counted : (v : ℕ) (es : List Estimate) → all_hold v es ≡ eqb (holders v es) (length es)
unfolding all_hold holders
all_counted v [] = refl
all_counted v (e ∷ es) = go (has_value v e) (all_counted v es)
  where
    go : (b : Bool) → all_hold v es ≡ eqb (passing (has_value v) es) (length es) → (b && all_hold v es) ≡ eqb (bump b (passing (has_value v) es))
        (suc (length es))
    go true h = h ∙ sym (eqb-suc-suc (passing (has_value v) es) (length es))
    go false h = sym (ne_eqb (passing (has_value v) es) (suc (length es)) (λ e. omega (arith, passing_le (has_value v) es)))

-- where the first that passes does not pass, none does
first_none : (P : Estimate → Bool) (es : List Estimate) → P (first_passing P es) ≡ false → passing P es ≡ 0
unfolding first_passing
first_none P [] h = refl
first_none P (e ∷ es) h = go (first_none P es) (P e) refl h
  where
    go : (P (first_passing P es) ≡ false → passing P es ≡ 0) → (b : Bool) → P e ≡ b → P (cond b e (first_passing P es)) ≡ false → bump b
        (passing P es) ≡ 0
    go ih true p h = never cc
    go ih false p h = ih h

-- no estimate is two mileages
holders_apart : (v w : ℕ) → (v ≡ w → ⊥) → (es : List Estimate) → holders v es + holders w es ≤ length es
unfolding holders
holders_apart v w n [] = omega arith
holders_apart v w n (e ∷ es) = go (has_value v e) (has_value w e) (apart e) (holders_apart v w n es)
  where
    apart : (e : Estimate) → has_value v e ≡ true → has_value w e ≡ true → ⊥
    apart Blank p q = never cc
    apart Split p q = never cc
    apart (Mileage x) p q = n (sym (eqb-true x v p) ∙ eqb-true x w q)

    go : (a b : Bool) → (a ≡ true → b ≡ true → ⊥) → passing (has_value v) es + passing (has_value w) es ≤ length es
        → bump a (passing (has_value v) es) + bump b (passing (has_value w) es) ≤ suc (length es)
    go true true f h = absurd (f refl refl)
    go true false f h = omega arith
    go false true f h = omega arith
    go false false f h = omega arith

-- what is found is blank, or one of those that pass
pub found : (P : Estimate → Bool) (Q : Estimate → Type 0) → Q Blank → (es : List Estimate) → Each (λ e. P e ≡ true → Q e) es
    → Q (first_passing P es)
unfolding first_passing
found P Q blank [] f = blank
found P Q blank (e ∷ es) f = go (P e) refl (found P Q blank es f.1)
  where
    go : (b : Bool) → P e ≡ b → Q (first_passing P es) → Q (cond b e (first_passing P es))
    go true p ih = f.0 p
    go false p ih = ih

-- what is found passes
pub first_passes : (P : Estimate → Bool) (es : List Estimate) (v : ℕ) → first_passing P es ≡ Mileage v → P (Mileage v) ≡ true
first_passes P es v =
    found P (λ e. e ≡ Mileage v → P (Mileage v) ≡ true) (λ h. never cc) es
    (each (λ e. P e ≡ true → e ≡ Mileage v → P (Mileage v) ≡ true) (λ e p h. rw h at p) es)

-- the majority mileage is one that a majority holds
pub majority_held : (need : ℕ) (es : List Estimate) (v : ℕ) → majority need es ≡ Mileage v → need ≤ holders v es
unfolding majority leads
majority_held need es v h = leb-true need (holders v es) (first_passes (leads need es) es v h)

-- and the only one: where some mileage is held by over half, it is found
pub majority_found : (need : ℕ) (es : List Estimate) (v : ℕ) → length es < need + need → need ≤ holders v es → majority need es ≡ Mileage v
unfolding majority leads holders
majority_found need es v over h = go (first_passing P es) refl
  where
    P : Estimate → Bool
    P = leads need es

    weaker : (e : Estimate) → has_value v e ≡ true → P e ≡ true
    weaker Blank p = p
    weaker Split p = p
    weaker (Mileage x) p = rw (eqb-true x v p) (le-leb need (holders v es) h)

    some : P (first_passing P es) ≡ true
    some = by (P (first_passing P es)) refl
      where
        by : (b : Bool) → P (first_passing P es) ≡ b → b ≡ true
        by true e = refl
        by false e = absurd (omega (arith, first_none P es e, passing_mono (has_value v) P es (each (λ e. has_value v e ≡ true → P e ≡ true) weaker es)))

    go : (e : Estimate) → first_passing P es ≡ e → first_passing P es ≡ Mileage v
    go Blank e = never (cc some)
    go Split e = never (cc some)
    go (Mileage w) e = by (eqb w v) refl
      where
        by : (b : Bool) → eqb w v ≡ b → first_passing P es ≡ Mileage v
        by true q = e ∙ ap Mileage (eqb-true w v q)
        by false q =
            let lead = leb-true need (holders w es) (first_passes P es w e) in
            absurd (omega (arith, holders_apart w v (eqb-false w v q) es))

-- blank where no mileage is held by a majority
pub majority_none : (need : ℕ) (es : List Estimate) → ((v : ℕ) → holders v es < need) → majority need es ≡ Blank
unfolding majority leads first_passing
majority_none need es few = go es
  where
    fails : (e : Estimate) → leads need es e ≡ false
    fails Blank = refl
    fails Split = refl
    fails (Mileage v) = lt-leb need (holders v es) (few v)

    go : (fs : List Estimate) → first_passing (leads need es) fs ≡ Blank
    go [] = refl
    go (e ∷ fs) = rw (fails e) (go fs)

-- the common mileage is each one's
pub common_all : (es : List Estimate) (v : ℕ) → common es ≡ Mileage v → all_hold v es ≡ true
unfolding common all_hold
common_all [] v h = never cc
common_all (Blank ∷ es) v h = never cc
common_all (Split ∷ es) v h = never cc
common_all (Mileage w ∷ es) v h = go (all_hold w es) refl h
  where
    go : (b : Bool) → all_hold w es ≡ b → cond b (Mileage w) Split ≡ Mileage v → (eqb w v && all_hold v es) ≡ true
    go true a h = let e : w ≡ v = cc in rw (eq-eqb w v e, ← e) a
    go false a h = never cc

-- a mileage that is each one's, of some, is common
pub all_common : (e : Estimate) (es : List Estimate) (v : ℕ) → all_hold v (e ∷ es) ≡ true → common (e ∷ es) ≡ Mileage v
unfolding common all_hold
all_common Blank es v h = never h
all_common Split es v h = never h
all_common (Mileage w) es v h = go (eqb w v) refl h
  where
    go : (b : Bool) → eqb w v ≡ b → (b && all_hold v es) ≡ true → cond (all_hold w es) (Mileage w) Split ≡ Mileage v
    go true q h = rw (eqb-true w v q, h)
    go false q h = never h

-- the lowest sender's mileage is someone's
pub lowest_held : (es : List Estimate) (v : ℕ) → lowest es ≡ Mileage v → 1 ≤ holders v es
unfolding lowest first_passing holders
lowest_held [] v h = never cc
lowest_held (Blank ∷ es) v h = lowest_held es v h
lowest_held (Split ∷ es) v h = lowest_held es v h
lowest_held (Mileage w ∷ es) v h = let e : w ≡ v = cc in rw (eq-eqb w v e) (omega arith)

-- and where it is blank no mileage is seen
pub lowest_none : (es : List Estimate) → lowest es ≡ Blank → passing any_mileage es ≡ 0
unfolding lowest
lowest_none es h = first_none any_mileage es (rw h)
