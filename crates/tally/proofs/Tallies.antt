-- Tallies: one turn of a search over the senders, counts over unit numbers, and what marking a sender changes. Assumes nothing.
use Rattle.std.specs.Prelude.{Option, Some, None}
use Prim.Native.Nat.{ℕ, zero, suc, ◌+◌, ◌-◌, ◌^◌, ◌<◌, ◌≤◌}
use mathlib.Core.Path.{◌≡◌, refl, sym, ap, ◌∙◌}
use mathlib.Core.Bool.{Bool, true, false, cond, ◌&&◌, and-true}
use mathlib.Core.List.{List, ◌∷◌}
use native.Mathlib.Nat.{add-zero, zero-add, add-suc, suc-add}
use native.Mathlib.Numerals.{add-one}
use native.Mathlib.Omega.{arith}
use lib.Count.{ones}
use lib.Bits.{or_lt}
use lib.ListN.{length, length-set}
use lib.Pow.{pow-lt, pow_pos}
use lib.Seq.{get_or-set_same, get_or-set_other}
use Rattle.tally.specs.Limits.{senders}
use Rattle.tally.specs.Count.{bump, passing, count, Both}
use Rattle.tally.specs.Gathered.{has_value, holders, first_passing}
use Rattle.tally.specs.InnerGathered.{sent_by}
use Rattle.tally.specs.Tally.{Typed, OnlyBelow, no_marks, is_marked, blank_cell, estimate_at, held, mark, gathered_from, gathered}
use Rattle.tally.specs.Quorum.{quorum_of}
use Rattle.tally.specs.declared.Cell.{Cell}
use Rattle.tally.specs.declared.Engine.{Engine}
use Rattle.tally.specs.declared.Estimate.{Estimate}
use Rattle.tally.specs.declared.Estimate.TheVariants.{Blank}
use Rattle.tally.specs.declared.Tally.{Tally}
use Rattle.tally.proofs.Count.{passing_all, count_same, count_below}
use Rattle.tally.proofs.Quorums.{quorums_overlap}
use Rattle.tally.proofs.Marks.{ones_senders, mark_same, mark_other, unmarked_none}

-- those gathered from the sender s on
abbrev pub rest : Tally → ℕ → List Estimate
rest t s = gathered_from t s (senders - s)

-- those gathered that pass a test are the marked senders whose estimate does
module _ (P : Estimate → Bool) (t : Tally) where
  abbrev Q : ℕ → Bool
  Q u = is_marked t.marks u && P (estimate_at t u)

  passing_from : (s k : ℕ) → passing P (gathered_from t s k) + count s Q ≡ count (s + k) Q
  unfolding gathered_from
  passing_from s zero = rw add-zero (zero-add (count s Q))
  passing_from s (suc k) =
      go (is_marked t.marks s) refl ∙ passing_from (suc s) k ∙ ap (λ (x : ℕ). count x Q) (suc-add s k ∙ sym (add-suc s k))
    where
      later : List Estimate
      later = gathered_from t (suc s) k

      go : (b : Bool) → is_marked t.marks s ≡ b → passing P (cond b (estimate_at t s ∷ later) later) + count s Q ≡ passing P later + count (suc s) Q
      go false e = rw e
      go true e = rw e (by (P (estimate_at t s)))
        where
          by : (c : Bool) → bump c (passing P later) + count s Q ≡ passing P later + bump c (count s Q)
          by true = omega arith
          by false = refl

  pub passing_senders : passing P (gathered t) ≡ count senders Q
  unfolding gathered
  passing_senders = sym (add-zero (passing P (gathered_from t 0 senders))) ∙ passing_from 0 senders

-- those gathered are as many as the ones of the marks
pub length_gathered : (t : Tally) → t.marks < 2 ^ senders → length (gathered t) ≡ ones t.marks
length_gathered t h =
    sym (passing_all (gathered t))
    ∙ passing_senders (λ e. true) t
    ∙ count_same senders (λ u. is_marked t.marks u && true) (is_marked t.marks) (λ u b. and-true (is_marked t.marks u))
    ∙ sym (ones_senders t.marks h)

-- the holders of v, counted over unit numbers
pub holders_senders : (v : ℕ) (t : Tally) → holders v (gathered t) ≡ count senders (λ u. has_value v (held t u))
unfolding holders held
holders_senders v t =
    passing_senders (has_value v) t
    ∙ count_same senders (λ u. is_marked t.marks u && has_value v (estimate_at t u)) (λ u. has_value v (cond (is_marked t.marks u) (estimate_at t u) Blank))
    (λ u b. go (is_marked t.marks u) (estimate_at t u))
  where
    go : (b : Bool) (e : Estimate) → (b && has_value v e) ≡ has_value v (cond b e Blank)
    go true e = refl
    go false e = refl

-- a sender that is marked has its estimate in its place, and the others keep theirs
pub estimate_same_at : (t : Tally) (s : ℕ) (e : Estimate) → s < length t.cells → estimate_at (mark t s e) s ≡ e
unfolding mark
estimate_same_at t s e h = ap (λ (c : Cell). c.estimate) (get_or-set_same t.cells s (record { estimate = e }) blank_cell h)

pub estimate_other_at : (t : Tally) (s u : ℕ) (e : Estimate) → (u ≡ s → ⊥) → estimate_at (mark t s e) u ≡ estimate_at t u
unfolding mark
estimate_other_at t s u e n = ap (λ (c : Cell). c.estimate) (get_or-set_other t.cells s u (record { estimate = e }) blank_cell n)

-- and so it holds it
pub held_same : (t : Tally) (s : ℕ) (e : Estimate) → s < length t.cells → held (mark t s e) s ≡ e
unfolding held mark
held_same t s e h = rw (mark_same t.marks s) (estimate_same_at t s e h)

pub held_other : (t : Tally) (s u : ℕ) (e : Estimate) → (u ≡ s → ⊥) → held (mark t s e) u ≡ held t u
unfolding held mark
held_other t s u e n =
    rw (mark_other t.marks s u n) (ap (λ (x : Estimate). cond (is_marked t.marks u) x Blank) (estimate_other_at t s u e n))

-- without marks nothing is held
pub held_unmarked : (t : Tally) → t.marks ≡ 0 → (s : ℕ) → held t s ≡ Blank
unfolding held
held_unmarked t e s = rw (e, unmarked_none s)

-- ---- tallies in which only units below n are marked

-- the ones of the marks are the marked units below n
pub ones_units : (n marks : ℕ) → n ≤ senders → marks < 2 ^ senders → OnlyBelow n marks → ones marks ≡ count n (is_marked marks)
ones_units n marks le h only = ones_senders marks h ∙ count_below n senders (is_marked marks) le only

-- two tallies of a quorum each share a sender
pub tallies_overlap : (g : Engine) (n a b : ℕ) → n ≤ senders → a < 2 ^ senders → b < 2 ^ senders → OnlyBelow n a → OnlyBelow n b
    → quorum_of g n ≤ ones a → quorum_of g n ≤ ones b → Both n (is_marked a) (is_marked b)
tallies_overlap g n a b le ha hb oa ob qa qb =
    quorums_overlap g n (is_marked a) (is_marked b) (omega (arith, ones_units n a le ha oa)) (omega (arith, ones_units n b le hb ob))

-- ---- what the types say of a tally is kept

pub typed_empty : Typed no_marks
unfolding no_marks
typed_empty = record { marks = pow_pos senders; cells = refl }

pub typed_mark : (t : Tally) (s : ℕ) (e : Estimate) → Typed t → s < senders → Typed (mark t s e)
unfolding mark
typed_mark t s e typed b =
    record {
      marks = or_lt senders t.marks (2 ^ s) typed.marks (pow-lt b);
      cells = length-set t.cells s (record { estimate = e }) ∙ typed.cells;
    }

-- one turn of a search over the senders, for the first that passes a test
abbrev pub first_from : (Estimate → Bool) → Option Estimate → Estimate → Estimate
first_from P (Some e) later = cond (P e) e later
first_from P None later = later

pub first_step : (P : Estimate → Bool) (t : Tally) (s : ℕ) → s < senders
    → first_passing P (rest t s) ≡ first_from P (sent_by t s) (first_passing P (rest t (s + 1)))
unfolding first_passing gathered_from
first_step P t s below =
    let e : senders - s ≡ suc (senders - (s + 1)) = omega arith in
    rw e (rw (add-one s) (go (is_marked t.marks s) (gathered_from t (suc s) (senders - suc s))))
  where
    go : (b : Bool) (es : List Estimate) → first_passing P (cond b (estimate_at t s ∷ es) es)
        ≡ first_from P (cond b (Some (estimate_at t s)) None) (first_passing P es)
    go true es = refl
    go false es = refl
