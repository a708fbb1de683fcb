-- A line of the bench at a greater mileage bound: what was answered with another number than 6 is answered the same. Assumes nothing.
use Rattle.std.specs.Prelude.{Some}
use Prim.Native.Nat.{ℕ, ◌≤◌, ◌<◌}
use mathlib.Core.Path.{◌≡◌, refl, ap}
use mathlib.Core.Bool.{Bool, true, false, not}
use mathlib.Core.List.{[], ◌∷◌}
use native.Mathlib.Omega.{arith}
use lib.Dec.{leb}
use borrow.Author.Tests.{leb-false}
use Rattle.tally.specs.Limits.{Limits, with_max_mileage}
use Rattle.tally.specs.Refusal.{number_of}
use Rattle.tally.specs.declared.Refusal.{Refusal}
use Rattle.contents.specs.Messages.{message_ok}
use Rattle.consensus.specs.Conditions.{condition, first_refusal}
use Rattle.consensus.specs.Methods.{is_up, unless, deliver}
use Rattle.consensus.specs.declared.Answer.{Answer}
use Rattle.consensus.proofs.Wider.{propose_wider, deliver_wider}
use Rattle.script.specs.Script.{event_unit}
use Rattle.script.specs.declared.ScriptEvent.{ScriptEvent}
use Rattle.bench_play.specs.Bench.{LineAnswer, unit_at, message_at, settle}
use Rattle.bench_play.specs.Play.{delivery_conditions, delivery, cut_short, unit_answer, answer}
use Rattle.bench_play.specs.declared.Bench.{Bench}
use Rattle.bench_play.proofs.Settled.{by_answer}

-- 6: mileage out of range
abbrev six : ℕ
six = number_of (Some Refusal.Mileage)

module _ (l : Limits) (k : ℕ) (more : l.max_mileage ≤ k) (b : Bench) (good : (j : ℕ) → j < b.kept → message_ok l (message_at b j) ≡ true) where
  abbrev l' : Limits
  l' = with_max_mileage k l

  -- of a message that was sent; of any other neither bound is asked
  delivery_wider : (u j : ℕ) → delivery l' b u j ≡ delivery l b u j
  unfolding delivery delivery_conditions unless first_refusal
  delivery_wider u j = go (is_up (unit_at b u).power) (leb b.kept j) refl
    where
      tested : Bool → Bool → Answer → Answer
      tested up unsent a = unless (condition Refusal.Power (not up) ∷ condition Refusal.Unsent unsent ∷ []) (unit_at b u) a

      go : (up unsent : Bool) → leb b.kept j ≡ unsent
          → tested up unsent (deliver l' (unit_at b u) (message_at b j)) ≡ tested up unsent (deliver l (unit_at b u) (message_at b j))
      go false unsent e = refl
      go true true e = refl
      go true false e = deliver_wider l k more (unit_at b u) (message_at b j) (good j (leb-false _ _ e))

  own_wider : (e : ScriptEvent) → (number_of (unit_answer l b e).refusal ≡ six → ⊥) → unit_answer l' b e ≡ unit_answer l b e
  unfolding unit_answer
  own_wider ScriptEvent.Malformed not6 = refl
  own_wider (ScriptEvent.Propose u v) not6 = propose_wider l k more (unit_at b u) v not6
  own_wider (ScriptEvent.Deliver u j) not6 = delivery_wider u j
  own_wider (ScriptEvent.Cut u j) not6 = ap cut_short (delivery_wider u j)
  own_wider (ScriptEvent.KeyOff u) not6 = refl
  own_wider (ScriptEvent.KeyOn u) not6 = refl

  -- the unit's own 6 is the line's
  own_six : (e : ScriptEvent) → number_of (unit_answer l b e).refusal ≡ six → number_of (answer l b e).refusal ≡ six
  own_six e is6 =
      by_answer (λ (r : LineAnswer). number_of r.refusal ≡ six) l b e
      (record {
        refuses = λ some. is6;
        quiet = λ ok empty. absurd (omega (arith, ok, is6));
        full = λ ok some no. absurd (omega (arith, ok, is6));
        sends = λ ok some room. absurd (omega (arith, ok, is6));
      })

  pub answer_wider : (e : ScriptEvent) → (number_of (answer l b e).refusal ≡ six → ⊥) → answer l' b e ≡ answer l b e
  unfolding answer
  answer_wider e not6 = ap (settle b (event_unit e)) (own_wider e (λ is6. not6 (own_six e is6)))
