-- An answer of the bench, by cases. Assumes nothing.
use Rattle.std.specs.Prelude.{Some, None}
use Prim.Native.Nat.{ℕ, ◌≤◌, ◌<◌}
use mathlib.Core.Path.{◌≡◌, refl, sym, ap, ◌∙◌}
use mathlib.Core.Bool.{Bool, true, false, cond}
use mathlib.Core.List.{List}
use lib.Dec.{eqb, leb}
use borrow.Author.Tests.{eqb-true, eqb-false, leb-true, leb-false}
use Rattle.tally.specs.Limits.{Limits, places}
use Rattle.tally.specs.Refusal.{number_of}
use Rattle.tally.specs.declared.Refusal.{Refusal}
use Rattle.tally.proofs.Never.{never}
use Rattle.contents.specs.Messages.{is_empty}
use Rattle.contents.specs.declared.Kind.{Kind}
use Rattle.contents.specs.declared.Kind.TheVariants.{Empty, First, Check, Second, Skip}
use Rattle.consensus.specs.Methods.{refuses, unless}
use Rattle.consensus.specs.Conditions.{Condition, first_refusal, NoneHolds}
use Rattle.consensus.proofs.Given.{answer_given}
use Rattle.consensus.specs.declared.Answer.{Answer}
use Rattle.consensus.specs.declared.Unit as U
use Rattle.script.specs.Script.{event_unit}
use Rattle.script.specs.declared.ScriptEvent.{ScriptEvent}
use Rattle.bench_play.specs.Bench.{LineAnswer, refused, accepted, no_place_left, with_unit, with_message, send, settle}
use Rattle.bench_play.specs.Play.{unit_answer, answer}
use Rattle.bench_play.specs.declared.Bench.{Bench}

is_empty_lem : (k : Kind) → is_empty k ≡ true → k ≡ Empty
is_empty_lem Empty h = refl
is_empty_lem First h = never h
is_empty_lem Check h = never h
is_empty_lem Second h = never h
is_empty_lem Skip h = never h

not_empty : (k : Kind) → is_empty k ≡ false → k ≡ Empty → ⊥
not_empty k h e = never (sym h ∙ ap is_empty e)

-- the bench's answer to an answer a of unit u
pub record Settling (P : LineAnswer → Type 0) (b : Bench) (u : ℕ) (a : Answer) : Type 0 where
  pub refuses : (number_of a.refusal ≡ 0 → ⊥) → P (refused b a.refusal)
  pub quiet : number_of a.refusal ≡ 0 → a.message.kind ≡ Empty → P (accepted (with_unit b u a.unit) None a.decision)
  pub full : number_of a.refusal ≡ 0 → (a.message.kind ≡ Empty → ⊥) → places ≤ b.kept → P (refused b (Some Refusal.Full))
  pub sends : number_of a.refusal ≡ 0 → (a.message.kind ≡ Empty → ⊥) → b.kept < places
      → P (accepted (with_message (with_unit b u a.unit) a.message) (Some b.kept) a.decision)

pub by_settle : (P : LineAnswer → Type 0) (b : Bench) (u : ℕ) (a : Answer) → Settling P b u a → P (settle b u a)
unfolding settle send no_place_left
by_settle P b u a s = number (eqb (number_of a.refusal) 0) refl
  where
    place : number_of a.refusal ≡ 0 → (a.message.kind ≡ Empty → ⊥) → (t : Bool) → leb places b.kept ≡ t
        → P (cond t (refused b (Some Refusal.Full)) (accepted (with_message (with_unit b u a.unit) a.message) (Some b.kept) a.decision))
    place zero some true e = s.full zero some (leb-true _ _ e)
    place zero some false e = s.sends zero some (leb-false _ _ e)

    kind : number_of a.refusal ≡ 0 → (t : Bool) → is_empty a.message.kind ≡ t
        → P (cond t (accepted (with_unit b u a.unit) None a.decision) (send b u a))
    kind zero true e = s.quiet zero (is_empty_lem _ e)
    kind zero false e = place zero (not_empty _ e) (leb places b.kept) refl

    number : (t : Bool) → eqb (number_of a.refusal) 0 ≡ t
        → P (cond t (cond (is_empty a.message.kind) (accepted (with_unit b u a.unit) None a.decision) (send b u a)) (refused b a.refusal))
    number true e = kind (eqb-true _ _ e) (is_empty a.message.kind) refl
    number false e = s.refuses (eqb-false _ _ e)

-- a malformed line is refused
pub answer_line : (l : Limits) (b : Bench) → answer l b ScriptEvent.Malformed ≡ refused b (Some Refusal.Line)
unfolding answer unit_answer settle
answer_line l b = refl

pub by_answer : (P : LineAnswer → Type 0) (l : Limits) (b : Bench) (e : ScriptEvent) → Settling P b (event_unit e) (unit_answer l b e) → P (answer l b e)
unfolding answer
by_answer P l b e s = by_settle P b (event_unit e) (unit_answer l b e) s

-- a method whose number is 0 is the step's answer
pub unless_accepts : (cs : List Condition) (u : U.Unit) (a : Answer) → number_of (unless cs u a).refusal ≡ 0
    → NoneHolds cs × (unless cs u a ≡ a)
unfolding unless
unless_accepts cs u a zero = answer_given (λ (x : Answer). number_of x.refusal) cs a (refuses u (first_refusal cs)) refl zero
