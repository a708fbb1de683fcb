-- The lines of a played script, one by one: where each stands, how many send, and with which numbers. Assumes nothing.
use Rattle.std.specs.Prelude.{Some, None}
use Prim.Native.Nat.{ℕ, zero, suc, ◌+◌, ◌<◌}
use mathlib.Core.Path.{◌≡◌, refl, ap, ◌∙◌}
use mathlib.Core.Bool.{Bool, true, false, cond}
use mathlib.Core.List.Memᴰ
use mathlib.Core.List.{List, [], ◌∷◌, ◌++◌, flat_map, Memᴰ}
use mathlib.Core.Logic.{◌⊎◌, inl, inr}
use native.Mathlib.Numerals.{add-one}
use native.Mathlib.Omega.{arith}
use lib.Dec.{eqb}
use lib.ListN.{length, get_or, set, length-append, length-replicate, length-set}
use lib.Seq.{get_or-set_same, get_or-set_other}
use borrow.Author.Tests.{eqb-true, eqb-false}
use Rattle.tally.specs.Limits.{Limits, places, senders}
use Rattle.tally.specs.Refusal.{number_of}
use Rattle.contents.specs.Messages.{empty_message}
use Rattle.consensus.specs.declared.Unit as U
use Rattle.script.specs.Script.{event_unit}
use Rattle.script.specs.declared.ScriptEvent.{ScriptEvent}
use Rattle.script.specs.declared.Header.{Header}
use Rattle.bench_play.specs.Bench.{LineAnswer, fresh_units, start, no_unit, unit_at, message_at, with_unit, with_message}
use Rattle.bench_play.specs.Play.{Played, unit_answer, answer, play, bench_after}
use Rattle.bench_play.specs.declared.Bench.{Bench}
use Rattle.bench_play.specs.Claims.{Sized, KeptStays, Unchanged, rising, sent_numbers}
use Rattle.bench_play.proofs.Settled.{by_answer}

-- a line and what it was answered
abbrev pub played : ScriptEvent → LineAnswer → Played
played e r = record { event = e; answer = r }

-- ---- the bench

-- the units after one is replaced
pub unit_set : (b : Bench) (u : ℕ) (x : U.Unit) (v : ℕ) → u < length b.units → get_or (set b.units u x) v no_unit ≡ cond (eqb v u) x (unit_at b v)
unfolding unit_at
unit_set b u x v h = go (eqb v u) refl
  where
    go : (t : Bool) → eqb v u ≡ t → get_or (set b.units u x) v no_unit ≡ cond t x (get_or b.units v no_unit)
    go true e = rw (eqb-true v u e) (get_or-set_same b.units u x no_unit h)
    go false e = get_or-set_other b.units u v x no_unit (eqb-false v u e)

pub sized_answer : (l : Limits) (b : Bench) → Sized b → (e : ScriptEvent) → Sized (answer l b e).bench
unfolding with_unit with_message
sized_answer l b sized e =
    by_answer (λ r. Sized r.bench) l b e
    (record {
      refuses = λ some. sized;
      quiet = λ ok empty. record { units = size; messages = sized.messages; kept = sized.kept };
      full = λ ok some full. sized;
      sends = λ ok some room.
          record { units = size; messages = length-set b.messages b.kept _ ∙ sized.messages; kept = omega arith };
    })
  where
    size : length (set b.units (event_unit e) (unit_answer l b e).unit) ≡ senders
    size = length-set b.units (event_unit e) (unit_answer l b e).unit ∙ sized.units

-- ---- messages once kept

kept_same : (b : Bench) → KeptStays b b
kept_same b = record { kept = omega arith; messages = λ k h. refl }

kept_then : {a b c : Bench} → KeptStays a b → KeptStays b c → KeptStays a c
kept_then f g =
    record { kept = omega (arith, f.kept, g.kept); messages = λ k h. g.messages k (omega (arith, h, f.kept)) ∙ f.messages k h }

answer_stays : (l : Limits) (b : Bench) (e : ScriptEvent) → KeptStays b (answer l b e).bench
unfolding with_unit with_message message_at
answer_stays l b e =
    by_answer (λ r. KeptStays b r.bench) l b e
    (record {
      refuses = λ some. kept_same b;
      quiet = λ ok empty. record { kept = omega arith; messages = λ k h. refl };
      full = λ ok some full. kept_same b;
      sends = λ ok some room.
          record { kept = omega arith; messages = λ k h. get_or-set_other b.messages b.kept k _ empty_message (λ same. omega (arith, same, h)) };
    })

-- after any lines
pub kept_stays : (l : Limits) (b : Bench) (es : List ScriptEvent) → KeptStays b (bench_after l b es)
unfolding bench_after
kept_stays l b [] = kept_same b
kept_stays l b (e ∷ es) = kept_then (answer_stays l b e) (kept_stays l (answer l b e).bench es)

pub sized_after : (l : Limits) (es : List ScriptEvent) (b : Bench) → Sized b → Sized (bench_after l b es)
unfolding bench_after
sized_after l [] b sized = sized
sized_after l (e ∷ es) b sized = sized_after l es (answer l b e).bench (sized_answer l b sized e)

-- from the start on
pub fresh_length : (h : Header) (k : ℕ) → length (fresh_units h k) ≡ k
unfolding fresh_units
fresh_length h zero = refl
fresh_length h (suc k) = simp (length-append, fresh_length h k) (omega arith)

pub start_sized : (h : Header) → Sized (start h)
unfolding start
start_sized h = record { units = fresh_length h senders; messages = length-replicate places empty_message; kept = omega arith }

-- the bench that a script reaches
pub reached_sized : (h : Header) (l : Limits) (es : List ScriptEvent) → Sized (bench_after l (start h) es)
reached_sized h l es = sized_after l es (start h) (start_sized h)

-- ---- a refused line

-- of any bench and event
pub refused_stays : (l : Limits) (b : Bench) (e : ScriptEvent) → (number_of (answer l b e).refusal ≡ 0 → ⊥) → Unchanged b (answer l b e)
refused_stays l b e =
    by_answer (λ r. (number_of r.refusal ≡ 0 → ⊥) → Unchanged b r) l b e
    (record {
      refuses = λ some n. record { bench = refl; sent = refl; decision = refl };
      quiet = λ ok empty n. absurd (n refl);
      full = λ ok some no n. record { bench = refl; sent = refl; decision = refl };
      sends = λ ok some room n. absurd (n refl);
    })

-- ---- a line among the others

-- a line of the script, after those before it
pub record LineOf (l : Limits) (b : Bench) (es : List ScriptEvent) (p : Played) : Type 0 where
  pub before : List ScriptEvent
  pub after : List ScriptEvent
  pub split : es ≡ before ++ (p.event ∷ after)
  pub answer : p.answer ≡ answer l (bench_after l b before) p.event

pub line_played : (l : Limits) (b : Bench) (es : List ScriptEvent) (p : Played) → Memᴰ p (play l b es) → LineOf l b es p
unfolding play bench_after
line_played l b [] p h = absurd (Memᴰ.not-nil h)
line_played l b (e ∷ es) p h = go (Memᴰ.cases_cons h) (line_played l (answer l b e).bench es p)
  where
    go : (p ≡ played e (answer l b e)) ⊎ Memᴰ p (play l (answer l b e).bench es)
        → (Memᴰ p (play l (answer l b e).bench es) → LineOf l (answer l b e).bench es p) → LineOf l b (e ∷ es) p
    go (inl same) later = record { before = []; after = es; split = rw same; answer = rw same }
    go (inr h) later =
        let r = later h in
        record { before = e ∷ r.before; after = r.after; split = ap (λ xs. e ∷ xs) r.split; answer = r.answer }

-- and each line is played after those before it
pub line_there : (l : Limits) (b : Bench) (before : List ScriptEvent) (e : ScriptEvent) (later : List ScriptEvent)
    → Memᴰ (played e (answer l (bench_after l b before) e)) (play l b (before ++ (e ∷ later)))
unfolding play bench_after
line_there l b [] e later = Memᴰ.head refl
line_there l b (x ∷ before) e later = Memᴰ.tail (line_there l (answer l b x).bench before e later)

-- ---- counts

-- as many lines are played as the script has
pub as_many : (l : Limits) (b : Bench) (es : List ScriptEvent) → length (play l b es) ≡ length es
unfolding play
as_many l b [] = refl
as_many l b (e ∷ es) = ap suc (as_many l (answer l b e).bench es)

-- of a line's answer: nothing is sent, or the message of the next number
abbrev TakesNext : Bench → LineAnswer → Type 0
TakesNext b r = ((r.sent ≡ None) × (r.bench.kept ≡ b.kept)) ⊎ ((r.sent ≡ Some b.kept) × (r.bench.kept ≡ b.kept + 1))

takes_next : (l : Limits) (b : Bench) (e : ScriptEvent) → TakesNext b (answer l b e)
unfolding with_unit with_message
takes_next l b e =
    by_answer (TakesNext b) l b e
    (record {
      refuses = λ some. inl (refl, refl);
      quiet = λ ok empty. inl (refl, refl);
      full = λ ok some no. inl (refl, refl);
      sends = λ ok some room. inr (refl, refl);
    })

-- each line that sends takes the next place, of which it shows the number
pub record Numbered (k : ℕ) (b : Bench) (lines : List Played) : Type 0 where
  pub kept : b.kept ≡ k + length (sent_numbers lines)
  pub numbers : sent_numbers lines ≡ rising k (length (sent_numbers lines))

pub numbered : (l : Limits) (b : Bench) (es : List ScriptEvent) → Numbered b.kept (bench_after l b es) (play l b es)
unfolding play bench_after sent_numbers flat_map
numbered l b [] = record { kept = omega arith; numbers = refl }
numbered l b (e ∷ es) = go (takes_next l b e) (numbered l (answer l b e).bench es)
  where
    go : TakesNext b (answer l b e) → Numbered (answer l b e).bench.kept (bench_after l (answer l b e).bench es) (play l (answer l b e).bench es)
        → Numbered b.kept (bench_after l (answer l b e).bench es) (played e (answer l b e) ∷ play l (answer l b e).bench es)
    go (inl q) r = record { kept = rw q.0 (omega (arith, r.kept, q.1)); numbers = rw q.0 (rw q.1 at r.numbers) }
    go (inr q) r =
        record {
          kept = rw q.0 (omega (arith, r.kept, q.1));
          numbers = rw q.0 (ap (λ ks. b.kept ∷ ks) (rw (q.1, add-one) at r.numbers));
        }
