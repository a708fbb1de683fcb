-- What is left to print, turn by turn. Assumes nothing.
use Prim.Native.Nat.{ℕ, suc, ◌+◌}
use mathlib.Core.Path.{◌≡◌, refl, sym, ap, ◌∙◌}
use mathlib.Core.List.{List, [], ◌∷◌, ◌++◌, append_assoc}
use native.Mathlib.Nat.{add-zero}
use native.Mathlib.Omega.{arith}
use lib.ListN.{length}
use Rattle.tally.specs.Limits.{Limits}
use Rattle.script.specs.declared.ScriptEvent.{ScriptEvent}
use Rattle.consensus.specs.declared.Answer.{Answer}
use Rattle.bench_play.specs.Bench.{LineAnswer}
use Rattle.bench_play.specs.Play.{answer, play, bench_after}
use Rattle.bench_play.specs.declared.Bench.{Bench}
use Rattle.bench_play.proofs.Settled.{answer_line}
use Rattle.bench_turns.specs.InnerTurns.{unit_of}
use Rattle.bench_turns.specs.declared.LineOutcome.{LineOutcome}
use Rattle.bench_turns.proofs.Turns.{Turned}
use Rattle.bench_text.specs.Text.{line_text, end_text}
use Rattle.bench_text.specs.InnerText.{HasRoom, Appends}
use Rattle.bench_text.specs.declared.Listing.{Listing}
use Rattle.bench_text.proofs.Appending.{then, none, room_first, room_next}
use Rattle.bench.specs.Listing.{unit_shown, sent_shown, line_of, line_with, lines_text, malformed_line}
use Rattle.bench.specs.InnerLines.{rest_text}

-- an event's unit, as a line shows it
pub unit_shown_lem : (e : ScriptEvent) → sent_shown (unit_of e) ≡ unit_shown e
unit_shown_lem ScriptEvent.Malformed = refl
unit_shown_lem (ScriptEvent.Propose u v) = refl
unit_shown_lem (ScriptEvent.Deliver u k) = refl
unit_shown_lem (ScriptEvent.Cut u k) = refl
unit_shown_lem (ScriptEvent.KeyOff u) = refl
unit_shown_lem (ScriptEvent.KeyOn u) = refl

-- what a malformed line prints
pub malformed_line_lem : (l : Limits) (b : Bench) (i : ℕ) → line_of i ScriptEvent.Malformed (answer l b ScriptEvent.Malformed) ≡ malformed_line i
unfolding line_of line_with malformed_line
malformed_line_lem l b i = rw (answer_line l b)

-- the line of what came of a turn
pub line_turned : (i : ℕ) {l : Limits} {b : Bench} {e : ScriptEvent} {u : ℕ} {a : Answer} {o : LineOutcome} → Turned l b e u a o
    → line_with i e o.refusal o.sent o.decision ≡ line_of i e (answer l b e)
unfolding line_of
line_turned i {l} {b} {e} t = ap (λ (r : LineAnswer). line_with i e r.refusal r.sent r.decision) t.same

-- a line of the listing, and then the rest
pub rest_turn : (l : Limits) (b : Bench) (i : ℕ) (e : ScriptEvent) (es : List ScriptEvent)
    → rest_text l b i (e ∷ es) ≡ line_text (line_of (i + 1) e (answer l b e)) ++ rest_text l (answer l b e).bench (i + 1) es
unfolding rest_text lines_text play bench_after
rest_turn l b i e es =
    let more : i + suc (length es) ≡ i + 1 + length es = omega arith in
    rw (more, append_assoc)

-- at last the final line
pub rest_end : (l : Limits) (b : Bench) (i : ℕ) → rest_text l b i [] ≡ end_text i b.kept
unfolding rest_text lines_text play bench_after
rest_end l b i = rw add-zero

module _ (l : Limits) where
  -- what was printed so far, and what is left to print, are the whole
  pub record Left (o₀ : Listing) (b₀ : Bench) (es₀ : List ScriptEvent) (o : Listing) (b : Bench) (es : List ScriptEvent) (i : ℕ) : Type 0 where
    pub so_far : List ℕ
    pub put : Appends o₀ so_far o
    pub whole : so_far ++ rest_text l b i es ≡ rest_text l b₀ 0 es₀

  pub left_start : (o : Listing) (b : Bench) (es : List ScriptEvent) → Left o b es o b es 0
  left_start o b es = record { so_far = []; put = none o; whole = refl }

  module _ {o₀ o : Listing} {b₀ b : Bench} {es₀ es : List ScriptEvent} {i : ℕ} (L : Left o₀ b₀ es₀ o b es i)
      (room : HasRoom o₀ (length (rest_text l b₀ 0 es₀))) where
    left_room : HasRoom o (length (rest_text l b i es))
    left_room = room_next _ L.put (rw L.whole room)

    module _ (e : ScriptEvent) (others : List ScriptEvent) (there : es ≡ e ∷ others) where
      shown : List ℕ
      shown = line_text (line_of (i + 1) e (answer l b e))

      after : List ℕ
      after = rest_text l (answer l b e).bench (i + 1) others

      first : rest_text l b i es ≡ shown ++ after
      unfolding shown after
      first = rw there (rest_turn l b i e others)

      -- room for the rest is room for a line
      pub turn_room : HasRoom o (length (line_text (line_of (i + 1) e (answer l b e))))
      unfolding shown
      turn_room = room_first o shown after (rw first at left_room)

      pub left_step : (next : Bench) {r : Listing} → next ≡ (answer l b e).bench → Appends o (line_text (line_of (i + 1) e (answer l b e))) r
          → Left o₀ b₀ es₀ r next others (i + 1)
      unfolding shown after
      left_step next same wrote =
          record {
            so_far = L.so_far ++ shown;
            put = then L.put wrote;
            whole = rw same (append_assoc L.so_far shown after ∙ ap (λ (t : List ℕ). L.so_far ++ t) (sym first) ∙ L.whole);
          }

    module _ (end : es ≡ []) where
      rest : rest_text l b i es ≡ end_text i b.kept
      rest = ap (rest_text l b i) end ∙ rest_end l b i

      pub end_room : HasRoom o (length (end_text i b.kept))
      end_room = rw rest at left_room

      pub left_end : {r : Listing} → Appends o (end_text i b.kept) r → Appends o₀ (rest_text l b₀ 0 es₀) r
      left_end wrote = rw (← L.whole, rest) (then L.put wrote)
