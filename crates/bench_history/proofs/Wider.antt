-- A script at a greater mileage bound: where no line gave 6, it prints the same listing. Assumes nothing.
use Rattle.std.specs.Prelude.{Some}
use Prim.Native.Nat.{ℕ, ◌≤◌}
use mathlib.Core.Path.{◌≡◌, refl, subst, ap}
use mathlib.Core.Bool.{Bool, true, false, cond}
use mathlib.Core.List.{List, [], ◌∷◌, Memᴰ}
use native.Mathlib.Omega.{arith}
use lib.Dec.{leb}
use lib.ListN.{length}
use borrow.Author.Tests.{leb-true}
use Rattle.tally.specs.Limits.{Limits, hundred_metres, today, with_max_mileage, script_size}
use Rattle.tally.specs.Refusal.{number_of}
use Rattle.tally.specs.declared.Refusal.{Refusal}
use Rattle.script.specs.Script.{in_ranges, Script, malformed, script, parse}
use Rattle.script.specs.declared.ScriptEvent.{ScriptEvent}
use Rattle.script.specs.declared.Header.{Header}
use Rattle.bench.specs.Listing.{played_text, malformed_text, script_text, listing}
use Rattle.bench_play.specs.Bench.{start}
use Rattle.bench_play.specs.Play.{Played, answer, play, bench_after}
use Rattle.bench_play.specs.declared.Bench.{Bench}
use Rattle.bench_play.proofs.PlayedLines.{played, line_there}
use Rattle.bench_play.proofs.Wider.{answer_wider}
use Rattle.bench_history.specs.Covered.{EachLine}
use Rattle.bench_history.specs.History.{Below}
use Rattle.bench_history.specs.Wider.{KeepsListings}
use Rattle.bench_history.proofs.Lines.{below_parts}
use Rattle.bench_history.proofs.Scripts.{ScriptIn, script_in}
use Rattle.bench_history.proofs.Simulation.{kept_well_formed}

module _ (l : Limits) (k : ℕ) (more : l.max_mileage ≤ k) where
  abbrev l' : Limits
  l' = with_max_mileage k l

  abbrev SamePlay : Bench → List ScriptEvent → Type 0
  SamePlay b es = (play l' b es ≡ play l b es) × (bench_after l' b es ≡ bench_after l b es)

  -- each line's answer is the same, and so all that is played
  same_play : (b : Bench) (es : List ScriptEvent)
      → EachLine es (λ before e. answer l' (bench_after l b before) e ≡ answer l (bench_after l b before) e) → SamePlay b es
  unfolding play bench_after
  same_play b [] same = (refl, refl)
  same_play b (e ∷ es) same =
      let r = same_play (answer l b e).bench es (λ before later x split. same (e ∷ before) later x (ap (λ xs. e ∷ xs) split)) in
      rw (same [] es e refl) (ap (λ (ps : List Played). played e (answer l b e) ∷ ps) r.0, r.1)

  module _ (h : Header) (range : in_ranges h.n h.entry ≡ true) (es : List ScriptEvent) (below : Below h.n es)
      (none : (p : Played) → Memᴰ p (play l (start h) es) → number_of p.answer.refusal ≡ number_of (Some Refusal.Mileage) → ⊥) where
    same_lines : SamePlay (start h) es
    same_lines =
        same_play (start h) es (λ before later e split.
        let b = bench_after l (start h) before in
        let earlier = (below_parts h.n before e later (subst (Below h.n) split below)).0 in
        answer_wider l k more b (kept_well_formed h range l before earlier) e
        (none (played e (answer l b e)) (rw split (line_there l (start h) before e later))))

    same_text : played_text l' h es ≡ played_text l h es
    unfolding played_text
    same_text = let same = same_lines in rw (same.0, same.1)

  pub keeps_listings : KeepsListings l l'
  unfolding listing
  keeps_listings s none = go (leb (length s) script_size) refl
    where
      read : length s ≤ script_size → (r : Script) → parse s ≡ r → ScriptIn r → script_text l' r ≡ script_text l r
      read short malformed e i = refl
      read short (script h es) e i = same_text h i.0 es i.1 (none h es short e)

      go : (t : Bool) → leb (length s) script_size ≡ t
          → cond t (script_text l' (parse s)) malformed_text ≡ cond t (script_text l (parse s)) malformed_text
      go true e = read (leb-true _ _ e) (parse s) refl (script_in s)
      go false e = refl

-- where no line gave 6 before request 3, the listing is today the same
pub keeps_listings_today : KeepsListings hundred_metres today
keeps_listings_today = keeps_listings hundred_metres today.max_mileage (omega arith)
