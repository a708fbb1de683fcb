-- Decisions that a played script shows: all the same, and each proposed on an earlier line. Assumes nothing.
use Prim.Native.Nat.{ℕ, ◌<◌}
use mathlib.Core.Path.{◌≡◌, refl, sym, ap, subst, ◌∙◌}
use mathlib.Core.Bool.{Bool, true, false, cond}
use mathlib.Core.List.{List, [], ◌∷◌, ◌++◌, map, Memᴰ}
use borrow.Author.Tests.{eqb-true}
use Rattle.tally.specs.Limits.{Limits}
use Rattle.tally.specs.Refusal.{number_of}
use Rattle.tally.specs.declared.Estimate.TheVariants.{Mileage}
use Rattle.agreement.specs.Contents as C
use Rattle.agreement.specs.Worlds.{Proposal, Decision, run, Given}
use Rattle.agreement.proofs.History.{Inv, decided_given, step_proposed}
use Rattle.agreement.proofs.Invariant.{agreement}
use Rattle.script.specs.Script.{event_unit, in_ranges}
use Rattle.script.specs.declared.ScriptEvent.{ScriptEvent}
use Rattle.script.specs.declared.Header.{Header}
use Rattle.bench_play.specs.Bench.{start}
use Rattle.bench_play.specs.Play.{Played, answer, play, bench_after}
use Rattle.bench_play.specs.declared.Bench.{Bench}
use Rattle.bench_history.specs.Covered.{ProposedIn}
use Rattle.bench_history.specs.History.{setup_of, Below, line_accepted, of_accepted, contents_event, event_proposals, proposals}
use Rattle.bench_history.specs.History.{ShownDecision, decided_of, decisions, without_round, Shows, contents_after}
use Rattle.bench_history.proofs.Lists.{flat_in, flat_from}
use Rattle.bench_play.proofs.PlayedLines.{played, reached_sized}
use Rattle.bench_history.proofs.Lines.{below_parts}
use Rattle.bench_history.proofs.Simulation.{line_shows, units_high, simulated, after_inv}

-- ---- lines and the world

-- a decision of the world, with its mileage
abbrev DecidedIn : ℕ → C.ContentsWorld → Type 0
DecidedIn v w = (d : Decision) × (Memᴰ d w.decided × (d.mileage ≡ v))

-- a decision shown is one of the world's
shown_decided : (n : ℕ) (b : Bench) (lines : List Played) (w : C.ContentsWorld) → Shows n b lines w → (p : Played) → Memᴰ p lines → (v : ℕ)
    → p.answer.decision ≡ Mileage v → DecidedIn v w
unfolding decisions
shown_decided n b lines w shows p here v e =
    let shown : Memᴰ (record { unit = event_unit p.event; mileage = v }) (map without_round w.decided) =
    rw shows.decided (flat_in (λ (q : Played). decided_of (event_unit q.event) q.answer.decision) lines here (rw e (mathlib.Core.List.Memᴰ.head refl))) in
    let d = mathlib.Core.List.Memᴰ.of_map without_round w.decided shown in
    (d.0, (d.1, ap (λ (x : ShownDecision). x.mileage) d.2))

-- a proposal of the world is on an accepted line
of_proposal : (p : Played) (q : Proposal) → Memᴰ q (of_accepted event_proposals p)
    → (p.event ≡ ScriptEvent.Propose q.unit q.mileage) × (number_of p.answer.refusal ≡ 0)
of_proposal p q = go (line_accepted p.answer) refl p.event
  where
    go : (t : Bool) → line_accepted p.answer ≡ t → (e : ScriptEvent) → Memᴰ q (cond t (event_proposals e) [])
        → (e ≡ ScriptEvent.Propose q.unit q.mileage) × (number_of p.answer.refusal ≡ 0)
    go true ok (ScriptEvent.Propose u v) h =
        let same = mathlib.Core.List.Memᴰ.eq_of_singleton h in
        (rw same, eqb-true _ _ ok)
    go true ok ScriptEvent.Malformed h = absurd (mathlib.Core.List.Memᴰ.not-nil h)
    go true ok (ScriptEvent.Deliver u k) h = absurd (mathlib.Core.List.Memᴰ.not-nil h)
    go true ok (ScriptEvent.Cut u k) h = absurd (mathlib.Core.List.Memᴰ.not-nil h)
    go true ok (ScriptEvent.KeyOff u) h = absurd (mathlib.Core.List.Memᴰ.not-nil h)
    go true ok (ScriptEvent.KeyOn u) h = absurd (mathlib.Core.List.Memᴰ.not-nil h)
    go false off e h = absurd (mathlib.Core.List.Memᴰ.not-nil h)

given_line : (n : ℕ) (b : Bench) (lines : List Played) (w : C.ContentsWorld) → Shows n b lines w → (v : ℕ) → Given v w → ProposedIn v lines
unfolding proposals
given_line n b lines w shows v g =
    let r = flat_from (of_accepted event_proposals) lines (rw shows.proposed at g.there) in
    let q = of_proposal r.0 _ r.1.1 in
    record { line = r.0; there = r.1.0; by = g.by; event = q.0; accepted = q.1 }

-- a line is at most one event
one_event : (P : List C.ContentsEvent → Type 0) → P [] → ((x : C.ContentsEvent) → P (x ∷ [])) → (p : Played) → P (of_accepted contents_event p)
one_event P none one p = go (line_accepted p.answer) p.event
  where
    go : (t : Bool) (e : ScriptEvent) → P (cond t (contents_event e) [])
    go true ScriptEvent.Malformed = none
    go true (ScriptEvent.Propose u v) = one _
    go true (ScriptEvent.Deliver u k) = one _
    go true (ScriptEvent.Cut u k) = one _
    go true (ScriptEvent.KeyOff u) = one _
    go true (ScriptEvent.KeyOn u) = one _
    go false e = none

-- ---- the script

module _ (l : Limits) (h : Header) (range : in_ranges h.n h.entry ≡ true) (es : List ScriptEvent) (below : Below h.n es) where
  pub decisions_same : (p q : Played) → Memᴰ p (play l (start h) es) → Memᴰ q (play l (start h) es)
      → (v w : ℕ) → p.answer.decision ≡ Mileage v → q.answer.decision ≡ Mileage w → v ≡ w
  decisions_same p q i j v w e f =
      let shows = simulated h range l es below in
      let a = shown_decided h.n _ _ _ shows p i v e in
      let d = shown_decided h.n _ _ _ shows q j w f in
      sym a.1.1 ∙ agreement l (setup_of h) _ _ _ _ (after_inv h range l es below) a.0 d.0 a.1.0 d.1.0 ∙ d.1.1

  -- of the last line: what it decides was given before it
  decided_before : (e : ScriptEvent) → event_unit e < h.n → (v : ℕ) → (answer l (bench_after l (start h) es) e).decision ≡ Mileage v
      → Given v (contents_after l h es)
  unfolding run
  decided_before e at v decides =
      let p = played e (answer l (bench_after l (start h) es) e) in
      let after = line_shows l h.n (units_high h range) (bench_after l (start h) es) (reached_sized h l es) (play l (start h) es) (contents_after l h es)
      (simulated h range l es below) e at in
      let d = shown_decided h.n _ _ _ after p (mathlib.Core.List.Memᴰ.append_right (play l (start h) es) (mathlib.Core.List.Memᴰ.head refl)) v decides in
      subst (λ k. Given k (contents_after l h es)) d.1.1
      (one_event (λ xs. Memᴰ d.0 (run (C.step l h.n) (contents_after l h es) xs).decided → Given d.0.mileage (contents_after l h es))
      (decided_given l (setup_of h) (contents_after l h es) inv d.0)
      (λ x. step_proposed l (setup_of h) (contents_after l h es) x inv d.0) p d.1.0)
    where
      inv : Inv l (setup_of h) (contents_after l h es)
      inv = after_inv h range l es below

  pub decided_proposed : (e : ScriptEvent) → event_unit e < h.n → (v : ℕ) → (answer l (bench_after l (start h) es) e).decision ≡ Mileage v
      → ProposedIn v (play l (start h) es)
  decided_proposed e at v decides = given_line h.n _ _ _ (simulated h range l es below) v (decided_before e at v decides)

pub decision_proposed : (l : Limits) (h : Header) → in_ranges h.n h.entry ≡ true → (es : List ScriptEvent) → Below h.n es
    → (before after : List ScriptEvent) (e : ScriptEvent) → es ≡ before ++ (e ∷ after) → (v : ℕ)
    → (answer l (bench_after l (start h) before) e).decision ≡ Mileage v → ProposedIn v (play l (start h) before)
decision_proposed l h range es below before after e split v decides =
    let parts = below_parts h.n before e after (subst (Below h.n) split below) in
    decided_proposed l h range before parts.0 e parts.1 v decides
