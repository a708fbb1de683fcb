-- A played script is a history over contents: the bench and the world after each line. Assumes nothing.
use Rattle.std.specs.Prelude.{Option, Some, None}
use Prim.Native.Nat.{ℕ, zero, suc, ◌≤◌, ◌<◌}
use mathlib.Core.Path.{◌≡◌, refl, sym, ap, ◌∙◌}
use mathlib.Core.Bool.{Bool, true, false, cond}
use mathlib.Core.List.{List, [], ◌∷◌, ◌++◌, append-nil, flat_map}
use native.Mathlib.Numerals.{add-one}
use native.Mathlib.Omega.{arith}
use lib.Dec.{eqb}
use lib.ListN.{get_or, take, set, get_or-append}
use lib.Seq.{append_snoc, get_or_at, take-suc-set}
use borrow.Author.Tests.{eqb-true, eqb-false, ne_eqb, lt-ltb, le-leb}
use Rattle.tally.specs.Limits.{Limits, places, senders}
use Rattle.tally.specs.Refusal.{number_of}
use Rattle.tally.specs.declared.Refusal.{Refusal}
use Rattle.contents.specs.Logs.{settings_ok}
use Rattle.contents.specs.Messages.{message_ok}
use Rattle.contents.specs.declared.Kind.{Kind}
use Rattle.contents.specs.declared.Kind.TheVariants.{Empty, First, Check, Second, Skip}
use Rattle.contents.specs.declared.Message.{Message}
use Rattle.consensus.specs.Step.{fresh}
use Rattle.consensus.specs.declared.Answer.{Answer}
use Rattle.consensus.proofs.Parts.{and_both}
use Rattle.agreement.specs.Contents.{ContentsWorld, begun, unless_empty, step}
use Rattle.agreement.specs.Worlds.{run, settings_of}
use Rattle.agreement.proofs.Follows.{sent_in}
use Rattle.agreement.proofs.History.{Inv, added, run_append, run_inv, begun_inv, from_unit}
use Rattle.script.specs.Script.{event_unit, in_ranges}
use Rattle.script.specs.declared.ScriptEvent.{ScriptEvent}
use Rattle.script.specs.declared.Header.{Header}
use Rattle.script.proofs.HeaderLines.{ranges}
use Rattle.bench_play.specs.Bench as P
use Rattle.bench_play.specs.Bench.{LineAnswer, fresh_units, start, no_unit, unit_at, message_at, refused, accepted, with_unit, with_message}
use Rattle.bench_play.specs.Play.{Played, answer, play, bench_after, unit_answer}
use Rattle.bench_play.specs.declared.Bench.{Bench}
use Rattle.bench_history.specs.History.{setup_of, Below, of_accepted, contents_event, history, event_proposals, proposals, decided_of, decisions, Shows}
use Rattle.bench_history.specs.History.{contents_after}
use Rattle.bench_play.specs.Claims.{Sized}
use Rattle.bench_history.proofs.Accepted.{Went, went, sent_at}
use Rattle.bench_history.proofs.Lists.{flat_snoc}
use Rattle.bench_play.proofs.PlayedLines.{played, unit_set, sized_answer, fresh_length, start_sized, reached_sized}
use Rattle.bench_play.proofs.Settled.{by_answer}

-- ---- one line

-- a message that is not empty is added
added_some : (ms : List Message) (k : Kind) (m : Message) → (k ≡ Empty → ⊥) → added ms (unless_empty k m) ≡ ms ++ (m ∷ [])
added_some ms Empty m h = absurd (h refl)
added_some ms First m h = refl
added_some ms Check m h = refl
added_some ms Second m h = refl
added_some ms Skip m h = refl

-- the world after a line answered r is that bench
abbrev After : Limits → ℕ → List Played → ContentsWorld → ScriptEvent → LineAnswer → Type 0
After l n lines w e r = Shows n r.bench (lines ++ (played e r ∷ [])) (run (step l n) w (of_accepted contents_event (played e r)))

module _ (l : Limits) (n : ℕ) (high : n ≤ senders) (b : Bench) (sized : Sized b) (lines : List Played) (w : ContentsWorld) (shows : Shows n b lines w)
    (e : ScriptEvent) (below : event_unit e < n) where
  -- a refused line leaves all as it was
  after_refused : (k : Option Refusal) → (number_of k ≡ 0 → ⊥) → After l n lines w e (refused b k)
  unfolding run proposals decisions
  after_refused k some =
      let no = ne_eqb (number_of k) 0 some in
      rw no
      (record {
        units = shows.units;
        sent = shows.sent;
        proposed = shows.proposed ∙ sym (flat_snoc _ lines (played e (refused b k)) ∙ rw no (append-nil _));
        decided = shows.decided ∙ sym (flat_snoc _ lines (played e (refused b k)) ∙ append-nil _);
      })

  module _ (a : Answer) (gone : Went w (run (step l n) w (contents_event e)) (event_proposals e) (event_unit e) a) where
    -- an accepted line: the unit is its answer's, and the messages are those sent
    after_accepted : (b' : Bench) (s : Option ℕ) → b'.units ≡ set b.units (event_unit e) a.unit
        → added w.sent (unless_empty a.message.kind a.message) ≡ take b'.kept b'.messages
        → After l n lines w e (accepted b' s a.decision)
    unfolding unit_at proposals decisions
    after_accepted b' s units sent =
        record {
          units = λ v h.
              ap (λ f. f v) gone.units ∙ ap (cond (eqb v (event_unit e)) a.unit) (shows.units v h)
              ∙ sym (unit_set b (event_unit e) a.unit v (omega (arith, sized.units)))
              ∙ ap (λ us. get_or us v no_unit) (sym units);
          sent = gone.sent ∙ sent;
          proposed = gone.proposed ∙ ap (λ ps. ps ++ event_proposals e) shows.proposed ∙ sym (flat_snoc _ lines _);
          decided = gone.decided ∙ ap (λ ds. ds ++ decided_of (event_unit e) a.decision) shows.decided ∙ sym (flat_snoc _ lines _);
        }

  pub line_shows : After l n lines w e (answer l b e)
  unfolding with_unit with_message
  line_shows =
      by_answer (After l n lines w e) l b e
      (record {
        refuses = λ some. after_refused (unit_answer l b e).refusal some;
        full = λ ok some full. after_refused (Some Refusal.Full) (λ z. absurd (omega arith));
        quiet = quiet;
        sends = sends;
      })
    where
      a : Answer
      a = unit_answer l b e

      u : ℕ
      u = event_unit e

      gone : number_of a.refusal ≡ 0 → Went w (run (step l n) w (contents_event e)) (event_proposals e) u a
      gone ok = went l n b sized lines w shows e below ok

      quiet : number_of a.refusal ≡ 0 → a.message.kind ≡ Empty → After l n lines w e (accepted (with_unit b u a.unit) None a.decision)
      quiet ok empty = after_accepted a (gone ok) (with_unit b u a.unit) None refl (rw empty shows.sent)

      sends : number_of a.refusal ≡ 0 → (a.message.kind ≡ Empty → ⊥) → b.kept < places
          → After l n lines w e (accepted (with_message (with_unit b u a.unit) a.message) (Some b.kept) a.decision)
      sends ok some room =
          after_accepted a (gone ok) (with_message (with_unit b u a.unit) a.message) (Some b.kept) refl
          (added_some w.sent a.message.kind a.message some ∙ ap (λ ms. ms ++ (a.message ∷ [])) shows.sent
          ∙ sym (rw add-one (take-suc-set b.messages b.kept a.message (omega (arith, sized.messages)))))

-- ---- all lines

module _ (l : Limits) (n : ℕ) (high : n ≤ senders) where
  lines_show : (es : List ScriptEvent) → Below n es → (b : Bench) → Sized b → (lines : List Played) (w : ContentsWorld) → Shows n b lines w
      → Shows n (bench_after l b es) (lines ++ play l b es) (run (step l n) w (history l b es))
  unfolding bench_after play history run flat_map
  lines_show [] below b sized lines w shows = rw (append-nil lines) shows
  lines_show (e ∷ es) below b sized lines w shows =
      rw run_append (rw append_snoc at
      (lines_show es below.1 (answer l b e).bench (sized_answer l b sized e) (lines ++ (played e (answer l b e) ∷ [])) _
      (line_shows l n high b sized lines w shows e below.0)))

-- ---- at the start

fresh_at : (h : Header) (k u : ℕ) → u < k → get_or (fresh_units h k) u no_unit ≡ fresh (P.header_settings h u)
unfolding fresh_units
fresh_at h zero u b = absurd (omega arith)
fresh_at h (suc k) u b = go (eqb u k) refl (fresh_at h k u)
  where
    go : (t : Bool) → eqb u k ≡ t → (u < k → get_or (fresh_units h k) u no_unit ≡ fresh (P.header_settings h u))
        → get_or (fresh_units h k ++ (fresh (P.header_settings h k) ∷ [])) u no_unit ≡ fresh (P.header_settings h u)
    go true e before = rw (eqb-true u k e) (get_or_at (fresh_units h k) (fresh (P.header_settings h k)) [] no_unit k (fresh_length h k))
    go false e before =
        let less : u < k = omega (arith, eqb-false u k e) in
        get_or-append (fresh_units h k) _ no_unit u (omega (arith, fresh_length h k)) ∙ before less

module _ (h : Header) (range : in_ranges h.n h.entry ≡ true) where
  pub units_high : h.n ≤ senders
  units_high = (ranges h.n h.entry range).1

  pub units_some : 0 < h.n
  units_some = omega (arith, (ranges h.n h.entry range).0)

  pub settings_ok_lem : (u : ℕ) → u < h.n → settings_ok (settings_of (setup_of h) u) ≡ true
  settings_ok_lem u below =
      let r = ranges h.n h.entry range in
      and_both (and_both (and_both (and_both (le-leb _ _ r.0) (le-leb _ _ r.1)) (lt-ltb u h.n below)) (le-leb _ _ r.2)) (le-leb _ _ r.3)

  pub start_shows : Shows h.n (start h) [] (begun (setup_of h))
  unfolding start unit_at begun proposals decisions flat_map
  start_shows =
      record { units = λ u below. sym (fresh_at h senders u (omega (arith, units_high))); sent = refl; proposed = refl; decided = refl }

  -- ---- the script

  module _ (l : Limits) (es : List ScriptEvent) (below : Below h.n es) where
    pub simulated : Shows h.n (bench_after l (start h) es) (play l (start h) es) (contents_after l h es)
    unfolding contents_after
    simulated = lines_show l h.n units_high es below (start h) (start_sized h) [] (begun (setup_of h)) start_shows

    pub after_inv : Inv l (setup_of h) (contents_after l h es)
    unfolding contents_after
    after_inv = run_inv l (setup_of h) (begun (setup_of h)) (history l (start h) es) (begun_inv l (setup_of h) settings_ok_lem)

    -- the messages kept are well formed
    pub kept_well_formed : (k : ℕ) → k < (bench_after l (start h) es).kept → message_ok l (message_at (bench_after l (start h) es) k) ≡ true
    kept_well_formed k sent =
        let b = bench_after l (start h) es in
        let w = contents_after l h es in
        let there = sent_at l h.n b (reached_sized h l es) _ w simulated k sent in
        (from_unit l (setup_of h) w after_inv (message_at b k) (sent_in w.sent k (message_at b k) there)).well_formed
