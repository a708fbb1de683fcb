-- A well-formed unit taken apart, and put together again. Assumes nothing.
use Rattle.std.proofs.lemmas.Bool.{and_parts}
use Prim.Native.Nat.{ℕ, zero, suc, ◌≤◌, ◌<◌}
use mathlib.Core.Logic.{inl, inr}
use mathlib.Core.Path.{◌≡◌, refl}
use mathlib.Core.Bool.{Bool, true, false, ◌&&◌, ◌||◌, or-true}
use native.Mathlib.Omega.{arith}
use lib.Count.{ones}
use lib.Dec.{eqb}
use lib.ListN.{replicate, get_or-replicate}
use borrow.Author.Tests.{eqb-true, eqb-false, eq-eqb, le-leb, lt-ltb}
use Rattle.tally.specs.Limits.{Limits, senders}
use Rattle.tally.specs.Tally.{Typed, is_marked, estimate_at, blank_cell, no_marks, mark}
use Rattle.tally.specs.declared.Engine.{Engine}
use Rattle.tally.specs.declared.Estimate.{Estimate}
use Rattle.tally.specs.declared.Tally.{Tally}
use Rattle.tally.proofs.Marks.{mark_same, mark_other, unmarked_none}
use Rattle.tally.proofs.Quorums.{quorum_fits}
use Rattle.tally.proofs.Tallies.{typed_empty, estimate_same_at, estimate_other_at}
use Rattle.contents.specs.Estimates.{is_b, is_blank, is_split, is_mileage, mileage_or_blank, second_estimate_ok}
use Rattle.contents.specs.Images.{every, cell_ok, cells_ok, tally_ok, checks_allowed, image_ok, same_settings, state_fits, fits}
use Rattle.contents.specs.Logs.{settings_ok, state_ok, log_ok}
use Rattle.contents.specs.declared.Log.{Log}
use Rattle.contents.specs.declared.Settings.{Settings}
use Rattle.contents.specs.declared.State.{State}
use Rattle.contents.proofs.Facts.{numbers_facts, StateFacts, state_facts, CellFacts, TallyFacts, image_facts}
use Rattle.contents.proofs.Same.{estimate_same, settings_same, Fits, state_fits_lem}
use Rattle.consensus.specs.Step.{at_round, clean}
use Rattle.consensus.specs.Units.{WellFormed, unit_image, at_log}
use Rattle.consensus.specs.declared.Power.{Power}
use Rattle.consensus.specs.declared.Unit as U

-- ---- tests that are passed, from facts

pub and_both : {a b : Bool} → a ≡ true → b ≡ true → (a && b) ≡ true
and_both p q = rw (p, q)

pub or_first : {a : Bool} (b : Bool) → a ≡ true → (a || b) ≡ true
or_first b p = rw p

every_intro : (k : ℕ) (P : ℕ → Bool) → ((s : ℕ) → s < k → P s ≡ true) → every k P ≡ true
unfolding every
every_intro zero P f = refl
every_intro (suc k) P f = and_both (every_intro k P (λ s b. f s (omega arith))) (f k (omega arith))

state_ok_lem : (l : Limits) (g : Engine) (s : State) → StateFacts l g s → state_ok l g s ≡ true
unfolding state_ok
state_ok_lem l g s f = and_both (and_both (and_both (le-leb _ _ f.round) f.proposal) f.first) f.second

tally_ok_lem : (l : Limits) (split : Bool) (g : Engine) (n : ℕ) (t : Tally) → TallyFacts l split g n t → tally_ok l split g n t ≡ true
unfolding tally_ok cells_ok cell_ok
tally_ok_lem l split g n t f =
    and_both
    (every_intro senders (λ s. cell_ok l split n s (is_marked t.marks s) (estimate_at t s))
    (λ s b. let p = f.places s b in and_both (and_both p.below p.unmarked) p.vote))
    (lt-ltb _ _ f.few)

-- a log's state r and an image's state c that fits it
pub record States (l : Limits) (g : Engine) (r c : State) : Type 0 where
  pub logged : StateFacts l g r
  pub current : StateFacts l g c
  pub fit : state_fits c r ≡ true

fits_self : (s : State) → state_fits s s ≡ true
unfolding state_fits
fits_self s = or_first _ (and_both (and_both (eq-eqb s.round s.round refl) (estimate_same s.first)) (estimate_same s.second))

pub states_same : (l : Limits) (g : Engine) (s : State) → StateFacts l g s → States l g s s
states_same l g s f = record { logged = f; current = f; fit = fits_self s }

-- ---- tallies

-- what a marked place takes: a mileage or, where it is allowed, split
abbrev pub Takes : Limits → Bool → Estimate → Type 0
Takes l split e = (is_mileage l e || (split && is_split e)) ≡ true

-- the rules of every place
abbrev pub Places : Limits → Bool → ℕ → Tally → Type 0
Places l split n t = (s : ℕ) → s < senders → CellFacts l split n s (is_marked t.marks s) (estimate_at t s)

module _ (l : Limits) (split : Bool) (n : ℕ) where
  pub places_mark : (t : Tally) (s : ℕ) (e : Estimate) → Typed t → Places l split n t → s < n → s < senders → Takes l split e
      → Places l split n (mark t s e)
  unfolding mark
  places_mark t s e typed f below inside vote x b = at x b (eqb x s) refl
    where
      at : (x : ℕ) → x < senders → (b : Bool) → eqb x s ≡ b → CellFacts l split n x (is_marked (mark t s e).marks x) (estimate_at (mark t s e) x)
      at x b true q =
          let same : x ≡ s = eqb-true x s q in
          rw (same, mark_same t.marks s, estimate_same_at t s e (omega (arith, typed.cells)))
          (record { below = lt-ltb s n below; unmarked = refl; vote = vote })
      at x b false q =
          let apart = eqb-false x s q in
          rw (mark_other t.marks s x apart, estimate_other_at t s x e apart) (f x b)

-- with what the types say
pub record WholeTally (l : Limits) (split : Bool) (s : Settings) (t : Tally) : Type 0 where
  pub facts : TallyFacts l split s.engine s.n t
  pub typed : Typed t

pub tallied_none : (l : Limits) (split : Bool) (s : Settings) → settings_ok s ≡ true → WholeTally l split s no_marks
unfolding no_marks ones
tallied_none l split s ok =
    let low = (numbers_facts s.n s.unit s.entry ok).n_low in
    record { facts = record { places = at; few = omega (arith, quorum_fits s.engine s.n low) }; typed = typed_empty }
  where
    at : (x : ℕ) → x < senders → CellFacts l split s.n x (is_marked 0 x) (estimate_at (record { marks = 0; cells = replicate senders blank_cell }) x)
    at x b = rw (unmarked_none x, get_or-replicate senders x blank_cell blank_cell b) (record { below = refl; unmarked = refl; vote = refl })

pub no_checks : (g : Engine) (e : Estimate) → checks_allowed g e no_marks.marks ≡ true
unfolding checks_allowed no_marks
no_checks g e = or-true (is_b g && is_blank e)

-- ---- the parts

pub record Parts (l : Limits) (u : U.Unit) : Type 0 where
  pub settings : settings_ok u.settings ≡ true
  pub states : States l u.settings.engine u.logged u.current
  pub checks : WholeTally l false u.settings u.checks
  pub seconds : WholeTally l (is_b u.settings.engine) u.settings u.seconds
  pub unchecked : checks_allowed u.settings.engine u.current.second u.checks.marks ≡ true

module _ (l : Limits) (u : U.Unit) where
  log_parts : (s : State) → log_ok l (record { settings = u.settings; state = s }) ≡ true
      → (settings_ok u.settings ≡ true) × StateFacts l u.settings.engine s
  unfolding log_ok
  log_parts s h = let a = and_parts _ _ h in (a.0, state_facts l u.settings.engine s a.1)

  pub parts : WellFormed l u → Parts l u
  unfolding fits
  parts w =
      let i = image_facts l (unit_image u) w.image in
      let a = log_parts u.logged w.log in
      record {
        settings = a.0;
        states =
            record {
              logged = a.1;
              current = (log_parts u.current i.log).1;
              fit = (and_parts (same_settings u.settings u.settings) _ w.fit).1;
            };
        checks = record { facts = i.checks; typed = w.checks };
        seconds = record { facts = i.seconds; typed = w.seconds };
        unchecked = i.unchecked;
      }

  pub well : Parts l u → WellFormed l u
  unfolding log_ok image_ok fits
  well p =
      record {
        log = and_both p.settings (state_ok_lem l _ u.logged p.states.logged);
        image =
            and_both
            (and_both
            (and_both (and_both p.settings (state_ok_lem l _ u.current p.states.current)) (tally_ok_lem l _ _ _ u.checks p.checks.facts))
            (tally_ok_lem l _ _ _ u.seconds p.seconds.facts))
            p.unchecked;
        fit = and_both (settings_same u.settings) p.states.fit;
        checks = p.checks.typed;
        seconds = p.seconds.typed;
      }

-- the image's round is not below the log's
round_fits : (i r : State) → state_fits i r ≡ true → r.round ≤ i.round
round_fits i r h = go (state_fits_lem i r h)
  where
    go : Fits i r → r.round ≤ i.round
    go (inl above) = omega (arith, above.0)
    go (inr same) = omega (arith, same.0)

-- ---- units without marks

module _ (l : Limits) (p : Power) (s : Settings) (ok : settings_ok s ≡ true) where
  parts_unmarked : (r c : State) → States l s.engine r c
      → Parts l (record { power = p; settings = s; logged = r; current = c; checks = no_marks; seconds = no_marks })
  parts_unmarked r c f =
      record { settings = ok; states = f; checks = tallied_none l false s ok; seconds = tallied_none l _ s ok; unchecked = no_checks _ _ }

-- at a round above the unit's own
pub parts_at_round : (l : Limits) (u : U.Unit) → Parts l u → (r : ℕ) (p : Estimate) → u.current.round < r → r ≤ l.last_round
    → mileage_or_blank l p ≡ true → Parts l (at_round u r p)
unfolding at_round state_fits mileage_or_blank second_estimate_ok
parts_at_round l u w r p above last ok =
    let less : u.logged.round < r = omega (arith, round_fits u.current u.logged w.states.fit) in
    parts_unmarked l u.power u.settings w.settings u.logged (clean r p)
    (record {
      logged = w.states.logged;
      current = record { round = last; proposal = ok; first = refl; second = refl };
      fit = simp (lt-ltb u.logged.round r less, or-true);
    })

-- at a log's contents
pub parts_at_log : (l : Limits) (p : Power) (r : Log) → log_ok l r ≡ true → Parts l (at_log p r.settings r.state)
unfolding log_ok at_log
parts_at_log l p r h =
    let a = and_parts (settings_ok r.settings) _ h in
    let f = state_facts l r.settings.engine r.state a.1 in
    parts_unmarked l p r.settings a.0 r.state r.state (states_same l _ r.state f)

pub well_at_log : (l : Limits) (p : Power) (r : Log) → log_ok l r ≡ true → WellFormed l (at_log p r.settings r.state)
well_at_log l p r h = well l _ (parts_at_log l p r h)
