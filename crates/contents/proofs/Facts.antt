-- What well-formed logs, images and messages say of their fields. Assumes nothing.
use Rattle.std.proofs.lemmas.Bool.{and_parts}
use Prim.Native.Nat.{ℕ, ◌≤◌, ◌<◌}
use mathlib.Core.Path.{◌≡◌, refl, sym, ◌∙◌}
use mathlib.Core.Bool.{Bool, true, false, ◌&&◌, ◌||◌}
use native.Mathlib.Omega.{arith}
use lib.Count.{ones}
use lib.Dec.{eqb, leb, ltb}
use borrow.Author.Tests.{leb-true, ltb-true, eqb-true, le-leb, lt-ltb, le-ltb}
use Rattle.tally.specs.Limits.{Limits, min_units, max_units, min_entry, max_entry, everyone, senders}
use Rattle.tally.specs.Quorum.{quorum_of}
use Rattle.tally.specs.Tally.{is_marked, estimate_at, OnlyBelow}
use Rattle.tally.specs.declared.Engine.{Engine}
use Rattle.tally.specs.declared.Engine.TheVariants.{B, R}
use Rattle.tally.specs.declared.Estimate.{Estimate}
use Rattle.tally.specs.declared.Estimate.TheVariants.{Blank, Split, Mileage}
use Rattle.tally.specs.declared.Tally.{Tally}
use Rattle.contents.specs.Estimates.{is_b, is_blank, is_split, is_mileage, in_range}
use Rattle.contents.specs.Estimates.{mileage_or_blank, mileage_or_split, second_estimate_ok, same_estimate, same_mileage}
use Rattle.contents.specs.Images.{image_log, below_ok, unmarked_ok, marked_ok, cell_ok, cells_ok, tally_ok, checks_allowed, image_ok}
use Rattle.contents.specs.Logs.{numbers_ok, round_ok, settings_ok, state_ok, log_ok}
use Rattle.contents.specs.Messages.{first_ok, check_ok, second_ok, skip_ok, kind_ok, message_ok}
use Rattle.contents.specs.declared.Image.{Image}
use Rattle.contents.specs.declared.Kind.{Kind}
use Rattle.contents.specs.declared.Kind.TheVariants.{Empty, First, Check, Second, Skip}
use Rattle.contents.specs.declared.Log.{Log}
use Rattle.contents.specs.declared.Message.{Message}
use Rattle.contents.specs.declared.State.{State}
use Rattle.tally.proofs.Never.{never}
use Rattle.contents.proofs.Tests.{or_left, every_at}

-- an estimate that some place takes: a mileage is in its range
abbrev pub Known : Limits → Estimate → Type 0
Known l Blank = Unit
Known l Split = Unit
Known l (Mileage m) = m ≤ l.max_mileage

module _ (l : Limits) where
  pub known_blank : (e : Estimate) → is_blank e ≡ true → Known l e
  known_blank Blank h = tt
  known_blank Split h = tt
  known_blank (Mileage m) h = never h

  pub known_or_blank : (e : Estimate) → mileage_or_blank l e ≡ true → Known l e
  unfolding mileage_or_blank
  known_or_blank Blank h = tt
  known_or_blank Split h = tt
  known_or_blank (Mileage m) h = leb-true _ _ (or_left (in_range l m) false h refl)

  -- a mileage, or split where it is allowed
  pub known_or_split : (split : Bool) (e : Estimate) → (is_mileage l e || (split && is_split e)) ≡ true → Known l e
  known_or_split split Blank h = tt
  known_or_split split Split h = tt
  known_or_split true (Mileage m) h = leb-true _ _ (or_left (in_range l m) false h refl)
  known_or_split false (Mileage m) h = leb-true _ _ (or_left (in_range l m) false h refl)

  pub known_second : (g : Engine) (e : Estimate) → second_estimate_ok l g e ≡ true → Known l e
  unfolding second_estimate_ok
  known_second g Blank h = tt
  known_second g Split h = tt
  known_second B (Mileage m) h = leb-true _ _ (or_left (in_range l m) false h refl)
  known_second R (Mileage m) h = never h

  pub known_same : (a b : Estimate) → same_mileage l a b ≡ true → Known l a × Known l b
  unfolding same_mileage
  known_same Blank b h = never h
  known_same Split b h = never h
  known_same (Mileage m) b h = let a = and_parts (in_range l m) (same_estimate (Mileage m) b) h in (leb-true _ _ a.0, same b a.1 (leb-true _ _ a.0))
    where
      same : (b : Estimate) → same_estimate (Mileage m) b ≡ true → m ≤ l.max_mileage → Known l b
      same Blank e k = tt
      same Split e k = tt
      same (Mileage w) e k = omega (arith, eqb-true w m e)

-- n, a unit below it, and an entry
pub record Numbers (n unit entry : ℕ) : Type 0 where
  pub n_low : min_units ≤ n
  pub n_high : n ≤ max_units
  pub below : unit < n
  pub entry_low : min_entry ≤ entry
  pub entry_high : entry ≤ max_entry

-- all in these ranges are accepted
pub numbers_ok_lem : (n unit entry : ℕ) → Numbers n unit entry → numbers_ok n unit entry ≡ true
numbers_ok_lem n unit entry f =
    rw (
      le-leb min_units n f.n_low,
      le-leb n max_units f.n_high,
      lt-ltb unit n f.below,
      le-leb min_entry entry f.entry_low,
      le-leb entry max_entry f.entry_high,
    )

-- and no others
pub numbers_facts : (n unit entry : ℕ) → numbers_ok n unit entry ≡ true → Numbers n unit entry
numbers_facts n unit entry h =
    let a = and_parts (leb min_units n && leb n max_units && ltb unit n && leb min_entry entry) (leb entry max_entry) h in
    let b = and_parts (leb min_units n && leb n max_units && ltb unit n) (leb min_entry entry) a.0 in
    let c = and_parts (leb min_units n && leb n max_units) (ltb unit n) b.0 in
    let d = and_parts (leb min_units n) (leb n max_units) c.0 in
    record {
      n_low = leb-true _ _ d.0;
      n_high = leb-true _ _ d.1;
      below = ltb-true _ _ c.1;
      entry_low = leb-true _ _ b.1;
      entry_high = leb-true _ _ a.1;
    }

-- in R the second estimate is always blank
pub second_in_r : (l : Limits) (e : Estimate) → second_estimate_ok l R e ≡ true → e ≡ Blank
unfolding second_estimate_ok
second_in_r l Blank h = refl
second_in_r l Split h = never h
second_in_r l (Mileage m) h = never h

pub record StateFacts (l : Limits) (g : Engine) (s : State) : Type 0 where
  pub round : s.round ≤ l.last_round
  pub proposal : mileage_or_blank l s.proposal ≡ true
  pub first : mileage_or_blank l s.first ≡ true
  pub second : second_estimate_ok l g s.second ≡ true

pub state_facts : (l : Limits) (g : Engine) (s : State) → state_ok l g s ≡ true → StateFacts l g s
unfolding state_ok
state_facts l g s h =
    let p = mileage_or_blank l s.proposal in
    let f = mileage_or_blank l s.first in
    let a = and_parts (round_ok l s.round && p && f) (second_estimate_ok l g s.second) h in
    let b = and_parts (round_ok l s.round && p) f a.0 in
    let c = and_parts (round_ok l s.round) p b.0 in
    record { round = leb-true _ _ c.0; proposal = c.1; first = b.1; second = a.1 }

pub record LogFacts (l : Limits) (r : Log) : Type 0 where
  pub numbers : Numbers r.settings.n r.settings.unit r.settings.entry
  pub state : StateFacts l r.settings.engine r.state

pub log_facts : (l : Limits) (r : Log) → log_ok l r ≡ true → LogFacts l r
unfolding log_ok
log_facts l r h =
    let a = and_parts (settings_ok r.settings) (state_ok l r.settings.engine r.state) h in
    record { numbers = numbers_facts _ _ _ a.0; state = state_facts l r.settings.engine r.state a.1 }

-- what the rules of all kinds have in common
pub record KindFacts (l : Limits) (m : Message) : Type 0 where
  pub receiver : m.receiver ≤ everyone
  pub estimate : Known l m.estimate
  pub proposal : Known l m.proposal

first_facts : (l : Limits) (m : Message) → first_ok l m ≡ true → KindFacts l m
unfolding first_ok
first_facts l m h =
    let a = and_parts (eqb m.receiver everyone) (same_mileage l m.estimate m.proposal) h in
    let k = known_same l m.estimate m.proposal a.1 in
    record { receiver = omega (arith, eqb-true m.receiver everyone a.0); estimate = k.0; proposal = k.1 }

kind_facts : (l : Limits) (k : Kind) (m : Message) → m.n ≤ max_units → kind_ok l k m ≡ true → KindFacts l m
unfolding kind_ok check_ok second_ok skip_ok mileage_or_split
kind_facts l Empty m n h = never h
kind_facts l First m n h = first_facts l m h
kind_facts l Check m n h = first_facts l m (and_parts (is_b m.engine) (first_ok l m) h).1
kind_facts l Second m n h =
    let a = and_parts (eqb m.receiver everyone && mileage_or_split l m.engine m.estimate) (mileage_or_blank l m.proposal) h in
    let b = and_parts (eqb m.receiver everyone) (mileage_or_split l m.engine m.estimate) a.0 in
    record {
      receiver = omega (arith, eqb-true m.receiver everyone b.0);
      estimate = known_or_split l (is_b m.engine) m.estimate b.1;
      proposal = known_or_blank l m.proposal a.1;
    }
kind_facts l Skip m n h =
    let a = and_parts (ltb m.receiver m.n && is_blank m.estimate) (mileage_or_blank l m.proposal) h in
    let b = and_parts (ltb m.receiver m.n) (is_blank m.estimate) a.0 in
    record {
      receiver = omega (arith, ltb-true m.receiver m.n b.0);
      estimate = known_blank l m.estimate b.1;
      proposal = known_or_blank l m.proposal a.1;
    }

pub record MessageFacts (l : Limits) (m : Message) : Type 0 where
  pub numbers : Numbers m.n m.sender m.entry
  pub round : m.round ≤ l.last_round
  pub kind : kind_ok l m.kind m ≡ true
  pub fields : KindFacts l m

pub message_facts : (l : Limits) (m : Message) → message_ok l m ≡ true → MessageFacts l m
unfolding message_ok
message_facts l m h =
    let a = and_parts (numbers_ok m.n m.sender m.entry && round_ok l m.round) (kind_ok l m.kind m) h in
    let b = and_parts (numbers_ok m.n m.sender m.entry) (round_ok l m.round) a.0 in
    let n = numbers_facts _ _ _ b.0 in
    record { numbers = n; round = leb-true _ _ b.1; kind = a.1; fields = kind_facts l m.kind m n.n_high a.1 }

-- a sender's mark and the estimate in its place
pub record CellFacts (l : Limits) (split : Bool) (n s : ℕ) (marked : Bool) (e : Estimate) : Type 0 where
  pub below : below_ok n s marked ≡ true
  pub unmarked : unmarked_ok marked e ≡ true
  pub vote : marked_ok l split marked e ≡ true

cell_facts : (l : Limits) (split : Bool) (n s : ℕ) (marked : Bool) (e : Estimate) → cell_ok l split n s marked e ≡ true
    → CellFacts l split n s marked e
unfolding cell_ok
cell_facts l split n s marked e h =
    let a = and_parts (below_ok n s marked && unmarked_ok marked e) (marked_ok l split marked e) h in
    let b = and_parts (below_ok n s marked) (unmarked_ok marked e) a.0 in
    record { below = b.0; unmarked = b.1; vote = a.1 }

pub known_cell : (l : Limits) (split : Bool) (n s : ℕ) (marked : Bool) (e : Estimate) → CellFacts l split n s marked e → Known l e
known_cell l split n s true e f = known_or_split l split e f.vote
known_cell l split n s false e f = known_blank l e f.unmarked

pub record TallyFacts (l : Limits) (split : Bool) (g : Engine) (n : ℕ) (t : Tally) : Type 0 where
  pub places : (s : ℕ) → s < senders → CellFacts l split n s (is_marked t.marks s) (estimate_at t s)
  pub few : ones t.marks < quorum_of g n

-- only units below n are marked
pub only_below : (l : Limits) (split : Bool) (g : Engine) (n : ℕ) (t : Tally) → TallyFacts l split g n t → OnlyBelow n t.marks
only_below l split g n t f u above b = go (is_marked t.marks u) (f.places u b).below
  where
    go : (m : Bool) → below_ok n u m ≡ true → m ≡ false
    go true h = never (sym (le-ltb u n above) ∙ h)
    go false h = refl

tally_facts : (l : Limits) (split : Bool) (g : Engine) (n : ℕ) (t : Tally) → tally_ok l split g n t ≡ true → TallyFacts l split g n t
unfolding tally_ok cells_ok
tally_facts l split g n t h =
    let a = and_parts (cells_ok l split n t) (ltb (ones t.marks) (quorum_of g n)) h in
    record {
      places = λ s b. cell_facts l split n s (is_marked t.marks s) (estimate_at t s)
          (every_at senders (λ u. cell_ok l split n u (is_marked t.marks u) (estimate_at t u)) a.0 s b);
      few = ltb-true _ _ a.1;
    }

pub record ImageFacts (l : Limits) (i : Image) : Type 0 where
  pub log : log_ok l (image_log i) ≡ true
  pub checks : TallyFacts l false i.settings.engine i.settings.n i.checks
  pub seconds : TallyFacts l (is_b i.settings.engine) i.settings.engine i.settings.n i.seconds
  pub unchecked : checks_allowed i.settings.engine i.state.second i.checks.marks ≡ true

pub image_facts : (l : Limits) (i : Image) → image_ok l i ≡ true → ImageFacts l i
unfolding image_ok
image_facts l i h =
    let g = i.settings.engine in
    let n = i.settings.n in
    let c = tally_ok l false g n i.checks in
    let s = tally_ok l (is_b g) g n i.seconds in
    let a = and_parts (log_ok l (image_log i) && c && s) (checks_allowed g i.state.second i.checks.marks) h in
    let b = and_parts (log_ok l (image_log i) && c) s a.0 in
    let d = and_parts (log_ok l (image_log i)) c b.0 in
    record { log = d.0; checks = tally_facts l false g n i.checks d.1; seconds = tally_facts l (is_b g) g n i.seconds b.1; unchecked = a.1 }
