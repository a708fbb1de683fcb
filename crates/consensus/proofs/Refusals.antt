-- Proposing and delivering in plain propositions: what each number refuses, what is accepted, and what number 7 is for. Assumes nothing.
use Rattle.std.specs.Prelude.{Option, Some}
use Rattle.std.proofs.lemmas.Bool.{and_parts}
use Prim.Native.Nat.{ℕ, ◌≤◌, ◌<◌}
use mathlib.Core.Path.{◌≡◌, refl, sym, ap, ◌∙◌}
use mathlib.Core.Bool.{Bool, true, false, not, ◌&&◌}
use mathlib.Core.List.{List}
use native.Mathlib.Omega.{arith}
use lib.Count.{ones}
use lib.Dec.{eqb}
use borrow.Author.Tests.{eqb-true, eq-eqb, leb-true, le-leb, lt-leb, not-true}
use Rattle.tally.specs.Limits.{Limits}
use Rattle.tally.specs.Quorum.{quorum_of}
use Rattle.tally.specs.Refusal.{number_of}
use Rattle.tally.specs.Tally.{is_marked, mark}
use Rattle.tally.specs.declared.Estimate.TheVariants.{Blank}
use Rattle.tally.specs.declared.Refusal.{Refusal}
use Rattle.tally.proofs.Never.{never}
use Rattle.contents.specs.Messages.{message_ok}
use Rattle.contents.specs.declared.Kind.{Kind}
use Rattle.contents.specs.declared.Kind.TheVariants.{Empty, First, Check, Second, Skip}
use Rattle.contents.specs.declared.Message.{Message}
use Rattle.contents.proofs.Facts.{image_facts, log_facts}
use Rattle.consensus.specs.Methods.{out_of_range, is_second, closes_last, unless, propose_conditions, propose, deliver_conditions, deliver}
use Rattle.consensus.specs.Conditions.{Condition, first_refusal}
use Rattle.consensus.specs.Step.{is_full, seconds_with, on_kind, proposed, received}
use Rattle.consensus.specs.Units.{WellFormed}
use Rattle.consensus.specs.declared.Answer.{Answer}
use Rattle.consensus.specs.declared.Power.TheVariants.{Down, Up}
use Rattle.consensus.specs.declared.Unit as U
use Rattle.consensus.proofs.Addressee.{Mine, mine_passes, passes_mine}
use Rattle.consensus.proofs.Laws.{nothing, propose_accepted, deliver_accepted, received_at, second_closes}
use Rattle.consensus.proofs.Soundness.{sound_deliver}

-- the number k: the unit as it was, nothing sent, nothing decided
pub record Refuses (k : ℕ) (u : U.Unit) (a : Answer) : Type 0 where
  pub number : number_of a.refusal ≡ k
  pub unit : a.unit ≡ u
  pub message : a.message ≡ nothing
  pub decision : a.decision ≡ Blank

-- a SECOND of the last round to a unit there, from a new sender, that makes the quorum
pub record Closing (l : Limits) (u : U.Unit) (m : Message) : Type 0 where
  pub kind : m.kind ≡ Second
  pub sent : m.round ≡ l.last_round
  pub here : u.current.round ≡ l.last_round
  pub unmarked : is_marked u.seconds.marks m.sender ≡ false
  pub quorum : quorum_of u.settings.engine u.settings.n ≤ ones (mark u.seconds m.sender m.estimate).marks

-- ---- the tests are these facts

-- a test that cannot be the one is the other
refuted : (b : Bool) → (b ≡ false → ⊥) → b ≡ true
refuted true h = refl
refuted false h = absurd (h refl)

denied : (b : Bool) → (b ≡ true → ⊥) → b ≡ false
denied true h = absurd (h refl)
denied false h = refl

is_second_lem : (k : Kind) → is_second k ≡ true → k ≡ Second
is_second_lem Empty h = never h
is_second_lem First h = never h
is_second_lem Check h = never h
is_second_lem Second h = refl
is_second_lem Skip h = never h

module _ (l : Limits) (u : U.Unit) (m : Message) where
  closing_holds : Closing l u m → closes_last l u m ≡ true
  unfolding closes_last is_full seconds_with
  closing_holds c =
      rw (
        c.kind,
        eq-eqb m.round l.last_round c.sent,
        eq-eqb u.current.round l.last_round c.here,
        c.unmarked,
        le-leb (quorum_of u.settings.engine u.settings.n) (ones (mark u.seconds m.sender m.estimate).marks) c.quorum,
      )

  holds_closing : closes_last l u m ≡ true → Closing l u m
  unfolding closes_last is_full seconds_with
  holds_closing h =
      let second = is_second m.kind in
      let sent = eqb m.round l.last_round in
      let here = eqb u.current.round l.last_round in
      let a = and_parts (second && sent && here && not (is_marked u.seconds.marks m.sender)) _ h in
      let b = and_parts (second && sent && here) _ a.0 in
      let c = and_parts (second && sent) here b.0 in
      let d = and_parts second sent c.0 in
      record {
        kind = is_second_lem m.kind d.0;
        sent = eqb-true _ _ d.1;
        here = eqb-true _ _ c.1;
        unmarked = not-true _ b.1;
        quorum = leb-true _ _ a.1;
      }

-- ---- the methods

refused : (cs : List Condition) (u : U.Unit) (a : Answer) (k : Option Refusal) → first_refusal cs ≡ k → eqb (number_of k) 0 ≡ false
    → Refuses (number_of k) u (unless cs u a)
unfolding unless
refused cs u a k e some = rw (e, some) (record { number = refl; unit = refl; message = refl; decision = refl })

module _ (l : Limits) (u : U.Unit) (v : ℕ) where
  pub propose_accepts : u.power ≡ Up → v ≤ l.max_mileage → propose l u v ≡ proposed u v
  unfolding propose_conditions out_of_range
  propose_accepts up h = propose_accepted l u v (rw up refl, (rw (le-leb v l.max_mileage h) refl, tt))

  pub propose_above : u.power ≡ Up → l.max_mileage < v → Refuses 6 u (propose l u v)
  unfolding propose propose_conditions out_of_range first_refusal
  propose_above up h = refused (propose_conditions l u v) u _ (Some Refusal.Mileage) (rw (up, lt-leb v l.max_mileage h)) refl

  pub propose_down : u.power ≡ Down → Refuses 9 u (propose l u v)
  unfolding propose propose_conditions first_refusal
  propose_down down = refused (propose_conditions l u v) u _ (Some Refusal.Power) (rw down) refl

-- in the order 4, 9, 5, 7
module _ (l : Limits) (u : U.Unit) (m : Message) where
  pub deliver_malformed : message_ok l m ≡ false → Refuses 4 u (deliver l u m)
  unfolding deliver deliver_conditions first_refusal
  deliver_malformed bad = refused (deliver_conditions l u m) u _ (Some Refusal.Message) (rw bad) refl

  module _ (ok : message_ok l m ≡ true) where
    pub deliver_down : u.power ≡ Down → Refuses 9 u (deliver l u m)
    unfolding deliver deliver_conditions first_refusal
    deliver_down down = refused (deliver_conditions l u m) u _ (Some Refusal.Power) (rw (ok, down)) refl

    module _ (up : u.power ≡ Up) where
      pub deliver_other : (Mine u.settings m → ⊥) → Refuses 5 u (deliver l u m)
      unfolding deliver deliver_conditions first_refusal
      deliver_other other =
          refused (deliver_conditions l u m) u _ (Some Refusal.Addressee) (rw (ok, up, refuted _ (λ h. other (passes_mine u.settings m h)))) refl

      module _ (mine : Mine u.settings m) where
        pub deliver_closing : Closing l u m → Refuses 7 u (deliver l u m)
        unfolding deliver deliver_conditions first_refusal
        deliver_closing c =
            refused (deliver_conditions l u m) u _ (Some Refusal.LastRound) (rw (ok, mine_passes u.settings m mine, closing_holds l u m c, up)) refl

        pub deliver_accepts : (Closing l u m → ⊥) → deliver l u m ≡ received u m
        unfolding deliver_conditions
        deliver_accepts not_closing =
            deliver_accepted l u m (rw ok refl, (rw up refl, (mine_passes u.settings m mine, (denied _ (λ h. not_closing (holds_closing l u m h)), tt))))

-- what 7 is for: without it the step would leave the unit in a round above the last, and never else
module _ (l : Limits) (u : U.Unit) (m : Message) where
  pub closes_next : closes_last l u m ≡ true → l.last_round < (received u m).unit.current.round
  closes_next h =
      let c = holds_closing l u m h in
      let at = received_at u.power u.settings u.logged u.current u.checks u.seconds m (c.sent ∙ sym c.here) in
      let closes = second_closes u.power u.settings u.logged u.current u.checks u.seconds m c.unmarked c.quorum in
      rw (at ∙ (ap (λ k. on_kind k u m) c.kind ∙ closes)) (omega (arith, c.here))

  pub next_closes : WellFormed l u → message_ok l m ≡ true → u.power ≡ Up → Mine u.settings m → l.last_round < (received u m).unit.current.round
      → closes_last l u m ≡ true
  next_closes w ok up mine h =
      refuted _
      (λ e.
      let same = deliver_accepts l u m ok up mine (λ c. never (sym e ∙ closing_holds l u m c)) in
      let low = (log_facts l _ (image_facts l _ (sound_deliver l u m w).unit.image).log).state.round in
      omega (arith, rw same at low))
