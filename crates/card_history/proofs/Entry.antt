-- The invariant of a world of cards: read at each entry it is a world of contents that has agreement's invariant. Assumes nothing.
use Prim.Native.Nat.{ℕ, ◌≤◌, ◌<◌}
use mathlib.Core.Path.{◌≡◌, refl, sym, ap, subst, ◌∙◌}
use mathlib.Core.Bool.{Bool, true, false, cond}
use mathlib.Core.List.{List, Memᴰ}
use mathlib.Core.Option.{Option, none, some}
use lib.Dec.{eqb}
use borrow.Author.Tests.{eqb-true, eqb-false, eq-eqb, ne_eqb}
use Rattle.tally.specs.Limits.{Limits}
use Rattle.tally.specs.declared.Engine.{Engine}
use Rattle.contents.specs.Logs.{settings_ok}
use Rattle.contents.proofs.Facts.{numbers_facts, numbers_ok_lem}
use Rattle.consensus.specs.Step.{fresh}
use Rattle.consensus.specs.Units.{WellFormed, unit_log}
use Rattle.consensus.specs.declared.Power.TheVariants.{Down, Up}
use Rattle.consensus.specs.declared.Unit as U
use Rattle.cards.specs.Calls.{row_at}
use Rattle.cards.specs.Rows.{log_fields_of, row_of}
use Rattle.cards.specs.declared.CardRow.{CardRow}
use Rattle.agreement.specs.Contents as C
use Rattle.agreement.specs.Contents.{ContentsWorld}
use Rattle.agreement.specs.Worlds.{Setup, settings_of, Decision, put, Given}
use Rattle.agreement.proofs.History.{Inv, Later, now, step_later, step_inv, step_proposed, decided_given, well_formed_unit}
use Rattle.card_history.specs.Cards.{Stage, new, up, down, CardUnit, OfEntry, CardWorld, added, of_entry, RowOutcome, next, leave}
use Rattle.card_history.specs.Claims.{Placed}
use Rattle.card_history.specs.Demand3.{pick, what_of, entry_message}
use Rattle.card_history.proofs.Picked.{taken, pick_added}

-- engine, n and an entry
abbrev pub setup : Engine → ℕ → ℕ → Setup
setup g n k = record { engine = g; n = n; entry = k }

-- ---- what is of an entry, and what of another

of_own : {A : Type 0} (k : ℕ) (o : Option A) → taken (what_of k) (of_entry k o) ≡ o
of_own k none = refl
of_own k (some a) = rw (eq-eqb k k refl)

of_other : {A : Type 0} (j k : ℕ) (o : Option A) → eqb j k ≡ false → taken (what_of k) (of_entry j o) ≡ none
of_other j k none e = refl
of_other j k (some a) e = rw e

module _ (l : Limits) (c : Setup) where
  -- row r of unit u holds the unit x of the contents; one that is not started is to the contents a fresh unit that nothing has met
  abbrev pub Stands : Stage → CardRow → ℕ → U.Unit → Type 0
  Stands new r u x = x ≡ fresh (settings_of c u)
  Stands up r u x = (settings_ok (settings_of c u) ≡ true) × ((x.power ≡ Up) × (r ≡ row_of x))
  Stands down r u x = (settings_ok (settings_of c u) ≡ true) × ((x.power ≡ Down) × (r.log ≡ log_fields_of (unit_log x)))

  abbrev pub StandsAt : CardUnit → ℕ → U.Unit → Type 0
  StandsAt y u x = Stands (y.stage c.entry) (row_at y.rows c.entry) u x

  -- n and the entry are in their ranges
  abbrev pub Ranged : Type 0
  Ranged = (u : ℕ) → u < c.n → settings_ok (settings_of c u) ≡ true

  -- a world of cards read at the entry
  pub record EntryInv (w : CardWorld) : Type 0 where
    pub contents : ContentsWorld
    pub units : (u : ℕ) → StandsAt (w.units u) u (contents.units u)
    pub sent : contents.sent ≡ pick (entry_message l c.entry) w.sent
    pub proposed : contents.proposed ≡ pick (what_of c.entry) w.proposed
    pub decided : contents.decided ≡ pick (what_of c.entry) w.decided
    pub inv : Ranged → Inv l c contents
    -- out of the ranges nothing happens
    pub ranged : (d : Decision) → Memᴰ d contents.decided → Ranged

  -- what is known of a started row
  pub record Started (w : CardWorld) (i : EntryInv w) (u : ℕ) : Type 0 where
    pub all : Ranged
    pub below : u < c.n
    pub first : 1 ≤ c.entry
    pub well_formed : WellFormed l (i.contents.units u)
    pub settings : (i.contents.units u).settings ≡ settings_of c u

  pub started : (w : CardWorld) (i : EntryInv w) (u : ℕ) → settings_ok (settings_of c u) ≡ true → Started w i u
  started w i u h =
      let f = numbers_facts c.n u c.entry h in
      let all : Ranged = λ v b.
      numbers_ok_lem c.n v c.entry
      (record { n_low = f.n_low; n_high = f.n_high; below = b; entry_low = f.entry_low; entry_high = f.entry_high }) in
      let k = well_formed_unit l c i.contents (i.inv all) u f.below in
      record { all = all; below = f.below; first = f.entry_low; well_formed = k.0; settings = k.1 }

  -- ---- from world to world

  -- the contents go from W to W', by an event or by none
  pub record Moves (W W' : ContentsWorld) : Type 0 where
    pub inv : Inv l c W'
    pub later : Later W W'
    pub given : (d : Decision) → Memᴰ d W'.decided → Given d.mileage W

  pub by_event : (W : ContentsWorld) → Inv l c W → (e : C.ContentsEvent) → Moves W (C.step l c.n W e)
  by_event W inv e = record { inv = step_inv l c W e inv; later = step_later l c W e inv; given = step_proposed l c W e inv }

  pub by_none : (W : ContentsWorld) → Inv l c W → Moves W W
  by_none W inv = record { inv = inv; later = now W; given = decided_given l c W inv }

  -- an event leads from w to w': the invariant holds there, what was sent or proposed stays, and what is decided there was given before
  pub record EntryStep (w w' : CardWorld) (i : EntryInv w) : Type 0 where
    pub end : EntryInv w'
    pub later : Later i.contents end.contents
    pub given : (d : Decision) → Memᴰ d end.contents.decided → Given d.mileage i.contents

  module _ (w : CardWorld) (i : EntryInv w) where
    -- nothing of the entry changes
    stays : (w' : CardWorld) → ((u : ℕ) → StandsAt (w'.units u) u (i.contents.units u))
        → pick (entry_message l c.entry) w'.sent ≡ pick (entry_message l c.entry) w.sent
        → pick (what_of c.entry) w'.proposed ≡ pick (what_of c.entry) w.proposed
        → pick (what_of c.entry) w'.decided ≡ pick (what_of c.entry) w.decided
        → EntryStep w w' i
    stays w' units s p d =
        record {
          end =
              record {
                contents = i.contents;
                units = units;
                sent = i.sent ∙ sym s;
                proposed = i.proposed ∙ sym p;
                decided = i.decided ∙ sym d;
                inv = i.inv;
                ranged = i.ranged;
              };
          later = now i.contents;
          given = λ x h. decided_given l c i.contents (i.inv (i.ranged x h)) x h;
        }

    pub idle : EntryStep w w i
    idle = stays w i.units refl refl refl

    module _ (u : ℕ) where
      -- unit u is y from now on, and f has what it holds and the others' units
      stands_put : (y : CardUnit) (f : ℕ → U.Unit) → StandsAt y u (f u) → ((v : ℕ) → eqb v u ≡ false → f v ≡ i.contents.units v)
          → (v : ℕ) → StandsAt (put w.units u y v) v (f v)
      stands_put y f here there v = go (eqb v u) refl
        where
          go : (b : Bool) → eqb v u ≡ b → StandsAt (cond b y (w.units v)) v (f v)
          go true q = subst (λ x. StandsAt y x (f x)) (sym (eqb-true v u q)) here
          go false q = rw (there v q) (i.units v)

      -- it has the same rows as before
      pub left : (rows : List CardRow) → rows ≡ (w.units u).rows → EntryStep w (leave w u rows) i
      unfolding leave
      left rows e =
          stays (leave w u rows)
          (stands_put (record { rows = rows; stage = (w.units u).stage }) i.contents.units (rw e (i.units u)) (λ v q. refl)) refl refl refl

      restands : (s : Stage) (r r' : CardRow) (x : U.Unit) → (settings_ok (settings_of c u) ≡ true → r' ≡ r) → Stands s r u x → Stands s r' u x
      restands new r r' x e h = h
      restands up r r' x e h = (h.0, (h.1.0, e h.0 ∙ h.1.1))
      restands down r r' x e h = (h.0, (h.1.0, ap (λ (z : CardRow). z.log) (e h.0) ∙ h.1.1))

      module _ (o : RowOutcome) where
        -- unit u after the outcome of its row j
        abbrev unit : ℕ → CardUnit
        unit j = record { rows = o.rows; stage = put (w.units u).stage j o.stage }

        -- what happens to row j of unit u is nothing to another entry
        pub other : (j : ℕ) → eqb c.entry j ≡ false → (1 ≤ c.entry → row_at o.rows c.entry ≡ row_at (w.units u).rows c.entry)
            → taken (entry_message l c.entry) o.sent ≡ none → EntryStep w (next w u j o) i
        unfolding next
        other j apart same unsent =
            let back = ne_eqb j c.entry (λ q. eqb-false c.entry j apart (sym q)) in
            stays (next w u j o)
            (stands_put (unit j) i.contents.units
            (rw apart (restands ((w.units u).stage c.entry) _ _ _ (λ h. same (started w i u h).first) (i.units u))) (λ v q. refl))
            (pick_added (entry_message l c.entry) w.sent o.sent ∙ ap (added _) unsent)
            (pick_added (what_of c.entry) w.proposed (of_entry j o.proposed) ∙ ap (added _) (of_other j c.entry o.proposed back))
            (pick_added (what_of c.entry) w.decided (of_entry j o.decided) ∙ ap (added _) (of_other j c.entry o.decided back))

        -- what happens to the entry's own row of unit u happens to the contents too
        pub own : (W : ContentsWorld) → Ranged → Moves i.contents W → Stands o.stage (row_at o.rows c.entry) u (W.units u)
            → ((v : ℕ) → eqb v u ≡ false → W.units v ≡ i.contents.units v)
            → W.sent ≡ added i.contents.sent (taken (entry_message l c.entry) o.sent)
            → W.proposed ≡ added i.contents.proposed o.proposed → W.decided ≡ added i.contents.decided o.decided
            → EntryStep w (next w u c.entry o) i
        unfolding next
        own W all moves here there s p d =
            record {
              end =
                  record {
                    contents = W;
                    units = stands_put (unit c.entry) W.units (rw (eq-eqb c.entry c.entry refl) here) there;
                    sent =
                        s
                        ∙ ap (λ ms. added ms (taken (entry_message l c.entry) o.sent)) i.sent
                        ∙ sym (pick_added (entry_message l c.entry) w.sent o.sent);
                    proposed = p ∙ tagged o.proposed i.contents.proposed w.proposed i.proposed;
                    decided = d ∙ tagged o.decided i.contents.decided w.decided i.decided;
                    inv = λ r. moves.inv;
                    ranged = λ x h. all;
                  };
              later = moves.later;
              given = moves.given;
            }
          where
            tagged : {A : Type 0} (a : Option A) (xs : List A) (ys : List (OfEntry A)) → xs ≡ pick (what_of c.entry) ys
                → added xs a ≡ pick (what_of c.entry) (added ys (of_entry c.entry a))
            tagged a xs ys e =
                ap (λ zs. added zs a) e ∙ ap (added _) (sym (of_own c.entry a)) ∙ sym (pick_added (what_of c.entry) ys (of_entry c.entry a))

-- the invariant of a world of cards, a field for each fact: it is kept by every event from any world that has it
pub record CardInv (l : Limits) (g : Engine) (n : ℕ) (w : CardWorld) : Type 0 where
  pub entries : (k : ℕ) → EntryInv l (setup g n k) w
  pub placed : Placed w
