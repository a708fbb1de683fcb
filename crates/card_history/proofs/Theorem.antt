-- Demand 3 of every entry, over every history of cards: the invariant is kept by every event, from any world that has it. Assumes nothing.
use Prim.Native.Nat.{ℕ}
use mathlib.Core.Path.{◌≡◌, refl, sym, ap, subst, ◌∙◌}
use mathlib.Core.Bool.{true, false}
use mathlib.Core.List.{List, [], ◌∷◌, ◌++◌, Memᴰ}
use Rattle.tally.specs.Limits.{Limits, Sane, today}
use Rattle.tally.specs.declared.Engine.{Engine}
use Rattle.tally.proofs.Bounds.{sane_today}
use Rattle.tally.proofs.Never.{never}
use Rattle.contents.specs.declared.Image.{Image}
use Rattle.contents.specs.declared.Log.{Log}
use Rattle.contents.specs.declared.State.{State}
use Rattle.formats.specs.Formats.{ReadAnswer, reading}
use Rattle.consensus.specs.Units.{unit_log, unit_image}
use Rattle.cards.specs.Calls.{row_at}
use Rattle.cards.specs.Rows.{row_log, row_image}
use Rattle.cards.specs.declared.CardRow.{CardRow}
use Rattle.cards.proofs.Rows.{row_back}
use Rattle.agreement.specs.Contents as C
use Rattle.agreement.specs.Worlds.{Setup, Decision, run, Given, Locked, Seconded}
use Rattle.agreement.proofs.History.{Inv, Later, now, and_later, begun_inv, run_append, run_snoc, locked_later, seconds_sent}
use Rattle.agreement.proofs.Invariant.{agreement}
use Rattle.agreement.proofs.Votes.{many_map}
use Rattle.card_history.specs.Cards.{Stage, new, up, down, CardWorld, begun, CardEvent, is_new, is_up, step, Lawful}
use Rattle.card_history.specs.Claims.{Placed}
use Rattle.card_history.specs.Demand3.{entry_message, read_at, view, Reported, AgreedAt, CardDemand3}
use Rattle.card_history.proofs.Calls.{log_back}
use Rattle.card_history.proofs.Entry.{setup, Stands, EntryInv, Started, started, CardInv}
use Rattle.card_history.proofs.Follows.{steps, card_step}
use Rattle.card_history.proofs.Picked.{picked_from}

module _ (l : Limits) (sane : Sane l) (g : Engine) (n : ℕ) where
  -- ---- the beginning

  pub card_begun : (cards : ℕ → List CardRow) → CardInv l g n (begun cards)
  unfolding C.begun
  card_begun cards =
      record {
        entries = λ k.
            record {
              contents = C.begun (setup g n k);
              units = λ u. refl;
              sent = refl;
              proposed = refl;
              decided = refl;
              inv = begun_inv l (setup g n k);
              ranged = λ d h. absurd (mathlib.Core.List.Memᴰ.not-nil h);
            };
        placed = λ u k h. never (sym h);
      }

  -- ---- a world that has the invariant, read at entry k

  module _ (k : ℕ) (w : CardWorld) (i : EntryInv l (setup g n k) w) where
    abbrev c : Setup
    c = setup g n k

    abbrev W : C.ContentsWorld
    W = i.contents

    same_decision : (d : Decision) → Memᴰ d (read_at k w).decided → Memᴰ d W.decided
    same_decision d h = subst (Memᴰ d) (sym i.decided) h

    same_given : (v : ℕ) → Given v W → Given v (read_at k w)
    same_given v a = record { by = a.by; there = subst (Memᴰ _) i.proposed a.there }

    -- agreement's invariant, once there is a decision
    has : (d : Decision) → Memᴰ d W.decided → Inv l c W
    has d h = i.inv (i.ranged d h)

    module _ (u : ℕ) where
      -- of a started row
      record Read : Type 0 where
        ready : Started l c w i u
        log : row_log l (row_at (w.units u).rows k) ≡ reading 0 (unit_log (W.units u))

      reads_log_lem : is_new ((w.units u).stage k) ≡ false → Read
      reads_log_lem h = go ((w.units u).stage k) h (i.units u)
        where
          go : (s : Stage) → is_new s ≡ false → Stands l c s (row_at (w.units u).rows k) u (W.units u) → Read
          go new e x = never (sym e)
          go up e x =
              let s = started l c w i u x.0 in
              record { ready = s; log = log_back l sane (W.units u) s.well_formed _ (ap (λ (z : CardRow). z.log) x.1.1) }
          go down e x =
              let s = started l c w i u x.0 in
              record { ready = s; log = log_back l sane (W.units u) s.well_formed _ x.1.1 }

      -- and of an up one
      record Shown : Type 0 where
        ready : Started l c w i u
        image : row_image l (row_at (w.units u).rows k) ≡ reading 0 (unit_image (W.units u))

      reads_image : is_up ((w.units u).stage k) ≡ true → Shown
      reads_image h = go ((w.units u).stage k) h (i.units u)
        where
          go : (s : Stage) → is_up s ≡ true → Stands l c s (row_at (w.units u).rows k) u (W.units u) → Shown
          go new e x = never e
          go up e x =
              let s = started l c w i u x.0 in
              record { ready = s; image = ap (row_image l) x.1.1 ∙ (row_back l sane (W.units u) s.well_formed).1 }
          go down e x = never e

      log_state : (s : State) → (view l k).HasLog (w.units u) s → (W.units u).logged ≡ s
      log_state s h = ap (λ (z : ReadAnswer Log). z.contents.state) (sym (reads_log_lem h.0).log) ∙ h.1.1

      image_state : (s : State) → (view l k).HasImage (w.units u) s → (W.units u).current ≡ s
      image_state s h = ap (λ (z : ReadAnswer Image). z.contents.state) (sym (reads_image h.0).image) ∙ h.1.1

    -- a message of the entry is among the bytes sent
    same_second : (d : Decision) (u : ℕ) → Seconded C.view W d u → Seconded (view l k) (read_at k w) d u
    same_second d u a =
        let there : Memᴰ a.message W.sent = subst (λ z. Memᴰ z W.sent) a.reads a.sent in
        let p = picked_from (entry_message l k) w.sent a.message (subst (Memᴰ a.message) i.sent there) in
        record {
          copy = p.0;
          message = a.message;
          sent = p.1.0;
          reads = p.1.1;
          kind = a.kind;
          sender = a.sender;
          round = a.round;
          estimate = a.estimate;
        }

  -- ---- histories

  -- events lead from w to w': the invariant holds there, and what was sent or proposed of any entry stays
  record Reached (w w' : CardWorld) (i : CardInv l g n w) : Type 0 where
    end : CardInv l g n w'
    later : (k : ℕ) → Later (i.entries k).contents (end.entries k).contents

  run_reached : (w : CardWorld) (es : List CardEvent) (i : CardInv l g n w) → Lawful l g n w es → Reached w (run (step l g n) w es) i
  unfolding run
  run_reached w [] i h = record { end = i; later = λ k. now (i.entries k).contents }
  run_reached w (e ∷ es) i h =
      let s = steps l sane g n w i e h.0 in
      let r = run_reached (step l g n w e) es (card_step l sane g n w i e h.0) h.1 in
      record { end = r.end; later = λ k. and_later (s k).later (r.later k) }

  pub card_run : (w : CardWorld) (es : List CardEvent) → CardInv l g n w → Lawful l g n w es → CardInv l g n (run (step l g n) w es)
  card_run w es i h = (run_reached w es i h).end

  -- a lawful history in two parts
  lawful_parts : (w : CardWorld) (xs ys : List CardEvent) → Lawful l g n w (xs ++ ys) → Lawful l g n w xs × Lawful l g n (run (step l g n) w xs) ys
  unfolding run
  lawful_parts w [] ys h = (tt, h)
  lawful_parts w (x ∷ xs) ys h = let r = lawful_parts (step l g n w x) xs ys h.1 in ((h.0, r.0), r.1)

  -- demand 3 of every entry, from any world that has the invariant
  pub agreed_from : (w : CardWorld) (es : List CardEvent) → CardInv l g n w → Lawful l g n w es → (k : ℕ) → AgreedAt l g n k w es
  agreed_from w es i lawful k =
      record {
        same = λ a b p q.
            let m = same_decision k last end a p in agreement l s _ _ _ _ (has k last end a m) a b m (same_decision k last end b q);
        proposed = before;
        logs = λ xs ys split u z h d m.
            subst (Locked d) (log_state k (to xs) (at xs ys split) u z h)
            (ever xs ys split u (reads_log_lem k (to xs) (at xs ys split) u h.0).ready d m).0;
        images = λ xs ys split u z h d m.
            subst (Locked d) (image_state k (to xs) (at xs ys split) u z h)
            (ever xs ys split u (reads_image k (to xs) (at xs ys split) u h.0).ready d m).1;
        logs_read = λ u h. ((end.contents.units u).logged, (h, rw (reads_log_lem k last end u h).log (refl, refl)));
        images_read = λ u h. ((end.contents.units u).current, (h, rw (reads_image k last end u h).image (refl, refl)));
        seconded = λ d p.
            let m = same_decision k last end d p in many_map (same_second k last end d) (seconds_sent l s end.contents (has k last end d m) d m);
      }
    where
      s : Setup
      s = setup g n k

      to : List CardEvent → CardWorld
      to xs = run (step l g n) w xs

      last : CardWorld
      last = run (step l g n) w es

      end : EntryInv l (setup g n k) last
      end = (card_run w es i lawful).entries k

      parts : (xs ys : List CardEvent) → es ≡ xs ++ ys → Lawful l g n w xs × Lawful l g n (to xs) ys
      parts xs ys split = lawful_parts w xs ys (subst (Lawful l g n w) split lawful)

      all : (xs ys : List CardEvent) → es ≡ xs ++ ys → CardInv l g n (to xs)
      all xs ys split = card_run w xs i (parts xs ys split).0

      at : (xs ys : List CardEvent) → es ≡ xs ++ ys → EntryInv l (setup g n k) (to xs)
      at xs ys split = (all xs ys split).entries k

      before : (xs ys : List CardEvent) (e : CardEvent) → es ≡ xs ++ (e ∷ ys) → (d : Decision) → Reported l g n k w (xs ++ (e ∷ [])) d
          → Given d.mileage (read_at k (to xs))
      before xs ys e split d m =
          let z = steps l sane g n (to xs) (all xs (e ∷ ys) split) e (parts xs (e ∷ ys) split).1.0 k in
          same_given k (to xs) (at xs (e ∷ ys) split) d.mileage
          (z.given d (same_decision k (step l g n (to xs) e) z.end d
          (subst (λ (y : CardWorld). Memᴰ d (read_at k y).decided) (run_snoc (step l g n) w xs e) m)))

      ever : (xs ys : List CardEvent) (split : es ≡ xs ++ ys) (u : ℕ) → Started l (setup g n k) (to xs) (at xs ys split) u → (d : Decision)
          → Reported l g n k w es d
          → Locked d ((at xs ys split).contents.units u).logged × Locked d ((at xs ys split).contents.units u).current
      ever xs ys split u ready d m =
          let was = all xs ys split in
          let r = run_reached (to xs) ys was (parts xs ys split).1 in
          let whole : last ≡ run (step l g n) (to xs) ys = ap to split ∙ run_append (step l g n) w xs ys in
          let there = same_decision k (run (step l g n) (to xs) ys) (r.end.entries k) d
          (subst (λ (y : CardWorld). Memᴰ d (read_at k y).decided) whole m) in
          locked_later l s (was.entries k).contents (r.end.entries k).contents (r.later k) ((was.entries k).inv ready.all)
          ((r.end.entries k).inv ready.all) u ready.below d there

-- a unit takes part in the entries of its card's rows alone
pub card_placed : (l : Limits) → Sane l → (g : Engine) (n : ℕ) (cards : ℕ → List CardRow) (es : List CardEvent) → Lawful l g n (begun cards) es
    → Placed (run (step l g n) (begun cards) es)
card_placed l sane g n cards es lawful = (card_run l sane g n (begun cards) es (card_begun l sane g n cards) lawful).placed

-- demand 3 of every entry, of every history of cards
pub card_demand_3 : (l : Limits) → Sane l → CardDemand3 l
card_demand_3 l sane g n cards es lawful k = agreed_from l sane g n (begun cards) es (card_begun l sane g n cards) lawful k

pub card_demand_3_today : CardDemand3 today
card_demand_3_today = card_demand_3 today sane_today
