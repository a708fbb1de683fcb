-- The invariant holds over every history, and demand 3 over contents with it. Assumes nothing.
use Prim.Native.Nat.{ℕ, zero, suc, ◌<◌}
use mathlib.Core.Path.{◌≡◌, refl, sym, ap, subst, ◌∙◌}
use mathlib.Core.Bool.{Bool, true, false, cond}
use mathlib.Core.List.Memᴰ
use mathlib.Core.List.{List, [], ◌∷◌, ◌++◌, Memᴰ}
use mathlib.Core.Logic.{◌⊎◌, inl, inr}
use mathlib.Core.Option.{Option, none, some}
use native.Mathlib.Omega.{arith}
use borrow.Author.Tests.{ltb-true}
use lib.Dec.{ltb}
use lib.ListN.{get_elem?}
use Rattle.tally.specs.Limits.{Limits}
use Rattle.tally.specs.Quorum.{quorum_of}
use Rattle.tally.specs.declared.Estimate.{Estimate}
use Rattle.tally.specs.declared.Estimate.TheVariants.{Blank, Split, Mileage}
use Rattle.tally.proofs.Never.{never}
use Rattle.contents.specs.Logs.{settings_ok}
use Rattle.contents.specs.Messages.{empty_message}
use Rattle.contents.specs.declared.Kind.{Kind}
use Rattle.contents.specs.declared.Kind.TheVariants.{Empty, First, Check, Second, Skip}
use Rattle.contents.specs.declared.Message.{Message}
use Rattle.consensus.specs.Methods.{propose, deliver, key_off, key_on}
use Rattle.consensus.specs.Sound.{From, Sound}
use Rattle.consensus.specs.Step.{fresh}
use Rattle.consensus.specs.Units.{WellFormed, at_log}
use Rattle.consensus.specs.declared.Answer.{Answer}
use Rattle.consensus.specs.declared.Unit as U
use Rattle.agreement.specs.Contents.{ContentsWorld, ContentsEvent, proposal, delivery, cut, off, on, contents_unit, begun, unless_empty, is_accepted, after}
use Rattle.agreement.specs.Contents.{after_cut, after_proposal, delivering, apply, step, view, AgreedContents}
use Rattle.agreement.specs.Worlds.{Setup, settings_of, Proposal, Decision, put, change, keep, report, decision, run, Given, Locked, Many, Seconded}
use Rattle.consensus.proofs.Answers.{propose_keeps}
use Rattle.consensus.proofs.Soundness.{sound_propose, sound_deliver, sound_key_off, sound_key_on, well_fresh}
use Rattle.agreement.proofs.Votes.{Of, of_map, many_map, Sure, Chosen}
use Rattle.agreement.proofs.Invariant.{Member, Invariant, locked_at, agreement, fair_up}
use Rattle.agreement.proofs.Changed.{New, changed}
use Rattle.agreement.proofs.Good.{Good, fair_none, good_off, good_on, good_propose, good_deliver}

-- mileages that accepted proposal events gave
abbrev pub Proposed : List Proposal → ℕ → Type 0
Proposed ps v = (b : ℕ) × Memᴰ (record { unit = b; mileage = v }) ps

abbrev pub Inv : Limits → Setup → ContentsWorld → Type 0
Inv l c w = Invariant l c (λ m. Memᴰ m w.sent) (Proposed w.proposed) (λ d. Memᴰ d w.decided) w.units

-- a fact of what there is, if any
abbrev When : {A : Type 0} → (A → Type 0) → Option A → Type 0
When P none = Unit
When P (some a) = P a

-- one more, if any
abbrev pub added : {A : Type 0} → List A → Option A → List A
added xs none = xs
added xs (some a) = xs ++ (a ∷ [])

module _ {A : Type 0} where
  added_up : (xs : List A) (o : Option A) (a : A) → Memᴰ a xs → Memᴰ a (added xs o)
  added_up xs none a h = h
  added_up xs (some b) a h = Memᴰ.append_left (b ∷ []) h

  added_back : (P : A → Type 0) (xs : List A) (o : Option A) → When P o → (a : A) → Memᴰ a (added xs o) → Memᴰ a xs ⊎ P a
  added_back P xs none p a h = inl h
  added_back P xs (some b) p a h = go (Memᴰ.append_cases xs h)
    where
      go : Memᴰ a xs ⊎ Memᴰ a (b ∷ []) → Memᴰ a xs ⊎ P a
      go (inl m) = inl m
      go (inr m) = inr (subst P (sym (Memᴰ.eq_of_singleton m)) p)

  -- what is found at a place is in the list
  pub at_place : (P : Option A → Type 0) (xs : List A) → P none → ((a : A) → Memᴰ a xs → P (some a)) → (k : ℕ) → P (get_elem? xs k)
  at_place P [] p f k = p
  at_place P (x ∷ xs) p f zero = f x (Memᴰ.head refl)
  at_place P (x ∷ xs) p f (suc k) = at_place P xs p (λ a h. f a (Memᴰ.tail h)) k

-- a message sent is not empty
when_sent : (P : Message → Type 0) (k : Kind) (m : Message) → ((k ≡ Empty → ⊥) → P m) → When P (unless_empty k m)
when_sent P Empty m f = tt
when_sent P First m f = f (λ e. never cc)
when_sent P Check m f = f (λ e. never cc)
when_sent P Second m f = f (λ e. never cc)
when_sent P Skip m f = f (λ e. never cc)

when_decided : (P : Decision → Type 0) (u r : ℕ) (e : Estimate) → Of (λ v. P (record { unit = u; round = r; mileage = v })) e → When P (decision u r e)
when_decided P u r Blank h = tt
when_decided P u r Split h = tt
when_decided P u r (Mileage v) h = h

-- the world after an answer, field by field
abbrev pub answer_added : ContentsWorld → List Proposal → ℕ → ℕ → Answer → ContentsWorld
answer_added w ps u r a =
    record {
      units = put w.units u a.unit;
      sent = added w.sent (unless_empty a.message.kind a.message);
      proposed = ps;
      decided = added w.decided (decision u r a.decision);
    }

pub after_is : (w : ContentsWorld) (u r : ℕ) (a : Answer) → after w u r a ≡ answer_added w w.proposed u r a
unfolding after
after_is w u r a = go (unless_empty a.message.kind a.message) (decision u r a.decision)
  where
    go : (o : Option Message) (d : Option Decision) → report (keep (change w u a.unit) o) d
        ≡ record { units = put w.units u a.unit; sent = added w.sent o; proposed = w.proposed; decided = added w.decided d }
    go none none = refl
    go none (some d) = refl
    go (some m) none = refl
    go (some m) (some d) = refl

pub run_append : {W E : Type 0} (step : W → E → W) (w : W) (xs ys : List E) → run step w (xs ++ ys) ≡ run step (run step w xs) ys
unfolding run
run_append step w [] ys = refl
run_append step w (x ∷ xs) ys = run_append step (step w x) xs ys

pub run_snoc : {W E : Type 0} (step : W → E → W) (w : W) (xs : List E) (e : E) → run step w (xs ++ (e ∷ [])) ≡ step (run step w xs) e
unfolding run
run_snoc step w xs e = run_append step w xs (e ∷ [])

-- ---- the events

-- what was sent or proposed stays
pub record Later (w w' : ContentsWorld) : Type 0 where
  pub sent : (m : Message) → Memᴰ m w.sent → Memᴰ m w'.sent
  pub proposed : (v : ℕ) → Proposed w.proposed v → Proposed w'.proposed v

pub now : (w : ContentsWorld) → Later w w
now w = record { sent = λ m h. h; proposed = λ v h. h }

pub and_later : {a b c : ContentsWorld} → Later a b → Later b c → Later a c
and_later p q = record { sent = λ m h. q.sent m (p.sent m h); proposed = λ v h. q.proposed v (p.proposed v h) }

-- an event leads from w to w': the invariant holds there, and what is decided there was proposed before
record Next (l : Limits) (c : Setup) (w w' : ContentsWorld) : Type 0 where
  inv : Inv l c w'
  given : (d : Decision) → Memᴰ d w'.decided → Proposed w.proposed d.mileage
  later : Later w w'

module _ (l : Limits) (c : Setup) (w : ContentsWorld) (inv : Inv l c w) where
  given_now : (d : Decision) → Memᴰ d w.decided → Proposed w.proposed d.mileage
  given_now d h = (inv.decided d h).1

  same : Next l c w w
  same = record { inv = inv; given = given_now; later = now w }

  -- an event that changes nothing unless b
  if : (b : Bool) {w' : ContentsWorld} → (b ≡ true → Next l c w w') → Next l c w (cond b w' w)
  if true f = f refl
  if false f = same

  abbrev X : Message → Type 0
  X m = Memᴰ m w.sent

  abbrev A : ℕ → Type 0
  A = Proposed w.proposed

  module _ (u : ℕ) (here : Member l c X A u (w.units u)) where
    -- an answer of the unit, which is y by then
    module _ (C : ℕ → Type 0) (r : ℕ) (y : U.Unit) (settings : y.settings ≡ settings_of c u) (a : Answer) (sound : Sound l y a)
        (good : Good c X C u r a) where
      member : Member l c X C u a.unit
      member = record { well_formed = sound.unit; settings = sound.settings ∙ settings; fair = good.fair; kept = good.kept }

      new : (a.message.kind ≡ Empty → ⊥) → New l c X C u a.unit.logged a.message
      new n = let g = good.message n in record { from = go sound.message; backed = g.0; stands = g.1 }
        where
          go : (a.message ≡ empty_message) ⊎ From l y.settings a.message → From l (settings_of c u) a.message
          go (inl e) = absurd (n (ap (λ m. m.kind) e))
          go (inr f) = subst (λ s. From l s a.message) settings f

    after_next : (ps : List Proposal) → ((v : ℕ) → A v → Proposed ps v) → (r : ℕ) (a : Answer) → Sound l (w.units u) a
        → Good c X (Proposed ps) u r a → Of A a.decision → Next l c w (answer_added w ps u r a)
    after_next ps more r a sound good given =
        record {
          inv =
              changed l c w.units inv u a.unit (member C r (w.units u) here.settings a sound good) (added_up w.sent o) more
              (added_back P w.sent o (when_sent P a.message.kind a.message (new C r (w.units u) here.settings a sound good)))
              (added_back Q w.decided (decision u r a.decision) (when_decided Q u r a.decision good.decision));
          given = λ d h. before d (added_back (λ d. A d.mileage) w.decided (decision u r a.decision)
              (when_decided (λ d. A d.mileage) u r a.decision given) d h);
          later = record { sent = added_up w.sent o; proposed = more };
        }
      where
        before : (d : Decision) → Memᴰ d w.decided ⊎ A d.mileage → A d.mileage
        before d (inl h) = given_now d h
        before d (inr h) = h

        C : ℕ → Type 0
        C = Proposed ps

        o : Option Message
        o = unless_empty a.message.kind a.message

        P : Message → Type 0
        P = New l c X C u a.unit.logged

        Q : Decision → Type 0
        Q d = Chosen c X C d.round d.mileage

    -- nothing is sent or decided
    change_next : (y : U.Unit) → y.settings ≡ settings_of c u → (a : Answer) → Sound l y a → Good c X A u 0 a → Next l c w (change w u a.unit)
    change_next y settings a sound good =
        record {
          inv = changed l c w.units inv u a.unit (member A 0 y settings a sound good) (λ m h. h) (λ v h. h) (λ m h. inl h) (λ d h. inl h);
          given = given_now;
          later = record { sent = λ m h. h; proposed = λ v h. h };
        }

    off_next : (y : U.Unit) → Member l c X A u y → Next l c w (change w u (key_off y).unit)
    off_next y i = change_next y i.settings (key_off y) (sound_key_off l y i.well_formed) (good_off c X A u 0 y i.fair i.kept)

    on_next : (y : U.Unit) → Member l c X A u y → Next l c w (change w u (key_on y).unit)
    on_next y i = change_next y i.settings (key_on y) (sound_key_on l y i.well_formed) (good_on c X A u 0 y i.fair i.kept)

    proposal_next : (v : ℕ) → Next l c w (after_proposal w u v (propose l (w.units u) v))
    unfolding after_proposal
    proposal_next v =
        if (is_accepted a)
        (λ h. rw (after_is w u 0 a)
        (after_next (w.proposed ++ (p ∷ [])) more 0 a (sound_propose l (w.units u) v here.well_formed)
        (good_propose c X _ u 0 (w.units u) (fair_up c (λ m h. h) more (w.units u) here.fair) here.kept l v
        (u, Memᴰ.append_right w.proposed (Memᴰ.head refl)))
        (rw (propose_keeps l (w.units u) v).1 tt)))
      where
        a : Answer
        a = propose l (w.units u) v

        p : Proposal
        p = record { unit = u; mileage = v }

        more : (n : ℕ) → A n → Proposed (w.proposed ++ (p ∷ [])) n
        more n h = (h.0, Memᴰ.append_left (p ∷ []) h.1)

    module _ (m : Message) (sent : X m) where
      sound : Sound l (w.units u) (deliver l (w.units u) m)
      sound = sound_deliver l (w.units u) m here.well_formed

      good : Good c X A u m.round (deliver l (w.units u) m)
      good = good_deliver l c X A inv.sent inv.unique u (w.units u) here m sent

      delivery_next : Next l c w (after w u m.round (deliver l (w.units u) m))
      delivery_next =
          rw (after_is w u m.round (deliver l (w.units u) m))
          (after_next w.proposed (λ v h. h) m.round (deliver l (w.units u) m) sound good
          (of_map {F = Chosen c X A m.round} (λ v h. h.1) (deliver l (w.units u) m).decision good.decision))

      cut_next : Next l c w (after_cut w u (deliver l (w.units u) m))
      unfolding after_cut
      cut_next =
          if (is_accepted (deliver l (w.units u) m))
          (λ h. off_next (deliver l (w.units u) m).unit (member A m.round (w.units u) here.settings _ sound good))

  apply_next : (e : ContentsEvent) → contents_unit e < c.n → Next l c w (apply l w e)
  unfolding apply delivering
  apply_next (proposal u v) b = proposal_next u (inv.units u b) v
  apply_next (delivery u k) b =
      at_place (λ o. Next l c w (delivering l w u (λ m a. after w u m.round a) o)) w.sent same (delivery_next u (inv.units u b)) k
  apply_next (cut u k) b =
      at_place (λ o. Next l c w (delivering l w u (λ m a. after_cut w u a) o)) w.sent same (cut_next u (inv.units u b)) k
  apply_next (off u) b = off_next u (inv.units u b) (w.units u) (inv.units u b)
  apply_next (on u) b = on_next u (inv.units u b) (w.units u) (inv.units u b)

  step_next : (e : ContentsEvent) → Next l c w (step l c.n w e)
  unfolding step
  step_next e = if (ltb (contents_unit e) c.n) (λ h. apply_next e (ltb-true _ _ h))

-- ---- the invariant over a history

pub step_inv : (l : Limits) (c : Setup) (w : ContentsWorld) (e : ContentsEvent) → Inv l c w → Inv l c (step l c.n w e)
step_inv l c w e i = (step_next l c w i e).inv

pub run_inv : (l : Limits) (c : Setup) (w : ContentsWorld) (es : List ContentsEvent) → Inv l c w → Inv l c (run (step l c.n) w es)
unfolding run
run_inv l c w [] inv = inv
run_inv l c w (e ∷ es) inv = run_inv l c (step l c.n w e) es (step_inv l c w e inv)

pub begun_inv : (l : Limits) (c : Setup) → ((u : ℕ) → u < c.n → settings_ok (settings_of c u) ≡ true) → Inv l c (begun c)
unfolding begun fresh at_log
begun_inv l c ok =
    record {
      units = λ u b.
          record {
            well_formed = well_fresh l (settings_of c u) (ok u b);
            settings = refl;
            fair = fair_none c _ _ _ refl refl sure sure (record { first = λ n. never (sym n); second = tt; checked = λ g. tt });
            kept = λ m h. absurd (Memᴰ.not-nil h);
          };
      sent = λ m h. absurd (Memᴰ.not-nil h);
      unique = λ a b h. absurd (Memᴰ.not-nil h);
      decided = λ d h. absurd (Memᴰ.not-nil h);
    }
  where
    sure : Sure c (λ m. Memᴰ m []) (Proposed []) 0 Blank
    sure = (λ r v h. absurd (omega arith), tt)

-- ---- what the byte level reads of it

module _ (l : Limits) (c : Setup) (w : ContentsWorld) (inv : Inv l c w) where
  pub well_formed_unit : (u : ℕ) → u < c.n → WellFormed l (w.units u) × ((w.units u).settings ≡ settings_of c u)
  well_formed_unit u b = let i = inv.units u b in (i.well_formed, i.settings)

  -- a well-formed message of engine, n and entry as all units have them
  pub from_unit : (m : Message) → Memᴰ m w.sent → From l (settings_of c m.sender) m
  from_unit m h = (inv.sent m h).from

-- ---- demand 3

module _ (l : Limits) (c : Setup) where
  abbrev to : ContentsWorld → List ContentsEvent → ContentsWorld
  to w es = run (step l c.n) w es

  pub run_later : (w : ContentsWorld) (es : List ContentsEvent) → Inv l c w → Later w (to w es)
  unfolding run
  run_later w [] inv = now w
  run_later w (e ∷ es) inv =
      let n = step_next l c w inv e in
      and_later n.later (run_later (step l c.n w e) es n.inv)

  pub step_later : (w : ContentsWorld) (e : ContentsEvent) → Inv l c w → Later w (step l c.n w e)
  step_later w e inv = (step_next l c w inv e).later

  -- the mileage of what is decided was given, and of what is decided after an event it was given before it
  pub decided_given : (w : ContentsWorld) → Inv l c w → (d : Decision) → Memᴰ d w.decided → Given d.mileage w
  decided_given w i d h = let g = given_now l c w i d h in record { by = g.0; there = g.1 }

  pub step_proposed : (w : ContentsWorld) (e : ContentsEvent) → Inv l c w → (d : Decision) → Memᴰ d (step l c.n w e).decided → Given d.mileage w
  step_proposed w e i d h = let g = (step_next l c w i e).given d h in record { by = g.0; there = g.1 }

  -- a state that was sure is locked by what is decided later
  pub locked_later : (w w' : ContentsWorld) → Later w w' → Inv l c w → Inv l c w' → (u : ℕ) → u < c.n → (d : Decision)
      → Memᴰ d w'.decided
      → Locked d (w.units u).logged × Locked d (w.units u).current
  locked_later w w' more was inv u b d h =
      let f = fair_up c more.sent more.proposed (w.units u) (was.units u b).fair in
      (locked_at l c _ _ _ _ inv d h (w.units u).logged f.logged, locked_at l c _ _ _ _ inv d h (w.units u).current f.current)

  -- a quorum of SECONDs agreed
  pub seconds_sent : (w : ContentsWorld) → Inv l c w → (d : Decision) → Memᴰ d w.decided
      → Many c.n (quorum_of c.engine c.n) (Seconded view w d)
  seconds_sent w inv d h =
      many_map (λ u a.
      record {
        copy = a.message;
        message = a.message;
        sent = a.sent;
        reads = refl;
        kind = a.kind;
        sender = a.sender;
        round = a.round;
        estimate = a.estimate;
      })
      (inv.decided d h).0

  pub agreed : (w : ContentsWorld) (es : List ContentsEvent) → Inv l c w → AgreedContents l c w es
  agreed w es inv =
      record {
        same = agreement l c _ _ _ _ end;
        proposed = λ xs ys e split d h.
            step_proposed (to w xs) e (run_inv l c w xs inv) d
            (subst (λ (z : ContentsWorld). Memᴰ d z.decided) (run_snoc (step l c.n) w xs e) h);
        logs = λ xs ys split u b s h d i. subst (Locked d) h (ever xs ys split u b d i).0;
        images = λ xs ys split u b s h d i. subst (Locked d) h.1 (ever xs ys split u b d i).1;
        logs_read = λ u b. (((to w es).units u).logged, refl);
        images_read = λ u b on. (((to w es).units u).current, (on, refl));
        seconded = seconds_sent (to w es) end;
      }
    where
      end : Inv l c (to w es)
      end = run_inv l c w es inv

      -- at every time before, against the decisions of the whole history
      ever : (xs ys : List ContentsEvent) → es ≡ xs ++ ys → (u : ℕ) → u < c.n → (d : Decision) → Memᴰ d (to w es).decided
          → Locked d ((to w xs).units u).logged × Locked d ((to w xs).units u).current
      ever xs ys split u b d i =
          let was = run_inv l c w xs inv in
          let whole : to w es ≡ to (to w xs) ys = ap (to w) split ∙ run_append (step l c.n) w xs ys in
          locked_later (to w xs) (to (to w xs) ys) (run_later (to w xs) ys was) was (run_inv l c (to w xs) ys was) u b d
          (subst (λ (z : ContentsWorld). Memᴰ d z.decided) whole i)

  pub agreed_begun : ((u : ℕ) → u < c.n → settings_ok (settings_of c u) ≡ true) → (es : List ContentsEvent) → AgreedContents l c (begun c) es
  agreed_begun ok es = agreed (begun c) es (begun_inv l c ok)
