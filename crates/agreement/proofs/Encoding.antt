-- A history over bytes is one over contents: the bytes of a world's units and messages, event by event. Assumes nothing.
use Prim.Native.Nat.{ℕ, zero, suc, ◌%◌, ◌<◌}
use mathlib.Core.Path.{◌≡◌, refl, sym, ap, subst, ◌∙◌}
use mathlib.Core.Bool.{Bool, true, false, cond, ◌||◌}
use mathlib.Core.List.{List, [], ◌∷◌, ◌++◌, map-append, Memᴰ}
use mathlib.Core.Logic.{◌⊎◌, inl, inr}
use mathlib.Core.Option.{Option, none, some}
use lib.Dec.{eqb}
use lib.ListN.{length, get_elem?, replicate}
use borrow.Author.Tests.{eqb-true, eqb-false, eq-eqb, lt-ltb, not-false}
use Rattle.tally.specs.Limits.{Limits, Sane, log_size, image_size, message_size}
use Rattle.tally.specs.Refusal.{number_of}
use Rattle.tally.proofs.Never.{never}
use Rattle.contents.specs.Estimates.{mileage_or_blank}
use Rattle.contents.specs.Messages.{message_ok}
use Rattle.contents.specs.declared.Kind.{Kind}
use Rattle.contents.specs.declared.Kind.TheVariants.{Empty, First, Check, Second, Skip}
use Rattle.contents.specs.declared.Message.{Message}
use Rattle.contents.proofs.Facts.{known_or_blank}
use Rattle.formats.specs.Codes.{kind_letter}
use Rattle.formats.specs.Images.{image_bytes}
use Rattle.formats.specs.Numbers.{bytes_of}
use Rattle.formats.proofs.Letters.{estimate_code}
use Rattle.consensus.specs.Methods as D
use Rattle.consensus.specs.Conditions.{Condition, first_refusal, NoneHolds}
use Rattle.consensus.specs.Units.{WellFormed, unit_log, unit_image, down_unit, at_log}
use Rattle.consensus.specs.declared.Answer.{Answer}
use Rattle.consensus.specs.Step.{recovered}
use Rattle.consensus.proofs.Soundness.{sound_propose, sound_deliver}
use Rattle.consensus.proofs.Answers.{propose_power, deliver_power}
use Rattle.consensus.specs.declared.Power.{Power}
use Rattle.consensus.specs.declared.Power.TheVariants.{Down, Up}
use Rattle.consensus.specs.declared.Unit as U
use Rattle.calls.specs.Calls.{CallAnswer, wrong_length, unit_lengths, Refusing, log_bytes, message_bytes, propose_call, deliver_call, key_on_call}
use Rattle.calls.specs.Calls.{propose_call_conditions, answered, deliver_call_conditions, key_on_call_conditions}
use Rattle.calls.proofs.Encoded.{propose_encoded, deliver_encoded, key_on_encoded}
use Rattle.calls.proofs.Refusals.{propose_refusing, deliver_refusing, key_on_refusing}
use Rattle.agreement.specs.Bytes as B
use Rattle.agreement.specs.Bytes.{UnitBytes, ByteWorld, up, down, unless_empty, all_zero}
use Rattle.agreement.specs.Contents as C
use Rattle.agreement.specs.Contents.{ContentsWorld}
use Rattle.agreement.specs.Encoded.{unit_bytes_at, unit_bytes, sent_bytes, Encodes}
use Rattle.agreement.specs.Worlds.{put, change, keep, report, give, decision, Decision, Proposal}

-- what it takes that these bytes are read back
pub record Valid (l : Limits) (n : ℕ) (w : ContentsWorld) : Type 0 where
  pub units : (u : ℕ) → u < n → WellFormed l (w.units u)
  pub sent : (m : Message) → Memᴰ m w.sent → message_ok l m ≡ true

-- ---- units

module _ (l : Limits) (n : ℕ) (b : ByteWorld) (w : ContentsWorld) (enc : Encodes l n b w) (u : ℕ) (x : UnitBytes) where
  -- unit u has the bytes x, and f has these and the others'
  put_bytes : (f : ℕ → U.Unit) → (u < n → x ≡ unit_bytes l (f u)) → ((v : ℕ) → eqb v u ≡ false → f v ≡ w.units v)
      → (v : ℕ) → v < n → put b.units u x v ≡ unit_bytes l (f v)
  put_bytes f here there v h = go (eqb v u) refl
    where
      go : (t : Bool) → eqb v u ≡ t → cond t x (b.units v) ≡ unit_bytes l (f v)
      go true e = let q = eqb-true v u e in rw q (here (subst (λ z. z < n) q h))
      go false e = enc.units v h ∙ ap (unit_bytes l) (sym (there v e))

  -- the unit is replaced in both
  encodes_change : (y : U.Unit) → (u < n → x ≡ unit_bytes l y) → Encodes l n (change b u x) (change w u y)
  encodes_change y same =
      record {
        units = put_bytes (put w.units u y) (λ h. rw (eq-eqb u u refl) (same h)) (λ v e. rw e);
        sent = enc.sent;
        proposed = enc.proposed;
        decided = enc.decided;
      }

  -- the unit has the same bytes as before
  pub encodes_same : (u < n → x ≡ unit_bytes l (w.units u)) → Encodes l n (change b u x) w
  encodes_same same = record { units = put_bytes w.units same (λ v e. refl); sent = enc.sent; proposed = enc.proposed; decided = enc.decided }

-- ---- messages and decisions

all_zeros : (k : ℕ) → all_zero (replicate k 0) ≡ true
all_zeros zero = refl
all_zeros (suc k) = all_zeros k

-- a message begins with its kind's letter, which is not 0
pub letter_first : (l : Limits) (m : Message) → eqb (kind_letter m.kind % 256) 0 ≡ false → all_zero (sent_bytes l m) ≡ false
unfolding bytes_of
letter_first l m letter = rw letter

module _ (l : Limits) (n : ℕ) (b : ByteWorld) (w : ContentsWorld) (enc : Encodes l n b w) where
  encodes_sent : (m : Message) → eqb (kind_letter m.kind % 256) 0 ≡ false → Encodes l n (keep b (unless_empty (sent_bytes l m))) (keep w (some m))
  encodes_sent m letter =
      rw (letter_first l m letter)
      (record {
        units = enc.units;
        sent = ap (λ ms. ms ++ (sent_bytes l m ∷ [])) enc.sent ∙ sym (map-append (sent_bytes l) w.sent (m ∷ []));
        proposed = enc.proposed;
        decided = enc.decided;
      })

  encodes_keep : (k : Kind) (m : Message) → m.kind ≡ k → Encodes l n (keep b (unless_empty (message_bytes l k m))) (keep w (C.unless_empty k m))
  unfolding message_bytes
  encodes_keep Empty m e = rw (all_zeros (message_size l)) enc
  encodes_keep First m e = encodes_sent m (rw e)
  encodes_keep Check m e = encodes_sent m (rw e)
  encodes_keep Second m e = encodes_sent m (rw e)
  encodes_keep Skip m e = encodes_sent m (rw e)

  encodes_report : (d : Option Decision) → Encodes l n (report b d) (report w d)
  encodes_report none = enc
  encodes_report (some d) =
      record { units = enc.units; sent = enc.sent; proposed = enc.proposed; decided = ap (λ ds. ds ++ (d ∷ [])) enc.decided }

  encodes_give : (p : Proposal) → Encodes l n (give b p) (give w p)
  encodes_give p = record { units = enc.units; sent = enc.sent; proposed = ap (λ ps. ps ++ (p ∷ [])) enc.proposed; decided = enc.decided }

-- ---- calls

-- a length that is not wrong
or_length : (a : Bool) (bs : List ℕ) (k : ℕ) → (a || wrong_length bs k) ≡ false → length bs ≡ k
or_length true bs k h = never (sym h)
or_length false bs k h = eqb-true (length bs) k (not-false (eqb (length bs) k) h)

-- after an event the world has the bytes of the same contents, or of those after an event of theirs
abbrev pub Follows : Limits → ℕ → ByteWorld → ContentsWorld → Type 0
Follows l n b w = Encodes l n b w ⊎ ((e : C.ContentsEvent) × Encodes l n b (C.step l n w e))

-- a refused call leaves log and image as they were
record BytesStay (old_log old_image : List ℕ) (c : CallAnswer) : Type 0 where
  number : eqb c.number 0 ≡ false
  log : c.log ≡ old_log
  image : c.image ≡ old_image

unchanged : (l : Limits) (cs : List Condition) (log image out : List ℕ) (c : CallAnswer) → Refusing l cs log image out c → eqb c.number 0 ≡ false
    → BytesStay log image c
unchanged l cs log image out c r e =
    let same = r.refused (eqb-false c.number 0 e) in
    record { number = e; log = ap (λ (x : CallAnswer). x.log) same; image = ap (λ (x : CallAnswer). x.image) same }

module _ (l : Limits) (sane : Sane l) (n : ℕ) (b : ByteWorld) (w : ContentsWorld) (enc : Encodes l n b w) (u : ℕ) where
  -- what an accepted step answered is what the call did, as bytes
  module _ (a : Answer) (on : a.unit.power ≡ Up) (known : mileage_or_blank l a.decision ≡ true) (number : number_of a.refusal ≡ 0) where
    encodes_after : (r : ℕ) → Encodes l n (B.after b u r (answered l a)) (C.after w u r a)
    unfolding B.after C.after
    encodes_after r =
        rw (eq-eqb (number_of a.refusal) 0 number, estimate_code l sane a.decision (known_or_blank l a.decision known))
        (encodes_report l n _ _
        (encodes_keep l n _ _ (encodes_change l n b w enc u _ a.unit (λ h. rw on)) a.message.kind a.message refl)
        (decision u r a.decision))

    encodes_proposal : (v : ℕ) → Encodes l n (B.after_proposal b u v (answered l a)) (C.after_proposal w u v a)
    unfolding B.after_proposal C.after_proposal
    encodes_proposal v =
        rw (eq-eqb (number_of a.refusal) 0 number) (encodes_give l n _ _ (encodes_after 0) (record { unit = u; mileage = v }))

    encodes_cut : Encodes l n (B.after_cut b u (answered l a)) (C.after_cut w u a)
    unfolding B.after_cut C.after_cut D.key_off D.unless first_refusal down_unit at_log
    encodes_cut = rw (eq-eqb (number_of a.refusal) 0 number, on) (encodes_change l n b w enc u _ _ (λ h. refl))

  -- a refused call leaves all units with their bytes
  module _ (on : (w.units u).power ≡ Up) (c : CallAnswer)
      (kept : BytesStay (log_bytes l (unit_log (w.units u))) (image_bytes l (unit_image (w.units u))) c) where
    encodes_up : Encodes l n (change b u (up c.log c.image)) w
    encodes_up = encodes_same l n b w enc u (up c.log c.image) (λ h. rw (kept.log, kept.image, on))

    refused_after : (r : ℕ) → Encodes l n (B.after b u r c) w
    unfolding B.after
    refused_after r = rw kept.number encodes_up

    refused_proposal : (v : ℕ) → Encodes l n (B.after_proposal b u v c) w
    unfolding B.after_proposal
    refused_proposal v = rw kept.number (refused_after 0)

    refused_cut : Encodes l n (B.after_cut b u c) w
    unfolding B.after_cut
    refused_cut = rw kept.number encodes_up

-- a call, accepted or refused, and what an event makes of its answer
module _ (l : Limits) (n : ℕ) (w : ContentsWorld) (cs : List Condition) (log image out : List ℕ) (c : CallAnswer)
    (law : Refusing l cs log image out c) (a : Answer)
    (same : NoneHolds cs → c ≡ answered l a) (f : CallAnswer → ByteWorld) where
  follow : (e : C.ContentsEvent) → (number_of a.refusal ≡ 0 → Encodes l n (f (answered l a)) (C.step l n w e))
      → (BytesStay log image c → Encodes l n (f c) w)
      → Follows l n (f c) w
  follow e accepted refused = go (eqb c.number 0) refl
    where
      go : (t : Bool) → eqb c.number 0 ≡ t → Follows l n (f c) w
      go true h =
          let q = same (law.number.accepted (eqb-true c.number 0 h)) in
          inr (
            e,
            subst (λ z. Encodes l n (f z) (C.step l n w e)) (sym q) (accepted (ap (λ (r : CallAnswer). r.number) (sym q) ∙ eqb-true c.number 0 h)),
          )
      go false h = inl (refused (unchanged l cs log image out c law h))

module _ (l : Limits) (sane : Sane l) (n : ℕ) (b : ByteWorld) (w : ContentsWorld) (enc : Encodes l n b w) (valid : Valid l n w)
    (u : ℕ) (below : u < n) where
  abbrev log : List ℕ
  log = log_bytes l (unit_log (w.units u))

  abbrev image : List ℕ
  image = image_bytes l (unit_image (w.units u))

  module _ (on : (w.units u).power ≡ Up) (out : List ℕ) where
    -- an accepted proposal's answer, as bytes
    pub step_proposal : (v : ℕ) → number_of (D.propose l (w.units u) v).refusal ≡ 0
        → Encodes l n (B.after_proposal b u v (answered l (D.propose l (w.units u) v))) (C.step l n w (C.proposal u v))
    unfolding C.step C.apply
    step_proposal v number =
        rw (lt-ltb u n below)
        (encodes_proposal l sane n b w enc u (D.propose l (w.units u) v) (propose_power l (w.units u) v ∙ on)
        (sound_propose l (w.units u) v (valid.units u below)).decision number v)

    pub on_proposal : (v : ℕ) → Follows l n (B.after_proposal b u v (propose_call l log image v out)) w
    unfolding propose_call_conditions
    on_proposal v =
        follow l n w (propose_call_conditions l log image v out) log image out (propose_call l log image v out) (propose_refusing l log image v out)
        (D.propose l (w.units u) v)
        (λ none. propose_encoded l sane (w.units u) (valid.units u below) on v out (or_length (unit_lengths l log image) out (message_size l) none.0))
        (B.after_proposal b u v) (C.proposal u v) (step_proposal v)
        (λ kept. refused_proposal l sane n b w enc u on (propose_call l log image v out) kept v)

    module _ (m : Message) (ok : message_ok l m ≡ true) where
      -- an accepted delivery's answer, as bytes, where f is what the event makes of it and e is of contents
      abbrev pub Delivers : (CallAnswer → ByteWorld) → C.ContentsEvent → Type 0
      Delivers f e =
          number_of (D.deliver l (w.units u) m).refusal ≡ 0 → Encodes l n (f (answered l (D.deliver l (w.units u) m))) (C.step l n w e)

      -- a delivery or a cut of it
      on_message : (f : CallAnswer → ByteWorld) (e : C.ContentsEvent) → Delivers f e
          → ((c : CallAnswer) → BytesStay log image c → Encodes l n (f c) w)
          → Follows l n (f (deliver_call l log image (sent_bytes l m) out)) w
      unfolding deliver_call_conditions
      on_message f e accepted refused =
          follow l n w (deliver_call_conditions l log image (sent_bytes l m) out) log image out (deliver_call l log image (sent_bytes l m) out)
          (deliver_refusing l log image (sent_bytes l m) out) (D.deliver l (w.units u) m)
          (λ none. deliver_encoded l sane (w.units u) (valid.units u below) on m out ok
          (or_length (unit_lengths l log image || wrong_length (sent_bytes l m) (message_size l)) out (message_size l) none.0))
          f e accepted (refused (deliver_call l log image (sent_bytes l m) out))

      power : (D.deliver l (w.units u) m).unit.power ≡ Up
      power = deliver_power l (w.units u) m ∙ on

      known : mileage_or_blank l (D.deliver l (w.units u) m).decision ≡ true
      known = (sound_deliver l (w.units u) m (valid.units u below)).decision

      module _ (k : ℕ) (there : get_elem? w.sent k ≡ some m) where
        pub step_delivery : Delivers (B.after b u m.round) (C.delivery u k)
        unfolding C.step C.apply C.delivering
        step_delivery number =
            rw (lt-ltb u n below, there) (encodes_after l sane n b w enc u (D.deliver l (w.units u) m) power known number m.round)

        pub on_delivery : Follows l n (B.after b u m.round (deliver_call l log image (sent_bytes l m) out)) w
        on_delivery =
            on_message (B.after b u m.round) (C.delivery u k) step_delivery (λ c kept. refused_after l sane n b w enc u on c kept m.round)

        pub step_cut : Delivers (B.after_cut b u) (C.cut u k)
        unfolding C.step C.apply C.delivering
        step_cut number = rw (lt-ltb u n below, there) (encodes_cut l sane n b w enc u (D.deliver l (w.units u) m) power known number)

        pub on_cut : Follows l n (B.after_cut b u (deliver_call l log image (sent_bytes l m) out)) w
        on_cut = on_message (B.after_cut b u) (C.cut u k) step_cut (λ c kept. refused_cut l sane n b w enc u on c kept)

  -- key-off, of a unit up or down
  pub step_off : Encodes l n (change b u (down (b.units u).log)) (C.step l n w (C.off u))
  unfolding C.step C.apply D.key_off D.unless first_refusal down_unit at_log
  step_off = rw (lt-ltb u n below) (encodes_change l n b w enc u _ _ (λ h. rw (enc.units u below) (go (w.units u).power refl)))
    where
      go : (p : Power) → (w.units u).power ≡ p → down (unit_bytes_at l p (w.units u)).log ≡ unit_bytes l (D.key_off (w.units u)).unit
      go Up e = rw e
      go Down e = rw e

  pub on_off : Follows l n (change b u (down (b.units u).log)) w
  on_off = inr (C.off u, step_off)

  -- key-on of a down unit, whatever the image buffer held
  module _ (off : (w.units u).power ≡ Down) (buffer : List ℕ) where
    pub step_on : length buffer ≡ image_size l → Encodes l n (B.after_key_on b u (key_on_call l log buffer)) (C.step l n w (C.on u))
    unfolding B.after_key_on C.step C.apply D.key_on D.unless first_refusal down_unit at_log recovered
    step_on size =
        rw (key_on_encoded l sane (unit_log (w.units u)) buffer (valid.units u below).log size, lt-ltb u n below)
        (encodes_change l n b w enc u _ _ (λ h. rw off))

    pub on_key : Follows l n (B.after_key_on b u (key_on_call l log buffer)) w
    unfolding B.after_key_on key_on_call_conditions unit_lengths
    on_key = go (eqb c.number 0) refl
      where
        c : CallAnswer
        c = key_on_call l log buffer

        go : (t : Bool) → eqb c.number 0 ≡ t → Follows l n (B.after_key_on b u c) w
        go true e =
            let none = (key_on_refusing l log buffer).number.accepted (eqb-true c.number 0 e) in
            inr (C.on u, step_on (or_length (wrong_length log (log_size l)) buffer (image_size l) none.0))
        go false e =
            let kept = unchanged l (key_on_call_conditions l log buffer) log buffer [] c (key_on_refusing l log buffer) e in
            inl (rw e (encodes_same l n b w enc u (down c.log) (λ h. rw (kept.log, off))))
