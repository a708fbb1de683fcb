-- Every event over bytes is one over contents, or changes nothing. Assumes nothing.
use Prim.Native.Nat.{ℕ, zero, suc, ◌<◌}
use mathlib.Core.Path.{◌≡◌, refl, sym, ap, subst, ◌∙◌}
use mathlib.Core.Bool.{Bool, true, false, cond}
use mathlib.Core.List.{List, [], ◌∷◌, map, Memᴰ}
use mathlib.Core.Logic.{inl}
use mathlib.Core.Option.{Option, none, some}
use lib.Dec.{ltb}
use lib.ListN.{get_elem?}
use borrow.Author.Tests.{ltb-true}
use Rattle.tally.specs.Limits.{Limits, Sane}
use Rattle.tally.proofs.Never.{never}
use Rattle.contents.specs.Messages.{message_ok}
use Rattle.contents.specs.declared.Message.{Message}
use Rattle.consensus.specs.declared.Power.{Power}
use Rattle.consensus.specs.declared.Power.TheVariants.{Down, Up}
use Rattle.formats.specs.Formats.{ReadAnswer}
use Rattle.formats.specs.Images.{image_bytes}
use Rattle.consensus.specs.Units.{unit_log, unit_image}
use Rattle.calls.specs.Calls.{CallAnswer, log_bytes, deliver_call}
use Rattle.calls.proofs.Encoded.{read_message_lem}
use Rattle.agreement.specs.Bytes.{after_cut, ByteWorld, Event, proposal, delivery, cut, off, on, call, proposal_of, delivering, key_on_of, of_unit, round_of}
use Rattle.agreement.specs.Bytes.{after, step, LawfulEvent}
use Rattle.agreement.specs.Contents.{ContentsWorld}
use Rattle.agreement.specs.Encoded.{unit_bytes_at, sent_bytes, Encodes}
use Rattle.agreement.proofs.Encoding.{Valid, Follows, on_proposal, on_delivery, on_cut, on_off, on_key}
use Rattle.agreement.proofs.History.{at_place}
use Rattle.agreement.proofs.Refused.{has_log, on_call}

-- the bytes of a message, if there is one
abbrev pub bytes_if : Limits → Option Message → Option (List ℕ)
bytes_if l none = none
bytes_if l (some m) = some (sent_bytes l m)

pub sent_at : (l : Limits) (ms : List Message) (k : ℕ) → get_elem? (map (sent_bytes l) ms) k ≡ bytes_if l (get_elem? ms k)
sent_at l [] k = refl
sent_at l (m ∷ ms) zero = refl
sent_at l (m ∷ ms) (suc k) = sent_at l ms k

pub sent_in : (ms : List Message) (k : ℕ) (m : Message) → get_elem? ms k ≡ some m → Memᴰ m ms
sent_in ms k m =
    at_place (λ o. o ≡ some m → Memᴰ m ms) ms (λ h. never cc) (λ a i h. let e : a ≡ m = cc in subst (λ z. Memᴰ z ms) e i) k

module _ (l : Limits) (sane : Sane l) (n : ℕ) (b : ByteWorld) (w : ContentsWorld) (enc : Encodes l n b w) (valid : Valid l n w) where
  -- an event of a unit below n; of another nothing comes
  of_unit_lem : (u : ℕ) (next : ByteWorld) → (u < n → Follows l n next w) → Follows l n (of_unit n u b next) w
  of_unit_lem u next f = go (ltb u n) refl
    where
      go : (t : Bool) → ltb u n ≡ t → Follows l n (cond t next b) w
      go true e = f (ltb-true u n e)
      go false e = inl enc

  module _ (u : ℕ) (below : u < n) where
    -- by whether the unit is up
    proposal_of_lem : (v : ℕ) (out : List ℕ) → Follows l n (proposal_of l b u v out (b.units u).image) w
    unfolding proposal_of
    proposal_of_lem v out = rw (enc.units u below) (go (w.units u).power refl)
      where
        go : (p : Power) → (w.units u).power ≡ p → Follows l n (proposal_of l b u v out (unit_bytes_at l p (w.units u)).image) w
        go Up e = rw (has_log l sane n w valid b enc u below) (on_proposal l sane n b w enc valid u below e out v)
        go Down e = inl enc

    -- the call that delivers m
    abbrev called : Message → List ℕ → CallAnswer
    called m out = deliver_call l (log_bytes l (unit_log (w.units u))) (image_bytes l (unit_image (w.units u))) (sent_bytes l m) out

    -- and by whether the message was sent
    delivering_of : (k : ℕ) (out : List ℕ) (f : List ℕ → CallAnswer → ByteWorld)
        → ((w.units u).power ≡ Up → (m : Message) → message_ok l m ≡ true → get_elem? w.sent k ≡ some m
        → Follows l n (f (sent_bytes l m) (called m out)) w)
        → Follows l n (delivering l b u out f (b.units u).image (get_elem? b.sent k)) w
    unfolding delivering
    delivering_of k out f event = rw (enc.units u below, there) (go (w.units u).power refl (get_elem? w.sent k) refl)
      where
        there : get_elem? b.sent k ≡ bytes_if l (get_elem? w.sent k)
        there = ap (λ ms. get_elem? ms k) enc.sent ∙ sent_at l w.sent k

        go : (p : Power) → (w.units u).power ≡ p → (o : Option Message) → get_elem? w.sent k ≡ o
            → Follows l n (delivering l b u out f (unit_bytes_at l p (w.units u)).image (bytes_if l o)) w
        go Up e (some m) h = rw (has_log l sane n w valid b enc u below) (event e m (valid.sent m (sent_in w.sent k m h)) h)
        go Up e none h = inl enc
        go Down e o h = inl enc

    delivery_of : (k : ℕ) (out : List ℕ)
        → Follows l n (delivering l b u out (λ m c. after b u (round_of l m) c) (b.units u).image (get_elem? b.sent k)) w
    delivery_of k out =
        delivering_of k out (λ m c. after b u (round_of l m) c) λ e m ok h.
        subst (λ r. Follows l n (after b u r (called m out)) w) (ap (λ (r : ReadAnswer Message). r.contents.round) (sym (read_message_lem l sane m ok).0))
        (on_delivery l sane n b w enc valid u below e out m ok k h)

    key_on_of_lem : (buffer : List ℕ) → Follows l n (key_on_of l b u buffer (b.units u).image) w
    unfolding key_on_of
    key_on_of_lem buffer = rw (enc.units u below) (go (w.units u).power refl)
      where
        go : (p : Power) → (w.units u).power ≡ p → Follows l n (key_on_of l b u buffer (unit_bytes_at l p (w.units u)).image) w
        go Up e = inl enc
        go Down e = rw (has_log l sane n w valid b enc u below) (on_key l sane n b w enc valid u below e buffer)

  pub step_follows : (e : Event) → LawfulEvent l b e → Follows l n (step l n b e) w
  unfolding step
  step_follows (proposal u v out) h = of_unit_lem u _ (λ below. proposal_of_lem u below v out)
  step_follows (delivery u k out) h = of_unit_lem u _ (λ below. delivery_of u below k out)
  step_follows (cut u k out) h =
      of_unit_lem u _ (λ below.
      delivering_of u below k out (λ m c. after_cut b u c) (λ e m ok h. on_cut l sane n b w enc valid u below e out m ok k h))
  step_follows (off u) h = of_unit_lem u _ (λ below. on_off l sane n b w enc valid u below)
  step_follows (on u buffer) h = of_unit_lem u _ (λ below. key_on_of_lem u below buffer)
  step_follows (call c) h = inl (on_call l sane n w valid b enc c h)
