-- Each line is the call on its unit's own log and image, which answers what the bench's unit does. Assumes nothing.
use Rattle.std.specs.Prelude.{Option, Some}
use Prim.Native.Nat.{ℕ, ◌<◌}
use mathlib.Core.Path.{◌≡◌, refl, ap, subst, ◌∙◌}
use mathlib.Core.Bool.{Bool, true, false}
use mathlib.Core.List.{List}
use mathlib.Core.Logic.{inl, inr}
use mathlib.Core.Option.{Option as Maybe, none, some}
use native.Mathlib.Omega.{arith}
use lib.Dec.{leb}
use lib.ListN.{get_elem?, length-replicate}
use borrow.Author.Tests.{leb-true, leb-false}
use Rattle.tally.specs.Limits.{Limits, Sane, image_size}
use Rattle.tally.specs.Refusal.{number_of}
use Rattle.tally.specs.declared.Refusal.{Refusal}
use Rattle.formats.specs.Images.{image_bytes}
use Rattle.formats.specs.Messages.{empty_bytes}
use Rattle.consensus.specs.Methods.{refuses, unless, propose_conditions, propose, deliver, key_off, key_on}
use Rattle.consensus.specs.Conditions.{first_refusal}
use Rattle.consensus.specs.Step.{recovered}
use Rattle.consensus.specs.Units.{WellFormed, unit_log, unit_image, at_log, down_unit}
use Rattle.consensus.specs.declared.Power.{Power}
use Rattle.consensus.specs.declared.Power.TheVariants.{Down, Up}
use Rattle.calls.specs.Calls.{CallAnswer, log_bytes, answered}
use Rattle.calls.proofs.Encoded.{propose_encoded, key_on_encoded}
use Rattle.agreement.specs.Bytes as B
use Rattle.agreement.specs.Contents as C
use Rattle.agreement.specs.Encoded.{unit_bytes_at, Encodes}
use Rattle.agreement.proofs.Encoding.{Valid}
use Rattle.agreement.proofs.Follows.{sent_at}
use Rattle.agreement.proofs.Theorem.{valid}
use Rattle.script.specs.Script.{event_unit, in_ranges}
use Rattle.script.specs.declared.ScriptEvent.{ScriptEvent}
use Rattle.script.specs.declared.Header.{Header}
use Rattle.bench_play.specs.Bench.{unit_at, message_at, settle}
use Rattle.bench_play.specs.Claims.{Sized}
use Rattle.bench_play.specs.Play.{Played, delivery_conditions, delivery, cut_short, unit_answer, answer}
use Rattle.bench_play.specs.declared.Bench.{Bench}
use Rattle.bench_play.proofs.Accepting.{cut_number, own_number, accepts}
use Rattle.bench_play.proofs.PlayedLines.{reached_sized}
use Rattle.bench_history.specs.Calls.{propose_with, deliver_with, key_on_with, call_of, AsUnit, IsUp, IsDown, NoCall, OwnCall}
use Rattle.bench_history.specs.Covered.{reached, played_lines, EachLine}
use Rattle.bench_history.specs.History.{setup_of, zeros, Below, Shows, contents_after, bytes_after}
use Rattle.bench_history.proofs.Accepted.{sent_at as bench_sent}
use Rattle.bench_history.proofs.ByteHistory.{out_size, up_image, no_image_lem, kept_bytes, called, bytes_simulated}
use Rattle.bench_history.proofs.Lines.{below_parts}
use Rattle.bench_history.proofs.Lists.{past_taken}
use Rattle.bench_history.proofs.Simulation.{simulated, after_inv}

-- what is claimed of a line by whether it is a call
abbrev LineClaim : Limits → B.ByteWorld → Bench → ScriptEvent → Maybe CallAnswer → Type 0
LineClaim l c b e none = NoCall c e (answer l b e).refusal
LineClaim l c b e (some x) = AsUnit l b e x

-- the call's number, of the unit's own answer
unit_number : (l : Limits) (b : Bench) (e : ScriptEvent) (x : CallAnswer) → AsUnit l b e x → x.number ≡ number_of (unit_answer l b e).refusal
unfolding unit_answer
unit_number l b ScriptEvent.Malformed x h = absurd h
unit_number l b (ScriptEvent.Propose u v) x h = rw h
unit_number l b (ScriptEvent.Deliver u k) x h = rw h
unit_number l b (ScriptEvent.Cut u k) x h = rw (h, cut_number l b u k)
unit_number l b (ScriptEvent.KeyOff u) x h = absurd h
unit_number l b (ScriptEvent.KeyOn u) x h = rw h

-- a line that is no call and not K is refused
no_call_refused : (c : B.ByteWorld) (e : ScriptEvent) (r : Option Refusal) → ((u : ℕ) → e ≡ ScriptEvent.KeyOff u → ⊥) → NoCall c e r
    → number_of r ≡ 0 → ⊥
no_call_refused c ScriptEvent.Malformed r other q zero = omega (arith, ap number_of q, zero)
no_call_refused c (ScriptEvent.Propose u v) r other q zero = omega (arith, ap number_of q.0, zero)
no_call_refused c (ScriptEvent.Deliver u k) r other (inl q) zero = omega (arith, ap number_of q.0, zero)
no_call_refused c (ScriptEvent.Deliver u k) r other (inr q) zero = omega (arith, ap number_of q.0, zero)
no_call_refused c (ScriptEvent.Cut u k) r other (inl q) zero = omega (arith, ap number_of q.0, zero)
no_call_refused c (ScriptEvent.Cut u k) r other (inr q) zero = omega (arith, ap number_of q.0, zero)
no_call_refused c (ScriptEvent.KeyOff u) r other q zero = other u refl
no_call_refused c (ScriptEvent.KeyOn u) r other q zero = omega (arith, ap number_of q.0, zero)

module _ (l : Limits) (sane : Sane l) (n : ℕ) (b : Bench) (sized : Sized b) (lines : List Played) (w : C.ContentsWorld) (shows : Shows n b lines w)
    (c : B.ByteWorld) (enc : Encodes l n c w) (ok : Valid l n w) where
  module _ (u : ℕ) (below : u < n) where
    same : w.units u ≡ unit_at b u
    same = shows.units u below

    well : WellFormed l (unit_at b u)
    well = rw same at (ok.units u below)

    is_up_lem : (unit_at b u).power ≡ Up → IsUp c u
    is_up_lem on = (image_bytes l (unit_image (w.units u)), up_image l sane n c w enc ok u below (rw same on))

    is_down_lem : (unit_at b u).power ≡ Down → IsDown c u
    is_down_lem off = no_image_lem l sane n c w enc ok u below (rw same off)

    -- the unit's bytes, by whether it is up
    by_power : (P : B.UnitBytes → Type 0)
        → ((unit_at b u).power ≡ Up → P (B.up (log_bytes l (unit_log (unit_at b u))) (image_bytes l (unit_image (unit_at b u)))))
        → ((unit_at b u).power ≡ Down → P (B.down (log_bytes l (unit_log (unit_at b u)))))
        → P (c.units u)
    by_power P up down = rw (enc.units u below, same) (go (unit_at b u).power refl)
      where
        go : (p : Power) → (unit_at b u).power ≡ p → P (unit_bytes_at l p (unit_at b u))
        go Up e = up e
        go Down e = down e

    -- a delivery or a cut of it: to a down unit, of no message sent, or the call
    by_delivery : (P : Maybe CallAnswer → Type 0) (k : ℕ) → (delivery l b u k ≡ refuses (unit_at b u) (Some Refusal.Power) → IsDown c u → P none)
        → (delivery l b u k ≡ refuses (unit_at b u) (Some Refusal.Unsent) → IsUp c u → get_elem? c.sent k ≡ none → P none)
        → P (some (answered l (delivery l b u k)))
        → P (deliver_with l (c.units u).log (c.units u).image (get_elem? c.sent k))
    unfolding delivery delivery_conditions unless first_refusal
    by_delivery P k down unsent sent =
        by_power (λ (x : B.UnitBytes). P (deliver_with l x.log x.image (get_elem? c.sent k))) (λ on. go on (leb b.kept k) refl)
        (λ off. down (rw off) (is_down_lem off))
      where
        go : (unit_at b u).power ≡ Up → (t : Bool) → leb b.kept k ≡ t
            → P (deliver_with l (log_bytes l (unit_log (unit_at b u))) (some (image_bytes l (unit_image (unit_at b u)))) (get_elem? c.sent k))
        go on true e =
            let past = past_taken b.messages b.kept k (leb-true _ _ e) in
            let missing : get_elem? c.sent k ≡ none = rw (enc.sent, sent_at l w.sent k, shows.sent, past) in
            rw missing (unsent (rw (on, e)) (is_up_lem on) missing)
        go on false e =
            let there = bench_sent l n b sized lines w shows k (leb-false _ _ e) in
            let is_on : (w.units u).power ≡ Up = rw same on in
            let is_delivered : delivery l b u k ≡ deliver l (unit_at b u) (message_at b k) = rw (on, e) in
            rw (
              kept_bytes l sane n c w enc ok u below k (message_at b k) there,
              rw same at (called l sane n c w enc ok u below k (message_at b k) there is_on),
            )
            (subst (λ a. P (some (answered l a))) is_delivered sent)

  own : (e : ScriptEvent) → event_unit e < n → LineClaim l c b e (call_of l c e)
  unfolding call_of answer unit_answer settle cut_short propose propose_conditions key_off key_on unless first_refusal recovered down_unit at_log
  own ScriptEvent.Malformed below = refl
  own (ScriptEvent.Propose u v) below =
      by_power u below (λ (x : B.UnitBytes). LineClaim l c b (ScriptEvent.Propose u v) (propose_with l x.log x.image v))
      (λ on. propose_encoded l sane (unit_at b u) (well u below) on v (empty_bytes l) (out_size l)) (λ off. (rw off, is_down_lem u below off))
  own (ScriptEvent.Deliver u k) below =
      by_delivery u below (LineClaim l c b (ScriptEvent.Deliver u k)) k (λ q down. inl (rw q, down)) (λ q up missing. inr (rw q, up, missing)) refl
  own (ScriptEvent.Cut u k) below =
      by_delivery u below (LineClaim l c b (ScriptEvent.Cut u k)) k (λ q down. inl (rw q, down)) (λ q up missing. inr (rw q, up, missing)) refl
  own (ScriptEvent.KeyOff u) below =
      by_power u below (λ x. LineClaim l c b (ScriptEvent.KeyOff u) none) (λ on. inl (rw on, is_up_lem u below on))
      (λ off. inr (rw off, is_down_lem u below off))
  own (ScriptEvent.KeyOn u) below =
      by_power u below (λ (x : B.UnitBytes). LineClaim l c b (ScriptEvent.KeyOn u) (key_on_with l x.log x.image)) (λ on. (rw on, is_up_lem u below on))
      (λ off. rw off (key_on_encoded l sane (unit_log (unit_at b u)) (zeros (image_size l)) (well u below).log (length-replicate (image_size l) 0)))

  own_call : (e : ScriptEvent) → event_unit e < n → OwnCall l c b e
  own_call e below =
      record {
        accepted = λ zero other. made zero other (call_of l c e) refl;
        answers = answers;
        number = number;
        no_call = λ q. subst (LineClaim l c b e) q (own e below);
      }
    where
      answers : (x : CallAnswer) → call_of l c e ≡ some x → AsUnit l b e x
      answers x q = subst (LineClaim l c b e) q (own e below)

      number : (x : CallAnswer) → call_of l c e ≡ some x → ((answer l b e).refusal ≡ Some Refusal.Full → ⊥)
          → x.number ≡ number_of (answer l b e).refusal
      number x q other = unit_number l b e x (answers x q) ∙ own_number l b e other

      made : number_of (answer l b e).refusal ≡ 0 → ((u : ℕ) → e ≡ ScriptEvent.KeyOff u → ⊥) → (o : Maybe CallAnswer) → call_of l c e ≡ o
          → (x : CallAnswer) × ((call_of l c e ≡ some x) × (x.number ≡ 0))
      made zero other none q = absurd (no_call_refused c e _ other (subst (LineClaim l c b e) q (own e below)) zero)
      made zero other (some x) q = (x, (q, unit_number l b e x (answers x q) ∙ accepts l b e zero))

pub calls : (l : Limits) → Sane l → (h : Header) → in_ranges h.n h.entry ≡ true → (es : List ScriptEvent) → Below h.n es
    → EachLine es (λ before e. OwnCall l (bytes_after l h before) (reached l h before) e)
calls l sane h range es below before later e split =
    let parts = below_parts h.n before e later (subst (Below h.n) split below) in
    own_call l sane h.n (reached l h before) (reached_sized h l before) (played_lines l h before) (contents_after l h before)
    (simulated h range l before parts.0) (bytes_after l h before) (bytes_simulated l sane h range before parts.0)
    (valid l sane (setup_of h) _ (after_inv h range l before parts.0)) e parts.1
