-- A played script is a history over bytes: each accepted line is the call on its unit's own log and image. Assumes nothing.
use Prim.Native.Nat.{ℕ, ◌≤◌, ◌<◌}
use mathlib.Core.Path.{◌≡◌, refl, ap}
use mathlib.Core.Bool.{Bool, true, false, cond}
use mathlib.Core.List.{List, [], ◌∷◌, ◌++◌, flat_map}
use mathlib.Core.Option.{none, some}
use native.Mathlib.Omega.{arith}
use lib.Dec.{eqb}
use lib.ListN.{length, get_elem?, length-replicate}
use borrow.Author.Tests.{eqb-true, eq-eqb, lt-ltb}
use Rattle.tally.specs.Limits.{Limits, Sane, senders, log_size, image_size, message_size}
use Rattle.tally.specs.Refusal.{number_of}
use Rattle.contents.specs.Messages.{message_ok}
use Rattle.contents.specs.declared.Message.{Message}
use Rattle.formats.specs.Formats.{ReadAnswer}
use Rattle.formats.specs.Images.{image_bytes}
use Rattle.formats.specs.Messages.{empty_bytes}
use Rattle.formats.proofs.Letters.{engine_letter}
use Rattle.consensus.specs.Methods.{propose, deliver}
use Rattle.consensus.specs.Conditions.{first_refusal}
use Rattle.consensus.specs.Units.{unit_log, unit_image}
use Rattle.consensus.specs.declared.Power.TheVariants.{Down, Up}
use Rattle.calls.specs.Calls.{answered, unit_lengths, bad_settings, log_bytes, start_call_conditions, start_call, deliver_call}
use Rattle.calls.proofs.Encoded.{read_message_lem, propose_encoded, deliver_encoded}
use Rattle.agreement.specs.Bytes as B
use Rattle.agreement.specs.Contents as C
use Rattle.agreement.specs.Demand3.{view}
use Rattle.agreement.specs.Encoded.{sent_bytes, Encodes}
use Rattle.agreement.specs.Worlds.{Setup, run, Agreed}
use Rattle.agreement.proofs.Encoding.{Valid, step_proposal, step_delivery, step_cut, step_off, step_on}
use Rattle.agreement.proofs.Follows.{sent_at, sent_in}
use Rattle.agreement.proofs.History.{Inv, run_append, run_inv, begun_inv}
use Rattle.agreement.proofs.Refused.{has_log}
use Rattle.agreement.proofs.Theorem.{valid, encodes_begun, demand_3}
use Rattle.script.specs.Script.{event_unit, in_ranges}
use Rattle.script.specs.declared.ScriptEvent.{ScriptEvent}
use Rattle.script.specs.declared.Header.{Header}
use Rattle.bench_play.specs.Bench.{start, unit_at, message_at}
use Rattle.bench_play.specs.Play.{Played, delivery, answer, play, unit_answer}
use Rattle.bench_play.specs.declared.Bench.{Bench}
use Rattle.bench_play.specs.Claims.{Sized}
use Rattle.bench_history.specs.History.{setup_of, Below, line_accepted, of_accepted, contents_event, zeros, byte_event, history, byte_history, Shows}
use Rattle.bench_history.specs.History.{contents_after, start_log, start_image, start_bytes, bytes_after}
use Rattle.bench_play.proofs.Accepting.{Accepts, proposal_up, delivered, cut_accepted, on_accepted, accepts}
use Rattle.bench_history.proofs.Accepted.{sent_at as bench_sent}
use Rattle.bench_play.proofs.PlayedLines.{played, sized_answer, start_sized}
use Rattle.bench_history.proofs.Simulation.{line_shows, units_high, settings_ok_lem, start_shows}

-- ---- one event

pub out_size : (l : Limits) → length (empty_bytes l) ≡ message_size l
out_size l = length-replicate (message_size l) 0

module _ (l : Limits) (sane : Sane l) (n : ℕ) (c : B.ByteWorld) (w : C.ContentsWorld) (enc : Encodes l n c w) (ok : Valid l n w)
    (u : ℕ) (below : u < n) where
  abbrev AsContents : B.Event → C.ContentsEvent → Type 0
  AsContents x e = Encodes l n (B.step l n c x) (C.step l n w e)

  pub up_image : (w.units u).power ≡ Up → (c.units u).image ≡ some (image_bytes l (unit_image (w.units u)))
  up_image on = rw (enc.units u below, on)

  pub no_image_lem : (w.units u).power ≡ Down → (c.units u).image ≡ none
  no_image_lem off = rw (enc.units u below, off)

  byte_proposal : (v : ℕ) → (w.units u).power ≡ Up → Accepts (propose l (w.units u) v)
      → AsContents (B.proposal u v (empty_bytes l)) (C.proposal u v)
  unfolding B.step B.proposal_of
  byte_proposal v on number =
      rw (
        lt-ltb u n below,
        up_image on,
        has_log l sane n w ok c enc u below,
        propose_encoded l sane (w.units u) (ok.units u below) on v (empty_bytes l) (out_size l),
      )
      (step_proposal l sane n c w enc ok u below on (empty_bytes l) v number)

  -- a delivery or a cut of it
  module _ (k : ℕ) (m : Message) (there : get_elem? w.sent k ≡ some m) where
    kept_ok : message_ok l m ≡ true
    kept_ok = ok.sent m (sent_in w.sent k m there)

    pub kept_bytes : get_elem? c.sent k ≡ some (sent_bytes l m)
    kept_bytes = rw (enc.sent, sent_at l w.sent k, there)

    kept_round : B.round_of l (sent_bytes l m) ≡ m.round
    kept_round = ap (λ (r : ReadAnswer Message). r.contents.round) (read_message_lem l sane m kept_ok).0

    module _ (on : (w.units u).power ≡ Up) where
      pub called : deliver_call l (log_bytes l (unit_log (w.units u))) (image_bytes l (unit_image (w.units u))) (sent_bytes l m) (empty_bytes l)
          ≡ answered l (deliver l (w.units u) m)
      called = deliver_encoded l sane (w.units u) (ok.units u below) on m (empty_bytes l) kept_ok (out_size l)

      byte_delivery : Accepts (deliver l (w.units u) m) → AsContents (B.delivery u k (empty_bytes l)) (C.delivery u k)
      unfolding B.step B.delivering
      byte_delivery number =
          rw (lt-ltb u n below, up_image on, kept_bytes, has_log l sane n w ok c enc u below, called, kept_round)
          (step_delivery l sane n c w enc ok u below on (empty_bytes l) m kept_ok k there number)

      byte_cut : Accepts (deliver l (w.units u) m) → AsContents (B.cut u k (empty_bytes l)) (C.cut u k)
      unfolding B.step B.delivering
      byte_cut number =
          rw (lt-ltb u n below, up_image on, kept_bytes, has_log l sane n w ok c enc u below, called)
          (step_cut l sane n c w enc ok u below on (empty_bytes l) m kept_ok k there number)

  byte_off : AsContents (B.off u) (C.off u)
  unfolding B.step
  byte_off = rw (lt-ltb u n below) (step_off l sane n c w enc ok u below)

  byte_on : (w.units u).power ≡ Down → AsContents (B.on u (zeros (image_size l))) (C.on u)
  unfolding B.step B.key_on_of
  byte_on off =
      rw (lt-ltb u n below, no_image_lem off, has_log l sane n w ok c enc u below)
      (step_on l sane n c w enc ok u below off (zeros (image_size l)) (length-replicate (image_size l) 0))

-- ---- one line

module _ (l : Limits) (sane : Sane l) (n : ℕ) (b : Bench) (sized : Sized b) (lines : List Played) (w : C.ContentsWorld) (shows : Shows n b lines w)
    (c : B.ByteWorld) (enc : Encodes l n c w) (ok : Valid l n w) where
  byte_event_lem : (e : ScriptEvent) → event_unit e < n → Accepts (unit_answer l b e)
      → Encodes l n (run (B.step l n) c (byte_event l e)) (run (C.step l n) w (contents_event e))
  unfolding run unit_answer
  byte_event_lem ScriptEvent.Malformed below number = absurd (omega (arith, number))
  byte_event_lem (ScriptEvent.Propose u v) below number =
      let same = shows.units u below in
      byte_proposal l sane n c w enc ok u below v (rw same (proposal_up l (unit_at b u) v number)) (rw same number)
  byte_event_lem (ScriptEvent.Deliver u k) below number =
      let same = shows.units u below in
      let d = delivered l b u k number in
      byte_delivery l sane n c w enc ok u below k (message_at b k) (bench_sent l n b sized lines w shows k d.sent) (rw same d.up)
      (rw (same, ← d.same) number)
  byte_event_lem (ScriptEvent.Cut u k) below number =
      let same = shows.units u below in
      let a = (cut_accepted (delivery l b u k) number).0 in
      let d = delivered l b u k a in
      byte_cut l sane n c w enc ok u below k (message_at b k) (bench_sent l n b sized lines w shows k d.sent) (rw same d.up)
      (rw (same, ← d.same) a)
  byte_event_lem (ScriptEvent.KeyOff u) below number = byte_off l sane n c w enc ok u below
  byte_event_lem (ScriptEvent.KeyOn u) below number =
      byte_on l sane n c w enc ok u below (rw (shows.units u below) (on_accepted (unit_at b u) number).0)

  byte_line : (e : ScriptEvent) → event_unit e < n
      → Encodes l n (run (B.step l n) c (of_accepted (byte_event l) (played e (answer l b e))))
      (run (C.step l n) w (of_accepted contents_event (played e (answer l b e))))
  unfolding run
  byte_line e below = go (eqb (number_of (answer l b e).refusal) 0) refl
    where
      go : (t : Bool) → eqb (number_of (answer l b e).refusal) 0 ≡ t
          → Encodes l n (run (B.step l n) c (cond t (byte_event l e) [])) (run (C.step l n) w (cond t (contents_event e) []))
      go true q = byte_event_lem e below (accepts l b e (eqb-true _ _ q))
      go false q = enc

-- ---- all lines

module _ (l : Limits) (sane : Sane l) (s : Setup) (high : s.n ≤ senders) where
  byte_lines : (es : List ScriptEvent) → Below s.n es → (b : Bench) → Sized b → (lines : List Played) (w : C.ContentsWorld) → Shows s.n b lines w
      → Inv l s w → (c : B.ByteWorld) → Encodes l s.n c w
      → Encodes l s.n (run (B.step l s.n) c (byte_history l b es)) (run (C.step l s.n) w (history l b es))
  unfolding play history byte_history run flat_map
  byte_lines [] below b sized lines w shows inv c enc = enc
  byte_lines (e ∷ es) below b sized lines w shows inv c enc =
      let p = played e (answer l b e) in
      rw (
        run_append (B.step l s.n) c (of_accepted (byte_event l) p) (byte_history l (answer l b e).bench es),
        run_append (C.step l s.n) w (of_accepted contents_event p) (history l (answer l b e).bench es),
      )
      (byte_lines es below.1 (answer l b e).bench (sized_answer l b sized e) (lines ++ (p ∷ [])) _
      (line_shows l s.n high b sized lines w shows e below.0)
      (run_inv l s w (of_accepted contents_event p) inv) _ (byte_line l sane s.n b sized lines w shows c enc (valid l sane s w inv) e below.0))

-- ---- the script

-- no event of these is a call with other buffers
lawful : (l : Limits) (n : ℕ) (lines : List Played) (c : B.ByteWorld) → B.Lawful l n c (flat_map (of_accepted (byte_event l)) lines)
unfolding flat_map
lawful l n [] c = tt
lawful l n (p ∷ lines) c = go (line_accepted p.answer) p.event (lawful l n lines)
  where
    go : (t : Bool) (e : ScriptEvent) → ((c : B.ByteWorld) → B.Lawful l n c (flat_map (of_accepted (byte_event l)) lines))
        → B.Lawful l n c (cond t (byte_event l e) [] ++ flat_map (of_accepted (byte_event l)) lines)
    go true ScriptEvent.Malformed later = later c
    go true (ScriptEvent.Propose u v) later = (tt, later _)
    go true (ScriptEvent.Deliver u k) later = (tt, later _)
    go true (ScriptEvent.Cut u k) later = (tt, later _)
    go true (ScriptEvent.KeyOff u) later = (tt, later _)
    go true (ScriptEvent.KeyOn u) later = (tt, later _)
    go false e later = later c

module _ (l : Limits) (sane : Sane l) (h : Header) (range : in_ranges h.n h.entry ≡ true) where
  pub started : (u : ℕ) → u < h.n → (B.start_of l (setup_of h) (start_log l) (start_image l) u).number ≡ 0
  unfolding start_call start_call_conditions first_refusal unit_lengths bad_settings
  started u below =
      rw (
        eq-eqb (length (zeros (log_size l))) (log_size l) (length-replicate (log_size l) 0),
        eq-eqb (length (zeros (image_size l))) (image_size l) (length-replicate (image_size l) 0),
        engine_letter h.engine,
        settings_ok_lem h range u below,
      )

  module _ (es : List ScriptEvent) (below : Below h.n es) where
    pub byte_lawful : B.Lawful l h.n (start_bytes l h) (byte_history l (start h) es)
    unfolding byte_history
    byte_lawful = lawful l h.n (play l (start h) es) (start_bytes l h)

    pub bytes_simulated : Encodes l h.n (bytes_after l h es) (contents_after l h es)
    unfolding contents_after bytes_after
    bytes_simulated =
        byte_lines l sane (setup_of h) (units_high h range) es below (start h) (start_sized h) [] (C.begun (setup_of h)) (start_shows h range)
        (begun_inv l (setup_of h) (settings_ok_lem h range)) (start_bytes l h) (encodes_begun l sane (setup_of h) _ _ started)

    -- demand 3 of the script, as it stands
    pub bytes_agreed : Agreed (setup_of h) (view l) (B.step l h.n) (start_bytes l h) (byte_history l (start h) es)
    bytes_agreed = demand_3 l sane (setup_of h) _ _ started (byte_history l (start h) es) byte_lawful
