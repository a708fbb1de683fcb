-- Demand 3 over bytes: the invariant is kept by every event, from any world that has it. Assumes nothing.
use Rattle.std.specs.Prelude.{Some}
use Prim.Native.Nat.{ℕ, ◌<◌}
use mathlib.Core.Path.{◌≡◌, refl, sym, ap, subst, ◌∙◌}
use mathlib.Core.List.{List, [], ◌∷◌, ◌++◌, Memᴰ}
use mathlib.Core.Logic.{inl, inr}
use mathlib.Core.Option.{some}
use Rattle.tally.specs.Limits.{Limits, Sane, today}
use Rattle.tally.proofs.Bounds.{sane_today}
use Rattle.tally.proofs.Never.{never}
use Rattle.tally.specs.declared.Engine.{Engine}
use Rattle.contents.specs.declared.Image.{Image}
use Rattle.contents.specs.declared.Log.{Log}
use Rattle.contents.specs.declared.Message.{Message}
use Rattle.contents.specs.declared.State.{State}
use Rattle.formats.specs.Codes.{letter_of}
use Rattle.formats.specs.Formats.{ReadAnswer, reading}
use Rattle.formats.specs.Images.{read_image, image_bytes}
use Rattle.formats.specs.Logs.{read_log}
use Rattle.formats.proofs.Letters.{engine_letter}
use Rattle.consensus.specs.Step.{fresh}
use Rattle.consensus.specs.Units.{unit_log, unit_image, at_log}
use Rattle.consensus.specs.declared.Power.{Power}
use Rattle.consensus.specs.declared.Power.TheVariants.{Down, Up}
use Rattle.calls.proofs.Encoded.{Started, start_accepted, read_log_lem, read_image_lem, read_message_lem}
use Rattle.agreement.specs.Bytes.{UnitBytes, ByteWorld, up, Event, start_of, begun, step, LawfulEvent, Lawful}
use Rattle.agreement.specs.Contents as C
use Rattle.agreement.specs.Demand3.{view, Demand3}
use Rattle.agreement.specs.Encoded.{unit_bytes_at, unit_bytes, sent_bytes, Encodes}
use Rattle.agreement.specs.Worlds.{Setup, settings_of, Decision, run, Given, Locked, Seconded, Reported, Agreed}
use Rattle.agreement.proofs.Encoding.{Valid, Follows}
use Rattle.agreement.proofs.Follows.{step_follows}
use Rattle.agreement.proofs.History.{Inv, Later, now, and_later, step_later, step_inv, begun_inv, well_formed_unit, from_unit, decided_given, step_proposed}
use Rattle.agreement.proofs.History.{run_append, run_snoc, locked_later, seconds_sent}
use Rattle.agreement.proofs.Invariant.{agreement}
use Rattle.agreement.proofs.Refused.{has_log}
use Rattle.agreement.proofs.Votes.{many_map}

is_inj : (a b : Engine) → Some a ≡ Some b → a ≡ b
is_inj a b h = cc

-- the invariant of a world of bytes: it has the bytes of a world of contents that has it
pub record BytesInv (l : Limits) (c : Setup) (b : ByteWorld) : Type 0 where
  pub contents : C.ContentsWorld
  pub encodes : Encodes l c.n b contents
  pub inv : Inv l c contents

module _ (l : Limits) (sane : Sane l) (c : Setup) where
  pub valid : (w : C.ContentsWorld) → Inv l c w → Valid l c.n w
  valid w inv = record { units = λ u h. (well_formed_unit l c w inv u h).0; sent = λ m h. (from_unit l c w inv m h).well_formed }

  -- events lead from b to b': the invariant holds there, and what was sent or proposed stays
  record Reached (b b' : ByteWorld) (i : BytesInv l c b) : Type 0 where
    end : BytesInv l c b'
    later : Later i.contents end.contents

  step_reached : (b : ByteWorld) (e : Event) (i : BytesInv l c b) → LawfulEvent l b e → Reached b (step l c.n b e) i
  step_reached b e i h = go (step_follows l sane c.n b i.contents i.encodes (valid i.contents i.inv) e h)
    where
      go : Follows l c.n (step l c.n b e) i.contents → Reached b (step l c.n b e) i
      go (inl enc) = record { end = record { contents = i.contents; encodes = enc; inv = i.inv }; later = now i.contents }
      go (inr f) =
          record {
            end =
                record { contents = C.step l c.n i.contents f.0; encodes = f.1; inv = step_inv l c i.contents f.0 i.inv };
            later = step_later l c i.contents f.0 i.inv;
          }

  run_reached : (b : ByteWorld) (es : List Event) (i : BytesInv l c b) → Lawful l c.n b es → Reached b (run (step l c.n) b es) i
  unfolding run
  run_reached b [] i h = record { end = i; later = now i.contents }
  run_reached b (e ∷ es) i h =
      let a = step_reached b e i h.0 in
      let r = run_reached (step l c.n b e) es a.end h.1 in
      record { end = r.end; later = and_later a.later r.later }

  pub bytes_step : (b : ByteWorld) (e : Event) → BytesInv l c b → LawfulEvent l b e → BytesInv l c (step l c.n b e)
  bytes_step b e i h = (step_reached b e i h).end

  pub bytes_run : (b : ByteWorld) (es : List Event) → BytesInv l c b → Lawful l c.n b es → BytesInv l c (run (step l c.n) b es)
  bytes_run b es i h = (run_reached b es i h).end

  -- a fresh start, whatever the buffers held before
  module _ (logs images : ℕ → List ℕ) (started : (u : ℕ) → u < c.n → (start_of l c logs images u).number ≡ 0) where
    start_at : (u : ℕ) → u < c.n → Started l (letter_of c.engine) c.n u c.entry (start_of l c logs images u)
    start_at u h = start_accepted l sane (letter_of c.engine) c.n u c.entry (logs u) (images u) (started u h)

    pub encodes_begun : Encodes l c.n (begun l c logs images) (C.begun c)
    unfolding begun C.begun fresh at_log
    encodes_begun = record { units = same; sent = refl; proposed = refl; decided = refl }
      where
        same : (u : ℕ) → u < c.n → up (start_of l c logs images u).log (start_of l c logs images u).image ≡ unit_bytes l (fresh (settings_of c u))
        same u h =
            let s = start_at u h in
            let g : c.engine ≡ s.known = is_inj c.engine s.known (sym (engine_letter c.engine) ∙ s.letter) in
            rw (s.answer, ← g)

    pub bytes_begun : BytesInv l c (begun l c logs images)
    bytes_begun = record { contents = C.begun c; encodes = encodes_begun; inv = begun_inv l c (λ u h. (start_at u h).range) }

  -- what holds of a world's contents is said of its bytes
  module _ (b : ByteWorld) (i : BytesInv l c b) where
    abbrev w : C.ContentsWorld
    w = i.contents

    ok : Valid l c.n w
    ok = valid w i.inv

    same_decision : (d : Decision) → Memᴰ d b.decided → Memᴰ d w.decided
    same_decision d h = subst (Memᴰ d) i.encodes.decided h

    same_given : (v : ℕ) → Given v w → Given v b
    same_given v g = record { by = g.by; there = subst (Memᴰ _) (sym i.encodes.proposed) g.there }

    module _ (u : ℕ) (h : u < c.n) where
      reads_log_lem : read_log l (b.units u).log ≡ reading 0 (unit_log (w.units u))
      reads_log_lem = ap (read_log l) (has_log l sane c.n w ok b i.encodes u h) ∙ (read_log_lem l sane (unit_log (w.units u)) (ok.units u h).log).0

      reads_image : (bs : List ℕ) → (b.units u).image ≡ some bs → read_image l bs ≡ reading 0 (unit_image (w.units u))
      reads_image bs e = go (w.units u).power (ap (λ (x : UnitBytes). x.image) (sym (i.encodes.units u h)) ∙ e)
        where
          go : (p : Power) → (unit_bytes_at l p (w.units u)).image ≡ some bs → read_image l bs ≡ reading 0 (unit_image (w.units u))
          go Up s =
              let q : image_bytes l (unit_image (w.units u)) ≡ bs = cc in
              ap (read_image l) (sym q) ∙ (read_image_lem l sane (w.units u) (ok.units u h)).0
          go Down s = never cc

      -- the states that a unit has as bytes are those of its contents
      log_state : (s : State) → (view l).HasLog (b.units u) s → (w.units u).logged ≡ s
      log_state s r = ap (λ (x : ReadAnswer Log). x.contents.state) (sym reads_log_lem) ∙ r.1

      image_state : (s : State) → (view l).HasImage (b.units u) s → (w.units u).current ≡ s
      image_state s r = ap (λ (x : ReadAnswer Image). x.contents.state) (sym (reads_image r.0 r.1.0)) ∙ r.1.1.1

    -- a message sent is kept as its bytes
    sent_copy : (m : Message) → Memᴰ m w.sent → Memᴰ (sent_bytes l m) b.sent
    sent_copy m h = subst (Memᴰ (sent_bytes l m)) (sym i.encodes.sent) (mathlib.Core.List.Memᴰ.map (sent_bytes l) h)

    same_second : (d : Decision) (u : ℕ) → Seconded C.view w d u → Seconded (view l) b d u
    same_second d u a =
        let m = a.message in
        let there : Memᴰ m w.sent = subst (λ z. Memᴰ z w.sent) a.reads a.sent in
        record {
          copy = sent_bytes l m;
          message = m;
          sent = sent_copy m there;
          reads = (read_message_lem l sane m (ok.sent m there)).0;
          kind = a.kind;
          sender = a.sender;
          round = a.round;
          estimate = a.estimate;
        }

    -- what is decided after an event was given before it
    given_before : (e : Event) → LawfulEvent l b e → (d : Decision) → Memᴰ d (step l c.n b e).decided → Given d.mileage b
    given_before e h d m = same_given d.mileage (go (step_follows l sane c.n b w i.encodes ok e h))
      where
        go : Follows l c.n (step l c.n b e) w → Given d.mileage w
        go (inl enc) = decided_given l c w i.inv d (subst (Memᴰ d) enc.decided m)
        go (inr f) = step_proposed l c w f.0 i.inv d (subst (Memᴰ d) f.1.decided m)

  -- a lawful history in two parts
  lawful_parts : (b : ByteWorld) (xs ys : List Event) → Lawful l c.n b (xs ++ ys)
      → Lawful l c.n b xs × Lawful l c.n (run (step l c.n) b xs) ys
  unfolding run
  lawful_parts b [] ys h = (tt, h)
  lawful_parts b (x ∷ xs) ys h = let r = lawful_parts (step l c.n b x) xs ys h.1 in ((h.0, r.0), r.1)

  -- demand 3, from any world that has the invariant
  pub agreed_from : (b : ByteWorld) (es : List Event) → BytesInv l c b → Lawful l c.n b es → Agreed c (view l) (step l c.n) b es
  agreed_from b es i lawful =
      record {
        same = λ a d p q. agreement l c _ _ _ _ end.inv a d (same_decision last end a p) (same_decision last end d q);
        proposed = before;
        logs = λ xs ys split u h s r d m. subst (Locked d) (log_state (to xs) (at xs ys split) u h s r) (ever xs ys split u h d m).0;
        images = λ xs ys split u h s r d m. subst (Locked d) (image_state (to xs) (at xs ys split) u h s r) (ever xs ys split u h d m).1;
        logs_read = λ u h. ((end.contents.units u).logged, rw (reads_log_lem last end u h) (refl, refl));
        images_read = λ u h r. ((end.contents.units u).current, (r.0, (r.1, rw (reads_image last end u h r.0 r.1) (refl, refl))));
        seconded = λ d m. many_map (same_second last end d) (seconds_sent l c end.contents end.inv d (same_decision last end d m));
      }
    where
      to : List Event → ByteWorld
      to xs = run (step l c.n) b xs

      last : ByteWorld
      last = run (step l c.n) b es

      end : BytesInv l c last
      end = bytes_run b es i lawful

      parts : (xs ys : List Event) → es ≡ xs ++ ys → Lawful l c.n b xs × Lawful l c.n (to xs) ys
      parts xs ys split = lawful_parts b xs ys (subst (Lawful l c.n b) split lawful)

      at : (xs ys : List Event) → es ≡ xs ++ ys → BytesInv l c (to xs)
      at xs ys split = bytes_run b xs i (parts xs ys split).0

      before : (xs ys : List Event) (e : Event) → es ≡ xs ++ (e ∷ ys) → (d : Decision) → Reported (step l c.n) b (xs ++ (e ∷ [])) d
          → Given d.mileage (to xs)
      before xs ys e split d m =
          given_before (to xs) (at xs (e ∷ ys) split) e (parts xs (e ∷ ys) split).1.0 d
          (subst (λ (z : ByteWorld). Memᴰ d z.decided) (run_snoc (step l c.n) b xs e) m)

      ever : (xs ys : List Event) (split : es ≡ xs ++ ys) (u : ℕ) → u < c.n → (d : Decision) → Memᴰ d last.decided
          → Locked d ((at xs ys split).contents.units u).logged × Locked d ((at xs ys split).contents.units u).current
      ever xs ys split u h d m =
          let was = at xs ys split in
          let r = run_reached (to xs) ys was (parts xs ys split).1 in
          let whole : last ≡ run (step l c.n) (to xs) ys = ap to split ∙ run_append (step l c.n) b xs ys in
          locked_later l c was.contents r.end.contents r.later was.inv r.end.inv u h d
          (same_decision (run (step l c.n) (to xs) ys) r.end d (subst (λ (z : ByteWorld). Memᴰ d z.decided) whole m))

-- demand 3, of every history from a fresh start
pub demand_3 : (l : Limits) → Sane l → Demand3 l
demand_3 l sane c logs images started es lawful = agreed_from l sane c (begun l c logs images) es (bytes_begun l sane c logs images started) lawful

pub demand_3_today : Demand3 today
demand_3_today = demand_3 today sane_today
