-- What is well formed stays so where the greatest mileage or the last round is a greater one. Assumes nothing.
use Rattle.std.proofs.lemmas.Bool.{and_parts}
use Prim.Native.Nat.{ℕ, zero, suc}
use mathlib.Core.Path.{◌≡◌, refl}
use mathlib.Core.Bool.{Bool, true, false, not, ◌&&◌, ◌||◌}
use native.Mathlib.Omega.{arith}
use lib.Count.{ones}
use lib.Dec.{eqb, ltb}
use borrow.Author.Tests.{leb-true, le-leb}
use Rattle.tally.specs.Limits.{Limits, Wider, everyone, senders}
use Rattle.tally.specs.Quorum.{quorum_of}
use Rattle.tally.specs.Tally.{is_marked, estimate_at}
use Rattle.tally.specs.declared.Engine.{Engine}
use Rattle.tally.specs.declared.Estimate.{Estimate}
use Rattle.tally.specs.declared.Estimate.TheVariants.{Blank, Split, Mileage}
use Rattle.tally.specs.declared.Tally.{Tally}
use Rattle.contents.specs.Estimates.{in_range, is_b, is_blank, is_split, is_mileage, mileage_or_blank, mileage_or_split, second_estimate_ok}
use Rattle.contents.specs.Estimates.{same_estimate, same_mileage}
use Rattle.contents.specs.Images.{image_log, every, below_ok, unmarked_ok, cell_ok, cells_ok, tally_ok, checks_allowed, image_ok}
use Rattle.contents.specs.Logs.{numbers_ok, round_ok, settings_ok, state_ok, log_ok}
use Rattle.contents.specs.Messages.{first_ok, check_ok, second_ok, skip_ok, kind_ok, message_ok}
use Rattle.contents.specs.declared.Image.{Image}
use Rattle.contents.specs.declared.Kind.{Kind}
use Rattle.contents.specs.declared.Kind.TheVariants.{Empty, First, Check, Second, Skip}
use Rattle.contents.specs.declared.Log.{Log}
use Rattle.contents.specs.declared.Message.{Message}
use Rattle.contents.specs.declared.State.{State}

-- ---- tests of which others follow

stays : (a : Bool) → a ≡ true → a ≡ true
stays a h = h

and_wider : {a b c d : Bool} → (a ≡ true → c ≡ true) → (b ≡ true → d ≡ true) → (a && b) ≡ true → (c && d) ≡ true
and_wider {a} {b} f g h = let p = and_parts a b h in rw (f p.0, g p.1)

or_wider : {a b c d : Bool} → (a ≡ true → c ≡ true) → (b ≡ true → d ≡ true) → (a || b) ≡ true → (c || d) ≡ true
or_wider {a} {b} {c} {d} f g h = go a c f h
  where
    go : (a c : Bool) → (a ≡ true → c ≡ true) → (a || b) ≡ true → (c || d) ≡ true
    go true c f h = rw (f refl)
    go false true f h = refl
    go false false f h = g h

every_wider : (k : ℕ) (P Q : ℕ → Bool) → ((s : ℕ) → P s ≡ true → Q s ≡ true) → every k P ≡ true → every k Q ≡ true
unfolding every
every_wider zero P Q f h = refl
every_wider (suc k) P Q f h = and_wider (every_wider k P Q f) (f k) h

-- ---- from the limits o to wider ones

module _ (o l : Limits) (w : Wider o l) where
  round_wider : (r : ℕ) → round_ok o r ≡ true → round_ok l r ≡ true
  round_wider r h = le-leb r l.last_round (omega (arith, leb-true r o.last_round h, w.round))

  pub in_range_wider : (v : ℕ) → in_range o v ≡ true → in_range l v ≡ true
  in_range_wider v h = le-leb v l.max_mileage (omega (arith, leb-true v o.max_mileage h, w.mileage))

  mileage_wider : (e : Estimate) → is_mileage o e ≡ true → is_mileage l e ≡ true
  mileage_wider Blank h = h
  mileage_wider Split h = h
  mileage_wider (Mileage m) h = in_range_wider m h

  blank_wider : (e : Estimate) → mileage_or_blank o e ≡ true → mileage_or_blank l e ≡ true
  unfolding mileage_or_blank
  blank_wider e h = or_wider (mileage_wider e) (stays (is_blank e)) h

  split_wider : (g : Engine) (e : Estimate) → mileage_or_split o g e ≡ true → mileage_or_split l g e ≡ true
  unfolding mileage_or_split
  split_wider g e h = or_wider (mileage_wider e) (stays (is_b g && is_split e)) h

  second_wider : (g : Engine) (e : Estimate) → second_estimate_ok o g e ≡ true → second_estimate_ok l g e ≡ true
  unfolding second_estimate_ok
  second_wider g e h = or_wider (stays (is_blank e)) (and_wider (stays (is_b g)) (or_wider (mileage_wider e) (stays (is_split e)))) h

  same_wider : (a b : Estimate) → same_mileage o a b ≡ true → same_mileage l a b ≡ true
  unfolding same_mileage
  same_wider a b h = and_wider (mileage_wider a) (stays (same_estimate a b)) h

  -- ---- logs

  state_wider : (g : Engine) (s : State) → state_ok o g s ≡ true → state_ok l g s ≡ true
  unfolding state_ok
  state_wider g s h =
      and_wider (and_wider (and_wider (round_wider s.round) (blank_wider s.proposal)) (blank_wider s.first)) (second_wider g s.second) h

  pub log_wider : (r : Log) → log_ok o r ≡ true → log_ok l r ≡ true
  unfolding log_ok
  log_wider r h = and_wider (stays (settings_ok r.settings)) (state_wider r.settings.engine r.state) h

  -- ---- images

  cell_wider : (split : Bool) (n s : ℕ) (marked : Bool) (e : Estimate) → cell_ok o split n s marked e ≡ true → cell_ok l split n s marked e ≡ true
  unfolding cell_ok
  cell_wider split n s marked e h =
      and_wider (stays (below_ok n s marked && unmarked_ok marked e))
      (or_wider (or_wider (stays (not marked)) (mileage_wider e)) (stays (split && is_split e))) h

  tally_wider : (split : Bool) (g : Engine) (n : ℕ) (t : Tally) → tally_ok o split g n t ≡ true → tally_ok l split g n t ≡ true
  unfolding tally_ok cells_ok
  tally_wider split g n t h =
      and_wider (every_wider senders _ _ (λ s. cell_wider split n s (is_marked t.marks s) (estimate_at t s)))
      (stays (ltb (ones t.marks) (quorum_of g n))) h

  pub image_wider : (i : Image) → image_ok o i ≡ true → image_ok l i ≡ true
  unfolding image_ok
  image_wider i h =
      let g = i.settings.engine in
      let n = i.settings.n in
      and_wider (and_wider (and_wider (log_wider (image_log i)) (tally_wider false g n i.checks)) (tally_wider (is_b g) g n i.seconds))
      (stays (checks_allowed g i.state.second i.checks.marks)) h

  -- ---- messages

  first_wider : (m : Message) → first_ok o m ≡ true → first_ok l m ≡ true
  unfolding first_ok
  first_wider m h = and_wider (stays (eqb m.receiver everyone)) (same_wider m.estimate m.proposal) h

  kind_wider : (k : Kind) (m : Message) → kind_ok o k m ≡ true → kind_ok l k m ≡ true
  unfolding kind_ok check_ok second_ok skip_ok
  kind_wider Empty m h = h
  kind_wider First m h = first_wider m h
  kind_wider Check m h = and_wider (stays (is_b m.engine)) (first_wider m) h
  kind_wider Second m h =
      and_wider (and_wider (stays (eqb m.receiver everyone)) (split_wider m.engine m.estimate)) (blank_wider m.proposal) h
  kind_wider Skip m h = and_wider (stays (ltb m.receiver m.n && is_blank m.estimate)) (blank_wider m.proposal) h

  pub message_wider : (m : Message) → message_ok o m ≡ true → message_ok l m ≡ true
  unfolding message_ok
  message_wider m h = and_wider (and_wider (stays (numbers_ok m.n m.sender m.entry)) (round_wider m.round)) (kind_wider m.kind m) h
