-- Closing a round: what a full tally of votes sent makes sure, decided and next. Assumes nothing.
use Rattle.std.proofs.lemmas.Bool.{and_parts}
use Prim.Native.Nat.{ℕ, ◌+◌, ◌≤◌, ◌<◌}
use mathlib.Core.Path.{◌≡◌, refl, sym, subst, ◌∙◌}
use mathlib.Core.Bool.{Bool, true, false}
use native.Mathlib.Decide.{dec_lt}
use native.Mathlib.Omega.{arith}
use borrow.Author.Tests.{eqb-true, eqb-false, not-true}
use lib.Count.{ones}
use lib.Dec.{eqb}
use lib.ListN.{length}
use Rattle.tally.specs.Count.{count}
use Rattle.tally.specs.Gathered.{has_value, common, lowest}
use Rattle.tally.specs.Limits.{Limits}
use Rattle.tally.specs.Quorum.{quorum_of}
use Rattle.tally.specs.Tally.{held, mark, no_marks, gathered}
use Rattle.tally.specs.declared.Engine.{Engine}
use Rattle.tally.specs.declared.Engine.TheVariants.{B, R}
use Rattle.tally.specs.declared.Estimate.{Estimate}
use Rattle.tally.specs.declared.Estimate.TheVariants.{Blank, Split, Mileage}
use Rattle.tally.specs.declared.Tally.{Tally}
use Rattle.tally.proofs.Count.{count_mono}
use Rattle.tally.proofs.Never.{never}
use Rattle.tally.proofs.Quorums.{quorum_half}
use Rattle.tally.proofs.Tallies.{held_same, held_other, held_unmarked}
use Rattle.contents.specs.Estimates.{is_b, is_blank, mileage_or_split}
use Rattle.contents.specs.Messages.{kind_ok}
use Rattle.contents.specs.declared.Kind.{Kind}
use Rattle.contents.specs.declared.Kind.TheVariants.{Empty, First, Check, Second, Skip}
use Rattle.contents.specs.declared.Message.{Message}
use Rattle.contents.proofs.KindRules.{check_mileage, second_estimate}
use Rattle.contents.proofs.Facts.{message_facts}
use Rattle.consensus.specs.Step.{or_if_blank, decided, next_proposal}
use Rattle.consensus.proofs.Full.{Proper, voted, others, holds_mileage, full_voted, common_voted}
use Rattle.consensus.proofs.Full.{lowest_voted, lowest_blank, lowest_not_split, next_r_blocks, next_r_voted}
use Rattle.agreement.specs.Worlds.{Setup, Many}
use Rattle.agreement.proofs.Votes.{Of, of, holds_not, meet, is_vote, Vote, Unique, quorum, Quorum, Blocked, Sure, Chosen, one_quorum}
use Rattle.agreement.proofs.Invariant.{FairMessage, Tallied, vote_sure, quorum_sure}

-- ---- what well-formed votes say

-- a vote is a mileage or, in B, split
vote_ok : (l : Limits) (k : Kind) (m : Message) → is_vote k ≡ true → kind_ok l k m ≡ true → mileage_or_split l m.engine m.estimate ≡ true
unfolding mileage_or_split
vote_ok l Empty m t h = never t
vote_ok l First m t h = never t
vote_ok l Check m t h = rw (check_mileage l m h).1.0
vote_ok l Second m t h = second_estimate l m h
vote_ok l Skip m t h = never t

vote_filled : (l : Limits) (g : Engine) (e : Estimate) → mileage_or_split l g e ≡ true → is_blank e ≡ false
unfolding mileage_or_split
vote_filled l B Blank h = never h
vote_filled l R Blank h = never h
vote_filled l g Split h = refl
vote_filled l g (Mileage v) h = refl

vote_mileage : (l : Limits) (e : Estimate) → mileage_or_split l R e ≡ true → (v : ℕ) × (e ≡ Mileage v)
unfolding mileage_or_split
vote_mileage l Blank h = never h
vote_mileage l Split h = never h
vote_mileage l (Mileage v) h = (v, refl)

-- ---- tallies of votes

module _ (X : Message → Type 0) (k : Kind) (r : ℕ) where
  pub tallied_none : Tallied X k r no_marks
  unfolding no_marks
  tallied_none s h = never (sym h ∙ rw (held_unmarked no_marks refl s) refl)

  tallied_mileage : (t : Tally) → Tallied X k r t → (s v : ℕ) → held t s ≡ Mileage v → Vote X k s r (Mileage v)
  tallied_mileage t tallied s v e = subst (Vote X k s r) e (tallied s (rw e refl))

  -- a vote received joins its tally
  pub tallied_mark : (t : Tally) (m : Message) → X m → m.kind ≡ k → m.round ≡ r → m.sender < length t.cells → Tallied X k r t
      → Tallied X k r (mark t m.sender m.estimate)
  tallied_mark t m here kind round long tallied s = go (eqb s m.sender) refl
    where
      go : (b : Bool) → eqb s m.sender ≡ b → is_blank (held (mark t m.sender m.estimate) s) ≡ false
          → Vote X k s r (held (mark t m.sender m.estimate) s)
      go true e h =
          let q = eqb-true s m.sender e in
          let is = held_same t m.sender m.estimate long in
          record { message = m; sent = here; kind = kind; sender = sym q; round = round; estimate = sym (rw q is) }
      go false e h = let is = held_other t m.sender s m.estimate (eqb-false s m.sender e) in rw is (tallied s (rw is at h))

  -- a common mileage at the quorum
  pub common_quorum : (c : Setup) (t : Tally) → Proper c.n t → Tallied X k r t → quorum c ≤ ones t.marks → (v : ℕ)
      → common (gathered t) ≡ Mileage v → Quorum c X k r (Mileage v)
  common_quorum c t proper tallied full v e =
      record {
        who = λ s. has_value v (held t s);
        many = common_voted c.n t proper (quorum c) v e full;
        each = λ s h. tallied_mileage t tallied s v (holds_mileage v (held t s) h);
      }

-- ---- votes sent

module _ (l : Limits) (c : Setup) (X : Message → Type 0) (A : ℕ → Type 0) (sent : (m : Message) → X m → FairMessage l c X A m) where
  pub kind_ok_lem : (k : Kind) (m : Message) → X m → m.kind ≡ k → kind_ok l k m ≡ true
  kind_ok_lem k m s e = subst (λ j. kind_ok l j m ≡ true) e (message_facts l m (sent m s).from.well_formed).kind

  pub filled : (m : Message) → X m → is_vote m.kind ≡ true → is_blank m.estimate ≡ false
  filled m s t = vote_filled l m.engine m.estimate (vote_ok l m.kind m t (kind_ok_lem m.kind m s refl))

  -- in R a SECOND is a mileage
  second_mileage : c.engine ≡ R → {u r : ℕ} {e : Estimate} → Vote X Second u r e → (v : ℕ) × (e ≡ Mileage v)
  second_mileage is_r {e = e} a =
      let h = vote_ok l Second a.message refl (kind_ok_lem Second a.message a.sent a.kind) in
      vote_mileage l e (rw ((sent a.message a.sent).from.engine, is_r, a.estimate) at h)

  -- closing round r
  module _ (unique : Unique X) (r : ℕ) (t : Tally) (proper : Proper c.n t) (tallied : Tallied X Second r t)
      (exact : ones t.marks ≡ quorum c) where
    full : quorum c ≤ ones t.marks
    full = omega arith

    block : (v : ℕ) → c.n < count c.n (others t v) + quorum c → Blocked c X r v
    block v h =
        record {
          who = others t v;
          many = omega arith;
          each = λ s o.
              let p = and_parts (voted t s) _ o in
              record { estimate = held t s; vote = tallied s (not-true _ p.0); differs = not-true _ p.1 };
        }

    seconds_of : (s v : ℕ) → held t s ≡ Mileage v → Vote X Second s r (Mileage v)
    seconds_of = tallied_mileage X Second r t tallied

    sure : (s v : ℕ) → held t s ≡ Mileage v → Sure c X A r (Mileage v)
    sure s v e = vote_sure l c X A sent (seconds_of s v e)

    -- a proposal that is sure at r and, but for its own mileage, blocked at r is sure above
    above : (p : Estimate) → ((v : ℕ) → has_value v p ≡ false → c.n < count c.n (others t v) + quorum c) → Sure c X A r p → Sure c X A (r + 1) p
    above p many old = (λ r₀ v b n. go r₀ v b n (dec_lt r₀ r), old.1)
      where
        go : (r₀ v : ℕ) → r₀ < r + 1 → has_value v p ≡ false → Dec (r₀ < r) → Blocked c X r₀ v
        go r₀ v b n (yes h) = old.0 r₀ v h n
        go r₀ v b n (no h) = let e : r ≡ r₀ = omega arith in subst (λ s. Blocked c X s v) e (block v (many v n))

    -- R: the majority's mileage, or blank; if it is not v, then too many are not v
    r_above : c.engine ≡ R → (own : Estimate) → Sure c X A (r + 1) (next_proposal R c.n t own)
    r_above is_r own = above p many (old, of A p (λ v e. let s = next_r_voted c.n t proper own v e in (sure s.0 v s.1.1).1))
      where
        p : Estimate
        p = next_proposal R c.n t own

        many : (v : ℕ) → has_value v p ≡ false → c.n < count c.n (others t v) + quorum c
        many v n =
            let q : quorum c ≡ quorum_of R c.n = rw is_r in
            omega (arith, next_r_blocks c.n t proper own v (exact ∙ q) (holds_not v p n))

        all : Many c.n (quorum c) (λ s. Unit)
        all = record { who = voted t; many = full_voted c.n t proper (quorum c) full; each = λ s h. tt }

        -- some SECOND is not v
        old : (r₀ v : ℕ) → r₀ < r → has_value v p ≡ false → Blocked c X r₀ v
        old r₀ v b n =
            let o = (meet (omega arith) (block v (many v n)) all).1.0 in
            let w = second_mileage is_r o.vote in
            (vote_sure l c X A sent (subst (Vote X Second _ r) w.1 o.vote)).0 r₀ v b (rw w.1 at o.differs)

    -- B: the one mileage among them, or the own proposal where all are split
    b_above : c.engine ≡ B → (own : Estimate) → Sure c X A r own → Sure c X A (r + 1) (next_proposal B c.n t own)
    unfolding next_proposal
    b_above is_b own old = go (lowest (gathered t)) refl
      where
        many : (v : ℕ) → ((s : ℕ) → s < c.n → held t s ≡ Mileage v → ⊥) → c.n < count c.n (others t v) + quorum c
        many v f =
            let m = count_mono c.n (voted t) (others t v) (λ s b h. rw (h, no s b (has_value v (held t s)) refl)) in
            omega (arith, full_voted c.n t proper (quorum c) full, quorum_half c.engine c.n)
          where
            no : (s : ℕ) → s < c.n → (b : Bool) → has_value v (held t s) ≡ b → has_value v (held t s) ≡ false
            no s b true h = absurd (f s b (holds_mileage v (held t s) h))
            no s b false h = h

        checks_of : (s v : ℕ) → held t s ≡ Mileage v → Quorum c X Check r (Mileage v)
        checks_of s v e =
            let a = seconds_of s v e in
            subst (λ r. Quorum c X Check r (Mileage v)) a.round (rw a.estimate at ((sent a.message a.sent).backed.checked a.kind is_b))

        go : (e : Estimate) → lowest (gathered t) ≡ e → Sure c X A (r + 1) (or_if_blank e own)
        go Blank e = above own (λ v n. many v (λ s b. lowest_blank c.n t proper (rw e refl) s b v)) old
        go Split e = absurd (lowest_not_split (gathered t) e)
        go (Mileage w) e =
            let s = lowest_voted c.n t proper w e in
            above (Mileage w)
            (λ v n. many v (λ i b h. holds_not v (Mileage w) n
            (one_quorum c X unique Check refl r (Mileage w) (Mileage v) (checks_of s.0 w s.1.1) (checks_of i v h))))
            (sure s.0 w s.1.1)

    pub next_sure : (own : Estimate) → Sure c X A r own → Sure c X A (r + 1) (next_proposal c.engine c.n t own)
    next_sure own old = go c.engine refl
      where
        go : (g : Engine) → c.engine ≡ g → Sure c X A (r + 1) (next_proposal g c.n t own)
        go B e = b_above e own old
        go R e = r_above e own

    pub chosen : (e : Estimate) → common (gathered t) ≡ e → Of (Chosen c X A r) (decided e)
    chosen Blank e = tt
    chosen Split e = tt
    chosen (Mileage v) e = let a = common_quorum X Second r c t proper tallied full v e in (a, (quorum_sure l c X A sent a).1)
