-- The calls made the units one by one. Assumes nothing.
use Rattle.std.proofs.Common.{ℕ, zero, suc, ◌+◌, ◌<◌, ◌≤◌, ◌≡◌, ◌∙◌, List, length, take, refl, sym, rules, arith, add-one}
use Rattle.std.proofs.Math.Nat.{add-zero}
use Rattle.std.proofs.Math.Seq.{take-suc, take-length}
use Rattle.std.specs.Array.{IsFromFnResultFrom}
use Rattle.std.specs.Fn.{Called}
use denote.Param.Members.{Mut}
use Rattle.tally.specs.Limits.{senders}
use Rattle.consensus.specs.Step.{fresh}
use Rattle.consensus.specs.declared.Unit as U
use Rattle.script.specs.declared.Header.{Header}
use Rattle.bench_play.specs.Bench.{header_settings, fresh_units}
use Rattle.bench_turns.proofs.fresh_units.Goals as goal

none : (ys : List U.Unit) (h : Header) → take 0 ys ≡ fresh_units h 0
unfolding fresh_units
none ys h = refl

module _ {F : Type 0} {g : Mut F (ℕ × Unit {0}) U.Unit} {f : F} (h : Header)
    (call : (i : ℕ) (y : U.Unit) (q : F) → i < senders → Called g f (i, tt) y q → (q ≡ f) × (y ≡ fresh (header_settings h i))) where
  made : (ys : List U.Unit) (i n : ℕ) → length ys ≡ i + n → i + n ≤ senders → take i ys ≡ fresh_units h i → IsFromFnResultFrom g f ys i n
      → take (i + n) ys ≡ fresh_units h (i + n)
  unfolding fresh_units
  made ys i zero long le before each = rw add-zero before
  made ys i (suc n) long le before each =
      let one = call i each.1 each.0 (omega arith) each.3 in
      let more : take (i + 1) ys ≡ fresh_units h (i + 1) = rw add-one (take-suc ys i each.1 (omega arith) ∙ rw (before, each.2.0, one.1)) in
      let e : i + suc n ≡ i + 1 + n = omega arith in
      rw e (made ys (i + 1) n (omega arith) (omega arith) more (rw one.0 at each.4))

pub returns : goal.returns
returns c =
    let ys = c.from_fn.result in
    let items = c.from_fn.ensures.items in
    let all = made c.args.h (λ i y q b k. search rules) ys 0 senders items.long (omega arith) (none ys c.args.h) items.each in
    sym (take-length ys) ∙ rw items.long all
