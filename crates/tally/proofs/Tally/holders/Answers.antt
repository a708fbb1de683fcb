use Rattle.std.proofs.Common.{rules, refl, ℕ, ◌&&◌, ◌∙◌, arith, cond}
use Rattle.std.proofs.lemmas.Iterator.{YieldsList-from_range, YieldsList-from_map}
use Rattle.std.proofs.lemmas.Iterator.Consumers.{sum_by_from_yields_List, fits_by_from_yields_list}
use Rattle.std.proofs.lemmas.List.FromFn.{length-range_with_len}
use Rattle.std.proofs.lemmas.List.Sums.{count_by-le-length}
use Rattle.std.specs.List.{range_with_len}
use Rattle.tally.specs.Limits.{senders}
use Rattle.tally.specs.Gathered.{has_value, holders}
use Rattle.tally.specs.Tally.{is_marked, estimate_at}
use Rattle.tally.proofs.Chains.{passing_chain}
use Rattle.tally.proofs.Tally.holders.Goals as goal

pub sum-requires-clause-fits : goal.sum-requires-clause-fits
sum-requires-clause-fits c =
    let t = c.args.self.now in
    let holds = λ (u : ℕ). is_marked t.marks u && has_value c.args.v (estimate_at t u) in
    fits_by_from_yields_list (λ u. cond (holds u) 1 0) (range_with_len 0 senders) c.map.result _
    (YieldsList-from_map _ (λ u. cond (holds u) 1 0) (YieldsList-from_range 0 senders senders c.map.ensures.source refl) c.map.ensures.closure
    (λ x r q k. search rules))
    (omega (arith, count_by-le-length holds (range_with_len 0 senders), length-range_with_len 0 senders))

pub returns : goal.returns
unfolding holders
returns c =
    let t = c.args.self.now in
    let holds = λ (u : ℕ). is_marked t.marks u && has_value c.args.v (estimate_at t u) in
    sum_by_from_yields_List (λ u. cond (holds u) 1 0) (range_with_len 0 senders) c.map.result c.sum.result c.sum.ensures.ran
    (YieldsList-from_map _ (λ u. cond (holds u) 1 0) (YieldsList-from_range 0 senders senders c.map.ensures.source refl) c.map.ensures.closure
    (λ x r q k. search rules))
    ∙ passing_chain (has_value c.args.v) t
