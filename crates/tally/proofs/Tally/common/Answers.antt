use Rattle.std.proofs.Common.{rules, ◌≡◌, false}
use Rattle.std.proofs.lemmas.Iterator.Search.{all_from_yields_List}
use Rattle.tally.specs.Gathered.{any_mileage, has_value, common}
use Rattle.tally.specs.Tally.{gathered}
use Rattle.tally.proofs.Chains.{chain_gathered, common_by, common_other, none_first, some_first}
use Rattle.tally.proofs.Tally.common.Goals as goal

pub returns-in-Some-Mileage : goal.returns-in-Some-Mileage
returns-in-Some-Mileage c =
    rw (
      common_by c.args.self.now c.in-Some-Mileage.v c.all.result (rw (c.in-Some-Mileage.is, c.in-Some-Mileage.field-0-is) at c.next.ensures.steps)
          (chain_gathered c.args.self.now c.filter_map-marked.ensures.source c.filter_map-marked.ensures.closure (λ x r q k. search rules))
          (λ rest road. all_from_yields_List (has_value c.in-Some-Mileage.v) _ _ c.all.result c.all.ensures.ran road (λ x b q k. search rules)),
      c.if-all.true,
    )

pub returns-in-Some : goal.returns-in-Some
returns-in-Some c =
    rw (
      common_by c.args.self.now c.in-Some-Mileage.v c.all.result (rw (c.in-Some-Mileage.is, c.in-Some-Mileage.field-0-is) at c.next.ensures.steps)
          (chain_gathered c.args.self.now c.filter_map-marked.ensures.source c.filter_map-marked.ensures.closure (λ x r q k. search rules))
          (λ rest road. all_from_yields_List (has_value c.in-Some-Mileage.v) _ _ c.all.result c.all.ensures.ran road (λ x b q k. search rules)),
      c.if-all.false,
    )

pub returns-in-Some-2 : goal.returns-in-Some-2
returns-in-Some-2 c =
    let other : any_mileage c.in-Some.field-0 ≡ false = search rules in
    let first = some_first c.next.new.self _ (gathered c.args.self.now) (rw c.in-Some.is at c.next.ensures.steps)
    (chain_gathered c.args.self.now c.filter_map-marked.ensures.source c.filter_map-marked.ensures.closure (λ x r q k. search rules)) in
    rw (first.1.0, common_other c.in-Some.field-0 first.0 other)

pub returns-in-None : goal.returns-in-None
unfolding common
returns-in-None c =
    rw (none_first c.next.new.self (gathered c.args.self.now) (rw c.in-None.is at c.next.ensures.steps)
    (chain_gathered c.args.self.now c.filter_map-marked.ensures.source c.filter_map-marked.ensures.closure (λ x r q k. search rules)))
