use Rattle.std.proofs.Common.{rules, ◌∙◌}
use Rattle.std.proofs.lemmas.Iterator.Adapters.{option_map_id}
use Rattle.std.proofs.lemmas.Iterator.Search.{find_from_yields_List}
use Rattle.tally.specs.Gathered.{any_mileage, lowest}
use Rattle.tally.specs.Tally.{gathered}
use Rattle.tally.proofs.Chains.{chain_gathered, find_first}
use Rattle.tally.proofs.Tally.lowest.Goals as goal

pub returns : goal.returns
unfolding lowest
returns c =
    let found = find_from_yields_List any_mileage _ _ c.find.result c.find.ensures.ran
    (chain_gathered c.args.self.now c.filter_map.ensures.source c.filter_map.ensures.closure (λ x r q k. search rules))
    (λ x b q k. search rules) in
    c.unwrap_or.ensures ∙ rw (← option_map_id c.find.result, found) (find_first any_mileage (gathered c.args.self.now))
