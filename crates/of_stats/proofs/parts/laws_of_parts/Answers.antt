use Rattle.of_stats.specs.laws.PartLaws.{split_is_whole, joined_split, one_split, flows_again}
use Rattle.of_stats.proofs.parts.laws_of_parts.Goals as goal

pub returns-clause-whole : goal.returns-clause-whole
returns-clause-whole c = split_is_whole

pub returns-clause-rows : goal.returns-clause-rows
returns-clause-rows c = joined_split

pub returns-clause-one_split : goal.returns-clause-one_split
returns-clause-one_split c = one_split

pub returns-clause-flows : goal.returns-clause-flows
returns-clause-flows c = flows_again
