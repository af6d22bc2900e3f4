use Rattle.std.proofs.Common.{subst, arith}
use Rattle.of_stats.specs.Reading.{Gives}
use Rattle.of_stats.specs.laws.FlowLaws.{found_from_gives, rows_of-spelled}
use Rattle.of_stats.proofs.reading.read_flow_rows.Goals as goal

pub returns-clause-found : goal.returns-clause-found
returns-clause-found c = found_from_gives c.args.body.now c.list_of.result (λ i. omega (arith, c.type_inv.body i)) c.list_of.ensures

pub returns-clause-only : goal.returns-clause-only
returns-clause-only c = λ rows fit spelled_is.
    subst (λ read. Gives c.list_of.result read) (rows_of-spelled rows c.args.body.now fit spelled_is) c.list_of.ensures
