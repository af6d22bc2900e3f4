use Rattle.std.proofs.Common.{subst, arith}
use Rattle.of_action.specs.Reading.{Gives}
use Rattle.of_action.specs.laws.ActionLaws.{found_from_gives, actions_of-Spell}
use Rattle.of_action.proofs.reading.decode_list.Goals as goal

pub returns-clause-found : goal.returns-clause-found
returns-clause-found c = found_from_gives c.args.bytes.now c.list_of.result (λ i. omega (arith, c.type_inv.bytes i)) c.list_of.ensures

pub returns-clause-only : goal.returns-clause-only
returns-clause-only c = λ list fit spelled_is.
    subst (λ read. Gives (λ actions. actions) c.list_of.result read) (actions_of-Spell list c.args.bytes.now fit spelled_is) c.list_of.ensures
