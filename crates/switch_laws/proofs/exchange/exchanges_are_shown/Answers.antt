use Rattle.switch_laws.specs.laws.ShownExchangeLaws.{exchange-shown}
use Rattle.switch_laws.proofs.exchange.exchanges_are_shown.Goals as goal

pub returns : goal.returns
returns g c = exchange-shown g.W.World.Tells
