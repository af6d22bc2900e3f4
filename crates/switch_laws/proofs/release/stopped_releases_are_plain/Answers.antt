use Rattle.switch_laws.specs.laws.ReleaseLaws.{release-plain}
use Rattle.switch_laws.proofs.release.stopped_releases_are_plain.Goals as goal

pub returns : goal.returns
returns g c = release-plain g.W.World.Tells
