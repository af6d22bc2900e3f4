use Rattle.std.proofs.Common.{refl}
use Rattle.std.proofs.Math.Seq.{map-set_same}
use Rattle.net_txn.specs.Undos.{key_logged}
use Rattle.net_txn.proofs.reverting.mark.Goals as goal

pub returns-clause-same : goal.returns-clause-same
returns-clause-same c = map-set_same key_logged c.args.log.now c.args.at _ c.index-log-at.result refl
