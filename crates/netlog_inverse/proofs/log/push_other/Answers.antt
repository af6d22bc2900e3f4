use Rattle.netlog_inverse.specs.Log.{logged_at}
use Rattle.netlog_inverse.specs.laws.IndexLaws.{index-other}
use Rattle.netlog_inverse.proofs.log.push_other.Goals as goal

pub returns-then-not-has_image-clause-index : goal.returns-then-not-has_image-clause-index
returns-then-not-has_image-clause-index c =
    rw c.push_reserved.ensures.items (index-other c.args.logged.now.items (logged_at c.args.dpid c.args.image) c.args.index.now.items c.requires.key c.requires.index)
