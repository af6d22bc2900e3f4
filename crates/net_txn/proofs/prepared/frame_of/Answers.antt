use Rattle.std.proofs.Common.{refl, arith}
use Rattle.std.proofs.lemmas.Result.{IfOk-weaker}
use Rattle.net_txn.specs.laws.SentLaws.{IsMessage-as_sent, reading_of-as_sent}
use Rattle.net_txn.proofs.prepared.frame_of.Goals as goal

pub encode-requires : goal.encode-requires
encode-requires c = rw c.as_sent.ensures (let size = (IsMessage-as_sent c.args.m c.requires).size in omega (arith, size))

pub returns-clause-read : goal.returns-clause-read
returns-clause-read c =
    IfOk-weaker c.encode.result _ _ (λ b is. rw (is, c.as_sent.ensures, reading_of-as_sent c.args.xid c.args.m (omega arith) c.requires) refl) c.encode.ensures
