use Rattle.std.proofs.Common.{◌∙◌}
use Rattle.net_txn.specs.laws.EchoLaws.{echo_reply-with_field, echo_reply-read}
use Rattle.net_txn.proofs.wait.make_reply.Goals as goal

pub returns-clause-reply : goal.returns-clause-reply
returns-clause-reply c = c.put_u8.ensures.field ∙ echo_reply-with_field c.args.message.now c.requires.bytes c.requires.read

pub returns-clause-read : goal.returns-clause-read
returns-clause-read c =
    let same = c.put_u8.ensures.field ∙ echo_reply-with_field c.args.message.now c.requires.bytes c.requires.read in
    rw same (echo_reply-read c.args.message.now c.requires.bytes c.requires.read)
