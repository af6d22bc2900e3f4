use Rattle.std.proofs.Common.{refl, inl, ◌∙◌}
use Rattle.std.proofs.lemmas.Result.{err_from_is_err_and}
use Rattle.net_txn.specs.laws.PacketReleaseLaws.{says_packet}
use Rattle.net_txn.proofs.release.send_packet.Goals as goal

pub returns-in_err-frame : goal.returns-in_err-frame
returns-in_err-frame g c =
    let p = err_from_is_err_and c.from_residual.result c.from_residual.ensures.1 in
    rw (p.1, p.2) (inl (refl, refl))

pub returns : goal.returns
returns g c = says_packet g.W.World.Tells c.args.dpid c.args.xid c.args.packet c.as_slice.result.now (g.W.World.seen c.args.world.now) (g.W.World.seen c.say.new.world) c.say.result (c.as_slice.ensures ∙ c.in_ok-frame.ensures.bytes) c.say.ensures
