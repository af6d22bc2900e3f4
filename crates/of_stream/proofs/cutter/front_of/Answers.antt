use Rattle.std.proofs.Common.{◌≤◌, length, arith}
use Rattle.of_stream.specs.laws.FrameLaws.{IsFrame-take}
use Rattle.of_stream.proofs.cutter.front_of.Goals as goal

pub returns-else-held-size : goal.returns-else-held-size
returns-else-held-size c =
    let within : c.get_u16-size.result ≤ length c.args.held.now = omega arith in
    (within, IsFrame-take c.args.held.now c.get_u16-size.result c.get_u16-size.ensures (omega arith) within)
