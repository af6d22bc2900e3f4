use Rattle.std.proofs.Common.{arith}
use Rattle.std.proofs.lemmas.Fmt.{length-decimal-le}
use Rattle.switch_sim.proofs.port.name.Goals as goal

pub padded_name-requires : goal.padded_name-requires
padded_name-requires c =
    let digits = length-decimal-le 5 c.args.number (omega arith) (omega arith) (omega arith) in
    rw (c.as_bytes.ensures.value, c.in_ok-text.ensures) (omega (arith, digits))
