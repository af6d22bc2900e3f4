use Rattle.std.proofs.Common.{◌≡◌, ◌∙◌, ap, length, arith}
use Rattle.switch_sim.specs.laws.StepLaws.{known_kind, port_query}
use Rattle.switch_sim.proofs.switch.SimSwitch.rows.Goals as goal

pub port_stats-requires : goal.port_stats-requires
port_stats-requires c =
    let m = c.args.request.now in
    let four : m.kind ≡ 4 = omega (arith, known_kind m c.requires) in
    ap length c.as_slice-query.ensures ∙ port_query m c.requires four
