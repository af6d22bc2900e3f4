use Rattle.std.proofs.Common.{subst, ◌≡◌, ◌∙◌, List, map}
use Rattle.std.specs.Prelude.{IfOk}
use Rattle.of_stats.specs.Parts.{Part}
use Rattle.flow_table.specs.Statistics.{part_bytes}
use Rattle.switch_sim.specs.laws.PartLaws.{parts_fit, same_parts}
use Rattle.switch_sim.proofs.statistics.reply.Goals as goal

pub encode_parts-requires : goal.encode_parts-requires
encode_parts-requires c = rw c.deref.ensures.value (parts_fit c.args.kind c.args.rows.now c.in_ok-parts.parts.items c.in_ok-parts.ensures)

pub returns-clause-parts : goal.returns-clause-parts
returns-clause-parts c =
    let same = same_parts c.args.kind c.args.rows.now c.in_ok-parts.parts.items c.requires c.in_ok-parts.ensures in
    subst (λ (parts : List Part). IfOk c.encode_parts.result (λ list. list ≡ map (part_bytes c.args.xid) parts)) (c.deref.ensures.value ∙ same) c.encode_parts.ensures.parts
