use Rattle.std.proofs.Common.{refl, ◌∙◌}
use Rattle.shadow_tables.proofs.Switches.{apart_in, joins_in, joined_held, held_in, both_ok, both_err, either_way, Held}
use Rattle.shadow_tables.proofs.shadows.Shadows.join.Goals as goal

pub gap-at-requires-clause-apart : goal.gap-at-requires-clause-apart
gap-at-requires-clause-apart c = apart_in c.args.dpid _ _ c.deref.result.now _ c.self.view_is c.deref.ensures.value c.self.invariant.in_step c.requires

pub invariant_of-self : goal.invariant_of-self
invariant_of-self c =
    let i = c.self.invariant in
    let held : Held c.insert.new.views.items c.insert.new.all.items = either_way c.insert.result
    (both_ok c.insert.result (λ views ports. held_in _ _ _ _ views ports (joined_held c.args.dpid _ _ c.deref.result.now _ _ _ c.deref.ensures.value i.in_order i.tables i.in_step c.gap-at.ensures refl c.new.ensures)) c.insert.ensures.views c.insert.ensures.ports)
    (both_err c.insert.result (λ views ports. held_in _ _ _ _ views ports (record { in_order = i.in_order; tables = i.tables; in_step = i.in_step })) c.insert.ensures.views_err c.insert.ensures.ports_err) in
    record { in_order = held.in_order; tables = held.tables; in_step = held.in_step }

pub returns-clause-ok : goal.returns-clause-ok
returns-clause-ok c =
    both_ok c.insert.result (λ views ports. joins_in c.args.dpid _ _ _ c.deref.result.now _ _ _ _ _ _ c.self.view_is c.deref.ensures.value c.self.invariant.in_step c.gap-at.ensures refl c.new.ensures (c.from_vec-ports.ensures ∙ c.in_ok-from_slice.ensures.items) views ports) c.insert.ensures.views c.insert.ensures.ports
