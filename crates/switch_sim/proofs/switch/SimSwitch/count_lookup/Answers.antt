use Rattle.std.proofs.Common.{length, subst, sym}
use Rattle.eth_key.specs.PacketFields.{key_of}
use Rattle.flow_table.specs.Hit.{best, hit}
use Rattle.flow_table.specs.Table.{TableState, IsPositionOf}
use Rattle.flow_table.specs.Switch.{SwitchState}
use Rattle.switch_sim.specs.Sound.{IsSound}
use Rattle.switch_sim.specs.laws.SoundLaws.{IsSound-hit}
use Rattle.switch_sim.proofs.switch.SimSwitch.count_lookup.Goals as goal

pub invariant_of-self : goal.invariant_of-self
unfolding hit
invariant_of-self c =
    let s = c.self.inside in
    let key = key_of c.args.in_port c.args.frame.now in
    let found = subst (λ (w : SwitchState). IsPositionOf (best key w.table.entries) w.table.entries c.args.place) (sym c.self.view_is) c.requires.found in
    subst (λ (t : TableState). IsSound s.cap s.moment t.entries s.ports.items) (sym (c.count_found-count.ensures.table (best key s.table.entries) found))
    (IsSound-hit s.cap s.moment (length c.args.frame.now) key s.table.entries s.ports.items c.count_found-count.ensures.in_order c.self.invariant)
