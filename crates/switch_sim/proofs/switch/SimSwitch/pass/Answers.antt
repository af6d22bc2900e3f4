use Rattle.std.proofs.Common.{◌∙◌, sym, ap, subst, arith}
use Rattle.flow_table.specs.Table.{TableState}
use Rattle.flow_table.specs.Switch.{SwitchState}
use Rattle.switch_sim.specs.laws.SerialLaws.{next_expire}
use Rattle.switch_sim.specs.Sound.{IsSound}
use Rattle.switch_sim.specs.laws.SoundLaws.{IsSound-later, IsSound-expire}
use Rattle.switch_sim.proofs.switch.SimSwitch.pass.Goals as goal

pub invariant_of-self : goal.invariant_of-self
invariant_of-self c =
    let s = c.self.inside in
    subst (λ (t : TableState). IsSound s.cap c.args.moment t.entries s.ports.items) (sym c.remove_due.ensures)
    (IsSound-expire s.cap c.args.moment s.table s.ports.items (IsSound-later s.cap s.moment c.args.moment s.table.entries s.ports.items (omega (arith, ap (λ (t : SwitchState). t.moment) c.self.view_is, c.requires.after)) c.requires.within c.self.invariant))

pub returns-clause-serials : goal.returns-clause-serials
returns-clause-serials c =
    ap (λ (t : TableState). t.next) c.remove_due.ensures ∙ next_expire c.args.moment c.self.inside.table ∙ ap (λ (s : SwitchState). s.table.next) c.self.view_is
