use Rattle.std.proofs.Common.{◌≡◌, ℕ, List, None, Result, Ok, Err, OnOk, OnErr, sym, subst}
use Rattle.of_wire.specs.declared.bodies.FlowMod.{FlowMod}
use Rattle.flow_table.specs.declared.fault.ChangeFault.{ChangeFault}
use Rattle.flow_table.specs.Table.{TableState, IsTable}
use Rattle.flow_table.specs.Change.{refusal, changed}
use Rattle.flow_table.specs.Switch.{PortState}
use Rattle.flow_table.specs.Refusals.{flow_refusal}
use Rattle.switch_sim.specs.Sound.{IsSound}
use Rattle.switch_sim.specs.laws.SoundLaws.{IsSound-changed}
use Rattle.switch_sim.specs.Words.{AnswersWith}
use Rattle.switch_sim.proofs.switch.SimSwitch.change_table.Goals as goal

sound_after : {A : Type 0} (cap moment : ℕ) (had : List ℕ) (m : FlowMod) (old new : TableState) (ports : List PortState) (r : Result A ChangeFault) (sent : A) → IsTable old.entries → flow_refusal had m ≡ None
    → AnswersWith r (refusal cap m old.entries) sent → OnOk r (new ≡ changed moment m old) → OnErr r (new ≡ old) → IsSound cap moment old.entries ports → IsSound cap moment new.entries ports
sound_after cap moment had m old new ports (Ok x) sent is free answer ok err sound =
    subst (λ (t : TableState). IsSound cap moment t.entries ports) (sym ok) (IsSound-changed cap moment had m old ports is free answer.0 sound)
sound_after cap moment had m old new ports (Err e) sent is free answer ok err sound = subst (λ (t : TableState). IsSound cap moment t.entries ports) (sym err) sound

pub invariant_of-self : goal.invariant_of-self
invariant_of-self c =
    sound_after c.self.inside.cap c.self.inside.moment c.args.self.now.had c.args.m.now c.self.inside.table c.change.new.table c.self.inside.ports.items c.change.result _ c.change.ensures.in_order c.requires.free c.change.ensures.answer c.change.ensures.ok c.change.ensures.err c.self.invariant
