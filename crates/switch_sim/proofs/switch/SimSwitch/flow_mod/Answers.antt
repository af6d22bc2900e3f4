use Rattle.std.proofs.Common.{◌≡◌, ◌∙◌, [], ◌∷◌, None, Some, sym}
use Rattle.of_wire.specs.declared.message.Message.TheVariants.{FlowMod}
use Rattle.flow_table.specs.Refusals.{message_refusal}
use Rattle.flow_table.specs.Step.{after_taken, sent_by_taken, error_bytes, sent_by_message}
use Rattle.flow_table.specs.laws.RefusalLaws.{refused_sent}
use Rattle.switch_sim.specs.laws.StepLaws.{flow_mod_free, refused_after, taken_sent, taken_after, if_gives, on_ok}
use Rattle.switch_sim.proofs.switch.SimSwitch.flow_mod.Goals as goal

pub returns-in-Ok-clause-sent : goal.returns-in-Ok-clause-sent
unfolding sent_by_taken
returns-in-Ok-clause-sent c =
    let s = c.args.self.now in
    let m = c.args.flow.now in
    rw c.requires.is (c.in-Ok.ensures.answer.1 ∙ sym (taken_sent c.args.xid (FlowMod m) s (flow_mod_free s m None c.requires.free c.in-Ok.ensures.answer.0)))

pub returns-in-Ok-clause-ok : goal.returns-in-Ok-clause-ok
unfolding after_taken
returns-in-Ok-clause-ok c =
    let s = c.args.self.now in
    let m = c.args.flow.now in
    rw c.requires.is (c.in-Ok.ensures.ok ∙ sym (taken_after (FlowMod m) s (flow_mod_free s m None c.requires.free c.in-Ok.ensures.answer.0)))

pub returns-in-Err-Refused-clause-sent : goal.returns-in-Err-Refused-clause-sent
returns-in-Err-Refused-clause-sent c =
    let s = c.args.self.now in
    let e = c.in-Err-Refused.refusal in
    let refused : message_refusal s c.args.m.now ≡ Some e = rw c.requires.is (flow_mod_free s c.args.flow.now (Some e) c.requires.free (rw c.in-Err-Refused.field-0-is at c.in-Err-Refused.ensures.answer)) in
    if_gives c.refuse.result (error_bytes c.args.xid c.args.m.now e ∷ []) (sent_by_message c.args.xid c.args.m.now s) (sym (refused_sent c.args.xid c.args.m.now s e refused)) c.refuse.ensures.sent

pub returns-in-Err-Refused-clause-ok : goal.returns-in-Err-Refused-clause-ok
returns-in-Err-Refused-clause-ok c =
    let s = c.args.self.now in
    let e = c.in-Err-Refused.refusal in
    let refused : message_refusal s c.args.m.now ≡ Some e = rw c.requires.is (flow_mod_free s c.args.flow.now (Some e) c.requires.free (rw c.in-Err-Refused.field-0-is at c.in-Err-Refused.ensures.answer)) in
    on_ok c.refuse.result (c.in-Err-Refused.ensures.err ∙ refused_after c.args.m.now s e refused)
