use Rattle.std.proofs.Common.{◌≡◌, [], ◌∷◌, Some, sym}
use Rattle.flow_table.specs.Refusals.{message_refusal}
use Rattle.flow_table.specs.Step.{error_bytes, sent_by_message}
use Rattle.flow_table.specs.laws.RefusalLaws.{refused_sent}
use Rattle.switch_sim.specs.laws.StepLaws.{early_some, refused_after, if_gives, on_ok}
use Rattle.switch_sim.proofs.switch.SimSwitch.respond.Goals as goal

pub returns-in-Some-clause-sent : goal.returns-in-Some-clause-sent
returns-in-Some-clause-sent c =
    let s = c.args.self.now in
    let m = c.args.m.now in
    let e = c.in-Some.refusal in
    let refused : message_refusal s m ≡ Some e = early_some s m e (sym c.in-Some.ensures) in
    if_gives c.refuse.result (error_bytes c.args.xid m e ∷ []) (sent_by_message c.args.xid m s) (sym (refused_sent c.args.xid m s e refused)) c.refuse.ensures.sent

pub returns-in-Some-clause-ok : goal.returns-in-Some-clause-ok
returns-in-Some-clause-ok c =
    let s = c.args.self.now in
    let m = c.args.m.now in
    let e = c.in-Some.refusal in
    on_ok c.refuse.result (refused_after m s e (early_some s m e (sym c.in-Some.ensures)))
