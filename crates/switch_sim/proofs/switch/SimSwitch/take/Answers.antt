use Rattle.std.proofs.Common.{◌≡◌, ◌∙◌, ℕ, None, sym}
use Rattle.of_wire.specs.declared.message.Message.{Message}
use Rattle.of_wire.specs.declared.message.Message.TheVariants.{PacketOut, PortMod, SetConfig, StatsRequest}
use Rattle.flow_table.specs.Switch.{SwitchState}
use Rattle.flow_table.specs.Refusals.{message_refusal}
use Rattle.flow_table.specs.Statistics.{statistics_replies}
use Rattle.flow_table.specs.Frames.{after_packet_out, sent_by_packet_out}
use Rattle.flow_table.specs.Step.{after_taken, sent_by_taken, after_message, sent_by_message}
use Rattle.switch_sim.specs.Words.{IsQuestion, early_refusal}
use Rattle.switch_sim.specs.laws.StepLaws.{taken_sent, taken_after, question_other, question_free, question_after, if_gives, ok_gives, on_ok}
use Rattle.switch_sim.proofs.switch.SimSwitch.take.Goals as goal

-- a message of another kind than FLOW_MOD that is not refused early is not refused
at_message : (s : SwitchState) (m n : Message) → m ≡ n → early_refusal s m ≡ None → early_refusal s n ≡ None
at_message s m n is free = rw is at free

same_sent : (xid : ℕ) (m n : Message) (s : SwitchState) → m ≡ n → message_refusal s n ≡ None → sent_by_taken xid n s ≡ sent_by_message xid m s
same_sent xid m n s is none = rw is (sym (taken_sent xid n s none))

same_after : (m n : Message) (s : SwitchState) → m ≡ n → message_refusal s n ≡ None → after_taken n s ≡ after_message m s
same_after m n s is none = rw is (sym (taken_after n s none))

pub packet_out-requires-clause-free : goal.packet_out-requires-clause-free
unfolding message_refusal
packet_out-requires-clause-free c = at_message c.args.self.now c.args.m.now (PacketOut c.in-PacketOut.packet) c.in-PacketOut.is c.requires.free

pub statistics-requires : goal.statistics-requires
unfolding message_refusal
statistics-requires c = at_message c.args.self.now c.args.m.now (StatsRequest c.in-StatsRequest.request) c.in-StatsRequest.is c.requires.free

pub returns-in-PacketOut-clause-sent : goal.returns-in-PacketOut-clause-sent
unfolding sent_by_taken
returns-in-PacketOut-clause-sent c =
    let s = c.args.self.now in
    let m = PacketOut c.in-PacketOut.packet in
    let none = at_message s c.args.m.now m c.in-PacketOut.is c.requires.free in
    if_gives c.packet_out.result (sent_by_packet_out c.in-PacketOut.packet s) (sent_by_message c.args.xid c.args.m.now s) (same_sent c.args.xid c.args.m.now m s c.in-PacketOut.is none) c.packet_out.ensures.sent

pub returns-in-PacketOut-clause-ok : goal.returns-in-PacketOut-clause-ok
unfolding after_taken
returns-in-PacketOut-clause-ok c =
    let s = c.args.self.now in
    let m = PacketOut c.in-PacketOut.packet in
    let none = at_message s c.args.m.now m c.in-PacketOut.is c.requires.free in
    ok_gives c.packet_out.result c.packet_out.new.self (after_packet_out c.in-PacketOut.packet s) (after_message c.args.m.now s) (same_after c.args.m.now m s c.in-PacketOut.is none) c.packet_out.ensures.ok

pub returns-in-PortMod-clause-sent : goal.returns-in-PortMod-clause-sent
unfolding sent_by_taken
returns-in-PortMod-clause-sent c =
    let s = c.args.self.now in
    let m = PortMod c.in-PortMod.change in
    c.new.ensures ∙ same_sent c.args.xid c.args.m.now m s c.in-PortMod.is (at_message s c.args.m.now m c.in-PortMod.is c.requires.free)

pub returns-in-PortMod-clause-ok : goal.returns-in-PortMod-clause-ok
unfolding after_taken
returns-in-PortMod-clause-ok c =
    let s = c.args.self.now in
    let m = PortMod c.in-PortMod.change in
    c.port_mod.ensures ∙ same_after c.args.m.now m s c.in-PortMod.is (at_message s c.args.m.now m c.in-PortMod.is c.requires.free)

pub returns-in-SetConfig-clause-sent : goal.returns-in-SetConfig-clause-sent
unfolding sent_by_taken
returns-in-SetConfig-clause-sent c =
    let s = c.args.self.now in
    let m = SetConfig c.in-SetConfig.config in
    c.new-in-SetConfig.ensures ∙ same_sent c.args.xid c.args.m.now m s c.in-SetConfig.is (at_message s c.args.m.now m c.in-SetConfig.is c.requires.free)

pub returns-in-SetConfig-clause-ok : goal.returns-in-SetConfig-clause-ok
unfolding after_taken
returns-in-SetConfig-clause-ok c =
    let s = c.args.self.now in
    let m = SetConfig c.in-SetConfig.config in
    c.set_config.ensures ∙ same_after c.args.m.now m s c.in-SetConfig.is (at_message s c.args.m.now m c.in-SetConfig.is c.requires.free)

pub returns-in-StatsRequest-clause-sent : goal.returns-in-StatsRequest-clause-sent
unfolding sent_by_taken
returns-in-StatsRequest-clause-sent c =
    let s = c.args.self.now in
    let m = StatsRequest c.in-StatsRequest.request in
    let none = at_message s c.args.m.now m c.in-StatsRequest.is c.requires.free in
    if_gives c.statistics.result (statistics_replies c.args.xid c.in-StatsRequest.request s) (sent_by_message c.args.xid c.args.m.now s) (same_sent c.args.xid c.args.m.now m s c.in-StatsRequest.is none) c.statistics.ensures.sent

pub returns-in-StatsRequest-clause-ok : goal.returns-in-StatsRequest-clause-ok
unfolding after_taken
returns-in-StatsRequest-clause-ok c =
    let s = c.args.self.now in
    let m = StatsRequest c.in-StatsRequest.request in
    on_ok c.statistics.result (same_after c.args.m.now m s c.in-StatsRequest.is (at_message s c.args.m.now m c.in-StatsRequest.is c.requires.free))

pub answer-requires-clause-question : goal.answer-requires-clause-question
answer-requires-clause-question c =
    let d = c.in_default in
    question_other c.args.self.now c.args.m.now c.requires.free d.not-FlowMod d.not-PacketOut d.not-PortMod d.not-SetConfig d.not-StatsRequest

pub returns-in_default-clause-sent : goal.returns-in_default-clause-sent
returns-in_default-clause-sent c =
    let d = c.in_default in
    let s = c.args.self.now in
    let m = c.args.m.now in
    let is : IsQuestion m = question_other s m c.requires.free d.not-FlowMod d.not-PacketOut d.not-PortMod d.not-SetConfig d.not-StatsRequest in
    if_gives c.answer.result (sent_by_taken c.args.xid m s) (sent_by_message c.args.xid m s) (sym (taken_sent c.args.xid m s (question_free s m is))) c.answer.ensures.sent

pub returns-in_default-clause-ok : goal.returns-in_default-clause-ok
returns-in_default-clause-ok c =
    let d = c.in_default in
    let s = c.args.self.now in
    let m = c.args.m.now in
    let is : IsQuestion m = question_other s m c.requires.free d.not-FlowMod d.not-PacketOut d.not-PortMod d.not-SetConfig d.not-StatsRequest in
    on_ok c.answer.result (question_after s m is)
