-- The types of messages and their numbers (OpenFlow 1.0.0, 5.1 OpenFlow Header).
use Rattle.std.specs.Prelude.{ℕ, ◌==◌, if◌then◌else◌, Option, Some, None}
use Rattle.of_wire.specs.declared.kind.MessageKind.{MessageKind}
use Rattle.of_wire.specs.declared.kind.MessageKind.TheVariants.{Hello, Error, EchoRequest, EchoReply, Vendor, FeaturesRequest, FeaturesReply, GetConfigRequest, GetConfigReply, SetConfig, PacketIn, FlowRemoved, PortStatus, PacketOut, FlowMod, PortMod, StatsRequest, StatsReply, BarrierRequest, BarrierReply, QueueGetConfigRequest, QueueGetConfigReply}

abbrev pub number_of_kind : MessageKind → ℕ
number_of_kind Hello = 0
number_of_kind Error = 1
number_of_kind EchoRequest = 2
number_of_kind EchoReply = 3
number_of_kind Vendor = 4
number_of_kind FeaturesRequest = 5
number_of_kind FeaturesReply = 6
number_of_kind GetConfigRequest = 7
number_of_kind GetConfigReply = 8
number_of_kind SetConfig = 9
number_of_kind PacketIn = 10
number_of_kind FlowRemoved = 11
number_of_kind PortStatus = 12
number_of_kind PacketOut = 13
number_of_kind FlowMod = 14
number_of_kind PortMod = 15
number_of_kind StatsRequest = 16
number_of_kind StatsReply = 17
number_of_kind BarrierRequest = 18
number_of_kind BarrierReply = 19
number_of_kind QueueGetConfigRequest = 20
number_of_kind QueueGetConfigReply = 21

unfoldable pub kind_of_number : ℕ → Option MessageKind
kind_of_number number =
    if number == 0 then Some Hello
    else (if number == 1 then Some Error
    else (if number == 2 then Some EchoRequest
    else (if number == 3 then Some EchoReply
    else (if number == 4 then Some Vendor
    else (if number == 5 then Some FeaturesRequest
    else (if number == 6 then Some FeaturesReply
    else (if number == 7 then Some GetConfigRequest
    else (if number == 8 then Some GetConfigReply
    else (if number == 9 then Some SetConfig
    else (if number == 10 then Some PacketIn
    else (if number == 11 then Some FlowRemoved
    else (if number == 12 then Some PortStatus
    else (if number == 13 then Some PacketOut
    else (if number == 14 then Some FlowMod
    else (if number == 15 then Some PortMod
    else (if number == 16 then Some StatsRequest
    else (if number == 17 then Some StatsReply
    else (if number == 18 then Some BarrierRequest
    else (if number == 19 then Some BarrierReply
    else (if number == 20 then Some QueueGetConfigRequest
    else (if number == 21 then Some QueueGetConfigReply
    else None)))))))))))))))))))))
