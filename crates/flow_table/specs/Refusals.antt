-- Which messages a simulated switch refuses, and by which error (OpenFlow 1.0.0, 5.4.4 Error Message). The names of the errors are
-- the standard's. Which error answers which message, and that the first refusal is the one that is answered, is our own choice.
use Rattle.std.specs.Prelude.{◌==◌, ℕ, ◌/◌, ◌%◌, Bool, true, false, not, ◌&&◌, ◌||◌, List, [], ◌∷◌, length, Option, Some, None, nat_lt, if◌then◌else◌}
use Rattle.std.specs.Str.{bytes_eq}
use Rattle.of_types.specs.declared.errors.OfError.{OfError}
use Rattle.of_action.specs.declared.action.Action.{Action}
use Rattle.of_action.specs.declared.action.Action.TheVariants.{Output, Enqueue, Vendor as VendorAction}
use Rattle.of_action.specs.Spelling.{list_size}
use Rattle.of_wire.specs.declared.bodies.FlowMod.{FlowMod as FlowModBody}
use Rattle.of_wire.specs.declared.bodies.PacketOut.{PacketOut as PacketOutBody}
use Rattle.of_wire.specs.declared.bodies.PortMod.{PortMod as PortModBody}
use Rattle.of_wire.specs.declared.bodies.Stats.{Stats as StatsBody}
use Rattle.of_wire.specs.declared.bodies.SwitchConfig.{SwitchConfig}
use Rattle.of_wire.specs.declared.message.Message.{Message}
use Rattle.of_wire.specs.declared.message.Message.TheVariants.{Hello, EchoRequest, EchoReply, Vendor, FeaturesRequest, GetConfigRequest, SetConfig, PacketOut, FlowMod, PortMod, StatsRequest, BarrierRequest}
use Rattle.flow_table.specs.Errors.{bad_type, bad_stat, bad_vendor, request_eperm, bad_len, buffer_unknown, action_bad_type, action_bad_vendor, bad_out_port, flow_eperm, bad_command, bad_port, bad_hw_addr}
use Rattle.flow_table.specs.Change.{is_delete, refusal}
use Rattle.flow_table.specs.Switch.{PortState, SwitchState, in_port_number, table_number, flood_number, all_number, controller_number, port_at, hw_addr}
use Rattle.of_types.specs.Membership.{is_among}

-- the first of two refusals
abbrev pub or_else : Option OfError → Option OfError → Option OfError
or_else None later = later
or_else (Some e) later = Some e

-- the number of no buffer (5.3.3 and 5.3.6: buffer_id)
abbrev pub no_buffer : ℕ
no_buffer = 0xffffffff

-- ---- Actions (5.2.4 Flow Action Structures)

-- An OUTPUT may go to a number that was a port since the switch joined, so that an entry of a port that is gone can be added
-- again, and to IN_PORT, FLOOD, ALL and CONTROLLER; in a PACKET_OUT also to TABLE (5.3.6 Send Packet Message).
unfoldable pub is_output : Bool → List ℕ → ℕ → Bool
is_output takes_table had port =
    is_among port had || port == in_port_number || port == flood_number || port == all_number || port == controller_number
    || (takes_table && port == table_number)

abbrev pub action_refusal : Bool → List ℕ → Action → Option OfError
action_refusal takes_table had (Output port max_len) = if is_output takes_table had port then None else Some bad_out_port
action_refusal takes_table had (Enqueue port queue) = Some action_bad_type
action_refusal takes_table had (VendorAction body) = Some action_bad_vendor
action_refusal takes_table had other = None

-- the refusal of the first action that is refused
unfoldable pub actions_refusal : Bool → List ℕ → List Action → Option OfError
actions_refusal takes_table had [] = None
actions_refusal takes_table had (action ∷ actions) =
    or_else (action_refusal takes_table had action) (actions_refusal takes_table had actions)

-- ---- FLOW_MOD (5.3.3 Modify State Messages)

-- EMERG of some flags
abbrev pub is_emergency : ℕ → Bool
is_emergency flags = flags / 4 % 2 == 1

-- How many bytes of actions a row of flow statistics can show (5.3.5 Read State Messages): of the 65,535 of a message 12 stand before
-- the body and 88 before the actions, whose sizes are multiples of 8.
abbrev pub most_action_bytes : ℕ
most_action_bytes = 65432

-- what stands against an addition or a modification beside the table: a buffer, too many bytes of actions, an action
unfoldable pub flow_actions_refusal : List ℕ → FlowModBody → Option OfError
flow_actions_refusal had m =
    if not (m.buffer_id == no_buffer) then Some buffer_unknown
    else if nat_lt most_action_bytes (list_size m.actions) then Some bad_len
    else actions_refusal false had m.actions

-- what stands against a FLOW_MOD beside the table
unfoldable pub flow_refusal : List ℕ → FlowModBody → Option OfError
flow_refusal had m =
    if is_emergency m.flags then Some flow_eperm
    else if nat_lt 4 m.command then Some bad_command
    else if is_delete m then None
    else flow_actions_refusal had m

abbrev pub flow_mod_refusal : SwitchState → FlowModBody → Option OfError
flow_mod_refusal s m = or_else (flow_refusal s.had m) (refusal s.declared.cap m s.table.entries)

-- ---- PACKET_OUT (5.3.6 Send Packet Message): the switch has no buffers

unfoldable pub packet_out_refusal : List ℕ → PacketOutBody → Option OfError
packet_out_refusal had m = if not (m.buffer_id == no_buffer) then Some buffer_unknown else actions_refusal true had m.actions

-- ---- PORT_MOD (5.3.3 Modify State Messages: Port Modification Message)

abbrev pub port_refusal : ℕ → List ℕ → Option PortState → Option OfError
port_refusal dpid address None = Some bad_port
port_refusal dpid address (Some p) = if bytes_eq address (hw_addr dpid p.number) then None else Some bad_hw_addr

abbrev pub port_mod_refusal : SwitchState → PortModBody → Option OfError
port_mod_refusal s m = port_refusal s.declared.dpid m.hw_addr (port_at m.port_no s.ports)

-- ---- SET_CONFIG (5.3.2 Switch Configuration): fragments are not handled

abbrev pub config_refusal : SwitchConfig → Option OfError
config_refusal c = if c.flags == 0 then None else Some request_eperm

-- ---- STATS_REQUEST (5.3.5 Read State Messages)

-- how many bytes a request's body has, by its type: DESC 0, FLOW 1, AGGREGATE 2, TABLE 3, PORT 4
abbrev pub query_size : ℕ → ℕ
query_size kind = if kind == 1 || kind == 2 then 44 else if kind == 4 then 8 else 0

unfoldable pub stats_refusal : StatsBody → Option OfError
stats_refusal m =
    if nat_lt 4 m.kind then Some bad_stat
    else if length m.body == query_size m.kind then None
    else Some bad_len

-- ---- Any message: queues, and what a switch sends itself, are no requests.

unfoldable pub message_refusal : SwitchState → Message → Option OfError
message_refusal s (FlowMod m) = flow_mod_refusal s m
message_refusal s (PacketOut m) = packet_out_refusal s.had m
message_refusal s (PortMod m) = port_mod_refusal s m
message_refusal s (SetConfig c) = config_refusal c
message_refusal s (StatsRequest m) = stats_refusal m
message_refusal s BarrierRequest = None
message_refusal s (EchoRequest payload) = None
message_refusal s FeaturesRequest = None
message_refusal s GetConfigRequest = None
message_refusal s (Hello payload) = None
message_refusal s (EchoReply payload) = None
message_refusal s (Vendor payload) = Some bad_vendor
message_refusal s other = Some bad_type
