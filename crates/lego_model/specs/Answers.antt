-- The answer to one message of an application: the host's own tests in their order, and then the switch. Which error the host answers
-- with is our own choice; the names are those of OpenFlow 1.0.0, 5.4.4 Error Message.
use Rattle.std.specs.Prelude.{◌==◌, ℕ, ◌+◌, ◌/◌, ◌*◌, Bool, not, ◌&&◌, List, [], ◌∷◌, map, Option, Some, None, Result, Ok, Err, nat_lt, if◌then◌else◌}
use Rattle.std.specs.List.{list_any, concat}
use Rattle.of_types.specs.declared.errors.OfError.{OfError}
use Rattle.of_match.specs.declared.key.Key.{Key}
use Rattle.of_match.specs.Key.{key_number}
use Rattle.match_overlap.specs.Relations.{is_overlapping}
use Rattle.of_action.specs.declared.action.Action.{Action}
use Rattle.of_action.specs.declared.action.Action.TheVariants.{Enqueue, Vendor as VendorAction}
use Rattle.of_action.specs.declared.fault.ActionKind.{ActionKind}
use Rattle.of_action.specs.declared.fault.ActionKind.TheVariants as action_kinds
use Rattle.of_action.specs.Spelling.{list_size}
use Rattle.of_wire.specs.declared.bodies.FlowMod.{FlowMod as FlowModBody}
use Rattle.of_wire.specs.declared.bodies.PacketOut.{PacketOut as PacketOutBody}
use Rattle.of_wire.specs.declared.message.Message.{Message}
use Rattle.of_wire.specs.declared.message.Message.TheVariants.{FlowMod, PacketOut, StatsRequest, BarrierRequest}
use Rattle.of_wire.specs.declared.message.Envelope.{Envelope}
use Rattle.of_wire.specs.declared.fault.WireFault.{WireFault}
use Rattle.of_wire.specs.declared.fault.WireFault.TheVariants.{BadVersion, BadType, BadLength, BadAction, NoMemory}
use Rattle.of_wire.specs.Reading.{reading_of}
use Rattle.flow_table.specs.declared.entry.Entry.{Entry}
use Rattle.flow_table.specs.declared.view.ViewRow.{ViewRow}
use Rattle.flow_table.specs.Errors.{bad_type, bad_len, buffer_unknown, action_bad_type, action_bad_vendor, bad_command, flow_eperm}
use Rattle.flow_table.specs.Change.{is_modify, is_delete, checks_overlap, key_in, describes, sends_to}
use Rattle.flow_table.specs.Refusals.{or_else, no_buffer, is_emergency, most_action_bytes, stats_refusal, message_refusal}
use Rattle.flow_table.specs.Statistics.{reply_rows}
use Rattle.flow_table.specs.Switch.{SwitchState}
use Rattle.app_frames.specs.declared.frame.Answer.{Answer}
use Rattle.app_frames.specs.declared.frame.Answer.TheVariants.{Fine, Error, Statistics, Unknown}
use Rattle.flow_table.specs.RowKeys.{shown_row, held_entry}

-- ---- Bytes that are no message

abbrev pub action_fault : ActionKind → OfError
action_fault action_kinds.BadType = record { kind = 2; code = 0 }
action_fault action_kinds.BadLen = record { kind = 2; code = 1 }

abbrev pub wire_fault : WireFault → OfError
wire_fault BadVersion = bad_type
wire_fault BadType = bad_type
wire_fault BadLength = bad_len
wire_fault (BadAction key_number kind) = action_fault kind
wire_fault NoMemory = bad_type

-- ---- What the host knows of a table: its keys and their actions, in key order

abbrev pub Rows : Type 0
Rows = List (Key × List Action)

abbrev pub rows_of_table : List Entry → Rows
rows_of_table es = map held_entry es

abbrev pub rows_of_view : List ViewRow → Rows
rows_of_view rows = map shown_row rows

-- another key of the priority overlaps, and that was to be checked
abbrev pub would_clash : FlowModBody → Rows → Bool
would_clash m rows =
    checks_overlap m.flags
    && list_any (λ (r : Key × List Action). r.0.priority == m.priority && (not (key_number r.0 == key_number (key_in m)) && is_overlapping r.0.matching m.matching)) rows

-- Whether a change would replace, change or remove an entry of the table.
unfoldable pub would_touch : FlowModBody → Rows → Bool
would_touch m rows =
    if m.command == 0 then list_any (λ (r : Key × List Action). key_number r.0 == key_number (key_in m)) rows && not (would_clash m rows)
    else if is_modify m then list_any (λ (r : Key × List Action). describes m r.0) rows
    else list_any (λ (r : Key × List Action). describes m r.0 && sends_to m.out_port r.1) rows

-- ---- The host's tests of a message that was read, in their order

-- the first action that no switch here knows
abbrev pub unknown_action : List Action → Option OfError
unknown_action [] = None
unknown_action (Enqueue port queue ∷ actions) = Some action_bad_type
unknown_action (VendorAction body ∷ actions) = Some action_bad_vendor
unknown_action (action ∷ actions) = unknown_action actions

-- what stands against an addition or a modification: a buffer, an action, too many bytes of actions
unfoldable pub addition_refused : FlowModBody → Option OfError
addition_refused m =
    if not (m.buffer_id == no_buffer) then Some buffer_unknown
    else or_else (unknown_action m.actions) (if nat_lt most_action_bytes (list_size m.actions) then Some bad_len else None)

unfoldable pub flow_mod_refused : FlowModBody → Option OfError
flow_mod_refused m =
    if is_emergency m.flags then Some flow_eperm
    else if nat_lt 4 m.command then Some bad_command
    else if is_delete m then None
    else addition_refused m

-- what stands against a packet (5.3.6 Send Packet Message): a buffer, or an action
unfoldable pub packet_refused : PacketOutBody → Option OfError
packet_refused m = if not (m.buffer_id == no_buffer) then Some buffer_unknown else unknown_action m.actions

-- Entries that are there already stay as they are for now.
abbrev pub not_yet : Bool → Option OfError
not_yet refused = if refused then Some bad_type else None

unfoldable pub host_refusal : Rows → Message → Option OfError
host_refusal rows (FlowMod m) = or_else (flow_mod_refused m) (not_yet (would_touch m rows))
host_refusal rows (PacketOut m) = packet_refused m
host_refusal rows (StatsRequest m) = stats_refusal m
host_refusal rows BarrierRequest = None
host_refusal rows other = Some bad_type

-- ---- What is sent: with no buffer, and a FLOW_MOD with SEND_FLOW_REM

abbrev pub with_notice : ℕ → ℕ
with_notice flags = flags / 2 * 2 + 1

abbrev pub as_sent : Message → Message
as_sent (FlowMod m) = FlowMod (record m { buffer_id = no_buffer; flags = with_notice m.flags })
as_sent other = other

-- ---- The answer of the host, where it gives one: with nothing sent. A packet is held until the turn completes.

abbrev pub host_answer_to : Rows → Message → Option Answer
host_answer_to rows BarrierRequest = Some Fine
host_answer_to rows (PacketOut m) = Some Fine
host_answer_to rows other = None

abbrev pub refused_or : Option OfError → Option Answer → Option Answer
refused_or (Some e) other = Some (Error e)
refused_or None other = other

abbrev pub host_answer_read : Rows → Result Envelope WireFault → Option Answer
host_answer_read rows (Err fault) = Some (Error (wire_fault fault))
host_answer_read rows (Ok envelope) = refused_or (host_refusal rows envelope.message) (host_answer_to rows envelope.message)

-- the rows of the switch, where it is joined
unfoldable pub host_answer : Option Rows → List ℕ → Option Answer
host_answer None bytes = Some Unknown
host_answer (Some rows) bytes = host_answer_read rows (reading_of bytes)

-- ---- The switch's own answer to what it is sent, and its state then

abbrev pub unless_error : Option OfError → Answer → Answer
unless_error None answer = answer
unless_error (Some e) answer = Error e

abbrev pub answer_by : Option OfError → Answer
answer_by refusal = unless_error refusal Fine

-- to what it takes: its statistics, where it is asked for them (5.3.5 Read State Messages)
abbrev pub taken_answer : SwitchState → Message → Answer
taken_answer s (StatsRequest q) = Statistics q.kind (concat (reply_rows q s))
taken_answer s other = Fine

unfoldable pub switch_answer : SwitchState → Message → Answer
switch_answer s m = unless_error (message_refusal s m) (taken_answer s m)
