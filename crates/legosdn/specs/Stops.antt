-- How a command ends without the whole report: its status, and the line that is written last. Our own choice.
use Rattle.std.specs.Prelude.{ℕ, List, [], ◌++◌, codes, string_bytes}
use Rattle.std.specs.Fmt.{decimal}
use Rattle.command_words.specs.Commands.{usage_line}
use Rattle.crash_policy.specs.declared.policy_fault.PolicyFault.{PolicyFault}
use Rattle.crash_policy.specs.declared.policy_fault.PolicyFault.TheVariants as policy
use Rattle.crash_policy.specs.Faults.{Fault, no_text, unknown, missing, out_of_range, double}
use Rattle.lego_io.specs.declared.transfer.ReadAllFault.{ReadAllFault}
use Rattle.lego_io.specs.declared.transfer.ReadAllFault.TheVariants as reading
use Rattle.lego_model.specs.declared.session.SessionKind.{SessionKind}
use Rattle.lego_model.specs.declared.session.SessionKind.TheVariants as kinds
use Rattle.lego_model.specs.RunReport.{line_of}
use Rattle.lego_model.specs.declared.fault.TxnFault.{TxnFault}
use Rattle.lego_model.specs.declared.fault.TxnFault.TheVariants as faults
use Rattle.session_text.specs.declared.text_fault.SessionError.{SessionError}
use Rattle.session_text.specs.declared.text_fault.SessionError.TheVariants as text
use Rattle.legosdn.specs.declared.stop.InputRefusal.{InputRefusal}
use Rattle.legosdn.specs.declared.stop.InputRefusal.TheVariants as refusals
use Rattle.legosdn.specs.declared.stop.Stop.{Stop}
use Rattle.legosdn.specs.declared.stop.Stop.TheVariants as stops

abbrev pub stop_status : Stop → ℕ
stop_status stops.Usage = 2
stop_status (stops.Refused refusal) = 3
stop_status stops.ReadFault = 4
stop_status stops.WriteFault = 5
stop_status stops.Shut = 6
stop_status stops.NextFault = 6
stop_status (stops.SwitchBroke dpid) = 8
stop_status (stops.Diverged dpid) = 9
stop_status (stops.EventsLeft left) = 10
stop_status stops.NoMemory = 12

-- ---- Lines

abbrev pub kind_word : SessionKind → List ℕ
kind_word kinds.Long = codes "long"
kind_word kinds.Text = codes "text"
kind_word kinds.Order = codes "order"
kind_word kinds.Word = codes "word"
kind_word kinds.Number = codes "number"
kind_word kinds.Range = codes "range"
kind_word kinds.Hex = codes "hex"
kind_word kinds.Switch = codes "switch"
kind_word kinds.App = codes "app"
kind_word kinds.Raw = codes "raw"

-- the words of a policy's fault
unfoldable pub fault_words : Fault → List ℕ
fault_words no_text = codes "text"
fault_words (unknown key) = codes "unknown " ++ key
fault_words (missing key) = codes "missing " ++ key
fault_words (out_of_range key) = codes "range " ++ key
fault_words (double name) = codes "double " ++ name

-- and of one that a call tells; want of memory is none, and stops otherwise
unfoldable pub policy_words : PolicyFault → List ℕ
policy_words policy.Text = fault_words no_text
policy_words (policy.UnknownKey key) = fault_words (unknown (string_bytes key))
policy_words (policy.Missing key) = fault_words (missing (string_bytes key))
policy_words (policy.Range key) = fault_words (out_of_range (string_bytes key))
policy_words (policy.Double name) = fault_words (double (string_bytes name))
policy_words policy.NoMemory = codes "no memory"

-- the line of a policy that is refused for a fault
abbrev pub policy_line : List ℕ → List ℕ
policy_line words = line_of (codes "bad policy " ++ words)

unfoldable pub refusal_line : InputRefusal → List ℕ
refusal_line refusals.Size = line_of (codes "bad size")
refusal_line refusals.Separator = line_of (codes "bad separator")
refusal_line refusals.NoCommand = line_of (codes "bad policy missing command")
refusal_line (refusals.Policy fault) = policy_line (policy_words fault)
refusal_line (refusals.Session fault) = codes "bad session " ++ decimal fault.line ++ line_of (codes " " ++ kind_word fault.kind)

unfoldable pub stop_line : Stop → List ℕ
stop_line stops.Usage = line_of usage_line
stop_line (stops.Refused refusal) = refusal_line refusal
stop_line stops.ReadFault = line_of (codes "read fault")
stop_line stops.WriteFault = []
stop_line stops.Shut = line_of (codes "world shut")
stop_line stops.NextFault = line_of (codes "world fault")
stop_line (stops.SwitchBroke dpid) = line_of (codes "switch broke " ++ decimal dpid)
stop_line (stops.Diverged dpid) = line_of (codes "diverged " ++ decimal dpid)
stop_line (stops.EventsLeft left) = line_of (codes "events left " ++ decimal left)
stop_line stops.NoMemory = line_of (codes "no memory")

-- ---- What faults are as stops

abbrev pub stop_of_reading : ReadAllFault → Stop
stop_of_reading reading.Read = stops.ReadFault
stop_of_reading reading.TooLong = stops.Refused refusals.Size
stop_of_reading reading.NoMemory = stops.NoMemory

abbrev pub stop_of_policy : PolicyFault → Stop
stop_of_policy policy.NoMemory = stops.NoMemory
stop_of_policy fault = stops.Refused (refusals.Policy fault)

abbrev pub stop_of_session : SessionError → Stop
stop_of_session (text.Bad fault) = stops.Refused (refusals.Session fault)
stop_of_session text.NoMemory = stops.NoMemory

abbrev pub stop_of_switch : TxnFault → Stop
stop_of_switch (faults.SwitchBroke dpid bytes) = stops.SwitchBroke dpid
stop_of_switch (faults.Flooded dpid count) = stops.SwitchBroke dpid
stop_of_switch (faults.Diverged dpid sent got) = stops.Diverged dpid
stop_of_switch faults.NoMemory = stops.NoMemory
