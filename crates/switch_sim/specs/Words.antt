-- Words of this crate's own helpers, for one element of what the definitions of a switch say of a list.
use Rattle.std.specs.Prelude.{◌≡◌, ℕ, ◌+◌, ◌%◌, ◌^◌, ◌<◌, Bool, List, [], ◌∷◌, length, Option, Some, None, Result, Ok, Err, All, if◌then◌else◌}
use Rattle.std.specs.List.{sum_by}
use Rattle.of_types.specs.declared.errors.OfError.{OfError}
use Rattle.of_types.specs.declared.journal.Stimulus.{Stimulus}
use Rattle.of_types.specs.declared.journal.Stimulus.TheVariants.{Advance}
use Rattle.of_action.specs.declared.action.Action.{Action}
use Rattle.of_action.specs.declared.action.Action.TheVariants.{SetDlSrc, SetDlDst}
use Rattle.eth_key.specs.Ethernet.{is_tagged}
use Rattle.of_wire.specs.declared.message.Message.{Message}
use Rattle.of_wire.specs.declared.message.Message.TheVariants.{FlowMod, Hello, EchoRequest, EchoReply, FeaturesRequest, GetConfigRequest, BarrierRequest}
use Rattle.of_stats.specs.declared.sum.Sum.{Sum}
use Rattle.flow_table.specs.declared.entry.Entry.{Entry}
use Rattle.flow_table.specs.declared.fault.ChangeFault.{ChangeFault}
use Rattle.flow_table.specs.declared.fault.ChangeFault.TheVariants.{Refused, NoMemory}
use Rattle.flow_table.specs.declared.notice.Notice.{Notice}
use Rattle.flow_table.specs.Switch.{PortState, SwitchState}
use Rattle.flow_table.specs.Refusals.{flow_refusal, message_refusal}
use Rattle.flow_table.specs.Frames.{goes_out_by, after_frame_out, ports_after_output}

-- a port after an output, by which the frame goes out or not
abbrev pub after_output_at : ℕ → ℕ → ℕ → PortState → PortState
after_output_at in_port to len p = if goes_out_by in_port to p then after_frame_out len p else p

-- a sum and one entry more, which counts or not
abbrev pub counted_in : Bool → Sum → Entry → Sum
counted_in counts sum e =
    if counts
    then record {
      packets = (sum.packets + e.packets) % 2 ^ 64;
      bytes = (sum.bytes + e.bytes) % 2 ^ 64;
      flows = sum.flows + 1;
    }
    else sum

-- a sum so far, when these entries of a whole are still to come
pub record IsSumBefore (sum : Sum) (rest whole : List Entry) : Type 0 where
  pub small_packets : sum.packets < 2 ^ 64
  pub small_bytes : sum.bytes < 2 ^ 64
  pub packets : (sum.packets + sum_by (λ e. e.packets) rest) % 2 ^ 64 ≡ sum_by (λ e. e.packets) whole % 2 ^ 64
  pub bytes : (sum.bytes + sum_by (λ e. e.bytes) rest) % 2 ^ 64 ≡ sum_by (λ e. e.bytes) whole % 2 ^ 64
  pub flows : sum.flows + length rest ≡ length whole

-- buffers of the length of a FLOW_REMOVED
abbrev pub AreSpares : List (List ℕ) → Type 0
AreSpares buffers = All (λ b. length b ≡ 88) buffers

-- What a call that changes a table answers: a value, or the first refusal; want of memory is free.
abbrev pub AnswersWith : {A : Type 0} → Result A ChangeFault → Option OfError → A → Type 0
AnswersWith (Ok x) refusal expected = (refusal ≡ None) × (x ≡ expected)
AnswersWith (Err (Refused e)) refusal expected = refusal ≡ Some e
AnswersWith (Err NoMemory) refusal expected = Unit {0}

-- a message that asks and changes nothing, and is not refused
abbrev pub IsQuestion : Message → Type 0
IsQuestion (Hello payload) = Unit {0}
IsQuestion (EchoRequest payload) = Unit {0}
IsQuestion (EchoReply payload) = Unit {0}
IsQuestion FeaturesRequest = Unit {0}
IsQuestion GetConfigRequest = Unit {0}
IsQuestion BarrierRequest = Unit {0}
IsQuestion other = ⊥

-- the ports after outputs, one after the other
abbrev pub ports_after_outputs : ℕ → List (ℕ × List ℕ) → List PortState → List PortState
ports_after_outputs in_port [] ports = ports
ports_after_outputs in_port (output ∷ more) ports = ports_after_outputs in_port more (ports_after_output in_port output.0 (length output.1) ports)

-- the addresses of actions have six bytes
abbrev pub HasAddress : Action → Type 0
HasAddress (SetDlSrc address) = length address ≡ 6
HasAddress (SetDlDst address) = length address ≡ 6
HasAddress other = Unit {0}

-- the most bytes that edits make of a frame: four more than it has, unless it has a tag
unfoldable pub reach : List ℕ → ℕ
reach frame = if is_tagged frame then length frame else length frame + 4

-- the moment after a stimulus
abbrev pub moment_after : Stimulus → ℕ → ℕ
moment_after (Advance moment) last = moment
moment_after other last = last

-- how long an entry stood fits the field of a FLOW_REMOVED
abbrev pub IsShort : Notice → Type 0
IsShort n = n.duration < 2 ^ 32

-- the refusal of a message as far as it does not look at the table's entries
abbrev pub early_refusal : SwitchState → Message → Option OfError
early_refusal s (FlowMod m) = flow_refusal s.had m
early_refusal s other = message_refusal s other
