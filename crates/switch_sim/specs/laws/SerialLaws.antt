-- What follows about serials: a message takes one at most, and a stimulus none.
use Rattle.std.proofs.Common.{◌≡◌, ℕ, ◌+◌, ◌≤◌, List, [], ◌∷◌, Option, Some, None, Result, Ok, Err, OnOk, OnErr, refl, ap, ◌∙◌, arith}
use Rattle.std.proofs.lemmas.Bool.{cond_both}
use Rattle.of_types.specs.declared.errors.OfError.{OfError}
use Rattle.of_types.specs.declared.journal.PortChange.{PortChange}
use Rattle.of_types.specs.declared.journal.PortChange.TheVariants as changes
use Rattle.of_types.specs.declared.journal.Stimulus.{Stimulus}
use Rattle.of_types.specs.declared.journal.Stimulus.TheVariants.{Frame, Advance, Port, Counts, Raw}
use Rattle.of_wire.specs.declared.bodies.FlowMod.{FlowMod as FlowModBody}
use Rattle.of_wire.specs.declared.message.Message.{Message}
use Rattle.of_wire.specs.declared.message.Message.TheVariants.{Hello, Error, EchoRequest, EchoReply, Vendor, FeaturesRequest, FeaturesReply, GetConfigRequest, GetConfigReply, SetConfig, PacketIn, FlowRemoved, PortStatus, PacketOut, FlowMod, PortMod, StatsRequest, StatsReply, BarrierRequest, BarrierReply, QueueGetConfigRequest, QueueGetConfigReply}
use Rattle.frame_edit.specs.Edits.{outputs}
use Rattle.flow_table.specs.Table.{TableState}
use Rattle.flow_table.specs.Change.{unless_refused, adds, changed}
use Rattle.flow_table.specs.Expiry.{expire}
use Rattle.flow_table.specs.Switch.{SwitchState, port_at, new_port, insert_port, with_number}
use Rattle.flow_table.specs.Refusals.{message_refusal}
use Rattle.flow_table.specs.Frames.{after_output, hit_outputs, entry_hit, after_counts, after_lookup, after_packet_output, after_packet_outputs, takes, after_arrival, after_frame}
use Rattle.flow_table.specs.Step.{after_taken, after_message, can_add, after_port_change, after_stimulus}
use Rattle.switch_sim.specs.laws.LookLaws.{after_outputs-ports}

-- the next serial of a switch
abbrev pub next_of : SwitchState → ℕ
next_of s = s.table.next

next_changed : (now : ℕ) (m : FlowModBody) (t : TableState) → (changed now m t).next ≤ t.next + 1
unfolding changed
next_changed now m t = cond_both (adds m t.entries) (t.next + 1) t.next (λ n. n ≤ t.next + 1) (λ _. omega arith) (λ _. omega arith)

next_counts : (in_port : ℕ) (frame : List ℕ) (s : SwitchState) → next_of (after_counts in_port frame s) ≡ next_of s
unfolding after_counts
next_counts in_port frame s = refl

next_lookup : (in_port : ℕ) (frame : List ℕ) (s : SwitchState) → next_of (after_lookup in_port frame s) ≡ next_of s
unfolding after_lookup
next_lookup in_port frame s =
    ap next_of (after_outputs-ports in_port (hit_outputs (entry_hit in_port frame s) frame) (after_counts in_port frame s)) ∙ next_counts in_port frame s

next_packet_output : (in_port : ℕ) (output : ℕ × List ℕ) (s : SwitchState) → next_of (after_packet_output in_port output s) ≡ next_of s
unfolding after_packet_output
next_packet_output in_port output s =
    cond_both _ (after_lookup in_port output.1 s) (after_output in_port output s) (λ (u : SwitchState). next_of u ≡ next_of s) (λ _. next_lookup in_port output.1 s) (λ _. refl)

next_packet_outputs : (in_port : ℕ) (sent : List (ℕ × List ℕ)) (s : SwitchState) → next_of (after_packet_outputs in_port sent s) ≡ next_of s
unfolding after_packet_outputs
next_packet_outputs in_port [] s = refl
next_packet_outputs in_port (output ∷ more) s = next_packet_outputs in_port more (after_packet_output in_port output s) ∙ next_packet_output in_port output s

next_taken : (m : Message) (s : SwitchState) → next_of (after_taken m s) ≤ next_of s + 1
unfolding after_taken
next_taken (FlowMod m) s = next_changed s.moment m s.table
next_taken (PacketOut m) s = omega (arith, next_packet_outputs m.in_port (outputs m.actions m.payload) s)
next_taken (PortMod m) s = omega arith
next_taken (SetConfig m) s = omega arith
next_taken (StatsRequest m) s = omega arith
next_taken (Hello payload) s = omega arith
next_taken (EchoRequest payload) s = omega arith
next_taken (EchoReply payload) s = omega arith
next_taken FeaturesRequest s = omega arith
next_taken GetConfigRequest s = omega arith
next_taken BarrierRequest s = omega arith
next_taken (Error kind code payload) s = omega arith
next_taken (Vendor payload) s = omega arith
next_taken (FeaturesReply m) s = omega arith
next_taken (GetConfigReply m) s = omega arith
next_taken (PacketIn m) s = omega arith
next_taken (FlowRemoved m) s = omega arith
next_taken (PortStatus m) s = omega arith
next_taken (StatsReply m) s = omega arith
next_taken BarrierReply s = omega arith
next_taken (QueueGetConfigRequest payload) s = omega arith
next_taken (QueueGetConfigReply payload) s = omega arith

next_unless : (o : Option OfError) (s u : SwitchState) → next_of u ≤ next_of s + 1 → next_of (unless_refused o s u) ≤ next_of s + 1
next_unless None s u few = few
next_unless (Some e) s u few = omega arith

pub next_after_message : (m : Message) (s : SwitchState) → next_of (after_message m s) ≤ next_of s + 1
unfolding after_message
next_after_message m s = next_unless (message_refusal s m) s (after_taken m s) (next_taken m s)

next_port_change : (number : ℕ) (change : PortChange) (s : SwitchState) → next_of (after_port_change number change s) ≡ next_of s
unfolding after_port_change
next_port_change number changes.Up s = refl
next_port_change number changes.Down s = refl
next_port_change number changes.Add s =
    cond_both (can_add number s.ports) (record s { ports = insert_port (new_port number) s.ports; had = with_number number s.had }) s (λ (u : SwitchState). next_of u ≡ next_of s) (λ _. refl) (λ _. refl)
next_port_change number changes.Delete s = refl

next_frame : (in_port : ℕ) (frame : List ℕ) (s : SwitchState) → next_of (after_frame in_port frame s) ≡ next_of s
unfolding after_frame
next_frame in_port frame s =
    cond_both (takes (port_at in_port s.ports)) (after_lookup in_port frame (after_arrival in_port frame s)) s (λ (u : SwitchState). next_of u ≡ next_of s) (λ _. next_lookup in_port frame (after_arrival in_port frame s)) (λ _. refl)

pub next_expire : (now : ℕ) (t : TableState) → (expire now t).next ≡ t.next
unfolding expire
next_expire now t = refl

pub next_after_stimulus : (x : Stimulus) (s : SwitchState) → next_of (after_stimulus x s) ≡ next_of s
unfolding after_stimulus
next_after_stimulus (Frame port bytes) s = next_frame port bytes s
next_after_stimulus (Advance moment) s = next_expire moment s.table
next_after_stimulus (Port port change) s = next_port_change port change s
next_after_stimulus (Counts priority packets bytes) s = refl
next_after_stimulus (Raw bytes) s = refl

-- what both ends of a call say together
pub next_message_result : {A E : Type 0} (r : Result A E) (m : Message) (s u : SwitchState) → OnOk r (u ≡ after_message m s) → OnErr r (u ≡ s) → next_of u ≤ next_of s + 1
next_message_result (Ok x) m s u ok err = rw ok (next_after_message m s)
next_message_result (Err e) m s u ok err = rw err (omega arith)

pub next_stimulus_result : {A E : Type 0} (r : Result A E) (x : Stimulus) (s u : SwitchState) → OnOk r (u ≡ after_stimulus x s) → OnErr r (u ≡ s) → next_of u ≡ next_of s
next_stimulus_result (Ok a) x s u ok err = rw ok (next_after_stimulus x s)
next_stimulus_result (Err e) x s u ok err = rw err refl
