-- What follows about moments and declarations: a message and a stimulus keep them, but for the moment that a stimulus names.
use Rattle.std.proofs.Common.{◌≡◌, ◌==◌, ℕ, List, [], ◌∷◌, Option, Some, None, refl, sym, subst, ◌∙◌}
use Rattle.std.proofs.lemmas.Bool.{cond_both}
use Rattle.of_types.specs.declared.errors.OfError.{OfError}
use Rattle.of_types.specs.declared.journal.PortChange.{PortChange}
use Rattle.of_types.specs.declared.journal.PortChange.TheVariants as changes
use Rattle.of_types.specs.declared.journal.Stimulus.{Stimulus}
use Rattle.of_types.specs.declared.journal.Stimulus.TheVariants.{Frame, Advance, Port, Counts, Raw}
use Rattle.of_wire.specs.declared.message.Message.{Message}
use Rattle.of_wire.specs.declared.message.Message.TheVariants.{Hello, Error, EchoRequest, EchoReply, Vendor, FeaturesRequest, FeaturesReply, GetConfigRequest, GetConfigReply, SetConfig, PacketIn, FlowRemoved, PortStatus, PacketOut, FlowMod, PortMod, StatsRequest, StatsReply, BarrierRequest, BarrierReply, QueueGetConfigRequest, QueueGetConfigReply}
use Rattle.frame_edit.specs.Edits.{outputs}
use Rattle.flow_table.specs.Change.{unless_refused}
use Rattle.flow_table.specs.Switch.{PortState, SwitchState, table_number, port_at, new_port, insert_port, with_number}
use Rattle.flow_table.specs.Refusals.{message_refusal}
use Rattle.flow_table.specs.Frames.{after_output, hit_outputs, entry_hit, after_counts, after_lookup, after_packet_output, after_packet_outputs, takes, after_arrival, after_frame}
use Rattle.flow_table.specs.Step.{after_taken, after_message, can_add, after_port_change, after_stimulus}
use Rattle.switch_sim.specs.laws.LookLaws.{after_outputs-ports}
use Rattle.switch_sim.specs.Words.{moment_after}

-- the same switch at the same moment
record StaysAt (s u : SwitchState) : Type 0 where
  moment : u.moment ≡ s.moment
  declared : u.declared ≡ s.declared

at_once : (s : SwitchState) → StaysAt s s
at_once s = record { moment = refl; declared = refl }

onward : (s t u : SwitchState) → StaysAt s t → StaysAt t u → StaysAt s u
onward s t u first second = record { moment = second.moment ∙ first.moment; declared = second.declared ∙ first.declared }

-- ---- Frames

at_counts : (in_port : ℕ) (frame : List ℕ) (s : SwitchState) → StaysAt s (after_counts in_port frame s)
unfolding after_counts
at_counts in_port frame s = record { moment = refl; declared = refl }

at_ports : (s u : SwitchState) (ports : List PortState) → StaysAt s u → StaysAt s (record u { ports = ports })
at_ports s u ports stays = record { moment = stays.moment; declared = stays.declared }

at_lookup : (in_port : ℕ) (frame : List ℕ) (s : SwitchState) → StaysAt s (after_lookup in_port frame s)
unfolding after_lookup
at_lookup in_port frame s =
    let counted = after_counts in_port frame s in
    subst (λ (u : SwitchState). StaysAt s u) (sym (after_outputs-ports in_port (hit_outputs (entry_hit in_port frame s) frame) counted))
    (at_ports s counted _ (at_counts in_port frame s))

at_packet_output : (in_port : ℕ) (output : ℕ × List ℕ) (s : SwitchState) → StaysAt s (after_packet_output in_port output s)
unfolding after_packet_output
at_packet_output in_port output s =
    cond_both (output.0 == table_number) (after_lookup in_port output.1 s) (after_output in_port output s) (StaysAt s) (λ _. at_lookup in_port output.1 s) (λ _. record { moment = refl; declared = refl })

at_packet_outputs : (in_port : ℕ) (sent : List (ℕ × List ℕ)) (s : SwitchState) → StaysAt s (after_packet_outputs in_port sent s)
unfolding after_packet_outputs
at_packet_outputs in_port [] s = at_once s
at_packet_outputs in_port (output ∷ more) s =
    let next = after_packet_output in_port output s in
    onward s next (after_packet_outputs in_port more next) (at_packet_output in_port output s) (at_packet_outputs in_port more next)

at_frame : (in_port : ℕ) (frame : List ℕ) (s : SwitchState) → StaysAt s (after_frame in_port frame s)
unfolding after_frame
at_frame in_port frame s =
    let arrived = after_arrival in_port frame s in
    cond_both (takes (port_at in_port s.ports)) (after_lookup in_port frame arrived) s (StaysAt s)
    (λ _. onward s arrived (after_lookup in_port frame arrived) (record { moment = refl; declared = refl }) (at_lookup in_port frame arrived))
    (λ _. at_once s)

-- ---- A message

at_taken : (m : Message) (s : SwitchState) → StaysAt s (after_taken m s)
unfolding after_taken
at_taken (FlowMod m) s = record { moment = refl; declared = refl }
at_taken (PacketOut m) s = at_packet_outputs m.in_port (outputs m.actions m.payload) s
at_taken (PortMod m) s = record { moment = refl; declared = refl }
at_taken (SetConfig m) s = record { moment = refl; declared = refl }
at_taken (StatsRequest m) s = at_once s
at_taken (Hello payload) s = at_once s
at_taken (EchoRequest payload) s = at_once s
at_taken (EchoReply payload) s = at_once s
at_taken FeaturesRequest s = at_once s
at_taken GetConfigRequest s = at_once s
at_taken BarrierRequest s = at_once s
at_taken (Error kind code payload) s = at_once s
at_taken (Vendor payload) s = at_once s
at_taken (FeaturesReply m) s = at_once s
at_taken (GetConfigReply m) s = at_once s
at_taken (PacketIn m) s = at_once s
at_taken (FlowRemoved m) s = at_once s
at_taken (PortStatus m) s = at_once s
at_taken (StatsReply m) s = at_once s
at_taken BarrierReply s = at_once s
at_taken (QueueGetConfigRequest payload) s = at_once s
at_taken (QueueGetConfigReply payload) s = at_once s

at_unless : (o : Option OfError) (s u : SwitchState) → StaysAt s u → StaysAt s (unless_refused o s u)
at_unless None s u stays = stays
at_unless (Some e) s u stays = at_once s

at_message : (m : Message) (s : SwitchState) → StaysAt s (after_message m s)
unfolding after_message
at_message m s = at_unless (message_refusal s m) s (after_taken m s) (at_taken m s)

pub moment-after_message : (m : Message) (s : SwitchState) → (after_message m s).moment ≡ s.moment
moment-after_message m s = (at_message m s).moment

pub declared-after_message : (m : Message) (s : SwitchState) → (after_message m s).declared ≡ s.declared
declared-after_message m s = (at_message m s).declared

-- ---- A stimulus

at_port_change : (number : ℕ) (change : PortChange) (s : SwitchState) → StaysAt s (after_port_change number change s)
unfolding after_port_change
at_port_change number changes.Up s = record { moment = refl; declared = refl }
at_port_change number changes.Down s = record { moment = refl; declared = refl }
at_port_change number changes.Add s =
    cond_both (can_add number s.ports) (record s { ports = insert_port (new_port number) s.ports; had = with_number number s.had }) s (StaysAt s)
    (λ _. record { moment = refl; declared = refl })
    (λ _. at_once s)
at_port_change number changes.Delete s = record { moment = refl; declared = refl }

pub moment-after_stimulus : (x : Stimulus) (s : SwitchState) → (after_stimulus x s).moment ≡ moment_after x s.moment
unfolding after_stimulus
moment-after_stimulus (Frame port bytes) s = (at_frame port bytes s).moment
moment-after_stimulus (Advance moment) s = refl
moment-after_stimulus (Port port change) s = (at_port_change port change s).moment
moment-after_stimulus (Counts priority packets bytes) s = refl
moment-after_stimulus (Raw bytes) s = refl

pub declared-after_stimulus : (x : Stimulus) (s : SwitchState) → (after_stimulus x s).declared ≡ s.declared
unfolding after_stimulus
declared-after_stimulus (Frame port bytes) s = (at_frame port bytes s).declared
declared-after_stimulus (Advance moment) s = refl
declared-after_stimulus (Port port change) s = (at_port_change port change s).declared
declared-after_stimulus (Counts priority packets bytes) s = refl
declared-after_stimulus (Raw bytes) s = refl
