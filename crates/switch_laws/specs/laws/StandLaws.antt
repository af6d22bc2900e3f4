-- In every history the switches that are joined are declared ones, and their tables stand in key order with serials that differ.
use Rattle.std.proofs.Common.{◌≡◌, ◌==◌, ℕ, false, List, [], ◌∷◌, map, Option, Some, None, Result, Ok, Err, refl, ap, ◌∙◌, subst, inl, inr, true≢false}
use Rattle.std.proofs.lemmas.Bool.{cases_Bool}
use Rattle.std.specs.Option.{option_map}
use Rattle.of_types.specs.declared.errors.OfError.{OfError}
use Rattle.of_types.specs.declared.journal.PortChange.{PortChange}
use Rattle.of_types.specs.declared.journal.PortChange.TheVariants as changes
use Rattle.of_types.specs.declared.journal.Stimulus.{Stimulus}
use Rattle.of_types.specs.declared.journal.Stimulus.TheVariants.{Frame, Advance, Port, Counts, Raw}
use Rattle.of_wire.specs.declared.message.Message.{Message}
use Rattle.of_wire.specs.declared.message.Message.TheVariants.{Hello, Error, EchoRequest, EchoReply, Vendor, FeaturesRequest, FeaturesReply, GetConfigRequest, GetConfigReply, SetConfig, PacketIn, FlowRemoved, PortStatus, PacketOut, FlowMod, PortMod, StatsRequest, StatsReply, BarrierRequest, BarrierReply, QueueGetConfigRequest, QueueGetConfigReply}
use Rattle.of_wire.specs.declared.message.Envelope.{Envelope}
use Rattle.of_wire.specs.declared.fault.WireFault.{WireFault}
use Rattle.of_wire.specs.Reading.{reading_of}
use Rattle.eth_key.specs.PacketFields.{key_of}
use Rattle.flow_table.specs.Change.{unless_refused}
use Rattle.flow_table.specs.Switch.{Declared, SwitchState, port_at}
use Rattle.flow_table.specs.Refusals.{message_refusal}
use Rattle.flow_table.specs.Frames.{after_output, after_outputs, after_counts, after_lookup, hit_outputs, entry_hit, after_packet_output, after_packet_outputs, takes, after_arrival, after_frame}
use Rattle.flow_table.specs.Step.{can_add, after_taken, after_message, after_port_change, after_stimulus}
use Rattle.undo_laws.specs.Serials.{IsSerialed}
use Rattle.undo_laws.specs.laws.SerialsLaws.{IsSerialed-empty, IsSerialed-changed, IsSerialed-expire, IsSerialed-hit, IsSerialed-with_counts}
use Rattle.outside.specs.declared.step.WorldStep.{WorldStep}
use Rattle.outside.specs.Seen.{Given, Seen, is_declared}
use Rattle.outside.specs.State.{Link, State, link_at_first, at_first, link_of, switch_in, switch_of, switch_joined, link_joined, link_left, link_stimulated, switch_told, link_sent, link_got, link_told, link_lost, link_failed, after_steps, state, declared_in}
use Rattle.outside.specs.laws.LinkKeptLaws.{EachKeeps, steps-kept, steps-declared}
use Rattle.switch_laws.specs.Shown.{Stand}
use Rattle.switch_laws.specs.Standing.{Serialed, SerialedIn, Tables, AreLinks}

-- ---- One switch

outputs-serialed : (in_port : ℕ) (outs : List (ℕ × List ℕ)) (s : SwitchState) → Serialed s → Serialed (after_outputs in_port outs s)
unfolding after_outputs
outputs-serialed in_port [] s h = h
outputs-serialed in_port (out ∷ outs) s h = outputs-serialed in_port outs (after_output in_port out s) h

counts-serialed : (in_port : ℕ) (frame : List ℕ) (s : SwitchState) → Serialed s → Serialed (after_counts in_port frame s)
unfolding after_counts
counts-serialed in_port frame s h = IsSerialed-hit (key_of in_port frame) _ s.moment s.table h

lookup-serialed : (in_port : ℕ) (frame : List ℕ) (s : SwitchState) → Serialed s → Serialed (after_lookup in_port frame s)
unfolding after_lookup
lookup-serialed in_port frame s h =
    outputs-serialed in_port (hit_outputs (entry_hit in_port frame s) frame) (after_counts in_port frame s) (counts-serialed in_port frame s h)

packet_output-serialed : (in_port : ℕ) (out : ℕ × List ℕ) (s : SwitchState) → Serialed s → Serialed (after_packet_output in_port out s)
unfolding after_packet_output
packet_output-serialed in_port out s h =
    elim (cases_Bool (out.0 == 0xfff9)) [
      | inl table ↦ rw table (lookup-serialed in_port out.1 s h)
      | inr other ↦ rw other h
    ]

packet_outputs-serialed : (in_port : ℕ) (outs : List (ℕ × List ℕ)) (s : SwitchState) → Serialed s → Serialed (after_packet_outputs in_port outs s)
unfolding after_packet_outputs
packet_outputs-serialed in_port [] s h = h
packet_outputs-serialed in_port (out ∷ outs) s h = packet_outputs-serialed in_port outs (after_packet_output in_port out s) (packet_output-serialed in_port out s h)

frame-serialed : (port : ℕ) (bytes : List ℕ) (s : SwitchState) → Serialed s → Serialed (after_frame port bytes s)
unfolding after_frame
frame-serialed port bytes s h =
    elim (cases_Bool (takes (port_at port s.ports))) [
      | inl taken ↦ rw taken (lookup-serialed port bytes (after_arrival port bytes s) h)
      | inr dropped ↦ rw dropped h
    ]

port-serialed : (port : ℕ) (change : PortChange) (s : SwitchState) → Serialed s → Serialed (after_port_change port change s)
unfolding after_port_change
port-serialed port changes.Up s h = h
port-serialed port changes.Down s h = h
port-serialed port changes.Add s h = elim (cases_Bool (can_add port s.ports)) [ inl can ↦ rw can h | inr cannot ↦ rw cannot h ]
port-serialed port changes.Delete s h = h

stimulus-serialed : (x : Stimulus) (s : SwitchState) → Serialed s → Serialed (after_stimulus x s)
unfolding after_stimulus
stimulus-serialed (Frame port bytes) s h = frame-serialed port bytes s h
stimulus-serialed (Advance moment) s h = IsSerialed-expire moment s.table h
stimulus-serialed (Port port change) s h = port-serialed port change s h
stimulus-serialed (Counts priority packets bytes) s h = IsSerialed-with_counts priority packets bytes s.table h
stimulus-serialed (Raw bytes) s h = h

taken-serialed : (m : Message) (s : SwitchState) → Serialed s → Serialed (after_taken m s)
unfolding after_taken
taken-serialed (FlowMod m) s h = IsSerialed-changed s.moment m s.table h
taken-serialed (PacketOut m) s h = packet_outputs-serialed m.in_port _ s h
taken-serialed (PortMod m) s h = h
taken-serialed (SetConfig c) s h = h
taken-serialed (Hello payload) s h = h
taken-serialed (Error kind code payload) s h = h
taken-serialed (EchoRequest payload) s h = h
taken-serialed (EchoReply payload) s h = h
taken-serialed (Vendor payload) s h = h
taken-serialed FeaturesRequest s h = h
taken-serialed (FeaturesReply features) s h = h
taken-serialed GetConfigRequest s h = h
taken-serialed (GetConfigReply config) s h = h
taken-serialed (PacketIn packet) s h = h
taken-serialed (FlowRemoved flow) s h = h
taken-serialed (PortStatus status) s h = h
taken-serialed (StatsRequest stats) s h = h
taken-serialed (StatsReply stats) s h = h
taken-serialed BarrierRequest s h = h
taken-serialed BarrierReply s h = h
taken-serialed (QueueGetConfigRequest payload) s h = h
taken-serialed (QueueGetConfigReply payload) s h = h

unless-serialed : (o : Option OfError) (before after : SwitchState) → Serialed before → Serialed after → Serialed (unless_refused o before after)
unless-serialed None before after h g = g
unless-serialed (Some e) before after h g = h

message-serialed : (m : Message) (s : SwitchState) → Serialed s → Serialed (after_message m s)
unfolding after_message
message-serialed m s h = unless-serialed (message_refusal s m) s (after_taken m s) h (taken-serialed m s h)

-- ---- Links

stimulated : (x : Stimulus) (o : Option SwitchState) → SerialedIn o → SerialedIn (option_map (after_stimulus x) o)
stimulated x None h = tt
stimulated x (Some s) h = stimulus-serialed x s h

joins : (moment : ℕ) (d : Declared) (o : Option SwitchState) → SerialedIn o → SerialedIn (switch_joined moment d o)
joins moment d None h = IsSerialed-empty
joins moment d (Some s) h = h

told : (r : Result Envelope WireFault) (o : Option SwitchState) → SerialedIn o → SerialedIn (switch_told r o)
told (Ok e) None h = tt
told (Ok e) (Some s) h = message-serialed e.message s h
told (Err fault) None h = tt
told (Err fault) (Some s) h = h

keeps-serials : EachKeeps (λ l. SerialedIn l.switch)
unfolding link_stimulated link_joined link_left link_sent link_got link_told link_lost link_failed
keeps-serials = record {
  stimulated = λ x l h. stimulated x l.switch h;
  joined = λ moment l h. joins moment l.declared l.switch h;
  left = λ l h. tt;
  sent = λ bytes l h. told (reading_of bytes) l.switch h;
  got = λ l h. h;
  told = λ l h. h;
  lost = λ l h. tt;
  failed = λ l h. h;
}

-- ---- All links

steps-links : (declared : List Declared) (steps : List WorldStep) (s : State) → AreLinks declared s.links → AreLinks declared (after_steps steps s).links
steps-links declared steps s are = record {
  declared_is = steps-declared steps s ∙ are.declared_is;
  tables = steps-kept (λ l. SerialedIn l.switch) keeps-serials steps s are.tables;
}

first-links : {Own : Type 0} (given : Given Own) (ds : List Declared) → AreLinks ds (map (link_at_first given.fails) ds)
first-links given [] = record { declared_is = refl; tables = tt }
first-links given (d ∷ ds) =
    let rest = first-links given ds in
    record { declared_is = ap (λ (xs : List Declared). d ∷ xs) rest.declared_is; tables = (tt, rest.tables) }

pub state-links : {Own : Type 0} (seen : Seen Own) → AreLinks seen.given.declared (state seen).links
unfolding state at_first
state-links seen = steps-links seen.given.declared seen.history (at_first seen.given) (first-links seen.given seen.given.declared)

-- ---- What stands

none_declared : (d : ℕ) (ls : List Link) → is_declared d (declared_in ls) ≡ false → link_of d ls ≡ None
none_declared d [] h = refl
none_declared d (l ∷ ls) h =
    elim (cases_Bool (l.declared.dpid == d)) [
      | inl here ↦ absurd (true≢false (rw here at h))
      | inr other ↦ rw other (none_declared d ls (rw other at h))
    ]

table_in : (d : ℕ) (ls : List Link) (x : SwitchState) → Tables ls → switch_in (link_of d ls) ≡ Some x → Serialed x
table_in d [] x h is = absurd cc
table_in d (l ∷ ls) x h is =
    elim (cases_Bool (l.declared.dpid == d)) [
      | inl here ↦ subst SerialedIn (rw here at is) h.0
      | inr other ↦ table_in d ls x h.1 (rw other at is)
    ]

-- the serials of a joined switch's table differ
pub table-serialed : {Own : Type 0} (seen : Seen Own) (d : ℕ) (x : SwitchState) → switch_of d (state seen) ≡ Some x → IsSerialed x.table
unfolding switch_of
table-serialed seen d x is = table_in d (state seen).links x (state-links seen).tables is

pub all-stand : {Own : Type 0} (seen : Seen Own) → Stand seen.given.declared (state seen)
unfolding switch_of
all-stand seen = record {
  undeclared = λ d other. ap switch_in (none_declared d (state seen).links (ap (is_declared d) (state-links seen).declared_is ∙ other));
  table = λ d x is. (table-serialed seen d x is).table;
}
