-- In every history of a world that keeps its word a table holds no more entries than its switch takes, which are 4,096 at most, and a switch
-- has 64 ports at most.
use Rattle.std.specs.Prelude.{is_none}
use Rattle.std.proofs.Common.{◌≡◌, ◌==◌, ℕ, ◌+◌, ◌≤◌, Bool, true, false, not, nat_lt, if◌then◌else◌, List, [], ◌∷◌, length, map, filter, Option, Some, None, Result, Ok, Err, refl, subst, inl, inr, arith}
use Rattle.std.proofs.lemmas.Bool.{cases_Bool, ltb-true, and_parts}
use Rattle.std.proofs.lemmas.List.{length-map}
use Rattle.std.specs.List.{AllByRecursion}
use Rattle.std.specs.Option.{option_map}
use Rattle.of_types.specs.declared.errors.OfError.{OfError}
use Rattle.of_types.specs.declared.journal.PortChange.{PortChange}
use Rattle.of_types.specs.declared.journal.PortChange.TheVariants as changes
use Rattle.of_types.specs.declared.journal.Stimulus.{Stimulus}
use Rattle.of_types.specs.declared.journal.Stimulus.TheVariants.{Frame, Advance, Port, Counts, Raw}
use Rattle.of_wire.specs.declared.bodies.FlowMod.{FlowMod as Change}
use Rattle.of_wire.specs.declared.message.Message.{Message}
use Rattle.of_wire.specs.declared.message.Message.TheVariants.{Hello, Error, EchoRequest, EchoReply, Vendor, FeaturesRequest, FeaturesReply, GetConfigRequest, GetConfigReply, SetConfig, PacketIn, FlowRemoved, PortStatus, PacketOut, FlowMod, PortMod, StatsRequest, StatsReply, BarrierRequest, BarrierReply, QueueGetConfigRequest, QueueGetConfigReply}
use Rattle.of_wire.specs.declared.message.Envelope.{Envelope}
use Rattle.of_wire.specs.declared.fault.WireFault.{WireFault}
use Rattle.of_wire.specs.Reading.{reading_of}
use Rattle.of_match.specs.declared.packet_key.PacketKey.{PacketKey}
use Rattle.flow_table.specs.declared.entry.Entry.{Entry}
use Rattle.flow_table.specs.Table.{IsTable}
use Rattle.flow_table.specs.laws.TableLaws.{IsTable-filter, length-filter-le, length-keys}
use Rattle.flow_table.specs.Change.{refusal, changed, unless_refused}
use Rattle.flow_table.specs.laws.ChangeLaws.{IsTable-entries_after}
use Rattle.flow_table.specs.Hit.{hit, with_counts, with_more}
use Rattle.flow_table.specs.laws.HitLaws.{keys-hit, IsTable-hit, IsTable-with_counts}
use Rattle.flow_table.specs.Expiry.{is_due, expire}
use Rattle.flow_table.specs.Switch.{Declared, PortState, SwitchState, new_port, port_at, insert_port, most_ports}
use Rattle.flow_table.specs.Refusals.{or_else, flow_refusal, message_refusal}
use Rattle.flow_table.specs.Frames.{goes_out_by, after_frame_out, ports_after_output, after_frame_in, after_output, after_outputs, after_counts, after_lookup, hit_outputs, entry_hit, after_packet_output, after_packet_outputs, takes, after_arrival, after_frame}
use Rattle.flow_table.specs.Step.{with_config, set_link, can_add, after_taken, after_message, after_port_change, after_stimulus}
use Rattle.flow_table.specs.laws.RefusalLaws.{length-entries_after}
use Rattle.outside.specs.Seen.{Given, Seen}
use Rattle.outside.specs.Conforming.{AreDeclaredFrom, MayDeclare, Conforming}
use Rattle.outside.specs.State.{Link, link_at_first, at_first, link_of, switch_in, switch_of, switch_joined, link_joined, link_left, link_stimulated, switch_told, link_sent, link_got, link_told, link_lost, link_failed, state}
use Rattle.outside.specs.laws.LinkKeptLaws.{EachKeeps, steps-kept}

-- ---- Ports

pub length-inserted : (p : PortState) (ps : List PortState) → length (insert_port p ps) ≡ length ps + 1
length-inserted p [] = refl
length-inserted p (q ∷ qs) =
    elim (cases_Bool (nat_lt p.number q.number)) [
      | inl below ↦ rw below (omega arith)
      | inr behind ↦ rw behind (omega (arith, length-inserted p qs))
    ]

pub length-filtered : (test : PortState → Bool) (ps : List PortState) → length (filter test ps) ≤ length ps
length-filtered test [] = omega arith
length-filtered test (p ∷ ps) =
    elim (cases_Bool (test p)) [
      | inl passes ↦ rw passes (omega (arith, length-filtered test ps))
      | inr fails ↦ rw fails (omega (arith, length-filtered test ps))
    ]

-- ---- One switch

-- a table in key order, of no more entries than the switch takes; and few ports
record IsFew (s : SwitchState) : Type 0 where
  cap : s.declared.cap ≤ 4096
  table : IsTable s.table.entries
  few : length s.table.entries ≤ s.declared.cap
  ports : length s.ports ≤ 64

ports-few : (g : PortState → PortState) (s : SwitchState) → IsFew s → IsFew (record s { ports = map g s.ports })
ports-few g s h = record { cap = h.cap; table = h.table; few = h.few; ports = omega (arith, h.ports, length-map s.ports g) }

output-few : (in_port : ℕ) (out : ℕ × List ℕ) (s : SwitchState) → IsFew s → IsFew (after_output in_port out s)
unfolding ports_after_output
output-few in_port out s h = ports-few (λ p. if goes_out_by in_port out.0 p then after_frame_out (length out.1) p else p) s h

outputs-few : (in_port : ℕ) (outs : List (ℕ × List ℕ)) (s : SwitchState) → IsFew s → IsFew (after_outputs in_port outs s)
unfolding after_outputs
outputs-few in_port [] s h = h
outputs-few in_port (out ∷ outs) s h = outputs-few in_port outs (after_output in_port out s) (output-few in_port out s h)

hit-few : (cap len now : ℕ) (k : PacketKey) (es : List Entry) → IsTable es → length es ≤ cap → length (hit k len now es) ≤ cap
hit-few cap len now k es is few = omega (arith, few, length-keys (hit k len now es) es (keys-hit k len now es is))

counts-few : (in_port : ℕ) (frame : List ℕ) (s : SwitchState) → IsFew s → IsFew (after_counts in_port frame s)
unfolding after_counts
counts-few in_port frame s h = record {
  cap = h.cap;
  table = IsTable-hit _ _ s.moment s.table.entries h.table;
  few = hit-few s.declared.cap _ s.moment _ s.table.entries h.table h.few;
  ports = h.ports;
}

lookup-few : (in_port : ℕ) (frame : List ℕ) (s : SwitchState) → IsFew s → IsFew (after_lookup in_port frame s)
unfolding after_lookup
lookup-few in_port frame s h =
    outputs-few in_port (hit_outputs (entry_hit in_port frame s) frame) (after_counts in_port frame s) (counts-few in_port frame s h)

packet_output-few : (in_port : ℕ) (out : ℕ × List ℕ) (s : SwitchState) → IsFew s → IsFew (after_packet_output in_port out s)
unfolding after_packet_output
packet_output-few in_port out s h =
    elim (cases_Bool (out.0 == 0xfff9)) [
      | inl table ↦ rw table (lookup-few in_port out.1 s h)
      | inr other ↦ rw other (output-few in_port out s h)
    ]

packet_outputs-few : (in_port : ℕ) (outs : List (ℕ × List ℕ)) (s : SwitchState) → IsFew s → IsFew (after_packet_outputs in_port outs s)
unfolding after_packet_outputs
packet_outputs-few in_port [] s h = h
packet_outputs-few in_port (out ∷ outs) s h = packet_outputs-few in_port outs (after_packet_output in_port out s) (packet_output-few in_port out s h)

frame-few : (port : ℕ) (bytes : List ℕ) (s : SwitchState) → IsFew s → IsFew (after_frame port bytes s)
unfolding after_frame
frame-few port bytes s h =
    elim (cases_Bool (takes (port_at port s.ports))) [
      | inl taken ↦ rw taken (lookup-few port bytes (after_arrival port bytes s) (ports-few (λ p. if p.number == port then after_frame_in (length bytes) p else p) s h))
      | inr dropped ↦ rw dropped h
    ]

port-few : (port : ℕ) (change : PortChange) (s : SwitchState) → IsFew s → IsFew (after_port_change port change s)
unfolding after_port_change
port-few port changes.Up s h = ports-few (λ p. if p.number == port then set_link true p else p) s h
port-few port changes.Down s h = ports-few (λ p. if p.number == port then set_link false p else p) s h
port-few port changes.Add s h =
    elim (cases_Bool (can_add port s.ports)) [
      | inl can ↦
          let parts = and_parts (is_none (port_at port s.ports)) (nat_lt (length s.ports) most_ports) can in
          rw can (record { cap = h.cap; table = h.table; few = h.few; ports = omega (arith, length-inserted (new_port port) s.ports, ltb-true (length s.ports) 64 parts.1) })
      | inr cannot ↦ rw cannot h
    ]
port-few port changes.Delete s h = record { cap = h.cap; table = h.table; few = h.few; ports = omega (arith, h.ports, length-filtered (λ p. not (p.number == port)) s.ports) }

stimulus-few : (x : Stimulus) (s : SwitchState) → IsFew s → IsFew (after_stimulus x s)
unfolding after_stimulus expire with_counts
stimulus-few (Frame port bytes) s h = frame-few port bytes s h
stimulus-few (Advance moment) s h = record {
  cap = h.cap;
  table = IsTable-filter (λ e. not (is_due moment e)) s.table.entries h.table;
  few = omega (arith, h.few, length-filter-le (λ e. not (is_due moment e)) s.table.entries);
  ports = h.ports;
}
stimulus-few (Port port change) s h = port-few port change s h
stimulus-few (Counts priority packets bytes) s h = record {
  cap = h.cap;
  table = IsTable-with_counts priority packets bytes s.table.entries h.table;
  few = omega (arith, h.few, length-map s.table.entries (with_more priority packets bytes));
  ports = h.ports;
}
stimulus-few (Raw bytes) s h = h

-- a change that is not refused by the table
changed-few : (m : Change) (s : SwitchState) → IsFew s → refusal s.declared.cap m s.table.entries ≡ None → IsFew (record s { table = changed s.moment m s.table })
unfolding changed
changed-few m s h none = record {
  cap = h.cap;
  table = IsTable-entries_after s.moment s.table.next m s.table.entries h.table;
  few = length-entries_after s.declared.cap s.moment s.table.next m s.table.entries h.table h.few none;
  ports = h.ports;
}

pub second_none : (a b : Option OfError) → or_else a b ≡ None → b ≡ None
second_none None b none = none
second_none (Some e) b none = absurd cc

taken-few : (m : Message) (s : SwitchState) → message_refusal s m ≡ None → IsFew s → IsFew (after_taken m s)
unfolding after_taken message_refusal
taken-few (FlowMod m) s none h = changed-few m s h (second_none (flow_refusal s.had m) (refusal s.declared.cap m s.table.entries) none)
taken-few (PacketOut m) s none h = packet_outputs-few m.in_port _ s h
taken-few (PortMod m) s none h = ports-few (λ p. if p.number == m.port_no then with_config m p else p) s h
taken-few (SetConfig c) s none h = record { cap = h.cap; table = h.table; few = h.few; ports = h.ports }
taken-few (Hello payload) s none h = h
taken-few (Error kind code payload) s none h = h
taken-few (EchoRequest payload) s none h = h
taken-few (EchoReply payload) s none h = h
taken-few (Vendor payload) s none h = h
taken-few FeaturesRequest s none h = h
taken-few (FeaturesReply features) s none h = h
taken-few GetConfigRequest s none h = h
taken-few (GetConfigReply config) s none h = h
taken-few (PacketIn packet) s none h = h
taken-few (FlowRemoved flow) s none h = h
taken-few (PortStatus status) s none h = h
taken-few (StatsRequest stats) s none h = h
taken-few (StatsReply stats) s none h = h
taken-few BarrierRequest s none h = h
taken-few BarrierReply s none h = h
taken-few (QueueGetConfigRequest payload) s none h = h
taken-few (QueueGetConfigReply payload) s none h = h

unless-few : (o : Option OfError) (before after : SwitchState) → IsFew before → (o ≡ None → IsFew after) → IsFew (unless_refused o before after)
unless-few None before after h g = g refl
unless-few (Some e) before after h g = h

message-few : (m : Message) (s : SwitchState) → IsFew s → IsFew (after_message m s)
unfolding after_message
message-few m s h = unless-few (message_refusal s m) s (after_taken m s) h (λ none. taken-few m s none h)

-- ---- Links

abbrev FewIn : Option SwitchState → Type 0
FewIn None = Unit {0}
FewIn (Some s) = IsFew s

abbrev IsFewLink : Link → Type 0
IsFewLink l = ((l.declared.cap ≤ 4096) × (length l.declared.ports ≤ 64)) × FewIn l.switch

stimulated : (x : Stimulus) (o : Option SwitchState) → FewIn o → FewIn (option_map (after_stimulus x) o)
stimulated x None h = tt
stimulated x (Some s) h = stimulus-few x s h

joins : (moment : ℕ) (d : Declared) (o : Option SwitchState) → (d.cap ≤ 4096) × (length d.ports ≤ 64) → FewIn o → FewIn (switch_joined moment d o)
joins moment d None may h = record { cap = may.0; table = tt; few = omega arith; ports = omega (arith, may.1, length-map d.ports new_port) }
joins moment d (Some s) may h = h

told : (r : Result Envelope WireFault) (o : Option SwitchState) → FewIn o → FewIn (switch_told r o)
told (Ok e) None h = tt
told (Ok e) (Some s) h = message-few e.message s h
told (Err fault) None h = tt
told (Err fault) (Some s) h = h

keeps-few : EachKeeps IsFewLink
unfolding link_stimulated link_joined link_left link_sent link_got link_told link_lost link_failed
keeps-few = record {
  stimulated = λ x l h. (h.0, stimulated x l.switch h.1);
  joined = λ moment l h. (h.0, joins moment l.declared l.switch h.0 h.1);
  left = λ l h. (h.0, tt);
  sent = λ bytes l h. (h.0, told (reading_of bytes) l.switch h.1);
  got = λ l h. h;
  told = λ l h. h;
  lost = λ l h. (h.0, tt);
  failed = λ l h. h;
}

-- ---- All links

abbrev Few : List Link → Type 0
Few ls = AllByRecursion IsFewLink ls

first-few : {Own : Type 0} (given : Given Own) (least : ℕ) (ds : List Declared) → AreDeclaredFrom least ds → AllByRecursion MayDeclare ds → Few (map (link_at_first given.fails) ds)
first-few given least [] are may = tt
first-few given least (d ∷ ds) are may = (((are.1, may.0.few), tt), first-few given (d.dpid + 1) ds are.2 may.1)

few_in : (d : ℕ) (ls : List Link) (s : SwitchState) → Few ls → switch_in (link_of d ls) ≡ Some s → IsFew s
few_in d [] s h is = absurd cc
few_in d (l ∷ ls) s h is =
    elim (cases_Bool (l.declared.dpid == d)) [
      | inl here ↦ subst FewIn (rw here at is) h.0.1
      | inr other ↦ few_in d ls s h.1 (rw other at is)
    ]

few_at : {Own : Type 0} (seen : Seen Own) (d : ℕ) (s : SwitchState) → Conforming seen → switch_of d (state seen) ≡ Some s → IsFew s
unfolding switch_of state at_first
few_at seen d s keeps is = few_in d (state seen).links s (steps-kept IsFewLink keeps-few seen.history (at_first seen.given) (first-few seen.given 1 seen.given.declared keeps.declared keeps.switches)) is

-- the table of a joined switch has 4,096 entries at most
pub table_few : {Own : Type 0} (seen : Seen Own) (d : ℕ) (s : SwitchState) → Conforming seen → switch_of d (state seen) ≡ Some s → length s.table.entries ≤ 4096
table_few seen d s keeps is =
    let h = few_at seen d s keeps is in
    omega (arith, h.few, h.cap)

-- and it has 64 ports at most
pub switch-ports_few : {Own : Type 0} (seen : Seen Own) (d : ℕ) (s : SwitchState) → Conforming seen → switch_of d (state seen) ≡ Some s → length s.ports ≤ 64
switch-ports_few seen d s keeps is = (few_at seen d s keeps is).ports
