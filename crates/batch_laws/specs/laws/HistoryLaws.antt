-- In every history of a world that keeps its word a switch that is joined is the declared one, and its ports stand by number, strictly
-- ascending from 1 to 65,280, at most 64 of them, each with a config of 32 bits.
use Rattle.std.proofs.Common.{◌≡◌, ◌==◌, ℕ, ◌+◌, ◌-◌, ◌^◌, ◌<◌, ◌≤◌, Bool, true, false, not, nat_lt, List, [], ◌∷◌, length, map, filter, Option, Some, None, Result, Ok, Err, if◌then◌else◌, refl, sym, ap, ◌∙◌, subst, inl, inr, arith}
use Rattle.std.specs.Prelude.{bit_and, is_none}
use Rattle.std.proofs.lemmas.Bool.{cases_Bool, cases_lt, eqb-true, eqb-false, lt-ltb, le-ltb, ltb-true, and_parts}
use Rattle.std.proofs.lemmas.List.{length-map}
use Rattle.std.proofs.lemmas.Nat.{and_le_l, and_le_r, or_of_32}
use Rattle.std.specs.List.{AllByRecursion}
use Rattle.std.specs.Option.{option_map}
use Rattle.of_types.specs.declared.errors.OfError.{OfError}
use Rattle.of_types.specs.declared.journal.Act.{Act}
use Rattle.of_types.specs.declared.journal.Act.TheVariants.{Stim, Started, Gave, Gone, Took, Ended, Sent, Got, Lost}
use Rattle.of_types.specs.declared.journal.PortChange.{PortChange}
use Rattle.of_types.specs.declared.journal.PortChange.TheVariants as changes
use Rattle.of_types.specs.declared.journal.Stimulus.{Stimulus}
use Rattle.of_types.specs.declared.journal.Stimulus.TheVariants.{Frame, Advance, Port, Counts, Raw}
use Rattle.of_types.specs.declared.journal.WorldStim.{WorldStim}
use Rattle.of_types.specs.declared.journal.WorldStim.TheVariants.{Join, Leave, At, Of}
use Rattle.of_wire.specs.declared.bodies.PortMod.{PortMod as PortModBody}
use Rattle.of_wire.specs.declared.message.Message.{Message}
use Rattle.of_wire.specs.declared.message.Message.TheVariants.{Hello, Error, EchoRequest, EchoReply, Vendor, FeaturesRequest, FeaturesReply, GetConfigRequest, GetConfigReply, SetConfig, PacketIn, FlowRemoved, PortStatus, PacketOut, FlowMod, PortMod, StatsRequest, StatsReply, BarrierRequest, BarrierReply, QueueGetConfigRequest, QueueGetConfigReply}
use Rattle.of_wire.specs.declared.message.Envelope.{Envelope}
use Rattle.of_wire.specs.declared.fault.WireFault.{WireFault}
use Rattle.of_wire.specs.Reading.{reading_of}
use Rattle.flow_table.specs.Change.{unless_refused}
use Rattle.flow_table.specs.Switch.{Declared, PortState, SwitchState, joined_at, new_port, port_at, insert_port, most_ports}
use Rattle.flow_table.specs.Refusals.{message_refusal}
use Rattle.flow_table.specs.Frames.{goes_out_by, after_frame_out, ports_after_output, after_output, after_outputs, after_counts, after_lookup, hit_outputs, entry_hit, after_packet_output, after_packet_outputs, takes, after_frame_in, after_arrival, after_frame}
use Rattle.flow_table.specs.Step.{kept_bits, with_bits, with_config, set_link, can_add, after_taken, after_message, after_port_change, after_stimulus}
use Rattle.outside.specs.declared.step.WorldStep.{WorldStep}
use Rattle.outside.specs.declared.step.WorldStep.TheVariants.{Acted, TookInto, From, Joined, Left, Moment, Idle, End, Opened, NotOpened, NextFailed, SendLost, RecvLost, SendFailed, RecvFailed}
use Rattle.outside.specs.declared.call.FailCall.{FailCall}
use Rattle.outside.specs.Seen.{Seen}
use Rattle.outside.specs.State.{Link, State, link_at_first, at_first, link_of, switch_in, switch_of, switch_joined, link_joined, link_left, link_stimulated, switch_told, link_sent, link_got, link_told, link_lost, link_failed, links_after, after_stim, after_act, after_step, after_steps, state}
use Rattle.outside.specs.Conforming.{ArePortsFrom, MayDeclare, IsStimulus, IsWorldStim, MayAct, MayStep, MaySteps, Conforming}
use Rattle.outside.specs.laws.LinkKeptLaws.{Keeps, one-kept, each-kept}
use Rattle.net_txn.specs.laws.TableBoundLaws.{length-inserted, length-filtered}
use Rattle.switch_laws.specs.laws.StandLaws.{state-links}
use Rattle.batch_laws.specs.Lasting.{AscendPorts, Lasts, PortWithin, LastsIn, LinkLasts, AllLast}
use Rattle.switch_laws.specs.laws.FaceLaws.{goes}

-- ---- Ports

-- a change of a port that keeps its number, and a config of 32 bits
record KeepsPort (g : PortState → PortState) : Type 0 where
  number : (p : PortState) → (g p).number ≡ p.number
  config : (p : PortState) → p.config < 2 ^ 32 → (g p).config < 2 ^ 32

ascend-map : (g : PortState → PortState) → KeepsPort g → (least : ℕ) (ps : List PortState) → AscendPorts least ps → AscendPorts least (map g ps)
ascend-map g keeps least [] h = tt
ascend-map g keeps least (p ∷ ps) h =
    let same = keeps.number p in
    (omega (arith, h.0, same), omega (arith, h.1, same), keeps.config p h.2, subst (λ (n : ℕ). AscendPorts (n + 1) (map g ps)) (sym same) (ascend-map g keeps (p.number + 1) ps h.3))

ascend-less : (least most : ℕ) → least ≤ most → (ps : List PortState) → AscendPorts most ps → AscendPorts least ps
ascend-less least most le [] h = tt
ascend-less least most le (p ∷ ps) h = (omega (arith, le, h.0), h.1, h.2, h.3)

ascend-filter : (test : PortState → Bool) (least : ℕ) (ps : List PortState) → AscendPorts least ps → AscendPorts least (filter test ps)
ascend-filter test least [] h = tt
ascend-filter test least (p ∷ ps) h =
    elim (cases_Bool (test p)) [
      | inl passes ↦ rw passes (h.0, h.1, h.2, ascend-filter test (p.number + 1) ps h.3)
      | inr fails ↦ rw fails (ascend-filter test least ps (ascend-less least (p.number + 1) (omega (arith, h.0)) ps h.3))
    ]

pub none_is : (o : Option PortState) → is_none o ≡ true → o ≡ None
none_is None h = refl
none_is (Some p) h = absurd cc

ascend-insert : (p : PortState) (least : ℕ) (ps : List PortState) → least ≤ p.number → p.number ≤ 65280 → p.config < 2 ^ 32 → port_at p.number ps ≡ None → AscendPorts least ps → AscendPorts least (insert_port p ps)
ascend-insert p least [] low high config none h = (low, high, config, tt)
ascend-insert p least (q ∷ qs) low high config none h =
    elim (cases_lt p.number q.number) [
      | inl below ↦ rw (lt-ltb p.number q.number below) (low, high, config, (omega (arith, below), h.1, h.2, h.3))
      | inr behind ↦ elim (cases_Bool (q.number == p.number)) [
        | inl here ↦ absurd (some_is_none (rw here at none))
        | inr other ↦
            let apart = eqb-false q.number p.number other in
            let above : q.number + 1 ≤ p.number = less q.number p.number behind apart in
            rw (le-ltb p.number q.number behind) (h.0, h.1, h.2, ascend-insert p (q.number + 1) qs above high config (rw other at none) h.3)
      ]
    ]
  where
    some_is_none : {X : Type 0} {x : X} → Some x ≡ None → ⊥
    some_is_none e = cc

    less : (m n : ℕ) → m ≤ n → (m ≡ n → ⊥) → m + 1 ≤ n
    less m n le apart = omega (arith, le, apart)

ascend-new : (least : ℕ) (ns : List ℕ) → ArePortsFrom least ns → AscendPorts least (map new_port ns)
ascend-new least [] h = tt
ascend-new least (n ∷ ns) h = (h.0, h.1, omega arith, ascend-new (n + 1) ns h.2)

-- ---- One switch

-- changes of each port
lasts-ports : (g : PortState → PortState) → KeepsPort g → (d : Declared) (s : SwitchState) → Lasts d s → Lasts d (record s { ports = map g s.ports })
lasts-ports g keeps d s is = record { declared = is.declared; ports = ascend-map g keeps 1 s.ports is.ports; few = omega (arith, is.few, length-map s.ports g) }

keeps-some : (test : PortState → Bool) (g : PortState → PortState) → KeepsPort g → KeepsPort (λ p. if test p then g p else p)
keeps-some test g keeps = record {
  number = λ p. elim (cases_Bool (test p)) [ inl passes ↦ rw passes (keeps.number p) | inr fails ↦ rw fails refl ];
  config = λ p small. elim (cases_Bool (test p)) [ inl passes ↦ rw passes (keeps.config p small) | inr fails ↦ rw fails small ];
}

keeps-frame_out : (len : ℕ) → KeepsPort (after_frame_out len)
unfolding after_frame_out
keeps-frame_out len = record {
  number = λ p. elim (cases_Bool (goes p)) [ inl sent ↦ rw sent refl | inr dropped ↦ rw dropped refl ];
  config = λ p small. elim (cases_Bool (goes p)) [ inl sent ↦ rw sent small | inr dropped ↦ rw dropped small ];
}

keeps-frame_in : (len : ℕ) → KeepsPort (after_frame_in len)
keeps-frame_in len = record { number = λ p. refl; config = λ p small. small }

keeps-link : (up : Bool) → KeepsPort (set_link up)
keeps-link up = record { number = λ p. refl; config = λ p small. small }

config-fits : (mask wanted config : ℕ) → mask ≤ kept_bits → config < 2 ^ 32 → with_bits mask wanted config < 2 ^ 32
unfolding with_bits
config-fits mask wanted config within small =
    or_of_32 (bit_and config (0xffffffff - mask)) (bit_and wanted mask)
    (omega (arith, and_le_l config (0xffffffff - mask), small))
    (omega (arith, and_le_r wanted mask, within))

keeps-config : (m : PortModBody) → KeepsPort (with_config m)
unfolding with_config
keeps-config m = record { number = λ p. refl; config = λ p small. config-fits (bit_and m.mask kept_bits) m.config p.config (and_le_r m.mask kept_bits) small }

output-lasts : (in_port : ℕ) (out : ℕ × List ℕ) (d : Declared) (s : SwitchState) → Lasts d s → Lasts d (after_output in_port out s)
unfolding ports_after_output
output-lasts in_port out d s is = lasts-ports (λ p. if goes_out_by in_port out.0 p then after_frame_out (length out.1) p else p) (keeps-some (goes_out_by in_port out.0) (after_frame_out (length out.1)) (keeps-frame_out (length out.1))) d s is

outputs-last : (in_port : ℕ) (outs : List (ℕ × List ℕ)) (d : Declared) (s : SwitchState) → Lasts d s → Lasts d (after_outputs in_port outs s)
unfolding after_outputs
outputs-last in_port [] d s is = is
outputs-last in_port (out ∷ outs) d s is = outputs-last in_port outs d (after_output in_port out s) (output-lasts in_port out d s is)

lookup-lasts : (in_port : ℕ) (frame : List ℕ) (d : Declared) (s : SwitchState) → Lasts d s → Lasts d (after_lookup in_port frame s)
unfolding after_lookup after_counts
lookup-lasts in_port frame d s is =
    outputs-last in_port (hit_outputs (entry_hit in_port frame s) frame) d (after_counts in_port frame s) (record { declared = is.declared; ports = is.ports; few = is.few })

packet_output-lasts : (in_port : ℕ) (out : ℕ × List ℕ) (d : Declared) (s : SwitchState) → Lasts d s → Lasts d (after_packet_output in_port out s)
unfolding after_packet_output
packet_output-lasts in_port out d s is =
    elim (cases_Bool (out.0 == 0xfff9)) [
      | inl table ↦ rw table (lookup-lasts in_port out.1 d s is)
      | inr other ↦ rw other (output-lasts in_port out d s is)
    ]

packet_outputs-last : (in_port : ℕ) (outs : List (ℕ × List ℕ)) (d : Declared) (s : SwitchState) → Lasts d s → Lasts d (after_packet_outputs in_port outs s)
unfolding after_packet_outputs
packet_outputs-last in_port [] d s is = is
packet_outputs-last in_port (out ∷ outs) d s is = packet_outputs-last in_port outs d (after_packet_output in_port out s) (packet_output-lasts in_port out d s is)

frame-lasts : (port : ℕ) (bytes : List ℕ) (d : Declared) (s : SwitchState) → Lasts d s → Lasts d (after_frame port bytes s)
unfolding after_frame
frame-lasts port bytes d s is =
    elim (cases_Bool (takes (port_at port s.ports))) [
      | inl taken ↦ rw taken (lookup-lasts port bytes d (after_arrival port bytes s) (lasts-ports (λ p. if p.number == port then after_frame_in (length bytes) p else p) (keeps-some (λ p. p.number == port) (after_frame_in (length bytes)) (keeps-frame_in (length bytes))) d s is))
      | inr dropped ↦ rw dropped is
    ]

port-lasts : (port : ℕ) (change : PortChange) (d : Declared) (s : SwitchState) → (1 ≤ port) × (port ≤ 65280) → Lasts d s → Lasts d (after_port_change port change s)
unfolding after_port_change
port-lasts port changes.Up d s within is = lasts-ports (λ p. if p.number == port then set_link true p else p) (keeps-some (λ p. p.number == port) (set_link true) (keeps-link true)) d s is
port-lasts port changes.Down d s within is = lasts-ports (λ p. if p.number == port then set_link false p else p) (keeps-some (λ p. p.number == port) (set_link false) (keeps-link false)) d s is
port-lasts port changes.Add d s within is =
    elim (cases_Bool (can_add port s.ports)) [
      | inl can ↦
          let parts = and_parts (is_none (port_at port s.ports)) (nat_lt (length s.ports) most_ports) can in
          rw can (record {
            declared = is.declared;
            ports = ascend-insert (new_port port) 1 s.ports within.0 within.1 (omega arith) (none_is (port_at port s.ports) parts.0) is.ports;
            few = omega (arith, length-inserted (new_port port) s.ports, ltb-true (length s.ports) 64 parts.1);
          })
      | inr cannot ↦ rw cannot is
    ]
port-lasts port changes.Delete d s within is = record {
  declared = is.declared;
  ports = ascend-filter (λ p. not (p.number == port)) 1 s.ports is.ports;
  few = omega (arith, is.few, length-filtered (λ p. not (p.number == port)) s.ports);
}

pub within-stimulus : (x : Stimulus) → IsStimulus x → PortWithin x
unfolding IsStimulus
within-stimulus (Frame port bytes) h = tt
within-stimulus (Advance t) h = tt
within-stimulus (Port port change) h = h
within-stimulus (Counts priority packets bytes) h = tt
within-stimulus (Raw bytes) h = tt

-- A stimulus keeps the switch so.
pub stimulus-lasts : (x : Stimulus) (d : Declared) (s : SwitchState) → PortWithin x → Lasts d s → Lasts d (after_stimulus x s)
unfolding after_stimulus
stimulus-lasts (Frame port bytes) d s within is = frame-lasts port bytes d s is
stimulus-lasts (Advance moment) d s within is = record { declared = is.declared; ports = is.ports; few = is.few }
stimulus-lasts (Port port change) d s within is = port-lasts port change d s within is
stimulus-lasts (Counts priority packets bytes) d s within is = record { declared = is.declared; ports = is.ports; few = is.few }
stimulus-lasts (Raw bytes) d s within is = is

-- It joins so.
pub joined-lasts : (moment : ℕ) (d : Declared) → MayDeclare d → Lasts d (joined_at moment d)
joined-lasts moment d may = record { declared = refl; ports = ascend-new 1 d.ports may.ports; few = omega (arith, may.few, length-map d.ports new_port) }

taken-lasts : (m : Message) (d : Declared) (s : SwitchState) → Lasts d s → Lasts d (after_taken m s)
unfolding after_taken
taken-lasts (FlowMod m) d s is = record { declared = is.declared; ports = is.ports; few = is.few }
taken-lasts (PacketOut m) d s is = packet_outputs-last m.in_port _ d s is
taken-lasts (PortMod m) d s is = lasts-ports (λ p. if p.number == m.port_no then with_config m p else p) (keeps-some (λ p. p.number == m.port_no) (with_config m) (keeps-config m)) d s is
taken-lasts (SetConfig c) d s is = record { declared = is.declared; ports = is.ports; few = is.few }
taken-lasts (Hello payload) d s is = is
taken-lasts (Error kind code payload) d s is = is
taken-lasts (EchoRequest payload) d s is = is
taken-lasts (EchoReply payload) d s is = is
taken-lasts (Vendor payload) d s is = is
taken-lasts FeaturesRequest d s is = is
taken-lasts (FeaturesReply features) d s is = is
taken-lasts GetConfigRequest d s is = is
taken-lasts (GetConfigReply config) d s is = is
taken-lasts (PacketIn packet) d s is = is
taken-lasts (FlowRemoved flow) d s is = is
taken-lasts (PortStatus status) d s is = is
taken-lasts (StatsRequest stats) d s is = is
taken-lasts (StatsReply stats) d s is = is
taken-lasts BarrierRequest d s is = is
taken-lasts BarrierReply d s is = is
taken-lasts (QueueGetConfigRequest payload) d s is = is
taken-lasts (QueueGetConfigReply payload) d s is = is

unless-lasts : (o : Option OfError) (d : Declared) (before after : SwitchState) → Lasts d before → Lasts d after → Lasts d (unless_refused o before after)
unless-lasts None d before after h g = g
unless-lasts (Some e) d before after h g = h

message-lasts : (m : Message) (d : Declared) (s : SwitchState) → Lasts d s → Lasts d (after_message m s)
unfolding after_message
message-lasts m d s is = unless-lasts (message_refusal s m) d s (after_taken m s) is (taken-lasts m d s is)

-- ---- Links

stimulated : (x : Stimulus) (d : Declared) (o : Option SwitchState) → PortWithin x → LastsIn d o → LastsIn d (option_map (after_stimulus x) o)
stimulated x d None within h = tt
stimulated x d (Some s) within h = stimulus-lasts x d s within h

keeps-stimulated : (x : Stimulus) → PortWithin x → Keeps LinkLasts (link_stimulated x)
unfolding link_stimulated
keeps-stimulated x within l is = record { may = is.may; switch = stimulated x l.declared l.switch within is.switch }

joins : (moment : ℕ) (d : Declared) (o : Option SwitchState) → MayDeclare d → LastsIn d o → LastsIn d (switch_joined moment d o)
joins moment d None may h = joined-lasts moment d may
joins moment d (Some s) may h = h

keeps-joined : (moment : ℕ) → Keeps LinkLasts (link_joined moment)
unfolding link_joined
keeps-joined moment l is = record { may = is.may; switch = joins moment l.declared l.switch is.may is.switch }

keeps-left : Keeps LinkLasts link_left
unfolding link_left
keeps-left l is = record { may = is.may; switch = tt }

told : (r : Result Envelope WireFault) (d : Declared) (o : Option SwitchState) → LastsIn d o → LastsIn d (switch_told r o)
told (Ok e) d None h = tt
told (Ok e) d (Some s) h = message-lasts e.message d s h
told (Err fault) d None h = tt
told (Err fault) d (Some s) h = h

keeps-sent : (bytes : List ℕ) → Keeps LinkLasts (link_sent bytes)
unfolding link_sent
keeps-sent bytes l is = record { may = is.may; switch = told (reading_of bytes) l.declared l.switch is.switch }

keeps-got : Keeps LinkLasts link_got
unfolding link_got
keeps-got l is = record { may = is.may; switch = is.switch }

keeps-told : Keeps LinkLasts link_told
unfolding link_told
keeps-told l is = record { may = is.may; switch = is.switch }

keeps-lost : Keeps LinkLasts link_lost
unfolding link_lost
keeps-lost l is = record { may = is.may; switch = tt }

keeps-failed : Keeps LinkLasts link_failed
unfolding link_failed
keeps-failed l is = record { may = is.may; switch = is.switch }

-- ---- Steps

pub stim-lasts : (declared : List Declared) (x : WorldStim) (moment : ℕ) (ls : List Link) → IsWorldStim declared moment x → AllLast ls → AllLast (links_after x moment ls)
unfolding IsWorldStim
stim-lasts declared (Join d) moment ls may h = one-kept LinkLasts d (link_joined moment) (keeps-joined moment) ls h
stim-lasts declared (Leave d) moment ls may h = one-kept LinkLasts d link_left keeps-left ls h
stim-lasts declared (At t) moment ls may h = each-kept LinkLasts (link_stimulated (Advance t)) (keeps-stimulated (Advance t) tt) ls h
stim-lasts declared (Of d x) moment ls may h = one-kept LinkLasts d (link_stimulated x) (keeps-stimulated x (within-stimulus x may.1)) ls h

act-lasts : (declared : List Declared) (act : Act) (s : State) → MayAct declared act s → AllLast s.links → AllLast (after_act act s).links
unfolding after_act after_stim MayAct
act-lasts declared (Stim x) s may h = stim-lasts declared x s.moment s.links may.stimulus h
act-lasts declared (Started app ok) s may h = h
act-lasts declared (Gave app bytes) s may h = h
act-lasts declared (Gone app bytes) s may h = h
act-lasts declared (Took app what) s may h = h
act-lasts declared (Ended app) s may h = h
act-lasts declared (Sent d bytes) s may h = one-kept LinkLasts d (link_sent bytes) (keeps-sent bytes) s.links h
act-lasts declared (Got d bytes) s may h = one-kept LinkLasts d link_got keeps-got s.links h
act-lasts declared (Lost d) s may h = one-kept LinkLasts d link_lost keeps-lost s.links h

step-lasts : (declared : List Declared) (step : WorldStep) (s : State) → MayStep declared step s → AllLast s.links → AllLast (after_step step s).links
unfolding after_step MayStep
step-lasts declared (Acted act) s may h = act-lasts declared act s may h
step-lasts declared (TookInto app what room) s may h = h
step-lasts declared (From d bytes) s may h = one-kept LinkLasts d link_told keeps-told s.links h
step-lasts declared (Joined d bytes) s may h = h
step-lasts declared (Left d) s may h = h
step-lasts declared (Moment t) s may h = h
step-lasts declared Idle s may h = h
step-lasts declared End s may h = h
step-lasts declared Opened s may h = h
step-lasts declared NotOpened s may h = h
step-lasts declared NextFailed s may h = h
step-lasts declared (SendLost d) s may h = one-kept LinkLasts d link_lost keeps-lost s.links h
step-lasts declared (RecvLost d) s may h = one-kept LinkLasts d link_lost keeps-lost s.links h
step-lasts declared (SendFailed d) s may h = one-kept LinkLasts d link_failed keeps-failed s.links h
step-lasts declared (RecvFailed d) s may h = one-kept LinkLasts d link_failed keeps-failed s.links h

steps-last : (declared : List Declared) (steps : List WorldStep) (s : State) → MaySteps declared steps s → AllLast s.links → AllLast (after_steps steps s).links
steps-last declared [] s may h = h
steps-last declared (step ∷ steps) s may h = steps-last declared steps (after_step step s) may.1 (step-lasts declared step s may.0 h)

first-lasts : (fails : List FailCall) (ds : List Declared) → AllByRecursion MayDeclare ds → AllLast (map (link_at_first fails) ds)
first-lasts fails [] h = tt
first-lasts fails (d ∷ ds) h = (record { may = h.0; switch = tt }, first-lasts fails ds h.1)

-- Each link of a world that keeps its word stands so.
pub links-last : {Own : Type 0} (seen : Seen Own) → Conforming seen → AllLast (state seen).links
unfolding state at_first
links-last seen keeps = steps-last seen.given.declared seen.history (at_first seen.given) keeps.steps (first-lasts seen.given.fails seen.given.declared keeps.switches)

-- The links are those of the declared switches, in their order.
pub links-declared : {Own : Type 0} (seen : Seen Own) → map (λ l. l.declared) (state seen).links ≡ seen.given.declared
links-declared seen = (state-links seen).declared_is

-- ---- A switch by its number

pub lasts_in : (d : ℕ) (ls : List Link) (x : SwitchState) → AllLast ls → switch_in (link_of d ls) ≡ Some x → Lasts x.declared x × (x.declared.dpid ≡ d)
lasts_in d [] x h is = absurd cc
lasts_in d (l ∷ ls) x h is =
    elim (cases_Bool (l.declared.dpid == d)) [
      | inl here ↦
          let stands : Lasts l.declared x = subst (LastsIn l.declared) (rw here at is) h.0.switch in
          (subst (λ (y : Declared). Lasts y x) (sym stands.declared) stands, ap (λ (y : Declared). y.dpid) stands.declared ∙ eqb-true l.declared.dpid d here)
      | inr other ↦ lasts_in d ls x h.1 (rw other at is)
    ]

-- A switch that is joined stands so, and has the number under which it is found.
pub switch-lasts : {Own : Type 0} (seen : Seen Own) → Conforming seen → (d : ℕ) (x : SwitchState) → switch_of d (state seen) ≡ Some x → Lasts x.declared x × (x.declared.dpid ≡ d)
unfolding switch_of
switch-lasts seen keeps d x is = lasts_in d (state seen).links x (links-last seen keeps) is
