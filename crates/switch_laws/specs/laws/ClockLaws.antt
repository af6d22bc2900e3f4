-- In every history of a world that keeps its word a switch that is joined stands at the moment of the world, which has 32 bits, and is the
-- declared one of its number.
use Rattle.std.proofs.Common.{◌≡◌, ◌==◌, ℕ, ◌^◌, ◌<◌, List, [], ◌∷◌, map, Option, Some, None, Result, Ok, Err, refl, sym, ap, ◌∙◌, inl, inr, arith}
use Rattle.std.proofs.lemmas.Bool.{cases_Bool, eqb-true}
use Rattle.std.specs.List.{AllByRecursion}
use Rattle.std.specs.Option.{option_map}
use Rattle.of_types.specs.declared.errors.OfError.{OfError}
use Rattle.of_types.specs.declared.journal.Act.{Act}
use Rattle.of_types.specs.declared.journal.Act.TheVariants.{Stim, Started, Gave, Gone, Took, Ended, Sent, Got, Lost}
use Rattle.of_types.specs.declared.journal.PortChange.{PortChange}
use Rattle.of_types.specs.declared.journal.PortChange.TheVariants as changes
use Rattle.of_types.specs.declared.journal.Stimulus.{Stimulus}
use Rattle.of_types.specs.declared.journal.Stimulus.TheVariants.{Frame, Advance, Port, Counts, Raw}
use Rattle.of_types.specs.declared.journal.WorldStim.{WorldStim}
use Rattle.of_types.specs.declared.journal.WorldStim.TheVariants.{Join, Leave, At, Of}
use Rattle.of_wire.specs.declared.message.Message.{Message}
use Rattle.of_wire.specs.declared.message.Message.TheVariants.{Hello, Error, EchoRequest, EchoReply, Vendor, FeaturesRequest, FeaturesReply, GetConfigRequest, GetConfigReply, SetConfig, PacketIn, FlowRemoved, PortStatus, PacketOut, FlowMod, PortMod, StatsRequest, StatsReply, BarrierRequest, BarrierReply, QueueGetConfigRequest, QueueGetConfigReply}
use Rattle.of_wire.specs.declared.message.Envelope.{Envelope}
use Rattle.of_wire.specs.declared.fault.WireFault.{WireFault}
use Rattle.of_wire.specs.Reading.{reading_of}
use Rattle.flow_table.specs.Change.{unless_refused}
use Rattle.flow_table.specs.Switch.{Declared, SwitchState, port_at}
use Rattle.flow_table.specs.Refusals.{message_refusal}
use Rattle.flow_table.specs.Frames.{after_output, after_outputs, after_counts, after_lookup, hit_outputs, entry_hit, after_packet_output, after_packet_outputs, takes, after_arrival, after_frame}
use Rattle.flow_table.specs.Step.{can_add, after_taken, after_message, after_port_change, after_stimulus}
use Rattle.outside.specs.declared.step.WorldStep.{WorldStep}
use Rattle.outside.specs.declared.step.WorldStep.TheVariants.{Acted, TookInto, From, Joined, Left, Moment, Idle, End, Opened, NotOpened, NextFailed, SendLost, RecvLost, SendFailed, RecvFailed}
use Rattle.outside.specs.declared.call.FailCall.{FailCall}
use Rattle.outside.specs.Seen.{Seen}
use Rattle.outside.specs.State.{Link, State, link_at_first, at_first, link_of, switch_in, switch_of, with_link, switch_joined, link_joined, link_left, link_stimulated, switch_told, link_sent, link_got, link_told, link_lost, link_failed, after_stim, after_act, after_step, after_steps, state}
use Rattle.outside.specs.Conforming.{IsStimulus, IsWorldStim, MayAct, MayStep, MaySteps, Conforming}
use Rattle.switch_laws.specs.Clock.{StandsAt, InTime}

-- ---- One switch

-- what keeps both
abbrev Lasting : ℕ → Declared → (SwitchState → SwitchState) → Type 0
Lasting moment d f = (s : SwitchState) → StandsAt moment d s → StandsAt moment d (f s)

outputs-stand : (in_port : ℕ) (outs : List (ℕ × List ℕ)) (moment : ℕ) (d : Declared) → Lasting moment d (after_outputs in_port outs)
unfolding after_outputs
outputs-stand in_port [] moment d s is = is
outputs-stand in_port (out ∷ outs) moment d s is = outputs-stand in_port outs moment d (after_output in_port out s) (record { moment_is = is.moment_is; declared = is.declared })

counts-stand : (in_port : ℕ) (frame : List ℕ) (moment : ℕ) (d : Declared) → Lasting moment d (after_counts in_port frame)
unfolding after_counts
counts-stand in_port frame moment d s is = record { moment_is = is.moment_is; declared = is.declared }

lookup-stands : (in_port : ℕ) (frame : List ℕ) (moment : ℕ) (d : Declared) → Lasting moment d (after_lookup in_port frame)
unfolding after_lookup
lookup-stands in_port frame moment d s is =
    outputs-stand in_port (hit_outputs (entry_hit in_port frame s) frame) moment d (after_counts in_port frame s) (counts-stand in_port frame moment d s is)

packet_output-stands : (in_port : ℕ) (out : ℕ × List ℕ) (moment : ℕ) (d : Declared) → Lasting moment d (after_packet_output in_port out)
unfolding after_packet_output
packet_output-stands in_port out moment d s is =
    elim (cases_Bool (out.0 == 0xfff9)) [
      | inl table ↦ rw table (lookup-stands in_port out.1 moment d s is)
      | inr other ↦ rw other (record { moment_is = is.moment_is; declared = is.declared })
    ]

packet_outputs-stand : (in_port : ℕ) (outs : List (ℕ × List ℕ)) (moment : ℕ) (d : Declared) → Lasting moment d (after_packet_outputs in_port outs)
unfolding after_packet_outputs
packet_outputs-stand in_port [] moment d s is = is
packet_outputs-stand in_port (out ∷ outs) moment d s is = packet_outputs-stand in_port outs moment d (after_packet_output in_port out s) (packet_output-stands in_port out moment d s is)

frame-stands : (port : ℕ) (bytes : List ℕ) (moment : ℕ) (d : Declared) → Lasting moment d (after_frame port bytes)
unfolding after_frame
frame-stands port bytes moment d s is =
    elim (cases_Bool (takes (port_at port s.ports))) [
      | inl taken ↦ rw taken (lookup-stands port bytes moment d (after_arrival port bytes s) (record { moment_is = is.moment_is; declared = is.declared }))
      | inr dropped ↦ rw dropped is
    ]

port-stands : (port : ℕ) (change : PortChange) (moment : ℕ) (d : Declared) → Lasting moment d (after_port_change port change)
unfolding after_port_change
port-stands port changes.Up moment d s is = record { moment_is = is.moment_is; declared = is.declared }
port-stands port changes.Down moment d s is = record { moment_is = is.moment_is; declared = is.declared }
port-stands port changes.Add moment d s is =
    elim (cases_Bool (can_add port s.ports)) [
      | inl can ↦ rw can (record { moment_is = is.moment_is; declared = is.declared })
      | inr cannot ↦ rw cannot is
    ]
port-stands port changes.Delete moment d s is = record { moment_is = is.moment_is; declared = is.declared }

stimulus-stands : (x : Stimulus) → IsStimulus x → (moment : ℕ) (d : Declared) → Lasting moment d (after_stimulus x)
unfolding after_stimulus IsStimulus
stimulus-stands (Frame port bytes) may moment d s is = frame-stands port bytes moment d s is
stimulus-stands (Advance t) may moment d s is = absurd may
stimulus-stands (Port port change) may moment d s is = port-stands port change moment d s is
stimulus-stands (Counts priority packets bytes) may moment d s is = record { moment_is = is.moment_is; declared = is.declared }
stimulus-stands (Raw bytes) may moment d s is = is

-- time passes
passed-stands : (t moment : ℕ) (d : Declared) (s : SwitchState) → StandsAt moment d s → StandsAt t d (after_stimulus (Advance t) s)
unfolding after_stimulus
passed-stands t moment d s is = record { moment_is = refl; declared = is.declared }

taken-stands : (m : Message) (moment : ℕ) (d : Declared) → Lasting moment d (after_taken m)
unfolding after_taken
taken-stands (FlowMod m) moment d s is = record { moment_is = is.moment_is; declared = is.declared }
taken-stands (PacketOut m) moment d s is = packet_outputs-stand m.in_port _ moment d s is
taken-stands (PortMod m) moment d s is = record { moment_is = is.moment_is; declared = is.declared }
taken-stands (SetConfig c) moment d s is = record { moment_is = is.moment_is; declared = is.declared }
taken-stands (Hello payload) moment d s is = is
taken-stands (Error kind code payload) moment d s is = is
taken-stands (EchoRequest payload) moment d s is = is
taken-stands (EchoReply payload) moment d s is = is
taken-stands (Vendor payload) moment d s is = is
taken-stands FeaturesRequest moment d s is = is
taken-stands (FeaturesReply features) moment d s is = is
taken-stands GetConfigRequest moment d s is = is
taken-stands (GetConfigReply config) moment d s is = is
taken-stands (PacketIn packet) moment d s is = is
taken-stands (FlowRemoved flow) moment d s is = is
taken-stands (PortStatus status) moment d s is = is
taken-stands (StatsRequest stats) moment d s is = is
taken-stands (StatsReply stats) moment d s is = is
taken-stands BarrierRequest moment d s is = is
taken-stands BarrierReply moment d s is = is
taken-stands (QueueGetConfigRequest payload) moment d s is = is
taken-stands (QueueGetConfigReply payload) moment d s is = is

unless-stands : (o : Option OfError) (moment : ℕ) (d : Declared) (before after : SwitchState) → StandsAt moment d before → StandsAt moment d after → StandsAt moment d (unless_refused o before after)
unless-stands None moment d before after h g = g
unless-stands (Some e) moment d before after h g = h

message-stands : (m : Message) (moment : ℕ) (d : Declared) → Lasting moment d (after_message m)
unfolding after_message
message-stands m moment d s is = unless-stands (message_refusal s m) moment d s (after_taken m s) is (taken-stands m moment d s is)

-- ---- Links

abbrev StandsIn : ℕ → Declared → Option SwitchState → Type 0
StandsIn moment d None = Unit {0}
StandsIn moment d (Some s) = StandsAt moment d s

abbrev LinksAt : ℕ → List Link → Type 0
LinksAt moment ls = AllByRecursion (λ l. StandsIn moment l.declared l.switch) ls

-- a change that keeps all that
abbrev KeepsTime : ℕ → (Link → Link) → Type 0
KeepsTime moment change = (l : Link) → StandsIn moment l.declared l.switch → StandsIn moment (change l).declared (change l).switch

stimulated : (x : Stimulus) → IsStimulus x → (moment : ℕ) (d : Declared) (o : Option SwitchState) → StandsIn moment d o → StandsIn moment d (option_map (after_stimulus x) o)
stimulated x may moment d None is = tt
stimulated x may moment d (Some s) is = stimulus-stands x may moment d s is

keeps-stimulated : (x : Stimulus) → IsStimulus x → (moment : ℕ) → KeepsTime moment (link_stimulated x)
unfolding link_stimulated
keeps-stimulated x may moment l is = stimulated x may moment l.declared l.switch is

joins : (moment : ℕ) (d : Declared) (o : Option SwitchState) → StandsIn moment d o → StandsIn moment d (switch_joined moment d o)
joins moment d None is = record { moment_is = refl; declared = refl }
joins moment d (Some s) is = is

keeps-joined : (moment : ℕ) → KeepsTime moment (link_joined moment)
unfolding link_joined
keeps-joined moment l is = joins moment l.declared l.switch is

keeps-left : (moment : ℕ) → KeepsTime moment link_left
unfolding link_left
keeps-left moment l is = tt

told : (r : Result Envelope WireFault) (moment : ℕ) (d : Declared) (o : Option SwitchState) → StandsIn moment d o → StandsIn moment d (switch_told r o)
told (Ok e) moment d None is = tt
told (Ok e) moment d (Some s) is = message-stands e.message moment d s is
told (Err fault) moment d None is = tt
told (Err fault) moment d (Some s) is = is

keeps-sent : (bytes : List ℕ) (moment : ℕ) → KeepsTime moment (link_sent bytes)
unfolding link_sent
keeps-sent bytes moment l is = told (reading_of bytes) moment l.declared l.switch is

keeps-got : (moment : ℕ) → KeepsTime moment link_got
unfolding link_got
keeps-got moment l is = is

keeps-told : (moment : ℕ) → KeepsTime moment link_told
unfolding link_told
keeps-told moment l is = is

keeps-lost : (moment : ℕ) → KeepsTime moment link_lost
unfolding link_lost
keeps-lost moment l is = tt

keeps-failed : (moment : ℕ) → KeepsTime moment link_failed
unfolding link_failed
keeps-failed moment l is = is

one : (moment : ℕ) (d : ℕ) (change : Link → Link) → KeepsTime moment change → (ls : List Link) → LinksAt moment ls → LinksAt moment (with_link d change ls)
one moment d change keeps [] all = tt
one moment d change keeps (l ∷ ls) all =
    elim (cases_Bool (l.declared.dpid == d)) [
      | inl here ↦ rw here (keeps l all.0, all.1)
      | inr other ↦ rw other (all.0, one moment d change keeps ls all.1)
    ]

passed : (t moment : ℕ) (d : Declared) (o : Option SwitchState) → StandsIn moment d o → StandsIn t d (option_map (after_stimulus (Advance t)) o)
passed t moment d None is = tt
passed t moment d (Some s) is = passed-stands t moment d s is

link-passed : (t moment : ℕ) (l : Link) → StandsIn moment l.declared l.switch → StandsIn t (link_stimulated (Advance t) l).declared (link_stimulated (Advance t) l).switch
unfolding link_stimulated
link-passed t moment l is = passed t moment l.declared l.switch is

all-passed : (t moment : ℕ) (ls : List Link) → LinksAt moment ls → LinksAt t (map (link_stimulated (Advance t)) ls)
all-passed t moment [] all = tt
all-passed t moment (l ∷ ls) all = (link-passed t moment l all.0, all-passed t moment ls all.1)

-- ---- Steps

record Clock (s : State) : Type 0 where
  links : LinksAt s.moment s.links
  within : s.moment < 2 ^ 32

stim-clock : (declared : List Declared) (x : WorldStim) (s : State) → IsWorldStim declared s.moment x → Clock s → Clock (after_stim x s)
unfolding after_stim IsWorldStim
stim-clock declared (Join d) s may is = record { links = one s.moment d (link_joined s.moment) (keeps-joined s.moment) s.links is.links; within = is.within }
stim-clock declared (Leave d) s may is = record { links = one s.moment d link_left (keeps-left s.moment) s.links is.links; within = is.within }
stim-clock declared (At t) s may is = record { links = all-passed t s.moment s.links is.links; within = omega (arith, may.1) }
stim-clock declared (Of d x) s may is = record { links = one s.moment d (link_stimulated x) (keeps-stimulated x may.1 s.moment) s.links is.links; within = is.within }

act-clock : (declared : List Declared) (act : Act) (s : State) → MayAct declared act s → Clock s → Clock (after_act act s)
unfolding after_act MayAct
act-clock declared (Stim x) s may is = stim-clock declared x s may.stimulus is
act-clock declared (Started app ok) s may is = record { links = is.links; within = is.within }
act-clock declared (Gave app bytes) s may is = record { links = is.links; within = is.within }
act-clock declared (Gone app bytes) s may is = is
act-clock declared (Took app what) s may is = is
act-clock declared (Ended app) s may is = record { links = is.links; within = is.within }
act-clock declared (Sent d bytes) s may is = record { links = one s.moment d (link_sent bytes) (keeps-sent bytes s.moment) s.links is.links; within = is.within }
act-clock declared (Got d bytes) s may is = record { links = one s.moment d link_got (keeps-got s.moment) s.links is.links; within = is.within }
act-clock declared (Lost d) s may is = absurd may

step-clock : (declared : List Declared) (step : WorldStep) (s : State) → MayStep declared step s → Clock s → Clock (after_step step s)
unfolding after_step MayStep
step-clock declared (Acted act) s may is = act-clock declared act s may is
step-clock declared (TookInto app what room) s may is = is
step-clock declared (From d bytes) s may is = record { links = one s.moment d link_told (keeps-told s.moment) s.links is.links; within = is.within }
step-clock declared (Joined d bytes) s may is = record { links = is.links; within = is.within }
step-clock declared (Left d) s may is = record { links = is.links; within = is.within }
step-clock declared (Moment t) s may is = record { links = is.links; within = is.within }
step-clock declared Idle s may is = record { links = is.links; within = is.within }
step-clock declared End s may is = is
step-clock declared Opened s may is = record { links = is.links; within = is.within }
step-clock declared NotOpened s may is = record { links = is.links; within = is.within }
step-clock declared NextFailed s may is = is
step-clock declared (SendLost d) s may is = record { links = one s.moment d link_lost (keeps-lost s.moment) s.links is.links; within = is.within }
step-clock declared (RecvLost d) s may is = record { links = one s.moment d link_lost (keeps-lost s.moment) s.links is.links; within = is.within }
step-clock declared (SendFailed d) s may is = record { links = one s.moment d link_failed (keeps-failed s.moment) s.links is.links; within = is.within }
step-clock declared (RecvFailed d) s may is = record { links = one s.moment d link_failed (keeps-failed s.moment) s.links is.links; within = is.within }

steps-clock : (declared : List Declared) (steps : List WorldStep) (s : State) → MaySteps declared steps s → Clock s → Clock (after_steps steps s)
steps-clock declared [] s may is = is
steps-clock declared (step ∷ steps) s may is = steps-clock declared steps (after_step step s) may.1 (step-clock declared step s may.0 is)

first-links : (fails : List FailCall) (ds : List Declared) → LinksAt 0 (map (link_at_first fails) ds)
first-links fails [] = tt
first-links fails (d ∷ ds) = (tt, first-links fails ds)

state-clock : {Own : Type 0} (seen : Seen Own) → Conforming seen → Clock (state seen)
unfolding state at_first
state-clock seen keeps =
    steps-clock seen.given.declared seen.history (at_first seen.given) keeps.steps (record { links = first-links seen.given.fails seen.given.declared; within = omega arith })

-- ---- A switch that is joined

switch_in_time : (moment d : ℕ) (ls : List Link) (x : SwitchState) → LinksAt moment ls → switch_in (link_of d ls) ≡ Some x → InTime d moment x
switch_in_time moment d [] x all is = absurd cc
switch_in_time moment d (l ∷ ls) x all is =
    elim (cases_Bool (l.declared.dpid == d)) [
      | inl here ↦ in_time moment d l.declared l.switch x (rw here at is) all.0 (eqb-true l.declared.dpid d here)
      | inr other ↦ switch_in_time moment d ls x all.1 (rw other at is)
    ]
  where
    in_time : (moment d : ℕ) (c : Declared) (o : Option SwitchState) (x : SwitchState) → o ≡ Some x → StandsIn moment c o → c.dpid ≡ d → InTime d moment x
    in_time moment d c None x is stands same = absurd cc
    in_time moment d c (Some s) x is stands same =
        let one : s ≡ x = cc in
        record { number = ap (λ (y : SwitchState). y.declared.dpid) (sym one) ∙ ap (λ (y : Declared). y.dpid) stands.declared ∙ same; moment_is = ap (λ (y : SwitchState). y.moment) (sym one) ∙ stands.moment_is }

pub switch-in_time : {Own : Type 0} (seen : Seen Own) → Conforming seen → (d : ℕ) (x : SwitchState) → switch_of d (state seen) ≡ Some x → InTime d (state seen).moment x
unfolding switch_of
switch-in_time seen keeps d x is = switch_in_time (state seen).moment d (state seen).links x (state-clock seen keeps).links is

pub moment-within : {Own : Type 0} (seen : Seen Own) → Conforming seen → (state seen).moment < 2 ^ 32
moment-within seen keeps = (state-clock seen keeps).within
