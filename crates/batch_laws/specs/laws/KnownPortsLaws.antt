-- The engine knows the ports of a switch once while it has a view, and never else.
use Rattle.std.specs.Prelude.{◌≡◌, ◌==◌, ℕ, ◌+◌, ◌≤◌, Bool, true, false, not, List, [], ◌∷◌, ◌++◌, length, filter, Option, Some, None, Result, Ok, Err, is_some, if◌then◌else◌, refl}
use Rattle.std.specs.Option.{option_map}
use Rattle.std.proofs.Common.{suc, sym, ap, ◌∙◌, subst, inl, inr, arith}
use Rattle.std.proofs.lemmas.Bool.{cases_Bool, cases_eq, eqb-true, eq-eqb, ne_eqb}
use Rattle.std.proofs.lemmas.Option.{same_Some}
use Rattle.of_types.specs.declared.port_desc.PortDesc.{PortDesc}
use Rattle.of_wire.specs.declared.bodies.PortStatus.{PortStatus as Status}
use Rattle.of_wire.specs.declared.message.Message.{Message}
use Rattle.of_wire.specs.declared.message.Message.TheVariants.{Hello, Error, EchoRequest, EchoReply, Vendor, FeaturesRequest, FeaturesReply, GetConfigRequest, GetConfigReply, SetConfig, PacketIn, FlowRemoved, PortStatus, PacketOut, FlowMod, PortMod, StatsRequest, StatsReply, BarrierRequest, BarrierReply, QueueGetConfigRequest, QueueGetConfigReply}
use Rattle.of_wire.specs.declared.message.Envelope.{Envelope}
use Rattle.of_wire.specs.declared.fault.WireFault.{WireFault}
use Rattle.of_wire.specs.Reading.{reading_of}
use Rattle.flow_table.specs.declared.view.ViewRow.{ViewRow}
use Rattle.flow_table.specs.Switch.{SwitchState}
use Rattle.app_frames.specs.declared.frame.Event.{Event}
use Rattle.lego_model.specs.Answers.{rows_of_view}
use Rattle.lego_model.specs.Events.{ports_of}
use Rattle.outside.specs.declared.step.WorldStep.{WorldStep}
use Rattle.outside.specs.declared.step.WorldStep.TheVariants.{Acted, TookInto, From, Joined, Left, Moment, Idle, End, Opened, NotOpened, NextFailed, SendLost, RecvLost, SendFailed, RecvFailed}
use Rattle.outside.specs.Seen.{Seen}
use Rattle.outside.specs.State.{state, switch_of}
use Rattle.net_txn.specs.declared.ports.KnownPorts.{KnownPorts}
use Rattle.net_txn.specs.Net.{NetState}
use Rattle.net_txn.specs.Views.{rows_at}
use Rattle.net_txn.specs.Joining.{with_view}
use Rattle.net_txn.specs.Arriving.{ports_after, known_after}
use Rattle.flow_table.specs.Sorted.{without_key}
use Rattle.flow_table.specs.RowKeys.{key_removed}
use Rattle.net_txn.specs.laws.ViewLaws.{rows_at-stays}
use Rattle.net_txn.specs.laws.JoiningLaws.{rows_at-with_view, rows_at-with_view-other}
use Rattle.switch_laws.specs.Since.{Ready, ports_known}
use Rattle.switch_laws.specs.laws.LossLaws.{rows-gone, rows-stay, known-gone, known-stay}
use Rattle.batch_laws.specs.Calm.{known_ports}
use Rattle.batch_laws.specs.Knowledge.{Knowledge, knowledge_of, is_known, told_message, told_read, joined_by, joined_read, handled, handled_all, ports_lost}
use Rattle.lego_model.specs.Places.{table_rows}
use Rattle.app_frames.specs.Spelling.{bit}

-- ---- Known ports, once or not at all

-- at most once while the switch has a view, and never else
abbrev pub KnowsOnce : Knowledge → Type 0
KnowsOnce k = (d : ℕ) → length (ports_lost d k.ports) ≤ bit (is_known d k)

first_of : List KnownPorts → Option (List PortDesc)
first_of [] = None
first_of (k ∷ ks) = Some k.ports

known_first : (d : ℕ) (ks : List KnownPorts) → known_ports d ks ≡ first_of (ports_lost d ks)
unfolding first_of
known_first d [] = refl
known_first d (k ∷ ks) =
    elim (cases_Bool (k.dpid == d)) [
      | inl here ↦ rw here refl
      | inr other ↦ rw other (known_first d ks)
    ]

first_known : (d : ℕ) (o : Option SwitchState) → first_of (ports_known d o) ≡ option_map ports_of o
unfolding first_of
first_known d None = refl
first_known d (Some s) = refl

-- what is known of a switch by its number is what is known of it first
pub known-first : (d : ℕ) (ks : List KnownPorts) (o : Option SwitchState) → ports_lost d ks ≡ ports_known d o → known_ports d ks ≡ option_map ports_of o
known-first d ks o is = known_first d ks ∙ ap first_of is ∙ first_known d o

no_more : (k : KnownPorts) (ks : List KnownPorts) → length (k ∷ ks) ≤ 1 → ks ≡ []
no_more k [] few = refl
no_more k (j ∷ ks) few = absurd (omega (arith, few))

none_known : (d : ℕ) (ks : List KnownPorts) → known_ports d ks ≡ None → ports_lost d ks ≡ []
none_known d [] is = refl
none_known d (k ∷ ks) is =
    elim (cases_Bool (k.dpid == d)) [
      | inl here ↦ (let h = rw here at is in absurd cc)
      | inr other ↦ rw other (none_known d ks (rw other at is))
    ]

one_known : (d : ℕ) (ks : List KnownPorts) (ports : List PortDesc) → length (ports_lost d ks) ≤ 1 → known_ports d ks ≡ Some ports → ports_lost d ks ≡ record { dpid = d; ports = ports } ∷ []
one_known d [] ports few is = absurd cc
one_known d (k ∷ ks) ports few is =
    elim (cases_Bool (k.dpid == d)) [
      | inl here ↦
          let rest : ports_lost d ks ≡ [] = no_more k (ports_lost d ks) (rw here at few) in
          rw (here, rest) (this k (eqb-true k.dpid d here) (same_Some k.ports ports (rw here at is)))
      | inr other ↦ rw other (one_known d ks ports (rw other at few) (rw other at is))
    ]
  where
    this : (p : KnownPorts) → p.dpid ≡ d → p.ports ≡ ports → p ∷ [] ≡ record { dpid = d; ports = ports } ∷ []
    this p number same = rw (← number, ← same) refl

once_most : (b : Bool) (n : ℕ) → n ≤ bit b → n ≤ 1
once_most true n few = few
once_most false n few = omega (arith, few)

-- what is known of a switch, whichever way it is looked at
pub known-once : (d : ℕ) (k : Knowledge) (o : Option SwitchState) → KnowsOnce k → known_ports d k.ports ≡ option_map ports_of o → ports_lost d k.ports ≡ ports_known d o
known-once d k None knows is = none_known d k.ports is
known-once d k (Some s) knows is = one_known d k.ports (ports_of s) (once_most (is_known d k) (length (ports_lost d k.ports)) (knows d)) is

-- ---- At first

rows_some : (rows : Option (List ViewRow)) (s : SwitchState) → option_map rows_of_view rows ≡ Some (table_rows s) → is_some rows ≡ true
rows_some None s is = absurd cc
rows_some (Some rows) s is = refl

pub ready-once : {Own : Type 0} (seen : Seen Own) (net : NetState) (queue : List Event) → Ready seen net → KnowsOnce (knowledge_of net queue)
ready-once seen net queue ready d = by (switch_of d (state seen)) (ready.known d) (ready.agrees d)
  where
    by : (o : Option SwitchState) → ports_lost d net.ports ≡ ports_known d o → option_map rows_of_view (rows_at d net.views) ≡ option_map table_rows o → length (ports_lost d net.ports) ≤ bit (is_some (rows_at d net.views))
    by None known agrees = omega (arith, ap length known)
    by (Some s) known agrees = rw (rows_some (rows_at d net.views) s agrees) (omega (arith, ap length known))

-- ---- Each item keeps it so

pub views_stay : (d e : ℕ) (m : Message) (k : Knowledge) → is_known e (told_message d m k) ≡ is_known e k
views_stay d e (FlowRemoved f) k = rows_at-stays d e (without_key (key_removed f)) k.views
views_stay d e (Hello payload) k = refl
views_stay d e (Error kind code payload) k = refl
views_stay d e (EchoRequest payload) k = refl
views_stay d e (EchoReply payload) k = refl
views_stay d e (Vendor payload) k = refl
views_stay d e FeaturesRequest k = refl
views_stay d e (FeaturesReply features) k = refl
views_stay d e GetConfigRequest k = refl
views_stay d e (GetConfigReply config) k = refl
views_stay d e (SetConfig config) k = refl
views_stay d e (PacketIn packet) k = refl
views_stay d e (PortStatus status) k = refl
views_stay d e (PacketOut packet) k = refl
views_stay d e (FlowMod flow) k = refl
views_stay d e (PortMod change) k = refl
views_stay d e (StatsRequest stats) k = refl
views_stay d e (StatsReply stats) k = refl
views_stay d e BarrierRequest k = refl
views_stay d e BarrierReply k = refl
views_stay d e (QueueGetConfigRequest payload) k = refl
views_stay d e (QueueGetConfigReply payload) k = refl

changed_count : (d e : ℕ) (status : Status) (ks : List KnownPorts) → length (ports_lost e (known_after d status ks)) ≡ length (ports_lost e ks)
changed_count d e status [] = refl
changed_count d e status (k ∷ ks) =
    elim (cases_Bool (k.dpid == d)) [
      | inl here ↦ rw here (at (k.dpid == e))
      | inr other ↦ rw other (behind (k.dpid == e) (changed_count d e status ks))
    ]
  where
    at : (b : Bool) → length (if b then record k { ports = ports_after status k.ports } ∷ ports_lost e ks else ports_lost e ks) ≡ length (if b then k ∷ ports_lost e ks else ports_lost e ks)
    at true = refl
    at false = refl

    behind : (b : Bool) → length (ports_lost e (known_after d status ks)) ≡ length (ports_lost e ks)
        → length (if b then k ∷ ports_lost e (known_after d status ks) else ports_lost e (known_after d status ks)) ≡ length (if b then k ∷ ports_lost e ks else ports_lost e ks)
    behind true rest = ap suc rest
    behind false rest = rest

ports_stay : (d e : ℕ) (m : Message) (k : Knowledge) → length (ports_lost e (told_message d m k).ports) ≡ length (ports_lost e k.ports)
ports_stay d e (PortStatus status) k = changed_count d e status k.ports
ports_stay d e (FlowRemoved f) k = refl
ports_stay d e (Hello payload) k = refl
ports_stay d e (Error kind code payload) k = refl
ports_stay d e (EchoRequest payload) k = refl
ports_stay d e (EchoReply payload) k = refl
ports_stay d e (Vendor payload) k = refl
ports_stay d e FeaturesRequest k = refl
ports_stay d e (FeaturesReply features) k = refl
ports_stay d e GetConfigRequest k = refl
ports_stay d e (GetConfigReply config) k = refl
ports_stay d e (SetConfig config) k = refl
ports_stay d e (PacketIn packet) k = refl
ports_stay d e (PacketOut packet) k = refl
ports_stay d e (FlowMod flow) k = refl
ports_stay d e (PortMod change) k = refl
ports_stay d e (StatsRequest stats) k = refl
ports_stay d e (StatsReply stats) k = refl
ports_stay d e BarrierRequest k = refl
ports_stay d e BarrierReply k = refl
ports_stay d e (QueueGetConfigRequest payload) k = refl
ports_stay d e (QueueGetConfigReply payload) k = refl

told_once : (d : ℕ) (m : Message) (k : Knowledge) → KnowsOnce k → KnowsOnce (told_message d m k)
told_once d m k knows e = rw (ports_stay d e m k, views_stay d e m k) (knows e)

read_once : (d : ℕ) (r : Result Envelope WireFault) (k : Knowledge) → KnowsOnce k → KnowsOnce (told_read d r k)
read_once d (Ok e) k knows = told_once d e.message k knows
read_once d (Err fault) k knows = knows

abbrev only : ℕ → List PortDesc → List KnownPorts
only d ports = record { dpid = d; ports = ports } ∷ []

-- one more at the end
added : (d e : ℕ) (ports : List PortDesc) (ks : List KnownPorts) → length (ports_lost e (ks ++ record { dpid = d; ports = ports } ∷ [])) ≡ length (ports_lost e ks) + (if d == e then 1 else 0)
added d e ports [] = at (d == e)
  where
    at : (b : Bool) → length (if b then only d ports else []) ≡ 0 + (if b then 1 else 0)
    at true = refl
    at false = refl
added d e ports (k ∷ ks) =
    elim (cases_Bool (k.dpid == e)) [
      | inl here ↦ rw here (omega (arith, added d e ports ks))
      | inr other ↦ rw other (added d e ports ks)
    ]

few_one : (n : ℕ) → n ≤ 0 → n + 1 ≤ 1
few_one n few = omega (arith, few)

few_none : (n most : ℕ) → n ≤ most → n + 0 ≤ most
few_none n most few = omega (arith, few)

joins_once : (d : ℕ) (ports : List PortDesc) (queue : List Event) (k : Knowledge) → is_known d k ≡ false → KnowsOnce k
    → KnowsOnce (record { views = with_view d k.views; ports = k.ports ++ record { dpid = d; ports = ports } ∷ []; moment = k.moment; queue = queue })
joins_once d ports queue k out knows e =
    elim (cases_eq e d) [
      | inl same ↦ subst (λ (n : ℕ). length (ports_lost n (k.ports ++ record { dpid = d; ports = ports } ∷ [])) ≤ bit (is_some (rows_at n (with_view d k.views)))) (sym same)
          (rw (ap is_some (rows_at-with_view d k.views), added d d ports k.ports, eq-eqb d d refl) (few_one (length (ports_lost d k.ports)) (rw out at (knows d))))
      | inr other ↦ rw (ap is_some (rows_at-with_view-other d e k.views other), added d e ports k.ports, ne_eqb d e (λ same. other (sym same))) (few_none (length (ports_lost e k.ports)) (bit (is_known e k)) (knows e))
    ]

entered_once : (d : ℕ) (m : Message) (k : Knowledge) → is_known d k ≡ false → KnowsOnce k → KnowsOnce (joined_by d m k)
entered_once d (FeaturesReply features) k out knows = joins_once d features.ports k.queue k out knows
entered_once d (Hello payload) k out knows = knows
entered_once d (Error kind code payload) k out knows = knows
entered_once d (EchoRequest payload) k out knows = knows
entered_once d (EchoReply payload) k out knows = knows
entered_once d (Vendor payload) k out knows = knows
entered_once d FeaturesRequest k out knows = knows
entered_once d GetConfigRequest k out knows = knows
entered_once d (GetConfigReply config) k out knows = knows
entered_once d (SetConfig config) k out knows = knows
entered_once d (PacketIn packet) k out knows = knows
entered_once d (FlowRemoved flow) k out knows = knows
entered_once d (PortStatus status) k out knows = knows
entered_once d (PacketOut packet) k out knows = knows
entered_once d (FlowMod flow) k out knows = knows
entered_once d (PortMod change) k out knows = knows
entered_once d (StatsRequest stats) k out knows = knows
entered_once d (StatsReply stats) k out knows = knows
entered_once d BarrierRequest k out knows = knows
entered_once d BarrierReply k out knows = knows
entered_once d (QueueGetConfigRequest payload) k out knows = knows
entered_once d (QueueGetConfigReply payload) k out knows = knows

joined_once : (d : ℕ) (r : Result Envelope WireFault) (k : Knowledge) → is_known d k ≡ false → KnowsOnce k → KnowsOnce (joined_read d r k)
joined_once d (Ok e) k out knows = entered_once d e.message k out knows
joined_once d (Err fault) k out knows = knows

-- a switch is taken out
leaves_once : (d : ℕ) (queue : List Event) (k : Knowledge) → KnowsOnce k
    → KnowsOnce (record { views = filter (λ v. not (v.dpid == d)) k.views; ports = filter (λ p. not (p.dpid == d)) k.ports; moment = k.moment; queue = queue })
leaves_once d queue k knows e =
    elim (cases_eq e d) [
      | inl same ↦ subst (λ (n : ℕ). length (ports_lost n (filter (λ p. not (p.dpid == d)) k.ports)) ≤ bit (is_some (rows_at n (filter (λ v. not (v.dpid == d)) k.views)))) (sym same)
          (rw (known-gone d k.ports, ap is_some (rows-gone d k.views)) (omega arith))
      | inr other ↦ rw (known-stay d e other k.ports, rows-stay d e other k.views) (knows e)
    ]

pub handled-once : (item : WorldStep) (k : Knowledge) → KnowsOnce k → KnowsOnce (handled item k)
unfolding handled
handled-once (From d bytes) k knows =
    elim (cases_Bool (is_known d k)) [
      | inl known ↦ rw known (read_once d (reading_of bytes) k knows)
      | inr out ↦ rw out knows
    ]
handled-once (Joined d bytes) k knows =
    elim (cases_Bool (is_known d k)) [
      | inl known ↦ rw known knows
      | inr out ↦ rw out (joined_once d (reading_of bytes) k out knows)
    ]
handled-once (Left d) k knows =
    elim (cases_Bool (is_known d k)) [
      | inl known ↦ rw known (leaves_once d k.queue k knows)
      | inr out ↦ rw out knows
    ]
handled-once (Moment t) k knows = knows
handled-once (Acted act) k knows = knows
handled-once (TookInto app what room) k knows = knows
handled-once Idle k knows = knows
handled-once End k knows = knows
handled-once Opened k knows = knows
handled-once NotOpened k knows = knows
handled-once NextFailed k knows = knows
handled-once (SendLost d) k knows = knows
handled-once (RecvLost d) k knows = knows
handled-once (SendFailed d) k knows = knows
handled-once (RecvFailed d) k knows = knows

pub handled_all-once : (items : List WorldStep) (k : Knowledge) → KnowsOnce k → KnowsOnce (handled_all items k)
handled_all-once [] k knows = knows
handled_all-once (item ∷ items) k knows = handled_all-once items (handled item k) (handled-once item k knows)
