-- What follows about messages that are refused, and about those that are not.
use Rattle.std.proofs.Common.{◌≡◌, ◌==◌, ◌≤◌, ℕ, Bool, true, false, cond, nat_lt, [], ◌∷◌, length, Option, Some, None, Result, Ok, Err, IfOk, OnOk, if◌then◌else◌, refl, sym, ap, ◌∙◌}
use Rattle.std.proofs.lemmas.Bool.{eqb-true, ltb-false}
use Rattle.of_types.specs.declared.errors.OfError.{OfError}
use Rattle.of_wire.specs.declared.bodies.FlowMod.{FlowMod as FlowModBody}
use Rattle.of_wire.specs.declared.bodies.PacketOut.{PacketOut as PacketOutBody}
use Rattle.of_wire.specs.declared.bodies.PortMod.{PortMod as PortModBody}
use Rattle.of_wire.specs.declared.bodies.Stats.{Stats as StatsBody}
use Rattle.of_wire.specs.declared.bodies.SwitchConfig.{SwitchConfig as Config}
use Rattle.of_wire.specs.declared.message.Message.{Message}
use Rattle.of_wire.specs.declared.message.Message.TheVariants.{Hello, Error, EchoRequest, EchoReply, Vendor, FeaturesRequest, FeaturesReply, GetConfigRequest, GetConfigReply, SetConfig, PacketIn, FlowRemoved, PortStatus, PacketOut, FlowMod, PortMod, StatsRequest, StatsReply, BarrierRequest, BarrierReply, QueueGetConfigRequest, QueueGetConfigReply}
use Rattle.flow_table.specs.Change.{unless_refused, refusal}
use Rattle.flow_table.specs.Errors.{bad_stat, bad_len}
use Rattle.flow_table.specs.Switch.{SwitchState, features_reply}
use Rattle.flow_table.specs.Refusals.{or_else, flow_refusal, query_size, stats_refusal, message_refusal}
use Rattle.flow_table.specs.Step.{after_taken, sent_by_taken, answered, after_message, sent_by_message}
use Rattle.switch_sim.specs.Words.{IsQuestion}
use Rattle.switch_sim.specs.Words.{early_refusal}

-- ---- A message that is refused, and one that is not

pub refused_after : (m : Message) (s : SwitchState) (e : OfError) → message_refusal s m ≡ Some e → s ≡ after_message m s
unfolding after_message
refused_after m s e is = sym (ap (λ (o : Option OfError). unless_refused o s (after_taken m s)) is)

pub taken_sent : (xid : ℕ) (m : Message) (s : SwitchState) → message_refusal s m ≡ None → sent_by_message xid m s ≡ sent_by_taken xid m s
unfolding sent_by_message
taken_sent xid m s is = ap (answered xid m s) is

pub taken_after : (m : Message) (s : SwitchState) → message_refusal s m ≡ None → after_message m s ≡ after_taken m s
unfolding after_message
taken_after m s is = ap (λ (o : Option OfError). unless_refused o s (after_taken m s)) is

-- ---- A refusal before the table's

or_first : (a b : Option OfError) (e : OfError) → a ≡ Some e → or_else a b ≡ Some e
or_first a b e is = rw is refl

or_second : (a b o : Option OfError) → a ≡ None → b ≡ o → or_else a b ≡ o
or_second a b o none is = rw (none, is) refl

pub flow_mod_free : (s : SwitchState) (m : FlowModBody) (o : Option OfError) → flow_refusal s.had m ≡ None → refusal s.declared.cap m s.table.entries ≡ o → message_refusal s (FlowMod m) ≡ o
unfolding message_refusal
flow_mod_free s m o none is = or_second (flow_refusal s.had m) (refusal s.declared.cap m s.table.entries) o none is

pub early_some : (s : SwitchState) (m : Message) (e : OfError) → early_refusal s m ≡ Some e → message_refusal s m ≡ Some e
unfolding message_refusal
early_some s (FlowMod m) e is = or_first (flow_refusal s.had m) (refusal s.declared.cap m s.table.entries) e is
early_some s (Hello payload) e is = is
early_some s (Error kind code payload) e is = is
early_some s (EchoRequest payload) e is = is
early_some s (EchoReply payload) e is = is
early_some s (Vendor payload) e is = is
early_some s FeaturesRequest e is = is
early_some s (FeaturesReply m) e is = is
early_some s GetConfigRequest e is = is
early_some s (GetConfigReply m) e is = is
early_some s (SetConfig m) e is = is
early_some s (PacketIn m) e is = is
early_some s (FlowRemoved m) e is = is
early_some s (PortStatus m) e is = is
early_some s (PacketOut m) e is = is
early_some s (PortMod m) e is = is
early_some s (StatsRequest m) e is = is
early_some s (StatsReply m) e is = is
early_some s BarrierRequest e is = is
early_some s BarrierReply e is = is
early_some s (QueueGetConfigRequest payload) e is = is
early_some s (QueueGetConfigReply payload) e is = is

-- ---- A request for statistics that is not refused

later_none : (b : Bool) (e : OfError) (o : Option OfError) → cond b (Some e) o ≡ None → o ≡ None
later_none true e o none = absurd cc
later_none false e o none = none

held : (b : Bool) (e : OfError) → cond b None (Some e) ≡ None → b ≡ true
held true e none = refl
held false e none = absurd cc

pub query_fits : (m : StatsBody) → stats_refusal m ≡ None → length m.body ≡ query_size m.kind
unfolding stats_refusal
query_fits m none =
    let sized = later_none (nat_lt 4 m.kind) bad_stat (if length m.body == query_size m.kind then None else Some bad_len) none in
    eqb-true (length m.body) (query_size m.kind) (held (length m.body == query_size m.kind) bad_len sized)

-- ---- Answers of calls, in words of equal values

pub if_gives : {A E : Type 0} (r : Result A E) (x y : A) → x ≡ y → IfOk r (λ l. l ≡ x) → IfOk r (λ l. l ≡ y)
if_gives (Ok l) x y same is = is ∙ same
if_gives (Err e) x y same is = tt

pub on_ok : {A E P : Type 0} (r : Result A E) → P → OnOk r P
on_ok (Ok l) p = p
on_ok (Err e) p = tt

known : (b : Bool) (e : OfError) (o : Option OfError) → cond b (Some e) o ≡ None → b ≡ false
known true e o none = absurd cc
known false e o none = refl

pub known_kind : (m : StatsBody) → stats_refusal m ≡ None → m.kind ≤ 4
unfolding stats_refusal
known_kind m none = ltb-false 4 m.kind (known (nat_lt 4 m.kind) bad_stat (if length m.body == query_size m.kind then None else Some bad_len) none)

pub port_query : (m : StatsBody) → stats_refusal m ≡ None → m.kind ≡ 4 → length m.body ≡ 8
port_query m none four = query_fits m none ∙ ap query_size four

pub ok_gives : {A E X : Type 0} (r : Result A E) (new x y : X) → x ≡ y → OnOk r (new ≡ x) → OnOk r (new ≡ y)
ok_gives (Ok l) new x y same is = is ∙ same
ok_gives (Err e) new x y same is = tt

-- ---- Messages that ask and change nothing

pub question_other : (s : SwitchState) (m : Message) → early_refusal s m ≡ None → ((x : FlowModBody) → m ≡ FlowMod x → ⊥) → ((x : PacketOutBody) → m ≡ PacketOut x → ⊥) → ((x : PortModBody) → m ≡ PortMod x → ⊥)
    → ((x : Config) → m ≡ SetConfig x → ⊥) → ((x : StatsBody) → m ≡ StatsRequest x → ⊥) → IsQuestion m
unfolding message_refusal
question_other s (FlowMod m) free flow packet port config stats = absurd (flow m refl)
question_other s (PacketOut m) free flow packet port config stats = absurd (packet m refl)
question_other s (PortMod m) free flow packet port config stats = absurd (port m refl)
question_other s (SetConfig m) free flow packet port config stats = absurd (config m refl)
question_other s (StatsRequest m) free flow packet port config stats = absurd (stats m refl)
question_other s (Hello payload) free flow packet port config stats = tt
question_other s (EchoRequest payload) free flow packet port config stats = tt
question_other s (EchoReply payload) free flow packet port config stats = tt
question_other s FeaturesRequest free flow packet port config stats = tt
question_other s GetConfigRequest free flow packet port config stats = tt
question_other s BarrierRequest free flow packet port config stats = tt
question_other s (Error kind code payload) free flow packet port config stats = absurd cc
question_other s (Vendor payload) free flow packet port config stats = absurd cc
question_other s (FeaturesReply m) free flow packet port config stats = absurd cc
question_other s (GetConfigReply m) free flow packet port config stats = absurd cc
question_other s (PacketIn m) free flow packet port config stats = absurd cc
question_other s (FlowRemoved m) free flow packet port config stats = absurd cc
question_other s (PortStatus m) free flow packet port config stats = absurd cc
question_other s (StatsReply m) free flow packet port config stats = absurd cc
question_other s BarrierReply free flow packet port config stats = absurd cc
question_other s (QueueGetConfigRequest payload) free flow packet port config stats = absurd cc
question_other s (QueueGetConfigReply payload) free flow packet port config stats = absurd cc

pub question_free : (s : SwitchState) (m : Message) → IsQuestion m → message_refusal s m ≡ None
unfolding message_refusal
question_free s (FlowMod m) is = absurd is
question_free s (PacketOut m) is = absurd is
question_free s (PortMod m) is = absurd is
question_free s (SetConfig m) is = absurd is
question_free s (StatsRequest m) is = absurd is
question_free s (Hello payload) is = refl
question_free s (EchoRequest payload) is = refl
question_free s (EchoReply payload) is = refl
question_free s FeaturesRequest is = refl
question_free s GetConfigRequest is = refl
question_free s BarrierRequest is = refl
question_free s (Error kind code payload) is = absurd is
question_free s (Vendor payload) is = absurd is
question_free s (FeaturesReply m) is = absurd is
question_free s (GetConfigReply m) is = absurd is
question_free s (PacketIn m) is = absurd is
question_free s (FlowRemoved m) is = absurd is
question_free s (PortStatus m) is = absurd is
question_free s (StatsReply m) is = absurd is
question_free s BarrierReply is = absurd is
question_free s (QueueGetConfigRequest payload) is = absurd is
question_free s (QueueGetConfigReply payload) is = absurd is

question_taken : (s : SwitchState) (m : Message) → IsQuestion m → after_taken m s ≡ s
unfolding after_taken
question_taken s (FlowMod m) is = absurd is
question_taken s (PacketOut m) is = absurd is
question_taken s (PortMod m) is = absurd is
question_taken s (SetConfig m) is = absurd is
question_taken s (StatsRequest m) is = refl
question_taken s (Hello payload) is = refl
question_taken s (EchoRequest payload) is = refl
question_taken s (EchoReply payload) is = refl
question_taken s FeaturesRequest is = refl
question_taken s GetConfigRequest is = refl
question_taken s BarrierRequest is = refl
question_taken s (Error kind code payload) is = refl
question_taken s (Vendor payload) is = refl
question_taken s (FeaturesReply m) is = refl
question_taken s (GetConfigReply m) is = refl
question_taken s (PacketIn m) is = refl
question_taken s (FlowRemoved m) is = refl
question_taken s (PortStatus m) is = refl
question_taken s (StatsReply m) is = refl
question_taken s BarrierReply is = refl
question_taken s (QueueGetConfigRequest payload) is = refl
question_taken s (QueueGetConfigReply payload) is = refl

pub question_after : (s : SwitchState) (m : Message) → IsQuestion m → s ≡ after_message m s
question_after s m is = sym (taken_after m s (question_free s m is) ∙ question_taken s m is)

-- ---- A request for features

pub features_sent : (xid : ℕ) (s : SwitchState) → sent_by_message xid FeaturesRequest s ≡ features_reply xid s ∷ []
unfolding sent_by_taken
features_sent xid s = taken_sent xid FeaturesRequest s (question_free s FeaturesRequest tt)

pub features_stay : (s : SwitchState) → after_message FeaturesRequest s ≡ s
features_stay s = sym (question_after s FeaturesRequest tt)
