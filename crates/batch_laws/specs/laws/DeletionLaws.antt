-- In a world that keeps its word no item tells of a deletion: a stimulus deletes no entry, and what the host deletes itself is told while it waits
-- (OpenFlow 1.0.0, 5.4.2 Flow Removed Message). So no notice is in doubt there.
use Rattle.std.specs.Prelude.{◌≡◌, ◌==◌, ℕ, ◌<◌, ◌⊎◌, Bool, true, false, ◌&&◌, IsTrue, List, [], ◌∷◌, ◌++◌, length, map, Option, Some, None, Result, Ok, Err, is_some, if◌then◌else◌, refl}
use Rattle.std.specs.List.{AllByRecursion, flat_map}
use Rattle.std.proofs.Common.{sym, ap, ◌∙◌, ◌+◌, subst, inl, inr, arith, append_assoc, length-append, true≢false}
use Rattle.std.proofs.lemmas.Bool.{cases_Bool}
use Rattle.std.proofs.lemmas.Option.{same_Some}
use Rattle.of_types.specs.Fields.{number_at, number_bytes}
use Rattle.of_types.specs.laws.FieldLaws.{number_at-number_bytes, length-number_bytes}
use Rattle.of_types.specs.declared.journal.Stimulus.{Stimulus}
use Rattle.of_types.specs.declared.journal.Stimulus.TheVariants.{Frame, Advance, Port, Counts, Raw}
use Rattle.of_types.specs.declared.journal.WorldStim.{WorldStim}
use Rattle.of_types.specs.declared.journal.WorldStim.TheVariants.{Join, Leave, At, Of}
use Rattle.of_match.specs.declared.key.Key.{Key}
use Rattle.of_wire.specs.declared.bodies.FlowRemoved.{FlowRemoved as Removed}
use Rattle.of_wire.specs.Grammar.{enveloped}
use Rattle.of_wire.specs.declared.kind.MessageKind.{MessageKind}
use Rattle.of_wire.specs.declared.kind.MessageKind.TheVariants as wire
use Rattle.of_wire.specs.declared.message.Message.{Message}
use Rattle.of_wire.specs.declared.message.Message.TheVariants.{Hello, Error, EchoRequest, EchoReply, Vendor, FeaturesRequest, FeaturesReply, GetConfigRequest, GetConfigReply, SetConfig, PacketIn, FlowRemoved, PortStatus, PacketOut, FlowMod, PortMod, StatsRequest, StatsReply, BarrierRequest, BarrierReply, QueueGetConfigRequest, QueueGetConfigReply}
use Rattle.of_wire.specs.declared.message.Envelope.{Envelope}
use Rattle.of_wire.specs.declared.fault.WireFault.{WireFault}
use Rattle.of_wire.specs.Kinds.{kind_of_number}
use Rattle.of_wire.specs.Spelling.{match_bytes, body_bytes, message_bytes}
use Rattle.of_wire.specs.laws.SpellingLaws.{length-match_bytes}
use Rattle.of_wire.specs.Reading.{front_of, body_of, reading_of}
use Rattle.flow_timeouts.specs.declared.timeouts.Reason.{Reason}
use Rattle.flow_timeouts.specs.declared.timeouts.Reason.TheVariants as reasons
use Rattle.flow_table.specs.declared.entry.Entry.{Entry}
use Rattle.flow_table.specs.declared.notice.Notice.{Notice}
use Rattle.flow_table.specs.declared.view.ViewRow.{ViewRow}
use Rattle.flow_table.specs.View.{TableView}
use Rattle.flow_table.specs.RowKeys.{key_removed}
use Rattle.flow_table.specs.Expiry.{deadline, notice_at, by_deadline, expiry_notices}
use Rattle.flow_table.specs.Switch.{Declared, PortState, SwitchState}
use Rattle.flow_table.specs.Step.{flow_removed_bytes, port_status, sent_by_stimulus}
use Rattle.app_frames.specs.declared.frame.Event.{Event}
use Rattle.outside.specs.declared.step.WorldStep.{WorldStep}
use Rattle.outside.specs.declared.step.WorldStep.TheVariants.{Acted, TookInto, From, Joined, Left, Moment, Idle, End, Opened, NotOpened, NextFailed, SendLost, RecvLost, SendFailed, RecvFailed}
use Rattle.outside.specs.Seen.{Seen}
use Rattle.outside.specs.State.{Link, State, link_of, is_joined, switch_of, join_due, stimulus_sends, after_stim, upcoming}
use Rattle.outside.specs.Conforming.{may_be_raw, IsStimulus, IsWorldStim}
use Rattle.net_txn.specs.Net.{NetState}
use Rattle.net_txn.specs.Views.{rows_at, has_key_in, is_row_at}
use Rattle.net_txn.specs.Settling.{doubted_in, doubted}
use Rattle.net_txn.specs.laws.SaidLaws.{all_two, all_weaker}
use Rattle.batch_laws.specs.Deletions.{is_deletion, IsNoDeletion, TellsNoDeletion}
use Rattle.batch_laws.specs.Items.{doubt_in, HandlesStill, HandlesLost, Handles, WentBy, HandlesTold}
use Rattle.batch_laws.specs.LinkTells.{items_of}
use Rattle.batch_laws.specs.Tells.{IsPlain, IsPlainRead, PlainBytes}
use Rattle.batch_laws.specs.Waiting.{NoneWait}
use Rattle.batch_laws.specs.laws.FrameTellLaws.{front-kind, frame-plain, raw-plain}
use Rattle.batch_laws.specs.laws.AloneLaws.{among, all_from, notice_type, status_type, port-sent, items-join, items-leave, items-moment}
use Rattle.batch_laws.specs.laws.AfterLaws.{items-of-one}

-- ---- Messages

abbrev KeepsAll : List ℕ → Type 0
KeepsAll bytes = IsNoDeletion (reading_of bytes)

plain_message : (m : Message) → IsPlain m → is_deletion m ≡ false
plain_message (Hello payload) is = refl
plain_message (Error kind code payload) is = refl
plain_message (EchoRequest payload) is = refl
plain_message (EchoReply payload) is = refl
plain_message (Vendor payload) is = refl
plain_message FeaturesRequest is = refl
plain_message (FeaturesReply features) is = refl
plain_message GetConfigRequest is = refl
plain_message (GetConfigReply config) is = refl
plain_message (SetConfig config) is = refl
plain_message (PacketIn packet) is = refl
plain_message (FlowRemoved flow) is = absurd is
plain_message (PortStatus status) is = refl
plain_message (PacketOut packet) is = refl
plain_message (FlowMod flow) is = refl
plain_message (PortMod port) is = refl
plain_message (StatsRequest stats) is = refl
plain_message (StatsReply stats) is = refl
plain_message BarrierRequest is = refl
plain_message BarrierReply is = refl
plain_message (QueueGetConfigRequest payload) is = refl
plain_message (QueueGetConfigReply payload) is = refl

plain_read : (r : Result Envelope WireFault) → IsPlainRead r → IsNoDeletion r
plain_read (Ok e) is = plain_message e.message is
plain_read (Err fault) is = tt

plain_bytes : (bytes : List ℕ) → PlainBytes bytes → KeepsAll bytes
plain_bytes bytes is = plain_read (reading_of bytes) is

-- of a type, by what is read of it
by_type : (kind : MessageKind) (n : ℕ) (bytes : List ℕ) → kind_of_number n ≡ Some kind → number_at 1 1 bytes ≡ n → (front_of bytes ≡ Ok kind → KeepsAll bytes) → KeepsAll bytes
unfolding reading_of
by_type kind n bytes named type keeps =
    elim (front-kind bytes n kind type named) [
      | inl front ↦ keeps front
      | inr (fault, front) ↦ rw front tt
    ]

status_keeps : (reason dpid : ℕ) (p : PortState) → KeepsAll (port_status reason dpid p)
unfolding kind_of_number reading_of body_of
status_keeps reason dpid p = by_type wire.PortStatus 12 (port_status reason dpid p) refl (status_type reason dpid p) (λ front. rw front refl)

-- ---- Notices of entries whose time was over

-- why an entry went stands in its notice
reason_told : (n : Notice) → n.reason < 256 → number_at 1 58 (flow_removed_bytes n) ≡ n.reason
unfolding flow_removed_bytes message_bytes body_bytes
reason_told n small = by _ n.removed.cookie n.removed.key.priority n.reason (match_bytes (Some n.removed.key.matching)) _ _ (length-match_bytes (Some n.removed.key.matching)) small
  where
    regroup : (a b c d e f g h i t : List ℕ) → (a ++ (b ++ (c ++ (d ++ [])))) ++ (e ++ ((f ++ (g ++ (h ++ i))) ++ t)) ≡ (a ++ (b ++ (c ++ (d ++ (e ++ (f ++ g)))))) ++ (h ++ (i ++ t))
    regroup a b c d e f g h i t = simp append_assoc

    front_length : (a b c d e f g : List ℕ) → length (a ++ (b ++ (c ++ (d ++ (e ++ (f ++ g)))))) ≡ length a + (length b + (length c + (length d + (length e + (length f + length g)))))
    front_length a b c d e f g = omega (arith, length-append a (b ++ (c ++ (d ++ (e ++ (f ++ g))))), length-append b (c ++ (d ++ (e ++ (f ++ g)))), length-append c (d ++ (e ++ (f ++ g))), length-append d (e ++ (f ++ g)), length-append e (f ++ g), length-append f g)

    by : (size cookie priority reason : ℕ) (m i t : List ℕ) → length m ≡ 40 → reason < 256
        → number_at 1 58 ((number_bytes 1 1 ++ (number_bytes 1 11 ++ (number_bytes 2 size ++ (number_bytes 4 0 ++ [])))) ++ (m ++ ((number_bytes 8 cookie ++ (number_bytes 2 priority ++ (number_bytes 1 reason ++ i))) ++ t))) ≡ reason
    by size cookie priority reason m i t len lt =
        let a = number_bytes 1 1 in
        let b = number_bytes 1 11 in
        let c = number_bytes 2 size in
        let d = number_bytes 4 0 in
        let f = number_bytes 8 cookie in
        let g = number_bytes 2 priority in
        let front = a ++ (b ++ (c ++ (d ++ (m ++ (f ++ g))))) in
        let at : length front ≡ 58 = omega (arith, front_length a b c d m f g, length-number_bytes 1 1, length-number_bytes 1 11, length-number_bytes 2 size, length-number_bytes 4 0, len, length-number_bytes 8 cookie, length-number_bytes 2 priority) in
        ap (number_at 1 58) (regroup a b c d m f g (number_bytes 1 reason) i t) ∙ number_at-number_bytes 1 58 reason front (i ++ t) at (omega (arith, lt))

notice_keeps : (n : Notice) → n.reason < 2 → KeepsAll (flow_removed_bytes n)
unfolding kind_of_number reading_of body_of
notice_keeps n other =
    by_type wire.FlowRemoved 11 (flow_removed_bytes n) refl (notice_type n)
    (λ front. rw (front, reason_told n (omega (arith, other))) (not_two n.reason other))
  where
    not_two : (reason : ℕ) → reason < 2 → (reason == 2) ≡ false
    not_two reason less = grind (arith, less)

reason_of : (o : Option (ℕ × Reason)) (e : Entry) → (notice_at o e).reason < 2
reason_of None e = omega arith
reason_of (Some (t, reasons.Idle)) e = omega arith
reason_of (Some (t, reasons.Hard)) e = omega arith

notices_keep : (es : List Entry) → AllByRecursion KeepsAll (map flow_removed_bytes (map (λ e. notice_at (deadline e) e) es))
notices_keep [] = tt
notices_keep (e ∷ es) = (notice_keeps (notice_at (deadline e) e) (reason_of (deadline e) e), notices_keep es)

-- ---- What a stimulus makes

expiry_keeps : (t : ℕ) (es : List Entry) → AllByRecursion KeepsAll (map flow_removed_bytes (expiry_notices t es))
unfolding expiry_notices
expiry_keeps t es = notices_keep (by_deadline _)

raw_may : (bytes : List ℕ) → IsStimulus (Raw bytes) → IsTrue (may_be_raw (reading_of bytes))
unfolding IsStimulus
raw_may bytes is = is.2

sends : (x : Stimulus) (o : Option SwitchState) → IsStimulus x → AllByRecursion KeepsAll (stimulus_sends x o)
unfolding sent_by_stimulus
sends x None is = tt
sends (Frame port bytes) (Some s) is = all_weaker PlainBytes KeepsAll plain_bytes _ (frame-plain port bytes s)
sends (Advance t) (Some s) is = expiry_keeps t s.table.entries
sends (Port port change) (Some s) is = port-sent KeepsAll status_keeps port change s
sends (Counts priority packets bytes) (Some s) is = tt
sends (Raw bytes) (Some s) is = (plain_bytes bytes (raw-plain (reading_of bytes) (raw_may bytes is)), tt)

from_all : (d : ℕ) (list : List (List ℕ)) → AllByRecursion KeepsAll list → AllByRecursion TellsNoDeletion (map (From d) list)
from_all d list all = all_from TellsNoDeletion KeepsAll d (λ bytes is. is) list all

moment_sends : (t : ℕ) (o : Option SwitchState) → AllByRecursion KeepsAll (stimulus_sends (Advance t) o)
unfolding sent_by_stimulus
moment_sends t None = tt
moment_sends t (Some s) = expiry_keeps t s.table.entries

moment_items : (t : ℕ) (ls : List Link) → AllByRecursion TellsNoDeletion (flat_map (items_of (Advance t)) ls)
moment_items t [] = tt
moment_items t (l ∷ ls) =
    all_two TellsNoDeletion (items_of (Advance t) l) (flat_map (items_of (Advance t)) ls) (from_all l.declared.dpid (stimulus_sends (Advance t) l.switch) (moment_sends t l.switch)) (moment_items t ls)

join_items : (d moment : ℕ) (o : Option Link) → AllByRecursion TellsNoDeletion (join_due d moment o)
join_items d moment None = tt
join_items d moment (Some l) =
    elim (cases_Bool (is_some l.switch)) [
      | inl joined ↦ rw joined tt
      | inr out ↦ rw out (tt, tt)
    ]

leave_items : (d : ℕ) (joined : Bool) → AllByRecursion TellsNoDeletion (if joined then Left d ∷ [] else [])
leave_items d true = (tt, tt)
leave_items d false = tt

of_stimulus : (declared : List Declared) (moment d : ℕ) (x : Stimulus) → IsWorldStim declared moment (Of d x) → IsStimulus x
unfolding IsWorldStim
of_stimulus declared moment d x is = is.1

-- Where nothing waited, no item of a stimulus tells of a deletion.
pub no-deletion : (x : WorldStim) (declared : List Declared) (s : State) (d : ℕ) (bytes : List ℕ) (front later : List WorldStep) → IsWorldStim declared s.moment x → NoneWait s.links → s.due ≡ [] → front ++ From d bytes ∷ later ≡ upcoming (after_stim x s)
    → IsNoDeletion (reading_of bytes)
no-deletion (Join e) declared s d bytes front later is waits due order =
    among TellsNoDeletion front later (From d bytes) _ (order ∙ items-join e s waits due) (join_items e s.moment (link_of e s.links))
no-deletion (Leave e) declared s d bytes front later is waits due order =
    among TellsNoDeletion front later (From d bytes) _ (order ∙ items-leave e s waits due) (leave_items e (is_joined e s))
no-deletion (At t) declared s d bytes front later is waits due order =
    among TellsNoDeletion front later (From d bytes) _ (order ∙ items-moment t s waits due) (tt, moment_items t s.links)
no-deletion (Of e x) declared s d bytes front later is waits due order =
    among TellsNoDeletion front later (From d bytes) _ (order ∙ items-of-one e x s waits due) (from_all e _ (sends x (switch_of e s) (of_stimulus declared s.moment e x is)))

-- ---- Which notices are in doubt

-- a notice in doubt is one of a deletion, and a row has its key
pub record DoubtOf (d : ℕ) (views : List TableView) (key : Key) (r : Result Envelope WireFault) : Type 0 where
  pub xid : ℕ
  pub flow : Removed
  pub read_is : r ≡ Ok (enveloped xid (FlowRemoved flow))
  pub reason : (flow.reason == 2) ≡ true
  pub key_is : key ≡ key_removed flow
  pub has_row : is_row_at d key views ≡ true

flow_doubt : (d xid : ℕ) (views : List TableView) (flow : Removed) (key : Key) (deleted row : Bool) → (flow.reason == 2) ≡ deleted → is_row_at d (key_removed flow) views ≡ row → (if deleted && row then Some (key_removed flow) else None) ≡ Some key
    → DoubtOf d views key (Ok (enveloped xid (FlowRemoved flow)))
flow_doubt d xid views flow key true true deleted row doubt =
    let same : key ≡ key_removed flow = sym (same_Some (key_removed flow) key doubt) in
    record { xid = xid; flow = flow; read_is = refl; reason = deleted; key_is = same; has_row = ap (λ (k : Key). is_row_at d k views) same ∙ row }
flow_doubt d xid views flow key true false deleted row doubt = absurd cc
flow_doubt d xid views flow key false row deleted is doubt = absurd cc

message_doubt : (d xid : ℕ) (views : List TableView) (m : Message) (key : Key) → doubted_in d views m ≡ Some key → DoubtOf d views key (Ok (enveloped xid m))
message_doubt d xid views (Hello payload) key doubt = absurd cc
message_doubt d xid views (Error kind code payload) key doubt = absurd cc
message_doubt d xid views (EchoRequest payload) key doubt = absurd cc
message_doubt d xid views (EchoReply payload) key doubt = absurd cc
message_doubt d xid views (Vendor payload) key doubt = absurd cc
message_doubt d xid views FeaturesRequest key doubt = absurd cc
message_doubt d xid views (FeaturesReply features) key doubt = absurd cc
message_doubt d xid views GetConfigRequest key doubt = absurd cc
message_doubt d xid views (GetConfigReply config) key doubt = absurd cc
message_doubt d xid views (SetConfig config) key doubt = absurd cc
message_doubt d xid views (PacketIn packet) key doubt = absurd cc
message_doubt d xid views (FlowRemoved flow) key doubt = flow_doubt d xid views flow key (flow.reason == 2) (is_row_at d (key_removed flow) views) refl refl doubt
message_doubt d xid views (PortStatus status) key doubt = absurd cc
message_doubt d xid views (PacketOut packet) key doubt = absurd cc
message_doubt d xid views (FlowMod flow) key doubt = absurd cc
message_doubt d xid views (PortMod port) key doubt = absurd cc
message_doubt d xid views (StatsRequest stats) key doubt = absurd cc
message_doubt d xid views (StatsReply stats) key doubt = absurd cc
message_doubt d xid views BarrierRequest key doubt = absurd cc
message_doubt d xid views BarrierReply key doubt = absurd cc
message_doubt d xid views (QueueGetConfigRequest payload) key doubt = absurd cc
message_doubt d xid views (QueueGetConfigReply payload) key doubt = absurd cc

pub doubt-of : (d : ℕ) (views : List TableView) (r : Result Envelope WireFault) (key : Key) → doubted d views r ≡ Some key → DoubtOf d views key r
doubt-of d views (Ok e) key doubt = message_doubt d e.xid views e.message key doubt
doubt-of d views (Err fault) key doubt = absurd cc

-- one that tells of no deletion is in no doubt
pub no-doubt : (d : ℕ) (views : List TableView) (r : Result Envelope WireFault) (key : Key) → doubted d views r ≡ Some key → IsNoDeletion r → ⊥
no-doubt d views r key doubt none =
    let of = doubt-of d views r key doubt in
    let other : (of.flow.reason == 2) ≡ false = subst IsNoDeletion of.read_is none in
    true≢false (sym of.reason ∙ other)

item_doubt : (item : WorldStep) (views : List TableView) (key : Key) → doubt_in item views ≡ Some key → TellsNoDeletion item → ⊥
item_doubt (Acted act) views key doubt none = absurd cc
item_doubt (TookInto app what room) views key doubt none = absurd cc
item_doubt (From d bytes) views key doubt none = no-doubt d views (reading_of bytes) key doubt none
item_doubt (Joined d bytes) views key doubt none = absurd cc
item_doubt (Left d) views key doubt none = absurd cc
item_doubt (Moment t) views key doubt none = absurd cc
item_doubt Idle views key doubt none = absurd cc
item_doubt End views key doubt none = absurd cc
item_doubt Opened views key doubt none = absurd cc
item_doubt NotOpened views key doubt none = absurd cc
item_doubt NextFailed views key doubt none = absurd cc
item_doubt (SendLost d) views key doubt none = absurd cc
item_doubt (RecvLost d) views key doubt none = absurd cc
item_doubt (SendFailed d) views key doubt none = absurd cc
item_doubt (RecvFailed d) views key doubt none = absurd cc

-- and none of a switch that has no view is
pub no-doubt_out : (d : ℕ) (views : List TableView) (r : Result Envelope WireFault) → rows_at d views ≡ None → doubted d views r ≡ None
no-doubt_out d views r out = by (doubted d views r) refl
  where
    none_has : (key : Key) (rows : Option (List ViewRow)) → rows ≡ None → has_key_in key rows ≡ true → ⊥
    none_has key None out has = true≢false (sym has)
    none_has key (Some rows) out has = absurd cc

    by : (o : Option Key) → doubted d views r ≡ o → doubted d views r ≡ None
    by None is = is
    by (Some key) is = let of = doubt-of d views r key is in absurd (none_has key (rows_at d views) out of.has_row)

-- ---- What is told and is in no doubt

module _ {Own Tells : Type 0} (item : WorldStep) (text : List ℕ) (old new : Seen Own) (net now_net : NetState) (queue now_queue : List Event) where
  went_by : (o : Option Key) → doubt_in item net.views ≡ o → TellsNoDeletion item → WentBy Tells item text o old new net now_net queue now_queue → HandlesStill Tells item text old new net now_net queue now_queue ⊎ HandlesLost Tells item text old new net now_net queue now_queue
  went_by None is none went = went
  went_by (Some key) is none went = absurd (item_doubt item net.views key is none)

  -- no switch is asked for it
  pub told_undoubted : TellsNoDeletion item → HandlesTold Tells item text old new net now_net queue now_queue → Handles Tells item text old new net now_net queue now_queue
  told_undoubted none told = record {
    continues = told.continues;
    log = told.log;
    room = told.room;
    held = told.held;
    left = told.left;
    went = went_by (doubt_in item net.views) refl none told.went;
  }

  -- what is in no doubt is handled so
  pub handles_told : doubt_in item net.views ≡ None → Handles Tells item text old new net now_net queue now_queue → HandlesTold Tells item text old new net now_net queue now_queue
  handles_told none handles = record {
    continues = handles.continues;
    log = handles.log;
    room = handles.room;
    held = handles.held;
    left = handles.left;
    went = subst (λ (o : Option Key). WentBy Tells item text o old new net now_net queue now_queue) (sym none) handles.went;
  }
