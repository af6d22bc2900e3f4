-- Laws of steps in order, and of what they release and which switches they lose: no call of the network failed but by the loss of its switch,
-- and but for a release it releases no packet.
use Rattle.std.proofs.Common.{◌≡◌, ℕ, ◌==◌, Bool, true, false, List, [], ◌∷◌, ◌++◌, length, Option, Some, None, Result, Ok, Err, refl, sym, ap, ◌∙◌, subst, append_assoc, arith, true≢false, inl, inr}
use Rattle.std.specs.Prelude.{◌⊎◌, nat_lt, drop, IsSome}
use Rattle.std.specs.Option.{is_some}
use Rattle.std.specs.List.{AllByRecursion}
use Rattle.std.proofs.lemmas.Bool.{cases_Bool}
use Rattle.std.proofs.lemmas.List.{append-nil}
use Rattle.of_types.specs.Fields.{number_at}
use Rattle.of_types.specs.declared.journal.Act.TheVariants.{Stim, Started, Gave, Gone, Took, Ended, Sent, Got, Lost}
use Rattle.of_action.specs.declared.action.Action.{Action}
use Rattle.of_action.specs.Reading.{◌>>=◌, actions_of}
use Rattle.of_wire.specs.declared.bodies.FlowMod.{FlowMod as Change}
use Rattle.of_wire.specs.declared.bodies.PacketOut.{PacketOut as Packet}
use Rattle.of_wire.specs.declared.kind.MessageKind.{MessageKind}
use Rattle.of_wire.specs.declared.kind.MessageKind.TheVariants as kinds
use Rattle.of_wire.specs.declared.message.Envelope.{Envelope}
use Rattle.of_wire.specs.declared.message.Message.{Message}
use Rattle.of_wire.specs.declared.message.Message.TheVariants.{FlowMod, SetConfig, StatsRequest, EchoReply, BarrierRequest}
use Rattle.of_wire.specs.declared.bodies.SwitchConfig.{SwitchConfig as Config}
use Rattle.of_wire.specs.declared.bodies.Stats.{Stats as Statistics}
use Rattle.of_wire.specs.declared.fault.WireFault.{WireFault}
use Rattle.of_wire.specs.declared.fault.WireFault.TheVariants.{BadVersion, BadLength}
use Rattle.of_wire.specs.Kinds.{kind_of_number}
use Rattle.of_wire.specs.Reading.{of_actions, flow_mod_of, body_of, has_length, front_of, reading_of}
use Rattle.of_wire.specs.Spelling.{body_bytes, message_bytes}
use Rattle.app_frames.specs.declared.frame.Answer.{Answer}
use Rattle.app_frames.specs.declared.frame.Event.{Event}
use Rattle.lego_model.specs.History.{released_of}
use Rattle.lego_model.specs.Journal.{packet_read, released}
use Rattle.lego_model.specs.Packets.{Held}
use Rattle.outside.specs.declared.step.WorldStep.{WorldStep}
use Rattle.outside.specs.declared.step.WorldStep.TheVariants.{Acted, TookInto, From, Joined, Left, Moment, Idle, End, Opened, NotOpened, NextFailed, SendLost, RecvLost, SendFailed, RecvFailed}
use Rattle.flow_table.specs.declared.view.ViewRow.{ViewRow}
use Rattle.outside.specs.InOrder.{InOrder}
use Rattle.outside.specs.Seen.{Seen, journal}
use Rattle.outside.specs.State.{State, state, after_step}
use Rattle.lego_model.specs.declared.fault.TxnFault.{TxnFault}
use Rattle.lego_model.specs.declared.wait.Awaited.{Awaited}
use Rattle.lego_model.specs.declared.wait.Heard.{Heard}
use Rattle.lego_model.specs.declared.wait.Heard.TheVariants.{Reply, Refused, Notice, Echo, Other}
use Rattle.net_txn.specs.Net.{NetState, awaited_from}
use Rattle.lego_model.specs.UndoFaults.{IsExpectedOnLink, AreExpectedOnLinks}
use Rattle.lego_model.specs.BarrierWaits.{next_xid, heard, steps_by, wait_steps, barrier_sent, reply_got}
use Rattle.lego_model.specs.FlowQueries.{asked_from, request_sent}
use Rattle.net_txn.specs.Answering.{known_rows}
use Rattle.net_txn.specs.Changes.{ChangesJoined, Changes, answer_of_host, change_sent}
use Rattle.net_txn.specs.LinkSteps.{is_link_step, AreLinkSteps, LinkSteps, MakesNoStrayCall}
use Rattle.net_txn.specs.Joining.{greeting, greeted_from, delete_all}
use Rattle.net_txn.specs.Undos.{AreJoined, Undoes}
use Rattle.net_txn.specs.Releases.{packet_steps, Commits}
use Rattle.net_txn.specs.Views.{rows_at, is_viewed}
use Rattle.net_txn.specs.laws.AgreeLaws.{viewed as viewed_rows}
use Rattle.net_txn.specs.laws.NoticeLaws.{kind_of_header}
use Rattle.net_txn.specs.laws.LostLaws.{released_two}
use Rattle.lego_model.specs.SwitchFaults.{query_steps}
use Rattle.switch_laws.specs.laws.AskedLaws.{asked}
use Rattle.switch_laws.specs.Orderly.{OrderlySince}
use Rattle.lego_model.specs.OrderlySteps.{IsOrderly}
use Rattle.switch_laws.specs.Released.{released_by, ReleasesNone, LosesNone}
use Rattle.lego_model.specs.laws.JournalLaws.{released-nil}

-- ---- Messages of another type than PACKET_OUT (13)

abbrev is_free : MessageKind → Bool
is_free kinds.PacketOut = false
is_free other = true

abbrev pub enveloped_as : ℕ → Result Message WireFault → Result Envelope WireFault
enveloped_as xid r = r >>= λ m. Ok (record { xid = xid; message = m })

change_free : (d xid : ℕ) (r : Result (List Action) WireFault) (f : List Action → Change) → packet_read d (enveloped_as xid (r >>= λ actions. Ok (FlowMod (f actions)))) ≡ None
change_free d xid (Ok actions) f = refl
change_free d xid (Err fault) f = refl

body_free : (d xid : ℕ) (kind : MessageKind) (bytes : List ℕ) → is_free kind ≡ true → packet_read d (enveloped_as xid (body_of kind bytes)) ≡ None
unfolding body_of flow_mod_of
body_free d xid kinds.Hello bytes free = refl
body_free d xid kinds.Error bytes free = refl
body_free d xid kinds.EchoRequest bytes free = refl
body_free d xid kinds.EchoReply bytes free = refl
body_free d xid kinds.Vendor bytes free = refl
body_free d xid kinds.FeaturesRequest bytes free = refl
body_free d xid kinds.FeaturesReply bytes free = refl
body_free d xid kinds.GetConfigRequest bytes free = refl
body_free d xid kinds.GetConfigReply bytes free = refl
body_free d xid kinds.SetConfig bytes free = refl
body_free d xid kinds.PacketIn bytes free = refl
body_free d xid kinds.FlowRemoved bytes free = refl
body_free d xid kinds.PortStatus bytes free = refl
body_free d xid kinds.PacketOut bytes free = absurd (true≢false (sym free))
body_free d xid kinds.FlowMod bytes free = change_free d xid (of_actions (actions_of (drop 72 bytes))) _
body_free d xid kinds.PortMod bytes free = refl
body_free d xid kinds.StatsRequest bytes free = refl
body_free d xid kinds.StatsReply bytes free = refl
body_free d xid kinds.BarrierRequest bytes free = refl
body_free d xid kinds.BarrierReply bytes free = refl
body_free d xid kinds.QueueGetConfigRequest bytes free = refl
body_free d xid kinds.QueueGetConfigReply bytes free = refl

front_free : (d xid : ℕ) (r : Result MessageKind WireFault) (kind : MessageKind) (bytes : List ℕ) → (r ≡ Ok kind) ⊎ ((fault : WireFault) × (r ≡ Err fault)) → is_free kind ≡ true
    → packet_read d (r >>= λ k. enveloped_as xid (body_of k bytes)) ≡ None
front_free d xid r kind bytes (inl is) free = rw is (body_free d xid kind bytes free)
front_free d xid r kind bytes (inr is) free = rw is.1 refl

-- The front of bytes whose type is known: that type, or a fault.
front_is : (kind : MessageKind) (bytes : List ℕ) → kind_of_number (number_at 1 1 bytes) ≡ Some kind → (front_of bytes ≡ Ok kind) ⊎ ((fault : WireFault) × (front_of bytes ≡ Err fault))
unfolding front_of
front_is kind bytes is =
    elim (cases_Bool (nat_lt (length bytes) 8)) [
      | inl short ↦ inr (BadLength, rw short refl)
      | inr long ↦ elim (cases_Bool (number_at 1 0 bytes == 1)) [
        | inr other ↦ inr (BadVersion, rw (long, other) refl)
        | inl version ↦ elim (cases_Bool (number_at 2 2 bytes == length bytes)) [
          | inr other ↦ inr (BadLength, rw (long, version, is, other) refl)
          | inl whole ↦ elim (cases_Bool (has_length kind (length bytes))) [
            | inr other ↦ inr (BadLength, rw (long, version, is, whole, other) refl)
            | inl has ↦ inl (rw (long, version, is, whole, has) refl)
          ]
        ]
      ]
    ]

pub not-released : (d : ℕ) (kind : MessageKind) (bytes : List ℕ) → kind_of_number (number_at 1 1 bytes) ≡ Some kind → is_free kind ≡ true → packet_read d (reading_of bytes) ≡ None
unfolding reading_of
not-released d kind bytes is free = front_free d (number_at 4 4 bytes) (front_of bytes) kind bytes (front_is kind bytes is) free

-- ---- What the network sends

change_type : (xid : ℕ) (m : Change) → number_at 1 1 (message_bytes xid (FlowMod m)) ≡ 14
unfolding message_bytes
change_type xid m = kind_of_header 14 _ xid (body_bytes (FlowMod m)) (omega arith)

config_type : (xid : ℕ) (c : Config) → number_at 1 1 (message_bytes xid (SetConfig c)) ≡ 9
unfolding message_bytes
config_type xid c = kind_of_header 9 _ xid (body_bytes (SetConfig c)) (omega arith)

request_type : (xid : ℕ) (s : Statistics) → number_at 1 1 (message_bytes xid (StatsRequest s)) ≡ 16
unfolding message_bytes
request_type xid s = kind_of_header 16 _ xid (body_bytes (StatsRequest s)) (omega arith)

echo_type : (xid : ℕ) (payload : List ℕ) → number_at 1 1 (message_bytes xid (EchoReply payload)) ≡ 3
unfolding message_bytes
echo_type xid payload = kind_of_header 3 _ xid (body_bytes (EchoReply payload)) (omega arith)

barrier_type : (xid : ℕ) → number_at 1 1 (message_bytes xid BarrierRequest) ≡ 18
unfolding message_bytes
barrier_type xid = kind_of_header 18 _ xid (body_bytes BarrierRequest) (omega arith)

-- ---- Steps that release no packet

change-none : (d xid : ℕ) (m : Change) → packet_read d (reading_of (message_bytes xid (FlowMod m))) ≡ None
unfolding kind_of_number
change-none d xid m = not-released d kinds.FlowMod (message_bytes xid (FlowMod m)) (ap kind_of_number (change_type xid m)) refl

config-none : (d xid : ℕ) (c : Config) → packet_read d (reading_of (message_bytes xid (SetConfig c))) ≡ None
unfolding kind_of_number
config-none d xid c = not-released d kinds.SetConfig (message_bytes xid (SetConfig c)) (ap kind_of_number (config_type xid c)) refl

request-none : (d xid : ℕ) (c : Statistics) → packet_read d (reading_of (message_bytes xid (StatsRequest c))) ≡ None
unfolding kind_of_number
request-none d xid c = not-released d kinds.StatsRequest (message_bytes xid (StatsRequest c)) (ap kind_of_number (request_type xid c)) refl

pub echo-none : (d xid : ℕ) (payload : List ℕ) → packet_read d (reading_of (message_bytes xid (EchoReply payload))) ≡ None
unfolding kind_of_number
echo-none d xid payload = not-released d kinds.EchoReply (message_bytes xid (EchoReply payload)) (ap kind_of_number (echo_type xid payload)) refl

barrier-none : (d xid : ℕ) → packet_read d (reading_of (message_bytes xid BarrierRequest)) ≡ None
unfolding kind_of_number
barrier-none d xid = not-released d kinds.BarrierRequest (message_bytes xid BarrierRequest) (ap kind_of_number (barrier_type xid)) refl

none-both : (xs ys : List WorldStep) → ReleasesNone xs → ReleasesNone ys → ReleasesNone (xs ++ ys)
none-both [] ys first later = later
none-both (x ∷ xs) ys first later = (first.0, none-both xs ys first.1 later)

heard-none : (d : ℕ) (h : Heard) (bytes : List ℕ) → ReleasesNone (steps_by d h bytes)
heard-none d Reply bytes = tt
heard-none d (Refused r) bytes = tt
heard-none d Notice bytes = tt
heard-none d Echo bytes = (echo-none d _ _, tt)
heard-none d Other bytes = tt

wait-none : (a : Awaited) (got : List (List ℕ)) → ReleasesNone (wait_steps a got)
wait-none a [] = tt
wait-none a (b ∷ bs) = (refl, none-both (steps_by a.dpid (heard a b) b) (wait_steps a bs) (heard-none a.dpid (heard a b) b) (wait-none a bs))

ended-none : (a : Awaited) (got : List (List ℕ)) → ReleasesNone (wait_steps a got ++ reply_got a ∷ [])
ended-none a got = none-both (wait_steps a got) (reply_got a ∷ []) (wait-none a got) (refl, tt)

-- a switch joins
pub join-steps-none : (d xid : ℕ) (got : List (List ℕ)) → ReleasesNone (greeting d xid ++ (wait_steps (greeted_from d xid) got ++ reply_got (greeted_from d xid) ∷ []))
join-steps-none d xid got = (change-none d xid delete_all, (config-none d (next_xid xid) _, (barrier-none d _, ended-none (greeted_from d xid) got)))

-- rows are asked for
rows-none : (d xid : ℕ) (got : List (List ℕ)) → ReleasesNone ((request_sent d xid ∷ barrier_sent (asked_from d xid) ∷ []) ++ (wait_steps (asked_from d xid) got ++ reply_got (asked_from d xid) ∷ []))
rows-none d xid got = (request-none d xid _, (barrier-none d _, ended-none (asked_from d xid) got))

-- ---- Steps that lose no switch

loses-none-both : (xs ys : List WorldStep) → LosesNone xs → LosesNone ys → LosesNone (xs ++ ys)
loses-none-both [] ys first later = later
loses-none-both (x ∷ xs) ys first later = (first.0, loses-none-both xs ys first.1 later)

heard-loses-none : (d : ℕ) (h : Heard) (bytes : List ℕ) → LosesNone (steps_by d h bytes)
heard-loses-none d Reply bytes = tt
heard-loses-none d (Refused r) bytes = tt
heard-loses-none d Notice bytes = tt
heard-loses-none d Echo bytes = (refl, tt)
heard-loses-none d Other bytes = tt

wait-loses-none : (a : Awaited) (got : List (List ℕ)) → LosesNone (wait_steps a got)
wait-loses-none a [] = tt
wait-loses-none a (b ∷ bs) = (refl, loses-none-both (steps_by a.dpid (heard a b) b) (wait_steps a bs) (heard-loses-none a.dpid (heard a b) b) (wait-loses-none a bs))

ended-loses-none : (a : Awaited) (got : List (List ℕ)) → LosesNone (wait_steps a got ++ reply_got a ∷ [])
ended-loses-none a got = loses-none-both (wait_steps a got) (reply_got a ∷ []) (wait-loses-none a got) (refl, tt)

-- a packet is sent
pub packet-loses-none : (d xid : ℕ) (packet : Packet) (got : List (List ℕ)) → LosesNone (packet_steps d xid packet ++ (wait_steps (asked_from d xid) got ++ reply_got (asked_from d xid) ∷ []))
packet-loses-none d xid packet got = (refl, (refl, ended-loses-none (asked_from d xid) got))

-- ---- What a history releases

released-step : (step : WorldStep) (steps : List WorldStep) → released_by step ≡ None → released (journal (step ∷ steps)) ≡ released (journal steps)
unfolding released journal
released-step (Acted act) steps is = rw is refl
released-step (TookInto app what room) steps is = refl
released-step (From d bytes) steps is = refl
released-step (Joined d bytes) steps is = refl
released-step (Left d) steps is = refl
released-step (Moment t) steps is = refl
released-step Idle steps is = refl
released-step End steps is = refl
released-step Opened steps is = refl
released-step NotOpened steps is = refl
released-step NextFailed steps is = refl
released-step (SendLost d) steps is = refl
released-step (RecvLost d) steps is = refl
released-step (SendFailed d) steps is = refl
released-step (RecvFailed d) steps is = refl

-- Such steps released none.
pub released-none : (steps : List WorldStep) → ReleasesNone steps → released (journal steps) ≡ []
released-none [] all = released-nil
released-none (step ∷ steps) all = released-step step steps all.0 ∙ released-none steps all.1

pub released-on : {Own : Type 0} (old new : Seen Own) (steps : List WorldStep) → new.history ≡ old.history ++ steps → released_of new ≡ released_of old ++ released (journal steps)
released-on old new steps history = ap (λ (h : List WorldStep). released (journal h)) history ∙ released_two old.history steps

pub released-still : {Own : Type 0} (old new : Seen Own) (steps : List WorldStep) → new.history ≡ old.history ++ steps → ReleasesNone steps → released_of new ≡ released_of old
released-still old new steps history none =
    released-on old new steps history ∙ ap (λ (ps : List Held). released_of old ++ ps) (released-none steps none) ∙ append-nil (released_of old)

pub rows-release-none : (d xid : ℕ) (got : List (List ℕ)) → released (journal ((request_sent d xid ∷ barrier_sent (asked_from d xid) ∷ []) ++ (wait_steps (asked_from d xid) got ++ reply_got (asked_from d xid) ∷ []))) ≡ []
rows-release-none d xid got = released-none _ (rows-none d xid got)

-- ---- A message of an application

-- where the switch answered it
abbrev asked_steps : ℕ → ℕ → Change → List (List ℕ) → List WorldStep
asked_steps d xid m got = change_sent d xid m ∷ barrier_sent (awaited_from d xid) ∷ (wait_steps (awaited_from d xid) got ++ reply_got (awaited_from d xid) ∷ [])

asked-none : (d xid : ℕ) (m : Change) (got : List (List ℕ)) → ReleasesNone (asked_steps d xid m got)
asked-none d xid m got = (sent_is d xid m, (barrier-none d (awaited_from d xid).barrier, ended-none (awaited_from d xid) got))
  where
    sent_is : (d xid : ℕ) (m : Change) → released_by (change_sent d xid m) ≡ None
    sent_is d xid m = change-none d xid _

-- where it gave statistics
query-none : (d xid : ℕ) (q : Statistics) (got : List (List ℕ)) → ReleasesNone (query_steps d xid q got)
query-none d xid q got = (request-none d xid q, (barrier-none d _, ended-none (asked_from d xid) got))

module _ {Own : Type 0} (Tells : Type 0) (d : ℕ) (bytes : List ℕ) (old new : Seen Own) (net now_net : NetState) (given : Answer) where
  -- where its switch was not lost
  joined-by-none : Tells → ChangesJoined Tells d bytes old new net now_net (Ok given) → (o : Option Answer) → answer_of_host d bytes net ≡ o → released_of new ≡ released_of old
  joined-by-none told changes (Some a) host = ap (λ (s : Seen _). released_of s) (changes.by_host a host).world
  joined-by-none told changes None host = elim (asked (known_rows d net.views) bytes host) [
    | inl read ↦
        let asks = changes.by_switch read.xid read.change host read.read in
        released-still old new (asked_steps d net.xid read.change asks.waits.got) (asks.waits.hears.told told) (asked-none d net.xid read.change asks.waits.got)
    | inr query ↦
        let waits = (changes.by_statistics query.xid query.query host query.read).answer.answered.waits in
        released-still old new (query_steps d net.xid query.query waits.got) (waits.hears.told told) (query-none d net.xid query.query waits.got)
  ]

  pub exchange-releases-none : Tells → AreJoined net.views (state old) → Changes Tells d bytes old new net now_net (Ok given) → released_of new ≡ released_of old
  exchange-releases-none told joined changes = elim changes.answered [
    | inl stays ↦ joined-by-none told stays (answer_of_host d bytes net) refl
    | inr lost ↦
        let out = lost.2.is_lost.out told (joined d lost.2.viewed) in
        released-on old new out.steps out.history ∙ ap (λ (ps : List Held). released_of old ++ ps) out.released_is ∙ append-nil (released_of old)
  ]

-- ---- An undo

pub undo-releases-none : {Own : Type 0} (Tells : Type 0) (start : ℕ) (old new : Seen Own) (net now_net : NetState) (result : Result (Unit {0}) TxnFault) → Tells → Undoes Tells start old new net now_net result → released_of new ≡ released_of old
undo-releases-none Tells start old new net now_net result told undoes = undoes.none_released told

-- ---- Of one application

module _ (app : ℕ) where
  -- ---- One stretch behind the other

  pub orderly-both : (xs ys : List WorldStep) → AllByRecursion (IsOrderly app) xs → AllByRecursion (IsOrderly app) ys → AllByRecursion (IsOrderly app) (xs ++ ys)
  orderly-both [] ys first later = later
  orderly-both (x ∷ xs) ys first later = (first.0, orderly-both xs ys first.1 later)

  pub orderly-none : {Own : Type 0} (seen : Seen Own) → OrderlySince app seen seen
  orderly-none seen = record { steps = []; history = sym (append-nil seen.history); orderly = tt }

  pub orderly-same : {Own : Type 0} (old new : Seen Own) → new ≡ old → OrderlySince app old new
  orderly-same old new same = subst (OrderlySince app old) (sym same) (orderly-none old)

  pub orderly-then : {Own : Type 0} (old mid new : Seen Own) → OrderlySince app old mid → OrderlySince app mid new → OrderlySince app old new
  orderly-then old mid new first later = record {
    steps = first.steps ++ later.steps;
    history = later.history ∙ ap (λ (h : List WorldStep). h ++ later.steps) first.history ∙ append_assoc old.history first.steps later.steps;
    orderly = orderly-both first.steps later.steps first.orderly later.orderly;
  }

  -- a history in order that goes on so is in order
  pub orderly-whole : {Own : Type 0} (old new : Seen Own) → AllByRecursion (IsOrderly app) old.history → OrderlySince app old new → AllByRecursion (IsOrderly app) new.history
  orderly-whole old new all since = subst (AllByRecursion (IsOrderly app)) (sym since.history) (orderly-both old.history since.steps all since.orderly)

  -- ---- Waits

  heard-orderly : (d : ℕ) (h : Heard) (bytes : List ℕ) → AllByRecursion (IsOrderly app) (steps_by d h bytes)
  heard-orderly d Reply bytes = tt
  heard-orderly d (Refused r) bytes = tt
  heard-orderly d Notice bytes = tt
  heard-orderly d Echo bytes = (tt, tt)
  heard-orderly d Other bytes = tt

  pub wait-orderly : (a : Awaited) (got : List (List ℕ)) → AllByRecursion (IsOrderly app) (wait_steps a got)
  wait-orderly a [] = tt
  wait-orderly a (b ∷ bs) = (tt, orderly-both (steps_by a.dpid (heard a b) b) (wait_steps a bs) (heard-orderly a.dpid (heard a b) b) (wait-orderly a bs))

  ended-orderly : (a : Awaited) (got : List (List ℕ)) → AllByRecursion (IsOrderly app) (wait_steps a got ++ reply_got a ∷ [])
  ended-orderly a got = orderly-both (wait_steps a got) (reply_got a ∷ []) (wait-orderly a got) (tt, tt)

  -- ---- A switch joins

  pub join-steps-orderly : (d xid : ℕ) (got : List (List ℕ)) → AllByRecursion (IsOrderly app) (greeting d xid ++ (wait_steps (greeted_from d xid) got ++ reply_got (greeted_from d xid) ∷ []))
  join-steps-orderly d xid got = (tt, (tt, (tt, ended-orderly (greeted_from d xid) got)))

  -- ---- Rows are asked for

  pub rows-orderly : (d xid : ℕ) (got : List (List ℕ)) → AllByRecursion (IsOrderly app) ((request_sent d xid ∷ barrier_sent (asked_from d xid) ∷ []) ++ (wait_steps (asked_from d xid) got ++ reply_got (asked_from d xid) ∷ []))
  rows-orderly d xid got = (tt, (tt, ended-orderly (asked_from d xid) got))

  -- ---- Calls of links that are in place

  link-orderly : (step : WorldStep) (s : State) → is_link_step step ≡ true → IsExpectedOnLink step s → IsOrderly app step
  link-orderly (Acted (Sent d bytes)) s is expected = tt
  link-orderly (Acted (Got d bytes)) s is expected = tt
  link-orderly (Acted (Stim x)) s is expected = absurd (true≢false (sym is))
  link-orderly (Acted (Started of stands)) s is expected = absurd (true≢false (sym is))
  link-orderly (Acted (Gave of bytes)) s is expected = absurd (true≢false (sym is))
  link-orderly (Acted (Gone of bytes)) s is expected = absurd (true≢false (sym is))
  link-orderly (Acted (Took of what)) s is expected = absurd (true≢false (sym is))
  link-orderly (Acted (Ended of)) s is expected = absurd (true≢false (sym is))
  link-orderly (Acted (Lost d)) s is expected = absurd (true≢false (sym is))
  link-orderly (SendLost d) s is expected = tt
  link-orderly (RecvLost d) s is expected = tt
  link-orderly (SendFailed d) s is expected = absurd expected
  link-orderly (RecvFailed d) s is expected = absurd expected
  link-orderly (TookInto of what room) s is expected = absurd (true≢false (sym is))
  link-orderly (From d bytes) s is expected = absurd (true≢false (sym is))
  link-orderly (Joined d bytes) s is expected = absurd (true≢false (sym is))
  link-orderly (Left d) s is expected = absurd (true≢false (sym is))
  link-orderly (Moment t) s is expected = absurd (true≢false (sym is))
  link-orderly Idle s is expected = absurd (true≢false (sym is))
  link-orderly End s is expected = absurd (true≢false (sym is))
  link-orderly Opened s is expected = absurd (true≢false (sym is))
  link-orderly NotOpened s is expected = absurd (true≢false (sym is))
  link-orderly NextFailed s is expected = absurd (true≢false (sym is))

  links-orderly : (steps : List WorldStep) (s : State) → AreLinkSteps steps → AreExpectedOnLinks steps s → AllByRecursion (IsOrderly app) steps
  links-orderly [] s all places = tt
  links-orderly (step ∷ steps) s all places = (link-orderly step s all.0 places.0, links-orderly steps (after_step step s) all.1 places.1)

  -- No call of a link failed but by the loss of its switch.
  pub placed-orderly : {Own : Type 0} (old new : Seen Own) → LinkSteps old new → MakesNoStrayCall old new → OrderlySince app old new
  placed-orderly old new links placed = record {
    steps = links.steps;
    history = links.history;
    orderly = links-orderly links.steps (state old) links.all (placed links.steps links.history);
  }

  pub exchange-orderly : {Own : Type 0} (Tells : Type 0) (d : ℕ) (bytes : List ℕ) (old new : Seen Own) (net now_net : NetState) (result : Result Answer TxnFault) → Tells → InOrder new → AreJoined net.views (state old)
      → Changes Tells d bytes old new net now_net result → OrderlySince app old new
  exchange-orderly Tells d bytes old new net now_net result told order joined changes =
      placed-orderly old new (changes.links told) (changes.no_strays told order (λ has. joined d (has_view has)))
    where
      some_there : (o : Option (List ViewRow)) → IsSome o → is_some o ≡ true
      some_there None has = absurd (true≢false (sym has))
      some_there (Some rows) has = refl

      has_view : IsSome (rows_at d net.views) → is_viewed d net.views ≡ true
      has_view has = viewed_rows d net.views ∙ some_there (rows_at d net.views) has

  pub undo-orderly : {Own : Type 0} (Tells : Type 0) (start : ℕ) (old new : Seen Own) (net now_net : NetState) (result : Result (Unit {0}) TxnFault) → Tells → InOrder new → AreJoined net.views (state old)
      → Undoes Tells start old new net now_net result → OrderlySince app old new
  undo-orderly Tells start old new net now_net result told order joined undoes = placed-orderly old new (undoes.links told) (undoes.no_strays told order joined)

  pub release-orderly : {Own : Type 0} (Tells : Type 0) (start : ℕ) (old new : Seen Own) (net now_net : NetState) (queue now_queue : List Event) (result : Result (List (ℕ × ℕ)) TxnFault) → Tells → InOrder new → AreJoined net.views (state old)
      → Commits Tells start old new net now_net queue now_queue result → OrderlySince app old new
  release-orderly Tells start old new net now_net queue now_queue result told order joined commits = placed-orderly old new (commits.links told) (commits.no_strays told order joined)
