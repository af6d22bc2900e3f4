-- What the engine does with one item that the outside told, in every world: what it then knows, what it has sent, and which messages it
-- keeps (OpenFlow 1.0.0, 5.3.1 Handshake and 5.5.2 Echo Request). All of this is our own.
use Rattle.std.specs.Prelude.{◌≡◌, ◌≢◌, ◌==◌, ℕ, Bool, true, false, not, List, [], ◌∷◌, ◌++◌, filter, Result, Ok, Err, IsOk, is_some, ◌⊎◌, map, Option, Some, None}
use Rattle.of_types.specs.Fields.{IsBytes}
use Rattle.of_types.specs.declared.port_desc.PortDesc.{PortDesc}
use Rattle.of_wire.specs.declared.message.Message.{Message}
use Rattle.of_match.specs.declared.key.Key.{Key}
use Rattle.of_wire.specs.declared.message.Message.TheVariants.{FeaturesReply}
use Rattle.of_wire.specs.declared.message.Envelope.{Envelope}
use Rattle.of_wire.specs.declared.fault.WireFault.{WireFault}
use Rattle.of_wire.specs.Reading.{reading_of}
use Rattle.app_frames.specs.declared.frame.Answer.{Answer}
use Rattle.app_frames.specs.declared.frame.Event.{Event}
use Rattle.flow_table.specs.View.{TableView}
use Rattle.outside.specs.declared.item.Item.{Item}
use Rattle.outside.specs.declared.step.WorldStep.{WorldStep}
use Rattle.outside.specs.declared.step.WorldStep.TheVariants.{From, Joined, Left, Moment, Acted, Idle, End}
use Rattle.outside.specs.Seen.{Seen, Continues, journal}
use Rattle.outside.specs.State.{state, waits_of, Link, State, switch_of, upcoming}
use Rattle.outside.specs.Calls.{Nexts, item_step}
use Rattle.outside.specs.Conforming.{Conforming, AreDeclaredFrom}
use Rattle.net_txn.specs.Net.{NetState}
use Rattle.net_txn.specs.Views.{rows_at}
use Rattle.net_txn.specs.Arriving.{arrival_steps}
use Rattle.net_txn.specs.Joining.{Joins}
use Rattle.net_txn.specs.JoiningSteps.{JoinsInStep}
use Rattle.lego_model.specs.RunReport.{lost_line}
use Rattle.net_txn.specs.LinkSteps.{OnLinks, AsksWithoutStrays}
use Rattle.net_txn.specs.Losing.{IsLost}
use Rattle.net_txn.specs.Queries.{Queried}
use Rattle.net_txn.specs.Settling.{doubted, key_inquiry, shows_gone}
use Rattle.batch_laws.specs.Knowledge.{knowledge_of, joined_by, handled, LosesAt, known_lost, text_lost, left_events, lost_text}
use Rattle.of_types.specs.declared.journal.Act.TheVariants.{Sent, Got}
use Rattle.flow_table.specs.Switch.{SwitchState, first_config}
use Rattle.lego_model.specs.History.{released_of, lost_of}
use Rattle.lego_model.specs.Journal.{is_of, stimuli}
use Rattle.switch_laws.specs.Orderly.{OrderlySince}
use Rattle.batch_laws.specs.InBatch.{SameBesides}

-- ---- What is done

-- no call was made, and the same messages are kept
pub record Untouched {Own : Type 0} (old new : Seen Own) (net now_net : NetState) : Type 0 where
  pub seen : new ≡ old
  pub kept : now_net.kept ≡ net.kept

-- nothing was done at all
pub record Rests {Own : Type 0} (old new : Seen Own) (net now_net : NetState) : Type 0 where
  pub seen : new ≡ old
  pub same : now_net ≡ net

-- what is sent for a message
abbrev pub answers : ℕ → Result Envelope WireFault → List WorldStep
answers d (Ok e) = arrival_steps d e.xid e.message
answers d (Err fault) = []

-- A message of a joined switch is read; an ECHO_REQUEST is answered.
pub record TakesMessage {Own : Type 0} (Tells : Type 0) (d : ℕ) (bytes : List ℕ) (old new : Seen Own) (net now_net : NetState) : Type 0 where
  pub fit : IsBytes bytes
  pub read : IsOk (reading_of bytes)
  pub told : Tells → new.history ≡ old.history ++ answers d (reading_of bytes)
  pub kept : now_net.kept ≡ net.kept

-- A switch joins.
pub record TakesIn {Own : Type 0} (Tells : Type 0) (d : ℕ) (ports : List PortDesc) (old new : Seen Own) (net now_net : NetState) : Type 0 where
  pub joins : Joins Tells d ports old new net now_net
  pub in_step : Tells → Conforming new → waits_of d (state old) ≡ [] → JoinsInStep d old new net now_net

abbrev pub TakesInBy : {Own : Type 0} → Type 0 → ℕ → Message → Seen Own → Seen Own → NetState → NetState → Type 0
TakesInBy Tells d (FeaturesReply features) old new net now_net = TakesIn Tells d features.ports old new net now_net
TakesInBy Tells d other old new net now_net = Untouched old new net now_net

abbrev pub TakesInAs : {Own : Type 0} → Type 0 → ℕ → Result Envelope WireFault → Seen Own → Seen Own → NetState → NetState → Type 0
TakesInAs Tells d (Ok e) old new net now_net = TakesInBy Tells d e.message old new net now_net
TakesInAs Tells d (Err fault) old new net now_net = Untouched old new net now_net

-- A switch leaves, with the messages of it that were kept.
pub record TakesOut {Own : Type 0} (d : ℕ) (old new : Seen Own) (net now_net : NetState) : Type 0 where
  pub seen : new ≡ old
  pub kept : now_net.kept ≡ filter (λ m. not (m.0 == d)) net.kept

-- ---- By whether the switch has a view

abbrev pub DoesFrom : {Own : Type 0} → Type 0 → ℕ → List ℕ → Bool → Seen Own → Seen Own → NetState → NetState → Type 0
DoesFrom Tells d bytes true old new net now_net = TakesMessage Tells d bytes old new net now_net
DoesFrom Tells d bytes false old new net now_net = Untouched old new net now_net

abbrev pub DoesJoined : {Own : Type 0} → Type 0 → ℕ → List ℕ → Bool → Seen Own → Seen Own → NetState → NetState → Type 0
DoesJoined Tells d bytes true old new net now_net = Untouched old new net now_net
DoesJoined Tells d bytes false old new net now_net = TakesInAs Tells d (reading_of bytes) old new net now_net

abbrev pub DoesLeft : {Own : Type 0} → ℕ → Bool → Seen Own → Seen Own → NetState → NetState → Type 0
DoesLeft d true old new net now_net = TakesOut d old new net now_net
DoesLeft d false old new net now_net = Untouched old new net now_net

abbrev pub Does : {Own : Type 0} → Type 0 → WorldStep → Seen Own → Seen Own → NetState → NetState → Type 0
Does Tells (From d bytes) old new net now_net = DoesFrom Tells d bytes (is_some (rows_at d net.views)) old new net now_net
Does Tells (Joined d bytes) old new net now_net = DoesJoined Tells d bytes (is_some (rows_at d net.views)) old new net now_net
Does Tells (Left d) old new net now_net = DoesLeft d (is_some (rows_at d net.views)) old new net now_net
Does Tells (Moment t) old new net now_net = Untouched old new net now_net
Does Tells other old new net now_net = Rests old new net now_net

-- ---- Parts of it, as the functions say them

-- messages that are kept, but for those of a switch that left
abbrev pub kept_left : Bool → ℕ → List (ℕ × List ℕ) → List (ℕ × List ℕ)
kept_left true d kept = filter (λ m. not (m.0 == d)) kept
kept_left false d kept = kept

pub record Departs (d : ℕ) (net now_net : NetState) (queue now_queue : List Event) : Type 0 where
  pub knowledge : knowledge_of now_net now_queue ≡ handled (Left d) (knowledge_of net queue)
  pub log : now_net.log ≡ net.log
  pub room : now_net.room ≡ net.room
  pub held : now_net.held ≡ net.held
  pub left : now_net.left ≡ net.left
  pub kept : now_net.kept ≡ kept_left (is_some (rows_at d net.views)) d net.kept

pub record EntersStill {Own : Type 0} (Tells : Type 0) (d : ℕ) (m : Message) (text : List ℕ) (old new : Seen Own) (net now_net : NetState) (queue now_queue : List Event) : Type 0 where
  pub knowledge : knowledge_of now_net now_queue ≡ joined_by d m (knowledge_of net queue)
  pub takes : TakesInBy Tells d m old new net now_net
  pub text_is : text ≡ []

-- it is lost
pub record EntersNot {Own : Type 0} (Tells : Type 0) (d : ℕ) (text : List ℕ) (old new : Seen Own) (net now_net : NetState) (queue now_queue : List Event) : Type 0 where
  pub is_lost : IsLost Tells d [] old new
  pub knowledge : knowledge_of now_net now_queue ≡ knowledge_of net queue
  pub kept : now_net.kept ≡ filter (λ m. not (m.0 == d)) net.kept
  pub text_is : text ≡ lost_line d

pub record Enters {Own : Type 0} (Tells : Type 0) (d : ℕ) (m : Message) (text : List ℕ) (old new : Seen Own) (net now_net : NetState) (queue now_queue : List Event) : Type 0 where
  pub log : now_net.log ≡ net.log
  pub room : now_net.room ≡ net.room
  pub held : now_net.held ≡ net.held
  pub left : now_net.left ≡ net.left
  pub went : EntersStill Tells d m text old new net now_net queue now_queue ⊎ EntersNot Tells d text old new net now_net queue now_queue

-- ---- The whole

-- no switch is lost at it
pub record HandlesStill {Own : Type 0} (Tells : Type 0) (item : WorldStep) (text : List ℕ) (old new : Seen Own) (net now_net : NetState) (queue now_queue : List Event) : Type 0 where
  pub knowledge : knowledge_of now_net now_queue ≡ handled item (knowledge_of net queue)
  pub does : Does Tells item old new net now_net
  pub text_is : text ≡ []

-- a switch is lost at it, and told
pub record HandlesLost {Own : Type 0} (Tells : Type 0) (item : WorldStep) (text : List ℕ) (old new : Seen Own) (net now_net : NetState) (queue now_queue : List Event) : Type 0 where
  pub dpid : ℕ
  pub at : LosesAt dpid item (knowledge_of net queue)
  pub is_lost : IsLost Tells dpid [] old new
  pub links : OnLinks Tells old new
  pub no_strays : AsksWithoutStrays Tells dpid old new
  pub knowledge : knowledge_of now_net now_queue ≡ known_lost dpid item (knowledge_of net queue)
  pub kept : now_net.kept ≡ filter (λ m. not (m.0 == dpid)) net.kept
  pub text_is : text ≡ text_lost dpid item (knowledge_of net queue)

-- A message that was kept, a switch that joins or leaves, or a moment is handled, and this text noted.
pub record Handles {Own : Type 0} (Tells : Type 0) (item : WorldStep) (text : List ℕ) (old new : Seen Own) (net now_net : NetState) (queue now_queue : List Event) : Type 0 where
  pub continues : Continues Tells old new
  pub log : now_net.log ≡ net.log
  pub room : now_net.room ≡ net.room
  pub held : now_net.held ≡ net.held
  pub left : now_net.left ≡ []
  pub went : HandlesStill Tells item text old new net now_net queue now_queue ⊎ HandlesLost Tells item text old new net now_net queue now_queue

-- ---- A notice of a deletion, whose key has a row (5.4.2 Flow Removed Message)

-- Where the entry is gone it is handled as any message; else it is dropped, and where the switch was lost meanwhile that is told.
abbrev pub SettledBy : {Own : Type 0} → Type 0 → WorldStep → List ℕ → Bool → Seen Own → Seen Own → NetState → NetState → List Event → List Event → Type 0
SettledBy Tells item text true mid new mid_net now_net queue now_queue = HandlesStill Tells item text mid new mid_net now_net queue now_queue
SettledBy Tells item text false mid new mid_net now_net queue now_queue =
    (new ≡ mid) × (now_net ≡ record mid_net { left = [] }) × (now_queue ≡ queue ++ left_events mid_net.left) × (text ≡ lost_text mid_net.left)

-- the key of one that is in doubt
abbrev pub doubt_in : WorldStep → List TableView → Option Key
doubt_in (From d bytes) views = doubted d views (reading_of bytes)
doubt_in other views = None

-- It may be of an earlier entry: the switch was asked for the rows of the key, and there is an answer.
pub record HandlesDoubt {Own : Type 0} (Tells : Type 0) (item : WorldStep) (text : List ℕ) (key : Key) (old new : Seen Own) (net now_net : NetState) (queue now_queue : List Event) : Type 0 where
  pub dpid : ℕ
  pub bytes : List ℕ
  pub item_is : item ≡ From dpid bytes
  pub doubt : doubted dpid net.views (reading_of bytes) ≡ Some key
  pub none_left : net.left ≡ []
  pub answer : Answer
  pub mid : Seen Own
  pub mid_net : NetState
  pub asked : Queried Tells (key_inquiry dpid net.xid key) old mid net mid_net (Ok answer)
  pub later : Continues Tells mid new
  pub links : OnLinks Tells mid new
  pub settled : SettledBy Tells item text (shows_gone key answer) mid new mid_net now_net queue now_queue

-- ---- What was told

-- a notice in doubt by what is answered, and anything else at once
abbrev pub WentBy : {Own : Type 0} → Type 0 → WorldStep → List ℕ → Option Key → Seen Own → Seen Own → NetState → NetState → List Event → List Event → Type 0
WentBy Tells item text None old new net now_net queue now_queue = HandlesStill Tells item text old new net now_net queue now_queue ⊎ HandlesLost Tells item text old new net now_net queue now_queue
WentBy Tells item text (Some key) old new net now_net queue now_queue = HandlesDoubt Tells item text key old new net now_net queue now_queue

-- It is handled, and this text noted.
pub record HandlesTold {Own : Type 0} (Tells : Type 0) (item : WorldStep) (text : List ℕ) (old new : Seen Own) (net now_net : NetState) (queue now_queue : List Event) : Type 0 where
  pub continues : Continues Tells old new
  pub log : now_net.log ≡ net.log
  pub room : now_net.room ≡ net.room
  pub held : now_net.held ≡ net.held
  pub left : now_net.left ≡ []
  pub went : WentBy Tells item text (doubt_in item net.views) old new net now_net queue now_queue

-- The outside told an item, whose bytes stand in a buffer of bytes, and the engine did this with it.
pub record TakesNext {Own : Type 0} (Tells : Type 0) (item : Item) (text : List ℕ) (old new : Seen Own) (net now_net : NetState) (queue now_queue : List Event) : Type 0 where
  pub mid : Seen Own
  pub buf : List ℕ
  pub fit : IsBytes buf
  pub nexts : Nexts Tells old mid (Ok item) buf
  pub handles : HandlesTold Tells (item_step item buf) text mid new net now_net queue now_queue

abbrev pub Ascend : ℕ → List Link → Type 0
Ascend least ls = AreDeclaredFrom least (map (λ l. l.declared) ls)

pub record Leaves (s t : State) : Type 0 where
  pub besides : SameBesides t s
  pub begun : t.begun ≡ s.begun
  pub due : t.due ≡ s.due
  pub switches : (d : ℕ) → switch_of d t ≡ switch_of d s
  pub upcoming_is : upcoming t ≡ upcoming s

-- the rest of a state, whatever becomes of switches
pub record SameRest (s t : State) : Type 0 where
  pub besides : SameBesides t s
  pub begun : t.begun ≡ s.begun
  pub due : t.due ≡ s.due

-- A switch was lost where nothing waited of any: it is out, and nothing else moved or was told.
pub record LossLeaves {Own : Type 0} (d : ℕ) (mid new : Seen Own) : Type 0 where
  pub rest : SameRest (state mid) (state new)
  pub out : switch_of d (state new) ≡ None
  pub others : (e : ℕ) → e ≢ d → switch_of e (state new) ≡ switch_of e (state mid)
  pub waits : (e : ℕ) → waits_of e (state new) ≡ []
  pub lost : lost_of new ≡ lost_of mid ++ d ∷ []
  pub stimuli_is : stimuli (journal new.history) ≡ stimuli (journal mid.history)
  pub acts : (app : ℕ) → filter (is_of app) (journal new.history) ≡ filter (is_of app) (journal mid.history)
  pub released : released_of new ≡ released_of mid
  pub orderly : (app : ℕ) → OrderlySince app mid new

abbrev pub IsSentOrGot : WorldStep → Type 0
IsSentOrGot step = (d : ℕ) × (bytes : List ℕ) × ((step ≡ Acted (Sent d bytes)) ⊎ (step ≡ Acted (Got d bytes)))

pub record ItemDone {Own : Type 0} (mid new : Seen Own) : Type 0 where
  pub given : new.given ≡ mid.given
  pub lost : lost_of new ≡ lost_of mid
  pub leaves : Leaves (state mid) (state new)
  pub stimuli_is : stimuli (journal new.history) ≡ stimuli (journal mid.history)
  pub acts : (app : ℕ) → filter (is_of app) (journal new.history) ≡ filter (is_of app) (journal mid.history)
  pub released : released_of new ≡ released_of mid
  pub orderly : (app : ℕ) → OrderlySince app mid new

pub record Fresh (d : ℕ) (s : State) : Type 0 where
  pub waits : (e : ℕ) → waits_of e s ≡ []
  pub switch : SwitchState
  pub joined : switch_of d s ≡ Some switch
  pub empty : switch.table.entries ≡ []
  pub config : switch.config ≡ first_config

abbrev pub IsFresh : WorldStep → State → Type 0
IsFresh (Joined d bytes) s = Fresh d s
IsFresh other s = Unit {0}

pub record Done {Own : Type 0} (mid new : Seen Own) (now_net : NetState) : Type 0 where
  pub done : ItemDone mid new
  pub kept : now_net.kept ≡ []

-- What the engine does at an item that may be told moves no switch, and no message is kept.
abbrev pub IsItem : WorldStep → Type 0
IsItem (From d bytes) = Unit {0}
IsItem (Joined d bytes) = Unit {0}
IsItem (Left d) = Unit {0}
IsItem (Moment t) = Unit {0}
IsItem Idle = Unit {0}
IsItem End = Unit {0}
IsItem other = ⊥
