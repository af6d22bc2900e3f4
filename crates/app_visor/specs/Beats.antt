-- What happens during a turn, beat by beat: a call for the application, or one message as the network answered it. All of this is our own
-- choice.
use Rattle.std.specs.Prelude.{◌≡◌, ℕ, Bool, true, List, [], ◌∷◌, ◌++◌, filter, filter_map, Option, Some, None, Ok, Err, ◌⊎◌}
use Rattle.of_types.specs.declared.journal.Act.{Act}
use Rattle.app_frames.specs.declared.frame.Answer.{Answer}
use Rattle.lego_model.specs.Journal.{is_of, give_act}
use Rattle.lego_model.specs.Controller.{answer_frame}
use Rattle.outside.specs.declared.step.WorldStep.{WorldStep}
use Rattle.outside.specs.Seen.{Seen, journal}
use Rattle.lego_model.specs.declared.fault.TxnFault.{TxnFault}
use Rattle.lego_model.specs.declared.fault.TxnFault.TheVariants.{NoMemory}
use Rattle.net_txn.specs.Net.{NetState}
use Rattle.net_txn.specs.Changes.{Changes}
use Rattle.app_visor.specs.Talks.{Told, Wants}

-- one message for a switch, with its answer, and what was seen and kept before and after it
pub record Exchange (Own : Type 0) : Type 0 where
  pub dpid : ℕ
  pub bytes : List ℕ
  pub answer : Answer
  pub before : Seen Own
  pub after : Seen Own
  pub net : NetState
  pub now_net : NetState

-- as the network answered it
pub record IsExchange {Own : Type 0} (Tells : Type 0) (x : Exchange Own) : Type 0 where
  pub changes : Changes Tells x.dpid x.bytes x.before x.after x.net x.now_net (Ok x.answer)

pub data Beat (Own : Type 0) : Type 0 where
  Talk : Act → Beat Own
  Asks : Exchange Own → Beat Own

-- The beats lead from what was seen and kept before to what is then, each from where the one before it led.
abbrev pub Chain : {Own : Type 0} → Type 0 → ℕ → List (Beat Own) → Seen Own → Seen Own → NetState → NetState → Type 0
Chain Tells app [] old new net now_net = (new ≡ old) × (now_net ≡ net)
Chain Tells app (Talk act ∷ trace) old new net now_net =
    (is_of app act ≡ true) × ((next : Seen _) × (Told Tells act old next × Chain Tells app trace next new net now_net))
Chain Tells app (Asks x ∷ trace) old new net now_net =
    ((x.before ≡ old) × (x.net ≡ net)) × (IsExchange Tells x × Chain Tells app trace x.after new x.now_net now_net)

abbrev pub act_in : {Own : Type 0} → Beat Own → Option Act
act_in (Talk act) = Some act
act_in (Asks x) = None

abbrev pub exchange_in : {Own : Type 0} → Beat Own → Option (Exchange Own)
exchange_in (Talk act) = None
exchange_in (Asks x) = Some x

-- the calls for the application, and the messages, in order
abbrev pub acts_in : {Own : Type 0} → List (Beat Own) → List Act
acts_in trace = filter_map act_in trace

abbrev pub exchanges_in : {Own : Type 0} → List (Beat Own) → List (Exchange Own)
exchanges_in trace = filter_map exchange_in trace

-- some beats lead there
pub record Leads {Own : Type 0} (Tells : Type 0) (app : ℕ) (old new : Seen Own) (net now_net : NetState) : Type 0 where
  pub trace : List (Beat Own)
  pub chain : Chain Tells app trace old new net now_net

-- ---- One message and its answer

abbrev pub exchange_of : {Own : Type 0} → ℕ → List ℕ → Answer → Seen Own → Seen Own → NetState → NetState → Exchange Own
exchange_of dpid bytes answer before after net now_net =
    record { dpid = dpid; bytes = bytes; answer = answer; before = before; after = after; net = net; now_net = now_net }

-- The message was answered, and the application was given the answer, or was gone before.
pub record Exchanges {Own : Type 0} (Tells : Type 0) (app dpid : ℕ) (bytes : List ℕ) (given : Bool) (old new : Seen Own) (net now_net : NetState) : Type 0 where
  pub answer : Answer
  pub after : Seen Own
  pub exchange : IsExchange Tells (exchange_of dpid bytes answer old after net now_net)
  pub told : Told Tells (give_act given app (answer_frame answer)) after new

-- ---- A turn that stops

-- memory was wanting, or the network failed at a message
abbrev pub Halts : {Own : Type 0} → Type 0 → Seen Own → Seen Own → NetState → NetState → TxnFault → Type 0
Halts Tells old new net now_net fault =
    ((fault ≡ NoMemory) × (now_net ≡ net) × Wants Tells old new) ⊎ ((dpid : ℕ) × ((bytes : List ℕ) × Changes Tells dpid bytes old new net now_net (Err fault)))

-- Some beats lead to where it stopped.
pub record Stops {Own : Type 0} (Tells : Type 0) (app : ℕ) (old new : Seen Own) (net now_net : NetState) (fault : TxnFault) : Type 0 where
  pub then_seen : Seen Own
  pub then_net : NetState
  pub leads : Leads Tells app old then_seen net then_net
  pub halts : Halts Tells then_seen new then_net now_net fault

-- what no message of an application changes of what the host keeps
pub record Stays (net now_net : NetState) : Type 0 where
  pub moment : now_net.moment ≡ net.moment
  pub room : now_net.room ≡ net.room

-- ---- What the history has of beats

-- the acts of an application in a history
abbrev pub acts_of : ℕ → List WorldStep → List Act
acts_of app steps = filter (is_of app) (journal steps)

-- the history goes on by steps that have these acts of the application, and no others
pub record ActsTold {Own : Type 0} (app : ℕ) (acts : List Act) (old new : Seen Own) : Type 0 where
  pub steps : List WorldStep
  pub history : new.history ≡ old.history ++ steps
  pub acts_is : acts_of app steps ≡ acts
