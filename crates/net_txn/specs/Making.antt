-- What the parts of a change do that its switch must answer: it is answered, or a fault comes, or the switch is lost. All of this is our own.
use Rattle.std.specs.Prelude.{◌≡◌, ◌⊎◌, ℕ, Bool, true, false, List, [], Result, Ok, Err, IfErr, MatchResult}
use Rattle.of_wire.specs.declared.bodies.FlowMod.{FlowMod as Change}
use Rattle.app_frames.specs.declared.frame.Answer.{Answer}
use Rattle.app_frames.specs.declared.frame.Answer.TheVariants.{Unknown}
use Rattle.outside.specs.Seen.{Seen}
use Rattle.outside.specs.InOrder.{MessagesSince}
use Rattle.lego_model.specs.declared.fault.TxnFault.{TxnFault}
use Rattle.net_txn.specs.declared.halt.Halt.{Halt}
use Rattle.net_txn.specs.declared.halt.Halt.TheVariants.{Lost, Fault}
use Rattle.net_txn.specs.declared.logged.Logged.{Logged}
use Rattle.lego_model.specs.BarrierWaits.{next_xid}
use Rattle.net_txn.specs.Causes.{IsCause}
use Rattle.net_txn.specs.Said.{Speaks}
use Rattle.net_txn.specs.Losing.{IsLost, lost_net}
use Rattle.net_txn.specs.Waits.{KeptMore}
use Rattle.net_txn.specs.Net.{NetState}
use Rattle.net_txn.specs.Answering.{Asked, Unsent, InFlight, log_in_flight, IfGivenUp}

-- all else stays
abbrev pub StaysBut : NetState → NetState → Type 0
StaysBut net now_net = now_net ≡ record net { views = now_net.views; log = now_net.log; held = record net.held { notices = now_net.held.notices }; xid = next_xid (next_xid net.xid); kept = now_net.kept }

-- The switch was lost. All bytes that came before were messages, its view stands as it stood, and more of its messages may be kept.
pub record LosesSo {Own : Type 0} (Tells : Type 0) (d : ℕ) (log : List Logged) (old new : Seen Own) (net now_net : NetState) : Type 0 where
  pub is_lost : IsLost Tells d [] old new
  pub read : Tells → MessagesSince old new
  pub views : now_net.views ≡ net.views
  pub log_is : now_net.log ≡ log
  pub kept : KeptMore d net.kept now_net.kept
  pub held : now_net.held ≡ net.held

-- with this log
abbrev pub Halts : {Own : Type 0} → Type 0 → ℕ → Change → List Logged → Seen Own → Seen Own → NetState → NetState → Halt → Type 0
Halts Tells d m log old new net now_net Lost = LosesSo Tells d log old new net now_net
Halts Tells d m log old new net now_net (Fault fault) = Unsent old new net now_net ⊎ InFlight Tells d m log old new net now_net (Fault fault)

-- what undoes the change is forgotten where its switch was lost, and where a fault came and a row has its key
abbrev pub forgets : {T : Type 0} → Bool → Result T Halt → Bool
forgets known (Ok x) = false
forgets known (Err Lost) = true
forgets known (Err (Fault fault)) = known

abbrev pub log_halted : ℕ → Change → NetState → Halt → List Logged
log_halted d m net Lost = net.log
log_halted d m net (Fault fault) = log_in_flight d m net.views net.log

-- ---- The whole

abbrev pub Judged : {Own : Type 0} → Type 0 → ℕ → Change → Seen Own → Seen Own → NetState → NetState → Result Answer TxnFault → Type 0
Judged Tells d m old new net now_net result =
    MatchResult result (Asked Tells d m old new net now_net) (λ f. Unsent old new net now_net ⊎ InFlight Tells d m (log_in_flight d m net.views net.log) old new net now_net (Fault f))

-- the switch was not lost
pub record MakesJoined {Own : Type 0} (Tells : Type 0) (d : ℕ) (m : Change) (old new : Seen Own) (net now_net : NetState) (result : Result Answer TxnFault) : Type 0 where
  pub judged : Judged Tells d m old new net now_net result
  pub flooded : IfErr result (λ fault. IfGivenUp Tells d m old new net (Fault fault))
  pub stays : StaysBut net now_net

pub record MakesLost {Own : Type 0} (Tells : Type 0) (d : ℕ) (old new : Seen Own) (net now_net : NetState) : Type 0 where
  pub is_lost : IsLost Tells d [] old new
  pub read : Tells → MessagesSince old new
  pub net_is : now_net ≡ record (lost_net d net) { xid = next_xid (next_xid net.xid) }

pub record Makes {Own : Type 0} (Tells : Type 0) (d : ℕ) (m : Change) (old new : Seen Own) (net now_net : NetState) (result : Result Answer TxnFault) : Type 0 where
  pub speaks : Speaks Tells d net.xid 2 old new
  pub cause : IfErr result (IsCause Tells d old new)
  pub made : MakesJoined Tells d m old new net now_net result ⊎ ((result ≡ Ok Unknown) × MakesLost Tells d old new net now_net)
