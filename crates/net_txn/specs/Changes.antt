-- What `change` does with one message of an application for a switch: it is answered, or its switch is lost. All of this is our own.
use Rattle.std.specs.Prelude.{◌≡◌, ℕ, true, List, [], Some, None, Result, Ok, IsOk, IfErr, IsSome, MatchResult, ◌⊎◌}
use Rattle.std.specs.Option.{is_some}
use Rattle.of_wire.specs.declared.bodies.FlowMod.{FlowMod as Change}
use Rattle.of_wire.specs.declared.bodies.Stats.{Stats as Query}
use Rattle.of_wire.specs.declared.message.Message.TheVariants.{FlowMod, StatsRequest}
use Rattle.of_wire.specs.Reading.{reading_of}
use Rattle.of_wire.specs.Grammar.{enveloped}
use Rattle.app_frames.specs.declared.frame.Answer.{Answer}
use Rattle.app_frames.specs.declared.frame.Answer.TheVariants.{Unknown}
use Rattle.outside.specs.Seen.{Seen, Continues}
use Rattle.outside.specs.State.{state, is_joined}
use Rattle.outside.specs.InOrder.{InOrder, MessagesSince}
use Rattle.lego_model.specs.declared.fault.TxnFault.{TxnFault}
use Rattle.net_txn.specs.declared.halt.Halt.TheVariants.{Fault}
use Rattle.net_txn.specs.LinkSteps.{OnLinks, MakesNoStrayCall}
use Rattle.net_txn.specs.OwnIds.{KeepsIds}
use Rattle.net_txn.specs.Causes.{IsCause}
use Rattle.net_txn.specs.Losing.{IsLost, lost_net}
use Rattle.lego_model.specs.History.{lost_of}
use Rattle.net_txn.specs.Views.{rows_at, is_viewed}
use Rattle.net_txn.specs.Net.{NetState}
use Rattle.net_txn.specs.ChangeSteps.{Reaches, Steps}
use Rattle.net_txn.specs.Asks.{Inquiry}
use Rattle.net_txn.specs.Queries.{IsReplyCause, Queries}
pub use Rattle.net_txn.specs.Answering.{answer_of_host, error_in, views_by, log_by, change_sent, Asked, Unsent, log_in_flight, CutOff, Stopped, BreaksOff, InFlight, MayMove, IfGivenUp, held_after, ByHost}

-- a fault of the wait, or of what came for a request of statistics
abbrev pub IsExchangeCause : {Own : Type 0} → Type 0 → ℕ → Seen Own → Seen Own → List (ℕ × List ℕ) → List (ℕ × List ℕ) → TxnFault → Type 0
IsExchangeCause Tells d old new kept now_kept fault = IsCause Tells d old new fault ⊎ ((i : Inquiry) × (i.dpid ≡ d) × IsReplyCause Tells i old new kept now_kept fault)

-- No switch was lost. A packet is held, after a fault nothing more is, and the same switches have views. The host's own answer is exactly that; else the switch answers.
-- Flooded comes only where 65,536 messages were got behind the barrier, none of them its reply. After a fault it is known whether anything was
-- sent, and what was said; what undoes the change is logged before it is sent. What the switch answered reached it at once; and where the world
-- keeps its word, nothing of the switch waited, and view and table agreed, they take the step together, and a fault is one of memory. A request of
-- statistics moves nothing, and is answered by what came for it.
pub record ChangesJoined {Own : Type 0} (Tells : Type 0) (d : ℕ) (bytes : List ℕ) (old new : Seen Own) (net now_net : NetState) (result : Result Answer TxnFault) : Type 0 where
  pub switches : (e : ℕ) → is_some (rows_at e now_net.views) ≡ is_some (rows_at e net.views)
  pub ports : now_net.ports ≡ net.ports
  pub left : now_net.left ≡ net.left
  pub held : now_net.held.packets ≡ (held_after d bytes result net.held).packets
  pub unheld : IfErr result (λ fault. now_net.held ≡ net.held)
  pub by_host : (answer : Answer) → answer_of_host d bytes net ≡ Some answer → ByHost d bytes answer old new net now_net result
  pub by_switch : (xid : ℕ) (m : Change) → answer_of_host d bytes net ≡ None → reading_of bytes ≡ Ok (enveloped xid (FlowMod m))
      → MatchResult result (Asked Tells d m old new net now_net) (λ f. Stopped d m old new net now_net)
  pub flooded : (xid : ℕ) (m : Change) → answer_of_host d bytes net ≡ None → reading_of bytes ≡ Ok (enveloped xid (FlowMod m))
      → IfErr result (λ fault. IfGivenUp Tells d m old new net (Fault fault))
  pub in_flight : (xid : ℕ) (m : Change) → answer_of_host d bytes net ≡ None → reading_of bytes ≡ Ok (enveloped xid (FlowMod m))
      → IfErr result (λ fault. Unsent old new net now_net ⊎ InFlight Tells d m (log_in_flight d m net.views net.log) old new net now_net (Fault fault))
  pub by_statistics : (xid : ℕ) (q : Query) → answer_of_host d bytes net ≡ None → reading_of bytes ≡ Ok (enveloped xid (StatsRequest q))
      → Queries Tells (record { dpid = d; xid = net.xid; query = q }) old new net now_net result
  pub reached : Reaches Tells d bytes old new net result
  pub in_step : Steps Tells d bytes old new net now_net result
  pub losses : Tells → lost_of new ≡ lost_of old

-- The host let the message pass, and its switch was lost: nothing else changes of what the host keeps but the transaction id.
pub record ChangesLost {Own : Type 0} (Tells : Type 0) (d : ℕ) (old new : Seen Own) (net now_net : NetState) : Type 0 where
  pub viewed : is_viewed d net.views ≡ true
  pub is_lost : IsLost Tells d [] old new
  pub net_is : now_net ≡ record (lost_net d net) { xid = now_net.xid }

-- The message is answered, or its switch is lost and it is answered by Unknown. Moment and room stay, and each fault has its cause. The calls are those of links
-- alone, and in place where the world tells in order and the switch is joined; after Ok all bytes that came were messages.
pub record Changes {Own : Type 0} (Tells : Type 0) (d : ℕ) (bytes : List ℕ) (old new : Seen Own) (net now_net : NetState) (result : Result Answer TxnFault) : Type 0 where
  pub continues : Continues Tells old new
  pub links : OnLinks Tells old new
  pub no_strays : Tells → InOrder new → (IsSome (rows_at d net.views) → is_joined d (state old) ≡ true) → MakesNoStrayCall old new
  pub read : IsOk result → Tells → MessagesSince old new
  pub cause : IfErr result (IsExchangeCause Tells d old new net.kept now_net.kept)
  pub moment : now_net.moment ≡ net.moment
  pub room : now_net.room ≡ net.room
  pub ids : KeepsIds Tells 2 old new net.xid now_net.xid result
  pub answered : ChangesJoined Tells d bytes old new net now_net result
      ⊎ ((answer_of_host d bytes net ≡ None) × (result ≡ Ok Unknown) × ChangesLost Tells d old new net now_net)
