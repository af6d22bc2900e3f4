-- What follows of a switch that joins, in a world that keeps its word. All of this is our own.
use Rattle.std.specs.Prelude.{◌≡◌, ◌≢◌, ℕ, Bool, true, false, [], Some, Result, MatchResult}
use Rattle.std.specs.Option.{option_map}
use Rattle.flow_table.specs.Switch.{SwitchState, first_config}
use Rattle.outside.specs.Seen.{Seen}
use Rattle.outside.specs.State.{state, switch_of, waits_of}
use Rattle.outside.specs.Conforming.{Conforming}
use Rattle.lego_model.specs.declared.fault.TxnFault.{TxnFault}
use Rattle.net_txn.specs.Causes.{IsPlain}
use Rattle.net_txn.specs.declared.halt.Halt.{Halt}
use Rattle.net_txn.specs.Losing.{WaitHalts}
use Rattle.net_txn.specs.Joining.{greeted_from, greeting, DoesNotJoin}
use Rattle.net_txn.specs.Net.{NetState}
use Rattle.net_txn.specs.ChangeSteps.{Agrees}

-- ---- It did not join

-- it was lost, or a fault came; what was kept meanwhile is of the switch alone
pub record JoinHalts {Own : Type 0} (Tells : Type 0) (d : ℕ) (old new : Seen Own) (net now_net : NetState) (halt : Halt) : Type 0 where
  pub not_joined : DoesNotJoin d net now_net
  pub halts : WaitHalts Tells (greeted_from d net.xid) (greeting d net.xid) old new halt

-- ---- It joined

-- the switch with no entries and the first configuration
abbrev pub emptied : SwitchState → SwitchState
emptied s = record s { table = record s.table { entries = [] }; config = first_config }

-- The switch is emptied, and stands as it stood where it was empty before; nothing of it waits, its new view shows its table, no other
-- switch moves, and nothing is kept.
pub record JoinsInStep {Own : Type 0} (d : ℕ) (old new : Seen Own) (net now_net : NetState) : Type 0 where
  pub moved : switch_of d (state new) ≡ option_map emptied (switch_of d (state old))
  pub stays : (s : SwitchState) → switch_of d (state old) ≡ Some s → s.table.entries ≡ [] → s.config ≡ first_config → switch_of d (state new) ≡ Some s
  pub waits : waits_of d (state new) ≡ []
  pub others : (e : ℕ) → e ≢ d → switch_of e (state new) ≡ switch_of e (state old)
  pub others_wait : (e : ℕ) → e ≢ d → waits_of e (state new) ≡ waits_of e (state old)
  pub kept : now_net.kept ≡ net.kept
  pub agrees : Agrees d now_net.views (state new)
  pub others_agree : (e : ℕ) → e ≢ d → Agrees e net.views (state old) → Agrees e now_net.views (state new)

abbrev pub JoinedInStep : {Own : Type 0} → ℕ → Bool → Seen Own → Seen Own → NetState → NetState → Type 0
JoinedInStep d true old new net now_net = JoinsInStep d old new net now_net
JoinedInStep d false old new net now_net = Unit {0}

-- where the world keeps its word and nothing of the switch waited; a fault is then one of memory
abbrev pub JoinSteps : {Own : Type 0} → Type 0 → ℕ → Seen Own → Seen Own → NetState → NetState → Result Bool TxnFault → Type 0
JoinSteps Tells d old new net now_net result = Tells → Conforming new → waits_of d (state old) ≡ [] → MatchResult result (λ joined. JoinedInStep d joined old new net now_net) IsPlain
