-- How a world and what the host keeps of it stand to where a transaction began: the logged keys were added since, some switches were lost,
-- and nothing else changed. All of this is our own.
use Rattle.std.specs.Prelude.{◌≡◌, ◌==◌, ◌⊎◌, ℕ, ◌≤◌, true, false, List, [], ◌∷◌, ◌++◌, length, drop, map, filter, Option, Some, None, if◌then◌else◌}
use Rattle.of_match.specs.declared.key.Key.{Key}
use Rattle.of_wire.specs.declared.bodies.FlowMod.{FlowMod as Change}
use Rattle.flow_table.specs.Change.{key_in, is_delete}
use Rattle.flow_table.specs.Switch.{SwitchState}
use Rattle.undo_laws.specs.Removal.{OnlyAdded}
use Rattle.lego_model.specs.AfterFault.{WasLost}
use Rattle.lego_model.specs.Events.{ports_of}
use Rattle.lego_model.specs.History.{lost_of}
use Rattle.outside.specs.Seen.{Seen}
use Rattle.outside.specs.State.{state, switch_of, waits_of}
use Rattle.net_txn.specs.declared.ports.KnownPorts.{KnownPorts}
use Rattle.net_txn.specs.Net.{NetState}
use Rattle.net_txn.specs.ChangeSteps.{Agrees}
use Rattle.net_txn.specs.Losing.{lose_all}
use Rattle.of_types.specs.Membership.{is_among}
use Rattle.net_txn.specs.Undos.{key_logged, without_keys, keys_of}
use Rattle.net_txn.specs.Views.{is_viewed}

-- what is known of the ports of a switch, while it is joined
abbrev pub ports_known : ℕ → Option SwitchState → List KnownPorts
ports_known d None = []
ports_known d (Some s) = record { dpid = d; ports = ports_of s } ∷ []

-- nothing of any switch waits, each view shows its table, and the known ports are those of the joined switches
pub record Ready {Own : Type 0} (seen : Seen Own) (net : NetState) : Type 0 where
  pub waits : (d : ℕ) → waits_of d (state seen) ≡ []
  pub agrees : (d : ℕ) → Agrees d net.views (state seen)
  pub known : (d : ℕ) → filter (λ k. k.dpid == d) net.ports ≡ ports_known d (switch_of d (state seen))

-- the keys that were logged from a place on, with their switches
abbrev pub logged_since : ℕ → NetState → List (ℕ × Key)
logged_since start net = map key_logged (drop start net.log)

-- a switch to whose table these keys were added since
pub record SwitchSince (keys : List Key) (before now : SwitchState) : Type 0 where
  pub rest : now ≡ record before { table = now.table }
  pub added : OnlyAdded keys before.table.entries now.table.entries

-- a switch that stood so, and stands so now
pub record JoinedSince (keys : List Key) (before : SwitchState) (now : Option SwitchState) : Type 0 where
  pub switch : SwitchState
  pub stands : now ≡ Some switch
  pub since : SwitchSince keys before switch

-- These switches were lost since then, in order: they are out, and nothing is kept of them but what was logged.
pub record Since {Own : Type 0} (start : ℕ) (lost : List ℕ) (first now : Seen Own) (net0 net : NetState) : Type 0 where
  pub started : start ≤ length net.log
  pub given : now.given ≡ first.given
  pub moment : net.moment ≡ net0.moment
  pub kept : net.kept ≡ (lose_all lost net0).kept
  pub views : without_keys (logged_since start net) net.views ≡ (lose_all lost net0).views
  pub losses : lost_of now ≡ lost_of first ++ lost
  pub joined : (d : ℕ) (s : SwitchState) → is_among d lost ≡ false → switch_of d (state first) ≡ Some s → JoinedSince (keys_of d (logged_since start net)) s (switch_of d (state now))
  pub lost_out : (d : ℕ) → is_among d lost ≡ true → switch_of d (state now) ≡ None
  pub out : (d : ℕ) → switch_of d (state first) ≡ None → switch_of d (state now) ≡ None

-- an open transaction: the world stands so to where it began, and between messages all is ready
pub record Goes {Own : Type 0} (start : ℕ) (lost : List ℕ) (first now : Seen Own) (net0 net : NetState) : Type 0 where
  pub since : Since start lost first now net0 net
  pub ready : Ready now net

-- a transaction that stood so before some calls stands so behind them, where these switches were lost in them
pub record GoesOn {Own : Type 0} (start : ℕ) (lost : List ℕ) (first old new : Seen Own) (net0 now_net : NetState) : Type 0 where
  pub more : List ℕ
  pub losses : lost_of new ≡ lost_of old ++ more
  pub goes : Goes start (lost ++ more) first new net0 now_net

-- the keys that a change logs
abbrev pub keys_by : Change → List Key
keys_by m = if is_delete m then [] else key_in m ∷ []

-- ---- After a fault

-- The same of the tables alone, whatever waits and whatever is kept, so that a change may be in flight.
pub record TablesSince {Own : Type 0} (start : ℕ) (first now : Seen Own) (net : NetState) : Type 0 where
  -- a switch that was joined is so still, with a view, or was lost
  pub joined : (d : ℕ) (s : SwitchState) → switch_of d (state first) ≡ Some s
      → ((is_viewed d net.views ≡ true) × JoinedSince (keys_of d (logged_since start net)) s (switch_of d (state now))) ⊎ ((is_viewed d net.views ≡ false) × WasLost d first now)
  pub out : (d : ℕ) → switch_of d (state first) ≡ None → (is_viewed d net.views ≡ false) × (switch_of d (state now) ≡ None)
