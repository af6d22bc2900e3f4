-- What is done when a switch joins: its table is emptied and its configuration set, behind a barrier (OpenFlow 1.0.0, 5.3.2 Switch
-- Configuration and 5.3.3 Modify State Messages). An ERROR that answers one of the two is kept, as any other message. All of this is
-- our own choice.
use Rattle.std.specs.Prelude.{◌≡◌, ◌==◌, ℕ, ◌<◌, ◌≤◌, Bool, true, false, not, List, [], ◌∷◌, ◌++◌, filter, nat_lt, if◌then◌else◌}
use Rattle.std.proofs.Common.{zero, suc}
use Rattle.of_types.specs.declared.port_desc.PortDesc.{PortDesc}
use Rattle.of_types.specs.declared.journal.Act.TheVariants.{Sent}
use Rattle.of_match.specs.Fields.{bytes_of, any_fields}
use Rattle.of_match.specs.Match.{match_of}
use Rattle.of_wire.specs.declared.bodies.FlowMod.{FlowMod as Change}
use Rattle.of_wire.specs.declared.message.Message.TheVariants.{FlowMod, SetConfig}
use Rattle.of_wire.specs.Spelling.{message_bytes}
use Rattle.flow_table.specs.View.{TableView}
use Rattle.flow_table.specs.Refusals.{no_buffer}
use Rattle.flow_table.specs.Switch.{first_config}
use Rattle.outside.specs.declared.step.WorldStep.{WorldStep}
use Rattle.outside.specs.declared.step.WorldStep.TheVariants.{Acted}
use Rattle.outside.specs.Seen.{Seen}
use Rattle.lego_model.specs.declared.wait.Awaited.{Awaited}
use Rattle.lego_model.specs.declared.wait.Notices.TheVariants as notices
use Rattle.net_txn.specs.Waits.{Brought, Waits, KeptMore}
use Rattle.lego_model.specs.BarrierWaits.{barrier_sent, next_xid}
use Rattle.net_txn.specs.Net.{NetState}
use Rattle.lego_model.specs.History.{lost_of}
use Rattle.net_txn.specs.Losing.{IsLost}

-- DELETE of any match, whatever the outputs
abbrev pub delete_all : Change
delete_all = record {
  matching = match_of (bytes_of any_fields);
  cookie = 0;
  command = 3;
  idle = 0;
  hard = 0;
  priority = 0;
  buffer_id = no_buffer;
  out_port = 0xffff;
  flags = 0;
  actions = [];
}

-- two messages are sent, and then a barrier; no refusal is awaited
abbrev pub greeted_from : ℕ → ℕ → Awaited
greeted_from d xid = record { dpid = d; first = next_xid (next_xid xid); barrier = next_xid (next_xid xid); notices = notices.Dropped }

abbrev pub greeting : ℕ → ℕ → List WorldStep
greeting d xid =
    Acted (Sent d (message_bytes xid (FlowMod delete_all))) ∷ Acted (Sent d (message_bytes (next_xid xid) (SetConfig first_config)))
    ∷ barrier_sent (greeted_from d xid) ∷ []

-- an empty view among the others, by switch ascending
abbrev pub with_view : ℕ → List TableView → List TableView
with_view d [] = record { dpid = d; rows = [] } ∷ []
with_view d (v ∷ vs) = if nat_lt v.dpid d then v ∷ with_view d vs else record { dpid = d; rows = [] } ∷ v ∷ vs

-- where it goes: the views before it are of lower switches
abbrev pub IsViewPlace : ℕ → List TableView → ℕ → Type 0
IsViewPlace d [] i = i ≡ 0
IsViewPlace d (v ∷ vs) zero = d ≤ v.dpid
IsViewPlace d (v ∷ vs) (suc i) = (v.dpid < d) × IsViewPlace d vs i

-- a switch joined with these ports
pub record Joins {Own : Type 0} (Tells : Type 0) (d : ℕ) (ports : List PortDesc) (old new : Seen Own) (net now_net : NetState) : Type 0 where
  pub answer : Brought
  pub waits : Waits Tells (greeted_from d net.xid) (greeting d net.xid) old new net.kept now_net.kept answer
  pub views : now_net.views ≡ with_view d net.views
  pub known : now_net.ports ≡ net.ports ++ record { dpid = d; ports = ports } ∷ []
  pub xid : now_net.xid ≡ next_xid (next_xid (next_xid net.xid))
  pub losses : Tells → lost_of new ≡ lost_of old

-- it was lost: it is not joined, and has no Leave event
pub record JoinsNot {Own : Type 0} (Tells : Type 0) (d : ℕ) (old new : Seen Own) (net now_net : NetState) : Type 0 where
  pub is_lost : IsLost Tells d [] old new
  pub net_is : now_net ≡ record net { xid = now_net.xid; kept = filter (λ m. not (m.0 == d)) net.kept }

abbrev pub JoinsOrNot : {Own : Type 0} → Type 0 → ℕ → List PortDesc → Bool → Seen Own → Seen Own → NetState → NetState → Type 0
JoinsOrNot Tells d ports true old new net now_net = Joins Tells d ports old new net now_net
JoinsOrNot Tells d ports false old new net now_net = JoinsNot Tells d old new net now_net

-- it did not, for a fault: it is not joined, and more of its messages may be kept
pub record DoesNotJoin (d : ℕ) (net now_net : NetState) : Type 0 where
  pub views : now_net.views ≡ net.views
  pub known : now_net.ports ≡ net.ports
  pub kept : KeptMore d net.kept now_net.kept
