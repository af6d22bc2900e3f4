-- An undo over what the host keeps: its views, known ports, kept messages and transaction ids. All of this is our own.
use Rattle.std.specs.Prelude.{◌≡◌, ℕ, List, take, drop, map, Option}
use Rattle.outside.specs.Seen.{Seen}
use Rattle.lego_model.specs.declared.fault.TxnFault.{TxnFault}
use Rattle.net_txn.specs.declared.logged.Logged.{Logged}
use Rattle.net_txn.specs.Net.{NetState}
use Rattle.net_txn.specs.Ports.{PortLists}
use Rattle.net_txn.specs.Undos.{Further, key_logged}

-- the known ports that the host keeps
abbrev pub ports_in : NetState → PortLists
ports_in net = record { known = net.ports; left = net.left }

-- an undo so far, over what the host keeps now
abbrev pub NetFurther : {Own : Type 0} (Tells : Type 0) (old new : Seen Own) (kept : List (ℕ × List ℕ)) (ports : PortLists) (xid : ℕ) (net : NetState) (switches : List ℕ) (reverted : List Logged) (fault : Option TxnFault) → Type 0
NetFurther Tells old new kept ports xid net switches reverted fault = Further Tells net.views old new kept net.kept ports (ports_in net) xid net.xid switches reverted fault

-- what stays while the log is undone from a place on: the views, what is held, the moment, the log before it, and its keys behind it
pub record StaysInUndo (from : ℕ) (net now_net : NetState) : Type 0 where
  pub views : now_net.views ≡ net.views
  pub held : now_net.held ≡ net.held
  pub moment : now_net.moment ≡ net.moment
  pub front : take from now_net.log ≡ take from net.log
  pub same : map key_logged (drop from now_net.log) ≡ map key_logged (drop from net.log)
