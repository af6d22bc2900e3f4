-- What the host keeps of its network: the views of the joined switches and their known ports, by switch ascending; what undoes the
-- changes of the open transaction, newest last, and what it holds back; the transaction id that is used next; the moment; the
-- messages that came while something else was awaited; how many faults of undos there is room for; and the known ports of the switches that
-- were lost and whose leaving was not told yet, in the order of the losses. All of this is our own.
use Rattle.std.specs.Prelude.{false, ℕ, List, [], ◌∷◌, ◌++◌, Option, Some, None, if◌then◌else◌}
use Rattle.of_match.specs.declared.key.Key.{Key}
use Rattle.of_wire.specs.declared.bodies.FlowMod.{FlowMod as Change}
use Rattle.flow_table.specs.View.{TableView}
use Rattle.flow_table.specs.Change.{key_in, is_delete}
use Rattle.lego_model.specs.declared.wait.Awaited.{Awaited}
use Rattle.lego_model.specs.declared.wait.Notices.TheVariants as notices
use Rattle.lego_model.specs.Packets.{HeldBack}
use Rattle.net_txn.specs.declared.logged.UndoProgress.{UndoProgress}
use Rattle.net_txn.specs.declared.logged.Logged.{Logged}
use Rattle.net_txn.specs.declared.ports.KnownPorts.{KnownPorts}
use Rattle.lego_model.specs.BarrierWaits.{next_xid}

pub record NetState : Type 0 where
  pub views : List TableView
  pub ports : List KnownPorts
  pub log : List Logged
  pub held : HeldBack
  pub xid : ℕ
  pub moment : ℕ
  pub kept : List (ℕ × List ℕ)
  pub room : ℕ
  pub left : List KnownPorts

-- ---- Transaction ids: 1, 2, .., and behind the last one 1 again

-- what is awaited where one message was sent with this id, and then a barrier
abbrev pub awaited_from : ℕ → ℕ → Awaited
awaited_from d xid = record { dpid = d; first = xid; barrier = next_xid xid; notices = notices.Held }

-- ---- The log

-- how an inverse that was not sent fares
abbrev pub no_progress : UndoProgress
no_progress = record { xid = 0; since = 0; failed = false; lost = false }

abbrev pub logged_at : ℕ → Key → Logged
logged_at d k = record { dpid = d; key = k; progress = no_progress }

-- what a change that touches no row logs
abbrev pub logged_by : ℕ → Change → Option Logged
logged_by d m = if is_delete m then None else Some (logged_at d (key_in m))

abbrev pub with_logged : Option Logged → List Logged → List Logged
with_logged None log = log
with_logged (Some entry) log = log ++ entry ∷ []
