-- How a run stands between batches: nothing waits anywhere, nothing is held, each switch that was lost is told, and what the engine knows is
-- what is so. All of this is our own.
use Rattle.std.specs.Prelude.{◌≡◌, ◌==◌, ℕ, false, List, [], ◌∷◌, Option, Some, None, if◌then◌else◌}
use Rattle.of_types.specs.declared.port_desc.PortDesc.{PortDesc}
use Rattle.outside.specs.Seen.{Seen}
use Rattle.outside.specs.State.{state}
use Rattle.lego_model.specs.Packets.{nothing_held}
use Rattle.net_txn.specs.declared.ports.KnownPorts.{KnownPorts}
use Rattle.net_txn.specs.Net.{NetState}
use Rattle.switch_laws.specs.Since.{Ready}
use Rattle.switch_laws.specs.Sound.{Sound}
use Rattle.net_txn.specs.Views.{ViewsAscend}

-- the known ports of a switch, where it has any entry
abbrev pub known_ports : ℕ → List KnownPorts → Option (List PortDesc)
known_ports d [] = None
known_ports d (k ∷ ks) = if k.dpid == d then Some k.ports else known_ports d ks

pub record Calm {Own : Type 0} (seen : Seen Own) (net : NetState) : Type 0 where
  pub ready : Ready seen net
  pub sound : Sound (state seen)
  pub order : ViewsAscend 0 net.views
  pub kept : net.kept ≡ []
  pub moment : net.moment ≡ (state seen).moment
  pub none_begun : (state seen).begun ≡ false
  pub none_due : (state seen).due ≡ []
  pub held : net.held ≡ nothing_held
  pub left : net.left ≡ []
