-- A host that keeps up with its switches: its views are those of the joined ones, and no item is due. All of this is our own.
use Rattle.std.specs.Prelude.{◌≡◌, ℕ, []}
use Rattle.outside.specs.Seen.{Seen}
use Rattle.outside.specs.State.{state, is_joined}
use Rattle.net_txn.specs.Net.{NetState}
use Rattle.net_txn.specs.Views.{is_viewed}

pub record Abreast {Own : Type 0} (seen : Seen Own) (net : NetState) : Type 0 where
  pub joined : (d : ℕ) → is_joined d (state seen) ≡ is_viewed d net.views
  pub none_due : (state seen).due ≡ []
