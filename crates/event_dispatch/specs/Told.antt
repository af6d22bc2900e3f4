-- An item that was told and that the engine has not handled yet: what is so of the switches and of the views between the two. All of this is
-- our own.
use Rattle.std.specs.Prelude.{◌≡◌, ◌==◌, ◌⊎◌, ℕ, Bool, true, false, List, [], Option, None}
use Rattle.flow_table.specs.View.{TableView}
use Rattle.outside.specs.declared.step.WorldStep.{WorldStep}
use Rattle.outside.specs.declared.step.WorldStep.TheVariants.{From, Joined, Left}
use Rattle.outside.specs.Seen.{Seen}
use Rattle.outside.specs.State.{State, state, is_joined}
use Rattle.of_wire.specs.Handshake.{IsFeaturesOf}
use Rattle.outside.specs.InOrder.{InOrder, brings_message, MessagesSince}
use Rattle.outside.specs.Quiescence.{NoneQuiescentSince, IsLastQuiescent}
use Rattle.net_txn.specs.Net.{NetState}
use Rattle.net_txn.specs.LinkSteps.{MakesNoStrayCall}
use Rattle.net_txn.specs.Views.{is_viewed}
use Rattle.net_txn.specs.Abreast.{Abreast}
use Rattle.run_laws.specs.Cut.{CallsAmong}
use Rattle.event_dispatch.specs.declared.batch.Rest.{Rest}
use Rattle.event_dispatch.specs.Steady.{NothingUnderWay}

-- ---- Between the two

-- the switch joins or leaves with the item
abbrev pub moves : ℕ → WorldStep → Bool
moves e (Joined d bytes) = d == e
moves e (Left d) = d == e
moves e other = false

-- A message came of a switch that is joined; one that joins is in and describes itself, and has no view yet; one that leaves is out, and has
-- a view still.
abbrev pub IsToldOf : WorldStep → State → List TableView → Type 0
IsToldOf (From d bytes) s views = is_joined d s ≡ true
IsToldOf (Joined d bytes) s views = (is_joined d s ≡ true) × (is_viewed d views ≡ false) × IsFeaturesOf d bytes
IsToldOf (Left d) s views = (is_joined d s ≡ false) × (is_viewed d views ≡ true)
IsToldOf other s views = Unit {0}

-- The views are those of the joined switches, but for the one that moves, and nothing more is due.
pub record IsTold (step : WorldStep) (s : State) (views : List TableView) : Type 0 where
  pub others : (e : ℕ) → moves e step ≡ false → is_joined e s ≡ is_viewed e views
  pub told_of : IsToldOf step s views
  pub none_due : s.due ≡ []

-- ---- It is handled

-- all bytes that came since then are messages
pub record OnlyMessages {Own : Type 0} (Tells : Type 0) (old new : Seen Own) : Type 0 where
  pub read : Tells → MessagesSince old new

-- however it ended: no call of a link was a stray one
pub record NoStrayAtItem {Own : Type 0} (Tells : Type 0) (number : ℕ) (step : WorldStep) (old new : Seen Own) (net : NetState) : Type 0 where
  pub places : Tells → InOrder new → IsTold step (state old) net.views → MakesNoStrayCall old new

-- where it was done: the host keeps up with the switches, and the item and what came since are messages
pub record CatchesUp {Own : Type 0} (Tells : Type 0) (step : WorldStep) (old new : Seen Own) (net now_net : NetState) : Type 0 where
  pub abreast : Tells → InOrder new → IsTold step (state old) net.views → Abreast new now_net
  pub item : Tells → InOrder new → IsTold step (state old) net.views → brings_message step ≡ true
  pub read : Tells → MessagesSince old new

-- ---- What is told next, and is handled

-- No quiescent point lies behind the one before it, and where a stimulus was begun before, none lies there either.
pub record NextPoint {Own : Type 0} (Tells : Type 0) (number : ℕ) (old new : Seen Own) : Type 0 where
  pub last : Tells → IsLastQuiescent old new
  pub none_quiescent : Tells → InOrder new → (state old).begun ≡ true → NoneQuiescentSince old new
  pub own : Tells → CallsAmong number old new

-- where the batch goes on, a stimulus is begun: it was before, or all was at rest
pub record GoesBegun {Own : Type 0} (Tells : Type 0) (rest : Option Rest) (old new : Seen Own) : Type 0 where
  pub still : Tells → rest ≡ None → (state old).begun ≡ true → (state new).begun ≡ true
  pub anew : Tells → InOrder new → rest ≡ None → NothingUnderWay (state old) → (state new).begun ≡ true

-- ---- A batch

-- Where all was at rest and nothing was kept: nothing was done yet, or a stimulus is begun and no quiescent point lies behind the one where the
-- batch began.
pub record BatchPoint {Own : Type 0} (Tells : Type 0) (number : ℕ) (old new : Seen Own) (net : NetState) : Type 0 where
  pub here : Tells → InOrder new → NothingUnderWay (state old) → net.kept ≡ [] → (new ≡ old) ⊎ (((state new).begun ≡ true) × IsLastQuiescent old new)
  pub own : Tells → CallsAmong number old new
