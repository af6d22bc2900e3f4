-- What each part of the engine's work does with the transaction ids of its own messages. All of this is our own.
use Rattle.std.specs.Prelude.{ℕ, Result, Ok, Err}
use Rattle.outside.specs.Seen.{Seen}
use Rattle.outside.specs.State.{state}
use Rattle.outside.specs.InOrder.{InOrder}
use Rattle.outside.specs.declared.step.WorldStep.{WorldStep}
use Rattle.lego_model.specs.OwnIds.{IsShortRun, OwnIdsAscend, OwnIdsSoFar}
use Rattle.net_txn.specs.Net.{NetState}
use Rattle.net_txn.specs.Abreast.{Abreast}
use Rattle.event_dispatch.specs.Told.{IsTold}

-- they ascend, and where the part was done this one is the next
abbrev pub IdsAscend : {Own T E : Type 0} → Result T E → Seen Own → ℕ → Type 0
IdsAscend (Ok x) seen next = OwnIdsSoFar 0 seen next
IdsAscend (Err fault) seen next = OwnIdsAscend seen

-- of a part that was done, in a world that tells in order, with whose switches the host kept up: they ascend still where they did before, and
-- this is the next one
abbrev pub AscendSoFar : {Own : Type 0} → Type 0 → Seen Own → Seen Own → NetState → NetState → Type 0
AscendSoFar Tells old new net now_net = Tells → InOrder new → Abreast old net → IsShortRun new → OwnIdsSoFar 0 old net.xid → OwnIdsSoFar 0 new now_net.xid

-- and however it ended
abbrev pub GoesOnAscending : {Own T E : Type 0} → Type 0 → Seen Own → Seen Own → NetState → NetState → Result T E → Type 0
GoesOnAscending Tells old new net now_net result = Tells → InOrder new → Abreast old net → IsShortRun new → OwnIdsSoFar 0 old net.xid → IdsAscend result new now_net.xid

-- the same of an item that was told and is handled
abbrev pub AscendsAtItem : {Own T E : Type 0} → Type 0 → WorldStep → Seen Own → Seen Own → NetState → NetState → Result T E → Type 0
AscendsAtItem Tells step old new net now_net result =
    Tells → InOrder new → IsTold step (state old) net.views → IsShortRun new → OwnIdsSoFar 0 old net.xid → IdsAscend result new now_net.xid

-- and of a part behind which no message is sent any more
abbrev pub EndsAscending : {Own : Type 0} → Type 0 → Seen Own → Seen Own → NetState → Type 0
EndsAscending Tells old new net = Tells → InOrder new → Abreast old net → IsShortRun new → OwnIdsSoFar 0 old net.xid → OwnIdsAscend new
