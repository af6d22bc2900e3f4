-- What a call on the network does with the transaction ids of its own messages. All of this is our own.
use Rattle.std.specs.Prelude.{◌≡◌, ℕ, List, ◌++◌, ◌≤◌, length, Result, Ok, Err}
use Rattle.outside.specs.declared.step.WorldStep.{WorldStep}
use Rattle.outside.specs.Seen.{Seen}
use Rattle.lego_model.specs.OwnIds.{IsShortRun, OwnIdsAscend, OwnIdsSoFar}

-- some call since then left a step
abbrev pub LeavesStep : {Own : Type 0} → Type 0 → Seen Own → Seen Own → Type 0
LeavesStep Tells old new = Tells → (steps : List WorldStep) → new.history ≡ old.history ++ steps → 1 ≤ length steps

-- where a call failed it may have taken so many ids without a step
abbrev pub over_by : {T E : Type 0} → ℕ → Result T E → ℕ
over_by most (Ok x) = 0
over_by most (Err fault) = most

-- In a world that tells, the ids of its own messages ascend still where they did before, and the next one behind them is this; each step took four
-- at most, but for so many.
abbrev pub IdsGoOn : {Own : Type 0} → Type 0 → ℕ → Seen Own → Seen Own → ℕ → ℕ → Type 0
IdsGoOn Tells more old new xid now_xid = Tells → IsShortRun new → OwnIdsSoFar 0 old xid → OwnIdsSoFar more new now_xid

-- the same of a call, by how it ended
abbrev pub KeepsIds : {Own T E : Type 0} → Type 0 → ℕ → Seen Own → Seen Own → ℕ → ℕ → Result T E → Type 0
KeepsIds Tells most old new xid now_xid result = IdsGoOn Tells (over_by most result) old new xid now_xid

-- the same of calls behind which none is sent any more
abbrev pub StopsIds : {Own : Type 0} → Type 0 → Seen Own → Seen Own → ℕ → Type 0
StopsIds Tells old new xid = Tells → IsShortRun new → OwnIdsSoFar 0 old xid → OwnIdsAscend new
