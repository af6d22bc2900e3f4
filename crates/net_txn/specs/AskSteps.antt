-- What `rows` does from a transaction id on; and what follows of it in a world that keeps its word, where nothing of the switch waited.
use Rattle.std.specs.Prelude.{◌≡◌, ◌≢◌, ℕ, List, [], map, Option, Some, Result, Ok, IfSome, MatchResult}
use Rattle.of_stats.specs.declared.flow_row.FlowRow.{FlowRow}
use Rattle.of_stats.specs.Flows.{rows_bytes, AreRows}
use Rattle.of_stats.specs.Reading.{rows_of}
use Rattle.flow_table.specs.Switch.{SwitchState}
use Rattle.flow_table.specs.Statistics.{flow_row}
use Rattle.outside.specs.Seen.{Seen}
use Rattle.outside.specs.State.{state, switch_of, waits_of}
use Rattle.outside.specs.Conforming.{Conforming}
use Rattle.lego_model.specs.declared.fault.TxnFault.{TxnFault}
use Rattle.lego_model.specs.declared.fault.TxnFault.TheVariants.{SwitchBroke}
use Rattle.net_txn.specs.declared.halt.Halt.{Halt}
use Rattle.net_txn.specs.Causes.{IsPlain}
use Rattle.net_txn.specs.Said.{Speaks}
use Rattle.net_txn.specs.Waits.{KeptMore}
use Rattle.net_txn.specs.Asks.{rows_inquiry, InquiryHalts, GivesRows, IsAskCause}

-- ---- From a transaction id on

-- its switch was lost, or a fault came, which loses no switch
abbrev pub AskHalts : {Own : Type 0} → Type 0 → ℕ → ℕ → Seen Own → Seen Own → List (ℕ × List ℕ) → List (ℕ × List ℕ) → Halt → Type 0
AskHalts Tells d xid old new kept now_kept halt = InquiryHalts Tells (rows_inquiry d xid) old new (IsAskCause Tells d xid old new kept now_kept) halt

pub record AsksFrom {Own : Type 0} (Tells : Type 0) (d xid : ℕ) (old new : Seen Own) (kept now_kept : List (ℕ × List ℕ)) (result : Result (List FlowRow) Halt) : Type 0 where
  pub speaks : Speaks Tells d xid 2 old new
  pub kept_more : KeptMore d kept now_kept
  pub answer : MatchResult result (GivesRows Tells d xid old new kept now_kept) (AskHalts Tells d xid old new kept now_kept)

-- ---- In a world that keeps its word

-- the switch's own rows: one for each entry of its table, in key order
abbrev pub own_rows : SwitchState → List FlowRow
own_rows s = map (flow_row s.moment) s.table.entries

-- The rows are those that the bytes of the switch's own rows spell, and the same where these have a spelling; nothing of the switch
-- waits, no switch moves, and nothing is kept.
pub record RowsInStep {Own : Type 0} (d : ℕ) (s : SwitchState) (old new : Seen Own) (kept now_kept : List (ℕ × List ℕ)) (rows : List FlowRow) : Type 0 where
  pub rows_is : rows_of (rows_bytes (own_rows s)) ≡ Ok rows
  pub same_rows : AreRows (own_rows s) → rows ≡ own_rows s
  pub waits : waits_of d (state new) ≡ []
  pub stays : switch_of d (state new) ≡ Some s
  pub others : (e : ℕ) → e ≢ d → switch_of e (state new) ≡ switch_of e (state old)
  pub others_wait : (e : ℕ) → e ≢ d → waits_of e (state new) ≡ waits_of e (state old)
  pub kept_is : now_kept ≡ kept

-- Memory ran out; what the switch sent is at fault only where its own rows have no spelling.
abbrev pub IsAskFault : ℕ → SwitchState → TxnFault → Type 0
IsAskFault d s (SwitchBroke of bytes) = (of ≡ d) × (AreRows (own_rows s) → ⊥)
IsAskFault d s fault = IsPlain fault

-- where the world keeps its word, the switch was joined and nothing of it waited, and it was not lost
abbrev pub AskSteps : {Own : Type 0} → Type 0 → ℕ → Seen Own → Seen Own → List (ℕ × List ℕ) → List (ℕ × List ℕ) → Result (Option (List FlowRow)) TxnFault → Type 0
AskSteps Tells d old new kept now_kept result =
    (s : SwitchState) → Tells → Conforming new → switch_of d (state old) ≡ Some s → waits_of d (state old) ≡ []
    → MatchResult result (λ rows. IfSome rows (RowsInStep d s old new kept now_kept)) (IsAskFault d s)
