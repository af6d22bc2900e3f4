-- What the end of a report says in a world that keeps its word, and what it leaves. All of this is our own.
use Rattle.std.specs.Prelude.{◌≡◌, ℕ, ◌+◌, ◌<◌, true, false, List, [], ◌∷◌, ◌++◌, length, take, drop, Option, Some, None, IfSome}
use Rattle.std.specs.List.{flat_map}
use Rattle.of_match.specs.declared.key.Key.{Key}
use Rattle.of_stats.specs.declared.flow_row.FlowRow.{FlowRow}
use Rattle.flow_table.specs.declared.view.ViewRow.{ViewRow}
use Rattle.flow_table.specs.Switch.{SwitchState}
use Rattle.net_txn.specs.Views.{rows_at}
use Rattle.net_txn.specs.AskSteps.{RowsInStep}
use Rattle.net_txn.specs.Asks.{AsksLost}
use Rattle.net_txn.specs.Losing.{lose_all}
use Rattle.of_types.specs.Membership.{is_among}
use Rattle.net_txn.specs.laws.LostPartLaws.{Distinct}
use Rattle.outside.specs.Seen.{Seen}
use Rattle.outside.specs.State.{state, switch_of, waits_of, is_joined}
use Rattle.outside.specs.Conforming.{Conforming}
use Rattle.switch_laws.specs.Since.{Ready}
use Rattle.switch_laws.specs.Sound.{Sound}
use Rattle.batch_laws.specs.Calm.{Calm}
use Rattle.run_laws.specs.LastReport.{SameKeys, flow_lines, table_lines, shown_text, switch_left, last_text, OnlyAsked}
use Rattle.net_txn.specs.Net.{NetState}
use Rattle.event_dispatch.specs.declared.engine_core.Core.{Core}
use Rattle.event_dispatch.specs.declared.fault.Fault.{Fault}
use Rattle.event_dispatch.specs.declared.run.Run.{Run}
use Rattle.event_dispatch.specs.Why.{IsReason, served_by}
use Rattle.event_dispatch.specs.Runs.{Waits, WaitsAtEnd}
use Rattle.event_dispatch.specs.Plain.{PlainTable, PlainCalm}
use Rattle.event_dispatch.specs.Shows.{engine_of, Adds}

-- ---- A switch, whatever the world does

-- a place of the rows, and this position, where its row has the key
pub record FindsPlace (from : ℕ) (key : Key) (rows : List ViewRow) (found : Option ℕ) : Type 0 where
  pub within : IfSome found (λ at. at < length rows)
  pub here : (v : ViewRow) (later : List ViewRow) → drop from rows ≡ v ∷ later → v.key ≡ key → found ≡ Some from

-- the flags of the row that stands at this position, where it has the key, and the next position
pub record FindsFlags (from : ℕ) (key : Key) (rows : List ViewRow) (found : ℕ × ℕ) : Type 0 where
  pub here : (v : ViewRow) (later : List ViewRow) → drop from rows ≡ v ∷ later → v.key ≡ key → found ≡ (v.flags, from + 1)

-- the first rows are told so far
pub record FlowsSoFar (rows : List FlowRow) (vs : List ViewRow) (place from : ℕ) (r now_r : Core) : Type 0 where
  pub from_is : from ≡ place
  pub adds : Adds (flow_lines (take place rows) vs) r now_r

pub record FlowsSaid (d : ℕ) (rows : List FlowRow) (r now_r : Core) : Type 0 where
  pub adds : (vs : List ViewRow) → rows_at d r.net.views ≡ Some vs → SameKeys rows vs → Adds (flow_lines rows vs) r now_r

pub record TableSaid (d : ℕ) (rows : List FlowRow) (r now_r : Core) : Type 0 where
  pub adds : (vs : List ViewRow) → rows_at d r.net.views ≡ Some vs → SameKeys rows vs → Adds (table_lines d rows vs) r now_r

-- ---- Rows are asked for

-- no event came or went, and the checkpoints are as they were
pub record SameBesides (r now_r : Core) : Type 0 where
  pub queue : now_r.queue ≡ r.queue
  pub events : now_r.events ≡ r.events
  pub store : now_r.store ≡ r.store

pub record AsksShown {Own : Type 0} (Tells : Type 0) (d : ℕ) (old new : Seen Own) (r now_r : Core) (rows : List FlowRow) : Type 0 where
  pub in_step : (s : SwitchState) → Tells → Conforming new → switch_of d (state old) ≡ Some s → waits_of d (state old) ≡ [] → RowsInStep d s old new r.net.kept now_r.net.kept rows
  pub asked : Tells → OnlyAsked [] old new
  pub net : now_r.net ≡ record r.net { xid = now_r.net.xid; kept = now_r.net.kept }
  pub same : SameBesides r now_r
  pub lines : now_r.lines.items ≡ r.lines.items

-- it was lost meanwhile
pub record AsksNone {Own : Type 0} (Tells : Type 0) (d : ℕ) (old new : Seen Own) (r now_r : Core) : Type 0 where
  pub lost : AsksLost Tells d old new r.net now_r.net
  pub asked : Tells → Conforming new → is_joined d (state old) ≡ true → OnlyAsked (d ∷ []) old new
  pub same : SameBesides r now_r
  pub lines : now_r.lines.items ≡ r.lines.items

abbrev pub AsksAs : {Own : Type 0} → Type 0 → ℕ → Seen Own → Seen Own → Core → Core → Option (List FlowRow) → Type 0
AsksAs Tells d old new r now_r (Some rows) = AsksShown Tells d old new r now_r rows
AsksAs Tells d old new r now_r None = AsksNone Tells d old new r now_r

-- ---- What is said in a world that keeps its word: text, where these switches are lost, with nothing else of the run moved but the transaction
-- id; no other switch moved, and nothing of one waits

pub record Says {Own : Type 0} (lost text : List ℕ) (old new : Seen Own) (r now_r : Core) : Type 0 where
  pub lines : now_r.lines.items ≡ r.lines.items ++ text
  pub net : now_r.net ≡ record (lose_all lost r.net) { xid = now_r.net.xid }
  pub same : SameBesides r now_r
  pub switches : (d : ℕ) → switch_of d (state new) ≡ switch_left lost (state old) d
  pub waits : (d : ℕ) → waits_of d (state new) ≡ []
  pub asked : OnlyAsked lost old new

-- some of these are lost, and this is said then
pub record SaysOf {Own : Type 0} (ds : List ℕ) (text : List ℕ → List ℕ) (old new : Seen Own) (r now_r : Core) : Type 0 where
  pub lost : List ℕ
  pub among : (d : ℕ) → is_among d ds ≡ false → is_among d lost ≡ false
  pub says : Says lost (text lost) old new r now_r

-- of one switch
pub record TableShown {Own : Type 0} (Tells : Type 0) (d : ℕ) (old new : Seen Own) (r now_r : Core) : Type 0 where
  pub shown : Tells → Conforming new → Ready old r.net → Sound (state old) → SaysOf (d ∷ []) (λ lost. shown_text lost r.net.views (state old) d) old new r now_r

-- of these switches, each of which stands once
pub record TablesShown {Own : Type 0} (Tells : Type 0) (ds : List ℕ) (old new : Seen Own) (r now_r : Core) : Type 0 where
  pub shown : Distinct ds → Tells → Conforming new → Ready old r.net → Sound (state old) → SaysOf ds (λ lost. flat_map (shown_text lost r.net.views (state old)) ds) old new r now_r

-- the whole end: the tables, and then the lines of the applications and of the end
pub record LastSays {Own : Type 0} (lost text : List ℕ) (old new : Seen Own) (r now_r : Run) : Type 0 where
  pub lines : now_r.core.lines.items ≡ r.core.lines.items ++ text
  pub apps : now_r.apps ≡ r.apps
  pub same : SameBesides r.core now_r.core
  pub switches : (d : ℕ) → switch_of d (state new) ≡ switch_left lost (state old) d
  pub waits : (d : ℕ) → waits_of d (state new) ≡ []
  pub asked : OnlyAsked lost old new

pub record LastSaysOf {Own : Type 0} (old new : Seen Own) (r now_r : Run) : Type 0 where
  pub lost : List ℕ
  pub says : LastSays lost (last_text lost old (engine_of r)) old new r now_r

pub record LastShown {Own : Type 0} (Tells : Type 0) (old new : Seen Own) (r now_r : Run) : Type 0 where
  pub shown : Tells → Conforming new → Calm old r.core.net → LastSaysOf old new r now_r

-- one row more
pub record NextRow (row : FlowRow) (ws : List ViewRow) (rest : List FlowRow) : Type 0 where
  pub first : ViewRow
  pub later : List ViewRow
  pub split : ws ≡ first ∷ later
  pub key : first.key ≡ row.key
  pub same : SameKeys rest later

-- ---- What each part of the end leaves, where it was done, and where a fault ended it

-- the entries of a switch were told
pub record FlowsNoted (d : ℕ) (rows : List FlowRow) (r now_r : Core) : Type 0 where
  pub waits : Waits r now_r
  pub net : now_r.net ≡ r.net
  pub said : FlowsSaid d rows r now_r

-- and how many they are
pub record RowsNoted (d : ℕ) (rows : List FlowRow) (r now_r : Core) : Type 0 where
  pub waits : Waits r now_r
  pub net : now_r.net ≡ r.net
  pub said : TableSaid d rows r now_r

-- a switch was asked for its entries, or was lost meanwhile
pub record RowsAsked {Own : Type 0} (Tells : Type 0) (d : ℕ) (old new : Seen Own) (r now_r : Core) (rows : Option (List FlowRow)) : Type 0 where
  pub waits : WaitsAtEnd r now_r
  pub asks : AsksAs Tells d old new r now_r rows

-- its table was told, or its loss
pub record TableNoted {Own : Type 0} (Tells : Type 0) (d : ℕ) (old new : Seen Own) (r now_r : Core) : Type 0 where
  pub waits : WaitsAtEnd r now_r
  pub shown : TableShown Tells d old new r now_r

-- a fault ended that
pub record TableFails {Own : Type 0} (Tells : Type 0) (old new : Seen Own) (net : NetState) (fault : Fault) : Type 0 where
  pub why : IsReason Tells old new 0 0 fault
  pub plain : PlainTable Tells old new net fault

-- so it was with these switches
pub record TablesNoted {Own : Type 0} (Tells : Type 0) (ds : List ℕ) (old new : Seen Own) (r now_r : Core) : Type 0 where
  pub waits : WaitsAtEnd r now_r
  pub shown : TablesShown Tells ds old new r now_r

-- Where the world keeps its word, the whole end is what the reference controller says.
pub record LastNoted {Own : Type 0} (Tells : Type 0) (old new : Seen Own) (r now_r : Run) : Type 0 where
  pub waits : WaitsAtEnd r.core now_r.core
  pub shown : LastShown Tells old new r now_r

-- a fault ended the tables, or the lines behind them; where the world keeps its word it is a plain one
pub record LastFails {Own : Type 0} (Tells : Type 0) (old new : Seen Own) (net : NetState) (fault : Fault) : Type 0 where
  pub why : IsReason Tells old new 0 0 fault
  pub plain : PlainCalm Tells old new net (served_by fault)
