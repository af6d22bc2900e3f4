-- The statistics of a switch with what its entries have lost (OpenFlow 1.0.0, 5.3.5 Read State Messages and 5.4.2 Flow Removed
-- Message). Counts are modulo 2^64 and durations modulo 2^32. What is added is our own.
use Rattle.std.specs.Prelude.{◌≡◌, ℕ, ◌+◌, ◌%◌, ◌^◌, ◌<◌, ◌≤◌, Bool, ◌&&◌, List, map, Option, Some, None}
use Rattle.std.specs.List.{sum_by, AllByRecursion}
use Rattle.of_match.specs.declared.flow_match.Match.{Match}
use Rattle.of_match.specs.declared.key.Key.{Key}
use Rattle.match_overlap.specs.Relations.{is_subsuming}
use Rattle.of_wire.specs.declared.bodies.FlowRemoved.{FlowRemoved}
use Rattle.of_stats.specs.declared.flow_row.FlowRow.{FlowRow}
use Rattle.of_stats.specs.declared.sum.Sum.{Sum}
use Rattle.flow_table.specs.declared.entry.Entry.{Entry}
use Rattle.flow_table.specs.declared.lost.Lost.{Lost}
use Rattle.flow_table.specs.declared.view.ViewRow.{ViewRow}
use Rattle.flow_table.specs.Change.{sends_to, notice}
use Rattle.flow_table.specs.Rows.{selected}
use Rattle.flow_table.specs.Statistics.{flow_row, sum_of}
use Rattle.flow_table.specs.Step.{flow_removed}
use Rattle.flow_table.specs.Corrected.{lost_at, shown_entry, shown_entries}
use Rattle.flow_table.specs.RowKeys.{key_removed, shown_row, held_entry}

-- ---- Rows

abbrev pub row_with : Option Lost → FlowRow → FlowRow
row_with None r = r
row_with (Some l) r = record r {
  duration_sec = (r.duration_sec + l.age) % 2 ^ 32;
  hard = l.hard;
  packets = (r.packets + l.packets) % 2 ^ 64;
  bytes = (r.bytes + l.bytes) % 2 ^ 64;
}

-- a row with what its entry has lost
unfoldable pub fixed_row : List (Key × Lost) → FlowRow → FlowRow
fixed_row lost r = row_with (lost_at r.key lost) r

-- ---- Sums

-- the match subsumes that of the row, and the row has an OUTPUT to out_port unless that is NONE
unfoldable pub is_met : Match → ℕ → ViewRow → Bool
is_met m out_port r = is_subsuming m r.key.matching && sends_to out_port r.actions

abbrev pub packets_of : Option Lost → ℕ
packets_of None = 0
packets_of (Some l) = l.packets

abbrev pub bytes_of : Option Lost → ℕ
bytes_of None = 0
bytes_of (Some l) = l.bytes

-- so much did the entries of those rows lose that a request meets
abbrev pub packets_lost : List (Key × Lost) → List ViewRow → ℕ
packets_lost lost rows = sum_by (λ r. packets_of (lost_at r.key lost)) rows

abbrev pub bytes_lost : List (Key × Lost) → List ViewRow → ℕ
bytes_lost lost rows = sum_by (λ r. bytes_of (lost_at r.key lost)) rows

unfoldable pub fixed_sum : List (Key × Lost) → List ViewRow → Sum → Sum
fixed_sum lost rows s = record s {
  packets = (s.packets + packets_lost lost rows) % 2 ^ 64;
  bytes = (s.bytes + bytes_lost lost rows) % 2 ^ 64;
}

-- ---- Notices

abbrev pub removed_with : Option Lost → FlowRemoved → FlowRemoved
removed_with None f = f
removed_with (Some l) f = record f {
  duration_sec = (f.duration_sec + l.age) % 2 ^ 32;
  packet_count = (f.packet_count + l.packets) % 2 ^ 64;
  byte_count = (f.byte_count + l.bytes) % 2 ^ 64;
}

-- a notice with what its entry had lost
unfoldable pub fixed_removed : List (Key × Lost) → FlowRemoved → FlowRemoved
fixed_removed lost f = removed_with (lost_at (key_removed f) lost) f

-- ---- What holds of a switch and of what its entries have lost

-- no entry lost more seconds than had passed when it was put in again
abbrev pub AgeFits : Option Lost → Entry → Type 0
AgeFits None e = Unit {0}
AgeFits (Some l) e = l.age ≤ e.installed

-- at a moment, which is below 2^32, each entry was put in, and before that it had its lost age
abbrev pub Fits : List (Key × Lost) → ℕ → Entry → Type 0
Fits lost moment e = (moment < 2 ^ 32) × (e.installed ≤ moment) × AgeFits (lost_at e.key lost) e

-- the rows of owners are those of the entries: at the same keys, with the same actions

abbrev pub AreOf : List Entry → List ViewRow → Type 0
AreOf es rows = map held_entry es ≡ map shown_row rows

-- ---- What the corrections make of a switch's statistics

-- the rows of a switch's table are now those of the table as it is shown
abbrev pub RowsAreShown : List (Key × Lost) → List FlowRow → List FlowRow → Type 0
RowsAreShown lost old new =
    (moment : ℕ) (owners : List ViewRow) (es : List Entry) → AllByRecursion (Fits lost moment) es → old ≡ map (flow_row moment) es
    → new ≡ map (flow_row moment) (shown_entries owners lost es)

-- the sum over the entries that a request selects is now that over the table as it is shown
abbrev pub SumIsShown : List (Key × Lost) → List ViewRow → Match → ℕ → Sum → Sum → Type 0
SumIsShown lost owners m out_port old new =
    (es : List Entry) → AreOf es owners → old ≡ sum_of (selected m out_port es) → new ≡ sum_of (selected m out_port (shown_entries owners lost es))

-- the notice of an entry is now that of the entry as it is shown
abbrev pub NoticeIsShown : List (Key × Lost) → FlowRemoved → FlowRemoved → Type 0
NoticeIsShown lost old new =
    (reason end : ℕ) (owners : List ViewRow) (e : Entry) → Fits lost end e → old ≡ flow_removed (notice reason end e)
    → new ≡ flow_removed (notice reason end (shown_entry owners lost e))
