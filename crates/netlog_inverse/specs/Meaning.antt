-- What images say of keys, as the laws of undo have it: nothing stood there, an entry went, or the present one had other actions. The
-- entries are those that are shown to owners. This is our own.
use Rattle.std.specs.Prelude.{◌≡◌, ◌==◌, ℕ, ◌-◌, ◌^◌, ◌<◌, ◌≤◌, Bool, true, false, ◌&&◌, List, [], ◌∷◌, All, map, Option, Some, None, if◌then◌else◌}
use Rattle.of_match.specs.declared.key.Key.{Key}
use Rattle.of_match.specs.Key.{key_number}
use Rattle.of_stats.specs.declared.flow_row.FlowRow.{FlowRow}
use Rattle.flow_table.specs.declared.entry.Entry.{Entry}
use Rattle.flow_table.specs.declared.lost.Lost.{Lost}
use Rattle.flow_table.specs.declared.view.ViewRow.{ViewRow}
use Rattle.flow_table.specs.Corrected.{lost_at, shown_entries}
use Rattle.flow_table.specs.Statistics.{flow_row}
use Rattle.undo_laws.specs.Log.{Image as Said, Untouched, Absent, Gone, Acted}
use Rattle.netlog_inverse.specs.declared.image.Image.{Image}
use Rattle.netlog_inverse.specs.declared.image.Logged.{Logged}
use Rattle.netlog_inverse.specs.declared.image.PutBack.{PutBack}
use Rattle.netlog_inverse.specs.declared.image.PutBack.TheVariants.{Row}
use Rattle.netlog_inverse.specs.Plans.{counts_at}

-- ---- What one image says

-- the entry that went, given back at a moment
abbrev pub entry_of : ℕ → ViewRow → Lost → Entry
entry_of now r lost = record {
  key = r.key;
  actions = r.actions;
  cookie = r.cookie;
  idle = r.idle;
  hard = lost.hard;
  flags = r.flags;
  installed = now - lost.age;
  used = now;
  packets = lost.packets;
  bytes = lost.bytes;
  serial = 0;
}

-- an entry that went has a cache row
abbrev pub said_of : ℕ → Bool → Option ViewRow → Option Lost → Said
said_of now stands None lost = Absent
said_of now true (Some r) lost = Acted r.actions
said_of now false (Some r) (Some lost) = Gone (entry_of now r lost)
said_of now false (Some r) None = Untouched

abbrev pub said_by : ℕ → Bool → PutBack → Said
said_by now stands (Row k row lost) = said_of now stands row lost
said_by now stands other = Untouched

abbrev pub said : ℕ → Option Image → Said
said now None = Untouched
said now (Some i) = said_by now i.stands i.put

-- ---- The first image of a key of a switch

abbrev pub is_at : Key → PutBack → Bool
is_at k (Row l row lost) = key_number l == key_number k
is_at k other = false

abbrev pub is_image_of : ℕ → Key → Logged → Bool
is_image_of d k l = l.dpid == d && is_at k l.image.put

abbrev pub first_at : ℕ → Key → List Logged → Option Image
first_at d k [] = None
first_at d k (l ∷ log) = if is_image_of d k l then Some l.image else first_at d k log

-- an image, or else another one
abbrev pub first_or : Option Image → Option Image → Option Image
first_or None other = other
first_or (Some i) other = Some i

-- ---- Images that say the same: an entry that went is used now when it comes back

abbrev pub settled : ℕ → Said → Said
settled now (Gone e) = Gone (record e { used = now })
settled now other = other

-- ---- A view over a table, and what the switch reports

abbrev pub row_of : Entry → ViewRow
row_of e = record { key = e.key; actions = e.actions; cookie = e.cookie; idle = e.idle; hard = e.hard; flags = e.flags }

-- the entry was put in before now, and what was lost of it is younger than it
pub record IsSound (now : ℕ) (cache : List (Key × Lost)) (e : Entry) : Type 0 where
  pub installed : e.installed ≤ now
  pub age : (lost : Lost) → lost_at e.key cache ≡ Some lost → lost.age ≤ e.installed

-- The rows are those of the table as it is shown.
pub record IsView (now : ℕ) (rs : List ViewRow) (cache : List (Key × Lost)) (es : List Entry) : Type 0 where
  pub rows : rs ≡ map row_of (shown_entries rs cache es)
  pub sound : All (IsSound now cache) es
  pub moment : now < 2 ^ 32

-- what a switch reports of its entries is so
abbrev pub ReportsOne : ℕ → List FlowRow → Entry → Type 0
ReportsOne now fs e = (f : FlowRow) → counts_at e.key fs ≡ Some f → f ≡ flow_row now e

abbrev pub Reports : ℕ → List Entry → List FlowRow → Type 0
Reports now es fs = All (ReportsOne now fs) es
