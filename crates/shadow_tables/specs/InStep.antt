-- The tables and the known ports of switches, in step, as shadows hold them, and what is kept by them. All of this is our own.
use Rattle.std.specs.Prelude.{◌≡◌, ℕ, List, [], ◌∷◌, set, slice_index_or}
use Rattle.of_types.specs.declared.port_desc.PortDesc.{PortDesc}
use Rattle.flow_table.specs.declared.view.ViewRow.{ViewRow}
use Rattle.flow_table.specs.declared.view.TableView.{TableView as Lent}
use Rattle.flow_table.specs.Sorted.{Ascends, AreRows}
use Rattle.flow_table.specs.ViewRows.{KeepsRoom}
use Rattle.shadow_tables.specs.Kept.{Kept}

abbrev pub lent_place : Lent → ℕ
lent_place v = v.dpid

-- tables by their switches ascending, each once
abbrev pub AreLent : List Lent → Type 0
AreLent vs = Ascends lent_place 0 vs

-- the rows of each table are in key order
abbrev pub AreTables : List Lent → Type 0
AreTables [] = Unit {0}
AreTables (v ∷ vs) = AreRows v.rows.rows × AreTables vs

-- what is kept of a switch by its table and its ports
abbrev pub kept_of : Lent → List PortDesc → Kept
kept_of v ports = record {
  known = record { dpid = v.dpid; rows = v.rows.rows; ports = ports };
  spare = v.rows.spare;
}

abbrev pub all_kept : List Lent → List (List PortDesc) → List Kept
all_kept [] all = []
all_kept (v ∷ vs) [] = []
all_kept (v ∷ vs) (ports ∷ all) = kept_of v ports ∷ all_kept vs all

-- the rows of the table at a place are changed, and it has no less room than before
pub record ChangesRows (at : ℕ) (change : List ViewRow → List ViewRow) (old new : List Lent) : Type 0 where
  pub before : Lent
  pub after : Lent
  pub here : before ≡ slice_index_or old at before
  pub all : new ≡ set old at after
  pub number : after.dpid ≡ before.dpid
  pub rows : after.rows.rows ≡ change before.rows.rows
  pub room : KeepsRoom before.rows after.rows
