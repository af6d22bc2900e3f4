-- What is known of the joined switches, and what each call makes of it. All of this is our own.
use Rattle.std.specs.Prelude.{◌==◌, ℕ, List, map, if◌then◌else◌}
use Rattle.of_types.specs.declared.port_desc.PortDesc.{PortDesc}
use Rattle.of_match.specs.declared.key.Key.{Key}
use Rattle.flow_table.specs.declared.view.ViewRow.{ViewRow}
use Rattle.flow_table.specs.View.{TableView}
use Rattle.flow_table.specs.Sorted.{with_item, without_place, port_number, with_row, without_key}

-- a joined switch: the rows of its table in key order, as their owners asked for them, and its ports
pub record Known : Type 0 where
  pub dpid : ℕ
  pub rows : List ViewRow
  pub ports : List PortDesc

-- the switches, one of them changed
abbrev pub changed_at : ℕ → (Known → Known) → List Known → List Known
changed_at d change ks = map (λ k. if k.dpid == d then change k else k) ks

-- the tables as applications see them
abbrev pub view_of : Known → TableView
view_of k = record { dpid = k.dpid; rows = k.rows }

abbrev pub views : List Known → List TableView
views ks = map view_of ks

-- ---- Rows

abbrev pub put_row : ViewRow → Known → Known
put_row row k = record k { rows = with_row row k.rows }

abbrev pub drop_row : Key → Known → Known
drop_row key k = record k { rows = without_key key k.rows }

-- ---- Ports (OpenFlow 1.0.0, 5.4.3 Port Status Message: ADD 0, DELETE 1, MODIFY 2). A port that is told of for the first time is put
-- in by its number, whatever the reason.

abbrev pub ports_after : ℕ → PortDesc → List PortDesc → List PortDesc
ports_after reason port ports = if reason == 1 then without_place port_number port.port_no ports else with_item port_number port ports

-- the ports, the config of one of them set
abbrev pub configured : ℕ → ℕ → PortDesc → PortDesc
configured number config p = if p.port_no == number then record p { config = config } else p

abbrev pub with_config : ℕ → ℕ → List PortDesc → List PortDesc
with_config number config ports = map (configured number config) ports

abbrev pub tell_port : ℕ → PortDesc → Known → Known
tell_port reason port k = record k { ports = ports_after reason port k.ports }

abbrev pub configure : ℕ → ℕ → Known → Known
configure number config k = record k { ports = with_config number config k.ports }
