-- Which places lead to which: where the packets go that come in there (OpenFlow 1.0.0, 3.3 Actions and 5.2.4 Flow Action Structures).
-- That the ports' configuration counts for nothing is our own choice.
use Rattle.std.specs.Prelude.{◌==◌, ℕ, Bool, false, ◌&&◌, ◌||◌, List, if◌then◌else◌}
use Rattle.std.specs.List.{list_any}
use Rattle.of_action.specs.declared.action.Action.{Action}
use Rattle.of_action.specs.declared.action.Action.TheVariants.{Output}
use Rattle.flow_table.specs.declared.view.ViewRow.{ViewRow}
use Rattle.flow_table.specs.View.{TableView}
use Rattle.net_guard.specs.declared.hop.Hop.{Hop}
use Rattle.net_guard.specs.declared.scope.Scope.{Scope}
use Rattle.net_guard.specs.Links.{Place, Guarded, is_same}
use Rattle.net_guard.specs.Taking.{considered}

-- Whether an output goes out by a port, for a packet that came in at another or the same: IN_PORT back where it came in, ALL and FLOOD
-- by each other port, a port's number by that port, unless the packet came in there.
unfoldable pub goes_by : ℕ → ℕ → ℕ → Bool
goes_by to at port =
    if to == 0xfff8 then port == at
    else if port == at then false
    else to == 0xfffc || to == 0xfffb || to == port

-- whether an action sends a packet that came in at a place over a hop
abbrev pub goes_over : Place → Hop → Action → Bool
goes_over p h (Output to max_len) = (h.from.0 == p.0) && goes_by to p.1 h.from.1
goes_over p h other = false

abbrev pub row_over : Place → Hop → ViewRow → Bool
row_over p h r = list_any (goes_over p h) r.actions

-- whether some considered row of the place's switch does
abbrev pub table_over : Guarded → Scope → Place → Hop → TableView → Bool
table_over g scope p h t = (t.dpid == p.0) && list_any (row_over p h) (considered g.field scope p.1 t.rows)

abbrev pub is_table_of : ℕ → TableView → Bool
is_table_of dpid t = t.dpid == dpid

abbrev pub is_viewed : ℕ → List TableView → Bool
is_viewed dpid tables = list_any (is_table_of dpid) tables

-- a place leads over a hop to a switch that has a table
unfoldable pub leads_over : Guarded → Scope → List TableView → Place → Hop → Bool
leads_over g scope tables p h = list_any (table_over g scope p h) tables && is_viewed h.to.0 tables

-- a place leads to another one
unfoldable pub leads : Guarded → Scope → List TableView → Place → Place → Bool
leads g scope tables p q = list_any (λ h. is_same h.to q && leads_over g scope tables p h) g.hops
