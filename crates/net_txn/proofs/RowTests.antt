-- Tests of the rows of a view, and of the pairs of keys and actions that they show.
use Rattle.std.proofs.Common.{◌≡◌, ◌==◌, Bool, true, false, not, ◌&&◌, List, sym, ap}
use Rattle.std.specs.List.{list_any}
use Rattle.of_match.specs.declared.key.Key.{Key}
use Rattle.of_match.specs.Key.{key_number}
use Rattle.match_overlap.specs.Relations.{is_overlapping}
use Rattle.of_action.specs.declared.action.Action.{Action}
use Rattle.of_wire.specs.declared.bodies.FlowMod.{FlowMod}
use Rattle.flow_table.specs.declared.view.ViewRow.{ViewRow}
use Rattle.flow_table.specs.Change.{checks_overlap, is_modify, key_in, describes, sends_to}
use Rattle.lego_model.specs.Answers.{rows_of_view, would_clash, would_touch}
use Rattle.net_txn.specs.laws.RowLaws.{any_of_map}
use Rattle.flow_table.specs.RowKeys.{shown_row}

pub clash_checked : (m : FlowMod) (rows : List ViewRow) (k : Key) → k ≡ key_in m → checks_overlap m.flags ≡ true
    → list_any (λ r. r.key.priority == k.priority && (not (key_number r.key == key_number k) && is_overlapping r.key.matching k.matching)) rows ≡ would_clash m (rows_of_view rows)
clash_checked m rows k is checks = rw (is, checks) (sym (any_of_map (λ (r : Key × List Action). r.0.priority == m.priority && (not (key_number r.0 == key_number (key_in m)) && is_overlapping r.0.matching m.matching)) shown_row rows))

pub touch_add : (m : FlowMod) (rows : List ViewRow) → m.command ≡ 0
    → (list_any (λ r. key_number r.key == key_number (key_in m)) rows && not (would_clash m (rows_of_view rows))) ≡ would_touch m (rows_of_view rows)
unfolding would_touch
touch_add m rows adds = rw adds (ap (λ (b : Bool). b && not (would_clash m (rows_of_view rows))) (sym (any_of_map (λ (r : Key × List Action). key_number r.0 == key_number (key_in m)) shown_row rows)))

pub touch_modify : (m : FlowMod) (rows : List ViewRow) → (m.command == 0) ≡ false → is_modify m ≡ true → list_any (λ r. describes m r.key) rows ≡ would_touch m (rows_of_view rows)
unfolding would_touch
touch_modify m rows other modifies = rw (other, modifies) (sym (any_of_map (λ (r : Key × List Action). describes m r.0) shown_row rows))

pub touch_delete : (m : FlowMod) (rows : List ViewRow) → (m.command == 0) ≡ false → is_modify m ≡ false → list_any (λ r. describes m r.key && sends_to m.out_port r.actions) rows ≡ would_touch m (rows_of_view rows)
unfolding would_touch
touch_delete m rows other deletes = rw (other, deletes) (sym (any_of_map (λ (r : Key × List Action). describes m r.0 && sends_to m.out_port r.1) shown_row rows))
