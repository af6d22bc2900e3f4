-- Laws of an undo over what the host keeps: what stays, and what it leaves when its log is forgotten.
use Rattle.std.specs.Prelude.{◌≡◌, ℕ, ◌≤◌, true, not, List, ◌++◌, length, take, drop, map, filter, Option, Result, refl}
use Rattle.std.proofs.Common.{sym, ap, ◌∙◌, subst}
use Rattle.std.proofs.lemmas.List.{take-take, take-append-drop, drop-map, length-map, map-append}
use Rattle.of_match.specs.declared.key.Key.{Key}
use Rattle.flow_table.specs.View.{TableView}
use Rattle.outside.specs.Seen.{Seen}
use Rattle.lego_model.specs.declared.fault.TxnFault.{TxnFault}
use Rattle.net_txn.specs.declared.logged.Logged.{Logged}
use Rattle.net_txn.specs.Net.{NetState}
use Rattle.net_txn.specs.Undos.{Further, UndoesLog, HasPassedBarrier, ended_by, key_logged, switches_of, was_lost, without_keys}
use Rattle.net_txn.specs.NetUndos.{NetFurther, StaysInUndo, ports_in}
use Rattle.net_txn.specs.Ports.{PortLists}
use Rattle.net_txn.specs.Views.{is_viewed}

-- ---- What stays

pub stays_none : (from : ℕ) (net : NetState) → StaysInUndo from net net
stays_none from net = record { views = refl; held = refl; moment = refl; front = refl; same = refl }

pub stays_then : {from : ℕ} {net mid later : NetState} → StaysInUndo from net mid → StaysInUndo from mid later → StaysInUndo from net later
stays_then first second = record {
  views = second.views ∙ first.views;
  held = second.held ∙ first.held;
  moment = second.moment ∙ first.moment;
  front = second.front ∙ first.front;
  same = second.same ∙ first.same;
}

keys_apart : (at : ℕ) (log : List Logged) → map key_logged log ≡ map key_logged (take at log) ++ map key_logged (drop at log)
keys_apart at log = ap (λ (es : List Logged). map key_logged es) (sym (take-append-drop at log)) ∙ map-append key_logged (take at log) (drop at log)

-- the keys of the whole log stay
keys_stay : (at : ℕ) (log later : List Logged) → take at later ≡ take at log → map key_logged (drop at later) ≡ map key_logged (drop at log) → map key_logged later ≡ map key_logged log
keys_stay at log later front same =
    keys_apart at later
    ∙ ap (λ (es : List Logged). map key_logged es ++ map key_logged (drop at later)) front
    ∙ ap (λ (ks : List (ℕ × Key)). map key_logged (take at log) ++ ks) same
    ∙ sym (keys_apart at log)

pub as_long : {from : ℕ} {net later : NetState} → StaysInUndo from net later → length later.log ≡ length net.log
as_long {from = from} {net = net} {later = later} s =
    sym (length-map later.log key_logged) ∙ ap (λ (ks : List (ℕ × Key)). length ks) (keys_stay from net.log later.log s.front s.same) ∙ length-map net.log key_logged

-- what stays from a place on stays from an earlier one on
pub stays_before : {net later : NetState} (from at : ℕ) → from ≤ at → StaysInUndo at net later → StaysInUndo from net later
stays_before {net = net} {later = later} from at le s = record {
  views = s.views;
  held = s.held;
  moment = s.moment;
  front = sym (take-take from at later.log le) ∙ ap (λ (es : List Logged). take from es) s.front ∙ take-take from at net.log le;
  same = sym (drop-map key_logged from later.log) ∙ ap (λ (ks : List (ℕ × Key)). drop from ks) (keys_stay at net.log later.log s.front s.same) ∙ drop-map key_logged from net.log;
}

-- the views are those of the start
pub over_views : {Own : Type 0} {Tells : Type 0} {old new : Seen Own} {kept : List (ℕ × List ℕ)} {ports : PortLists} {xid from : ℕ} {net mid later : NetState} {reverted : List Logged} {fault : Option TxnFault} → StaysInUndo from net mid → StaysInUndo from mid later
    → NetFurther Tells old new kept ports xid later (switches_of mid.views) reverted fault → Further Tells net.views old new kept later.kept ports (ports_in later) xid later.xid (switches_of net.views) reverted fault
over_views {Tells = Tells} {old = old} {new = new} {kept = kept} {ports = ports} {xid = xid} {net = net} {mid = mid} {later = later} {reverted = reverted} {fault = fault} first second u =
    let here = subst (λ (vs : List TableView). Further Tells vs old new kept later.kept ports (ports_in later) xid later.xid (switches_of mid.views) reverted fault) (second.views ∙ first.views) u in
    subst (λ (vs : List TableView). Further Tells net.views old new kept later.kept ports (ports_in later) xid later.xid (switches_of vs) reverted fault) first.views here

-- ---- The log is forgotten, with its keys and the switches that were lost

pub undoes_log : {Own : Type 0} {Tells : Type 0} (from : ℕ) (old new : Seen Own) (net mid now : NetState) (result : Result (Unit {0}) TxnFault)
    → (fault : Option TxnFault) × (result ≡ ended_by fault) × Further Tells net.views old new net.kept mid.kept (ports_in net) (ports_in mid) net.xid mid.xid (switches_of net.views) (drop from mid.log) fault
    → ((d : ℕ) → is_viewed d net.views ≡ true → HasPassedBarrier d (drop from mid.log)) → StaysInUndo from net mid
    → now.views ≡ filter (λ v. not (was_lost (drop from mid.log) v.dpid)) (without_keys (map key_logged (drop from mid.log)) mid.views) → now.kept ≡ filter (λ m. not (was_lost (drop from mid.log) m.0)) mid.kept
    → UndoesLog Tells net.views now.views old new net.kept now.kept (ports_in net) (ports_in mid) net.xid mid.xid (map key_logged (drop from net.log)) result
undoes_log from old new net mid now result u barred stays views kept = record {
  fault = u.0;
  reverted = drop from mid.log;
  all_kept = mid.kept;
  result_is = u.1;
  further = u.2;
  barred = barred;
  same = stays.same;
  views_is = views
      ∙ ap (λ (vs : List TableView). filter (λ v. not (was_lost (drop from mid.log) v.dpid)) (without_keys (map key_logged (drop from mid.log)) vs)) stays.views
      ∙ ap (λ (ks : List (ℕ × Key)). filter (λ v. not (was_lost (drop from mid.log) v.dpid)) (without_keys ks net.views)) stays.same;
  kept_is = kept;
}
