-- The law of a whole undo: what it says of each switch.
use Rattle.std.specs.Prelude.{◌≡◌, ◌==◌, ℕ, Bool, true, false, not, List, [], ◌∷◌, map, filter, take, drop, if◌then◌else◌, Option, Result, IsOk, ◌≤◌, ◌+◌, refl}
use Rattle.std.proofs.Common.{sym, ap, ◌∙◌, subst}
use Rattle.std.proofs.lemmas.List.Elements.{filter_agree}
use Rattle.flow_table.specs.View.{TableView}
use Rattle.lego_model.specs.Packets.{nothing_held}
use Rattle.net_txn.specs.Ports.{PortLists, ports_lost}
use Rattle.of_types.specs.Membership.{is_among}
use Rattle.of_match.specs.declared.key.Key.{Key}
use Rattle.outside.specs.Seen.{Counts, Seen}
use Rattle.outside.specs.laws.StateLaws.{Conforming-before}
use Rattle.outside.specs.laws.InOrderLaws.{messages-by}
use Rattle.lego_model.specs.declared.fault.TxnFault.{TxnFault}
use Rattle.net_txn.specs.Net.{NetState}
use Rattle.net_txn.specs.declared.logged.Logged.{Logged}
use Rattle.net_txn.specs.laws.RestoreLaws.{AllRun, others_stay, restored, accepted}
use Rattle.net_txn.specs.laws.LoseAllLaws.{lose_all-so, lost-rows}
use Rattle.net_txn.specs.laws.LostPartLaws.{free-among}
use Rattle.net_txn.specs.laws.OutLaws.{among_out, none_failed, undo_losses, undo_out}
use Rattle.net_txn.specs.laws.AgreeLaws.{agrees, table_agrees, no_fault}
use Rattle.net_txn.specs.laws.TableBackLaws.{table_back}
use Rattle.net_txn.specs.laws.UndoFailureLaws.{fails_in_undo}
use Rattle.net_txn.specs.laws.KeepLaws.{none_kept}
use Rattle.net_txn.specs.laws.UndoFaultLaws.{plain}
use Rattle.net_txn.specs.laws.SentOrderLaws.{served_all}
use Rattle.net_txn.specs.laws.LinkStepLaws.{OnLinks-by}
use Rattle.net_txn.specs.laws.UndoLinkLaws.{steps_links, parts_bring, undo_releases_none}
use Rattle.net_txn.specs.laws.UndoStrayLaws.{undo_place}
use Rattle.net_txn.specs.laws.UndoOrderLaws.{added_in_any_order, without_in_any_order}
use Rattle.net_txn.specs.Undos.{IsUndoOrder, Undoes, UndoesLog, undone_net, next_free, was_lost, lost_parts, is_stuck, Further, steps_of, first_fault, ended_by, without_keys, parts_of, Part, inverses_in, keys_of, key_logged, HasPassedBarrier, Stands, IsRevertedOn}
use Rattle.net_txn.specs.NetUndos.{ports_in}
use Rattle.net_txn.specs.Views.{rows_at, is_viewed}

key_step : (here : Bool) (x : ℕ) (k : Key) (pairs : List (ℕ × Key)) (keys : List Key) → map (λ p. p.1) pairs ≡ keys → map (λ p. p.1) (if here then (x, k) ∷ pairs else pairs) ≡ (if here then k ∷ keys else keys)
key_step true x k pairs keys is = ap (λ (ks : List Key). k ∷ ks) is
key_step false x k pairs keys is = is

pub keys-inverses_in : (d : ℕ) (es : List Logged) → map (λ p. p.1) (inverses_in d es) ≡ keys_of d (map key_logged es)
keys-inverses_in d [] = refl
keys-inverses_in d (e ∷ es) = key_step (e.dpid == d) e.progress.xid e.key (inverses_in d es) (keys_of d (map key_logged es)) (keys-inverses_in d es)

pub reverted_on : (known : Bool) (d : ℕ) (old new : Counts) (parts : List Part) (reverted : List Logged) (all : List (ℕ × Key)) → map key_logged reverted ≡ all → Stands known d old new parts reverted → (known ≡ true → HasPassedBarrier d reverted) → IsRevertedOn known d old new (keys_of d all) parts
reverted_on known d old new parts reverted all same s barred = record {
  unknown = s.unknown;
  run = s.run;
  keys_is = λ k free. ap (λ (ps : List (ℕ × Key)). map (λ p. p.1) ps) (sym (s.inverses k free)) ∙ keys-inverses_in d reverted ∙ ap (keys_of d) same;
  barred = λ k free. sym (s.since k free) ∙ barred k (s.stuck k ∙ free);
}

lost_alike : {Own : Type 0} {Tells : Type 0} {views : List TableView} {old new : Seen Own} {kept all_kept : List (ℕ × List ℕ)} {ps qs : PortLists} {x y : ℕ} {switches : List ℕ} {reverted : List Logged} {fault : Option TxnFault}
    (f : Further Tells views old new kept all_kept ps qs x y switches reverted fault) (d : ℕ) → not (was_lost reverted d) ≡ not (is_among d (lost_parts f.parts))
lost_alike {old = old} {new = new} f d = ap not ((f.undoing.stands d).out ∙ sym (among_out old.counts new.counts d f.parts (λ c. (f.undoing.stands c).run)))

-- what the host keeps where the log was undone
now_alike : (net now : NetState) (views : List TableView) (log : List Logged) (kept : List (ℕ × List ℕ)) (ports : PortLists) (xid : ℕ) → now.views ≡ views → now.log ≡ log → now.held ≡ nothing_held → now.kept ≡ kept → ports_in now ≡ ports → now.xid ≡ xid → now.moment ≡ net.moment
    → now ≡ record { views = views; ports = ports.known; log = log; held = nothing_held; xid = xid; moment = net.moment; kept = kept; room = now.room; left = ports.left }
now_alike net now views log kept ports xid same_views same_log none_held same_kept same_ports same_xid same_moment =
    rw (sym same_views, sym same_log, sym same_kept, sym same_ports, sym same_xid, sym same_moment, sym none_held) refl

-- the log was put in order first
pub undoes : {Own : Type 0} {Tells : Type 0} (start from : ℕ) (old new : Seen Own) (net now : NetState) (log : List Logged) (result : Result (Unit {0}) TxnFault) → take from log ≡ take start net.log → IsUndoOrder (map key_logged (drop start net.log)) (map key_logged (drop from log))
    → UndoesLog Tells net.views now.views old new net.kept now.kept (ports_in net) (ports_in now) net.xid now.xid (map key_logged (drop from log)) result
    → now.log ≡ take from log → now.held ≡ nothing_held → now.moment ≡ net.moment → (net.room ≤ now.room + 1) × (IsOk result → now.room ≡ net.room) → Undoes Tells start old new net now result
undoes {Tells = Tells} start from old new net now log result front ordered u log_is none_held same_moment fits =
    let f = u.further in
    let parts = f.parts in
    let lost = lost_parts parts in
    let logged = map key_logged (drop start net.log) in
    let keys = map key_logged (drop from log) in
    let is : result ≡ ended_by (first_fault parts) = u.result_is ∙ ap ended_by f.fault_is in
    let given = f.undoing.continues.given in
    let each : (d : ℕ) → IsRevertedOn (is_viewed d net.views) d old.counts new.counts (keys_of d keys) (parts_of d parts) = λ d.
    reverted_on (is_viewed d net.views) d old.counts new.counts (parts_of d parts) u.reverted keys u.same (f.undoing.stands d) (u.barred d) in
    let run : AllRun old.counts new.counts parts = λ c. (each c).run in
    let left = without_keys keys net.views in
    let now_views : now.views ≡ filter (λ v. not (is_among v.dpid lost)) left =
    u.views_is ∙ filter_agree (λ v. not (was_lost u.reverted v.dpid)) (λ v. not (is_among v.dpid lost)) (λ v. lost_alike f v.dpid) left in
    let any_order : filter (λ v. not (is_among v.dpid lost)) left ≡ filter (λ v. not (is_among v.dpid lost)) (without_keys logged net.views) =
    ap (λ (vs : List TableView). filter (λ v. not (is_among v.dpid lost)) vs) (sym (without_in_any_order logged keys net.views ordered.same)) in
    let now_kept : now.kept ≡ filter (λ m. not (is_among m.0 lost)) u.all_kept =
    u.kept_is ∙ filter_agree (λ m. not (was_lost u.reverted m.0)) (λ m. not (is_among m.0 lost)) (λ m. lost_alike f m.0) u.all_kept in
    let base : NetState = record (undone_net start net) { xid = next_free net.xid parts; kept = u.all_kept; room = now.room } in
    let rows : (d : ℕ) → is_stuck (parts_of d parts) ≡ false → rows_at d now.views ≡ rows_at d left = λ d free.
    ap (rows_at d) now_views ∙ lost-rows d lost left (free-among old.counts new.counts d parts (run d) free) in
    record {
      parts = parts;
      continues = f.undoing.continues;
      links = OnLinks-by Tells old new (steps_of parts) (steps_links old.counts new.counts parts run) f.undoing.told;
      no_strays = λ told order joined. undo_place old new net.views parts given (f.undoing.told told) run (λ c. (each c).unknown) order joined;
      told = f.undoing.told;
      numbered = f.undoing.numbered;
      keys = keys;
      ordered = ordered;
      each = each;
      order = rw u.same at f.undoing.order;
      whole_order = served_all net.views parts keys (rw u.same at f.undoing.order) (λ d. (each d).keys_is);
      last = f.undoing.ends;
      result_is = is;
      read = λ ok told.
          messages-by old new (steps_of parts) (f.undoing.told told) (parts_bring old.counts new.counts parts run (no_fault (first_fault parts) (subst (λ (r : Result (Unit {0}) TxnFault). IsOk r) is ok)));
      none_failed = λ ok d. none_failed old.counts new.counts result parts d run is ok;
      kept = u.all_kept;
      keeps = f.undoing.keeps;
      net_is = now_alike net now (filter (λ v. not (is_among v.dpid lost)) (without_keys logged net.views)) (take start net.log) (filter (λ m. not (is_among m.0 lost)) u.all_kept) (ports_lost lost (ports_in net)) (next_free net.xid parts) (now_views ∙ any_order) (log_is ∙ front) none_held now_kept f.ports_is f.undoing.next same_moment
          ∙ sym (lose_all-so lost base);
      room = fits;
      others = λ d told unknown. others_stay old new d parts given (f.undoing.told told) run ((each d).unknown unknown);
      lost_out = λ d told joined out. undo_out old new d parts given (f.undoing.told told) run (f.undoing.loses told joined) out;
      losses = λ told joined. undo_losses old new parts (f.undoing.told told) run (f.undoing.loses told joined);
      none_released = λ told. undo_releases_none old new parts (f.undoing.told told) run;
      accepted = λ d s inverse bytes told conforming here waits err. accepted old new d s inverse bytes parts result given (f.undoing.told told) run conforming is here waits err;
      restored = λ d s before told conforming known free here waits was serialed only.
          restored old new d s before (keys_of d keys) parts given (f.undoing.told told) run conforming free ((each d).keys_is known free) ((each d).barred known free) here waits was serialed (added_in_any_order d logged keys before.entries s.table.entries ordered.same only);
      tables_restored = λ d s before told known free here was serialed only.
          table_back old new d s before (keys_of d keys) parts given (f.undoing.told told) run free ((each d).keys_is known free) here was serialed (added_in_any_order d logged keys before.entries s.table.entries ordered.same only);
      none_kept = λ told conforming ok ready. now_kept ∙ none_kept old new net.views parts result net.kept u.all_kept given (f.undoing.told told) run (λ c. (each c).unknown) is ok conforming ready f.undoing.keeps;
      plain = λ told conforming ready.
          plain old new net.views parts result given (f.undoing.told told) run (λ c. (each c).unknown) is (Conforming-before told f.undoing.continues conforming) conforming ready;
      agrees = λ d told conforming free waits before. agrees old new d net.views now.views keys parts given (f.undoing.told told) each (rows d free) conforming free waits before;
      tables_agree = λ d told free before. table_agrees old new d net.views now.views keys parts given (f.undoing.told told) each (rows d free) free before;
      failed_by = λ d failed in_still. fails_in_undo Tells d old new parts f.undoing.told run failed (sym (among_out old.counts new.counts d parts run) ∙ in_still);
    }
