-- Laws of a log whose inverses are reverted: what a progress that is noted at a place leaves of an undo.
use Rattle.std.specs.Prelude.{◌≡◌, ℕ, ◌+◌, ◌^◌, ◌<◌, Bool, true, false, List, [], ◌∷◌, length, drop, map, Option, None, Result, Ok, Err, OnOk, IfErr, is_err, refl}
use Rattle.std.proofs.Common.{get_or, set, sym, ap, ◌∙◌, subst, inl, inr, arith}
use Rattle.std.proofs.lemmas.Bool.{cases_eq}
use Rattle.std.proofs.Math.Seq.{map-set_same}
use Rattle.of_types.specs.declared.journal.Act.TheVariants.{Sent}
use Rattle.flow_table.specs.View.{TableView}
use Rattle.outside.specs.declared.step.WorldStep.TheVariants.{Acted}
use Rattle.outside.specs.Seen.{Seen}
use Rattle.lego_model.specs.declared.fault.TxnFault.{TxnFault}
use Rattle.net_txn.specs.declared.logged.UndoProgress.{UndoProgress}
use Rattle.net_txn.specs.declared.logged.Logged.{Logged}
use Rattle.net_txn.specs.declared.halt.Halt.{Halt}
use Rattle.net_txn.specs.declared.trouble.Trouble.{Trouble}
use Rattle.net_txn.specs.declared.trouble.Trouble.TheVariants as troubles
use Rattle.lego_model.specs.UndoFaults.{inverse_bytes}
use Rattle.lego_model.specs.BarrierWaits.{next_xid, barrier_sent}
use Rattle.net_txn.specs.laws.ProgressLaws.{progress_of-same, progress_of-other, inverses_in-other, progress_of-set, progress_of-set_other, inverses_in-set, IsProgressAt-within, IsProgressAt-dpid, progress_of-at, progress_of-none, keys_in-none}
use Rattle.net_txn.specs.Ports.{PortLists}
use Rattle.net_txn.specs.Undos.{halt_by, fault_by, fault_of, ports_by, ports_of, is_lost, is_of_link, loses_by, alone, Moves, Fails, AwaitsReplies, first_fault_of, progress_of, inverses_in, keys_in, with_progress, IsProgressAt, HasPassedBarrier, key_logged, Further, Pending, parts_of, is_stuck, inverses_of}
use Rattle.net_txn.specs.Views.{is_viewed}
use Rattle.net_txn.specs.laws.PartOrderLaws.{EndsStep, thinned_more, ends_skipped}
use Rattle.net_txn.specs.laws.FurtherLaws.{first_or_none, Pending-of, Further-of, Further-inverse, Further-barred, Further-stuck, Further-skipped}

-- ---- The first entry

cut_first : (log : List Logged) (e : Logged) → 0 < length log → log ≡ get_or log 0 e ∷ drop 1 log
cut_first [] e some = absurd (omega arith)
cut_first (l ∷ ls) e some = refl

marked_first : (log now : List Logged) (f : UndoProgress) (e : Logged) → 0 < length log → now ≡ set log 0 (with_progress f (get_or log 0 e)) → now ≡ with_progress f (get_or log 0 e) ∷ drop 1 log
marked_first [] now f e some is = absurd (omega arith)
marked_first (l ∷ ls) now f e some is = is

-- ---- The inverse was sent

pub skipped_first : {Own : Type 0} {Tells : Type 0} {views : List TableView} {base now : Seen Own} {kept kept1 : List (ℕ × List ℕ)} {ps qs : PortLists} {x y : ℕ} {switches : List ℕ} {fault : Option TxnFault} (log later : List Logged) (f : UndoProgress) (e : Logged) → 0 < length log → later ≡ set log 0 (with_progress f (get_or log 0 e)) → f.failed ≡ true
    → f.lost ≡ (progress_of (get_or log 0 e).dpid (drop 1 log)).lost → (is_viewed (get_or log 0 e).dpid views ≡ true → (progress_of (get_or log 0 e).dpid (drop 1 log)).failed ≡ true) → Further Tells views base now kept kept1 ps qs x y switches (drop 1 log) fault → Further Tells views base now kept kept1 ps qs x y switches later fault
skipped_first log later f e lt is failed out stuck u = rw (marked_first log later f e lt is) (Further-skipped (with_progress f (get_or log 0 e)) u stuck failed out)

pub stuck_first : {Own : Type 0} {Tells : Type 0} {views : List TableView} {base now next : Seen Own} {kept kept1 : List (ℕ × List ℕ)} {ps qs : PortLists} {x y z : ℕ} {switches : List ℕ} {before : Option TxnFault} (log later : List Logged) (f : UndoProgress) (e : Logged) (halt : Halt) → 0 < length log → later ≡ set log 0 (with_progress f (get_or log 0 e)) → f.failed ≡ true → f.lost ≡ is_lost halt → z ≡ next_xid y
    → Further Tells views base now kept kept1 ps qs x y switches (drop 1 log) before → is_viewed (get_or log 0 e).dpid views ≡ true → (progress_of (get_or log 0 e).dpid (drop 1 log)).failed ≡ false
    → Fails Tells (get_or log 0 e).dpid y (inverses_in (get_or log 0 e).dpid (drop 1 log)) now next kept1 kept1 halt → Further Tells views base next kept kept1 ps (ports_by (get_or log 0 e).dpid halt qs) x z [] later (first_fault_of before (fault_by halt))
stuck_first log later f e halt lt is failed out step u known unfailed fails =
    let d = (get_or log 0 e).dpid in
    let g = with_progress f (get_or log 0 e) in
    let reverted = drop 1 log in
    rw (marked_first log later f e lt is, step) (Further-stuck d (g ∷ reverted) halt (Pending-of d u known unfailed) known (ap (λ (h : UndoProgress). h.failed) (progress_of-same d g reverted refl) ∙ failed) (ap (λ (h : UndoProgress). h.lost) (progress_of-same d g reverted refl) ∙ out)
    (λ c other. (progress_of-other c g reverted other, inverses_in-other c g reverted other)) (λ xs is. thinned_more xs (key_logged g) (map key_logged reverted) is) (inl refl) fails)

pub sent_first : {Own : Type 0} {Tells : Type 0} {views : List TableView} {base now next : Seen Own} {kept kept1 : List (ℕ × List ℕ)} {ps qs : PortLists} {x y z : ℕ} {switches : List ℕ} {fault : Option TxnFault} (log later : List Logged) (f : UndoProgress) (e : Logged) → 0 < length log → later ≡ set log 0 (with_progress f (get_or log 0 e)) → f.failed ≡ false → f.lost ≡ false → f.xid ≡ y → y < 2 ^ 32 → (get_or log 0 e).key.priority < 2 ^ 16 → z ≡ next_xid y
    → Further Tells views base now kept kept1 ps qs x y switches (drop 1 log) fault → is_viewed (get_or log 0 e).dpid views ≡ true → (progress_of (get_or log 0 e).dpid (drop 1 log)).failed ≡ false
    → ((progress_of (get_or log 0 e).dpid (drop 1 log)).since < 4096 → f.since ≡ (progress_of (get_or log 0 e).dpid (drop 1 log)).since + 1)
    → Moves Tells (get_or log 0 e).dpid (Acted (Sent (get_or log 0 e).dpid (inverse_bytes f.xid (get_or log 0 e).key)) ∷ []) now next → Pending Tells views base next kept kept1 ps qs x z [] later fault (get_or log 0 e).dpid
sent_first {Tells = Tells} {now = now} {next = next} log later f e lt is well stays numbered lt_xid lt_priority step u known unfailed more m =
    let d = (get_or log 0 e).dpid in
    let g = with_progress f (get_or log 0 e) in
    let n = subst (λ (i : ℕ). Moves Tells d (Acted (Sent d (inverse_bytes i g.key)) ∷ []) now next) numbered m in
    rw (marked_first log later f e lt is, step) (Further-inverse d g u known unfailed refl numbered well stays more (record { is_xid = omega (arith, numbered, lt_xid); priority = lt_priority }) n)

pub few_first : {Own : Type 0} {Tells : Type 0} {views : List TableView} {base now : Seen Own} {kept kept1 : List (ℕ × List ℕ)} {ps qs : PortLists} {x y : ℕ} {switches : List ℕ} {fault : Option TxnFault} (log later : List Logged) (f : UndoProgress) (e : Logged) → 0 < length log → later ≡ set log 0 (with_progress f (get_or log 0 e)) → f.since < 4096
    → Pending Tells views base now kept kept1 ps qs x y switches later fault (get_or log 0 e).dpid → is_viewed (get_or log 0 e).dpid views ≡ true → Further Tells views base now kept kept1 ps qs x y switches later fault
few_first log later f e lt is few p known =
    let d = (get_or log 0 e).dpid in
    let same = ap (progress_of d) (marked_first log later f e lt is) ∙ progress_of-same d (with_progress f (get_or log 0 e)) (drop 1 log) refl in
    Further-of d p known (rw same few)

-- ---- The barrier was answered, or the switch failed

abbrev pub barred : Logged → Logged
barred e = with_progress (record { xid = e.progress.xid; since = 0; failed = false; lost = false }) e

abbrev pub failed_at : Bool → Logged → Logged
failed_at lost e = with_progress (record { xid = e.progress.xid; since = 0; failed = true; lost = lost }) e

-- a switch is lost where its link fails, or it is parted with
pub lost_link : (d : ℕ) (t : Trouble) (buf : List ℕ) → is_of_link t ≡ is_lost (halt_by d t buf)
lost_link d troubles.Link buf = refl
lost_link d (troubles.Broke n) buf = refl
lost_link d (troubles.Refused k x n) buf = refl
lost_link d troubles.Flooded buf = refl
lost_link d troubles.Short buf = refl
lost_link d troubles.Full buf = refl
lost_link d troubles.Parted buf = refl

pub barred_in : {Own : Type 0} {Tells : Type 0} {views : List TableView} {base now next : Seen Own} {kept kept1 kept2 : List (ℕ × List ℕ)} {ps qs : PortLists} {x y z : ℕ} {switches more : List ℕ} {fault : Option TxnFault} (d : ℕ) (reverted : List Logged) (j : ℕ) (e : Logged) → IsProgressAt d reverted j → y < 2 ^ 32 → z ≡ next_xid y
    → Pending Tells views base now kept kept1 ps qs x y switches reverted fault d → is_viewed d views ≡ true → EndsStep d switches more → AwaitsReplies Tells (alone d y) (barrier_sent (alone d y) ∷ []) (inverses_in d reverted) now next kept1 kept2 → Further Tells views base next kept kept2 ps qs x z more (set reverted j (barred (get_or reverted j e))) fault
barred_in d reverted j e at lt_xid step p known ends t =
    let g = barred (get_or reverted j e) in
    let is = IsProgressAt-dpid d reverted j e at in
    let lt = IsProgressAt-within d reverted j at in
    let progress = progress_of-set d reverted j g at is in
    rw step (Further-barred d (set reverted j g) lt_xid p known (ap (λ (h : UndoProgress). h.failed) progress) (ap (λ (h : UndoProgress). h.lost) progress) (ap (λ (h : UndoProgress). h.since) progress) (inverses_in-set d reverted j e g lt refl refl refl)
    (λ c other. (progress_of-set_other d c reverted j g at is other, inverses_in-set c reverted j e g lt refl refl refl)) (map-set_same key_logged reverted j g e refl) ends t)

pub stuck_in : {Own : Type 0} {Tells : Type 0} {views : List TableView} {base now next : Seen Own} {kept kept1 kept2 : List (ℕ × List ℕ)} {ps qs : PortLists} {x y z : ℕ} {switches more : List ℕ} {before : Option TxnFault} (d : ℕ) (reverted : List Logged) (j : ℕ) (e : Logged) (halt : Halt) (lost : Bool) → IsProgressAt d reverted j → lost ≡ is_lost halt → z ≡ next_xid y
    → Pending Tells views base now kept kept1 ps qs x y switches reverted before d → is_viewed d views ≡ true → EndsStep d switches more → Fails Tells d y (inverses_in d reverted) now next kept1 kept2 halt
    → Further Tells views base next kept kept2 ps (ports_by d halt qs) x z more (set reverted j (failed_at lost (get_or reverted j e))) (first_fault_of before (fault_by halt))
stuck_in d reverted j e halt lost at out step p known ends t =
    let g = failed_at lost (get_or reverted j e) in
    let is = IsProgressAt-dpid d reverted j e at in
    let lt = IsProgressAt-within d reverted j at in
    rw step (Further-stuck d (set reverted j g) halt p known (ap (λ (h : UndoProgress). h.failed) (progress_of-set d reverted j g at is)) (ap (λ (h : UndoProgress). h.lost) (progress_of-set d reverted j g at is) ∙ out)
    (λ c other. (progress_of-set_other d c reverted j g at is other, inverses_in-set c reverted j e g lt refl refl refl)) (λ xs is. rw (map-set_same key_logged reverted j g e refl) is) ends t)

pub unfaulted : {Own : Type 0} {Tells : Type 0} {views : List TableView} {base now : Seen Own} {kept kept1 : List (ℕ × List ℕ)} {ps qs : PortLists} {x y : ℕ} {switches : List ℕ} {reverted : List Logged} {fault : Option TxnFault} → Further Tells views base now kept kept1 ps qs x y switches reverted fault → Further Tells views base now kept kept1 ps qs x y switches reverted (first_fault_of fault None)
unfaulted {Tells = Tells} {views = views} {base = base} {now = now} {kept = kept} {kept1 = kept1} {ps = ps} {qs = qs} {x = x} {y = y} {switches = switches} {reverted = reverted} {fault = fault} u =
    subst (λ (o : Option TxnFault). Further Tells views base now kept kept1 ps qs x y switches reverted o) (sym (first_or_none fault)) u

-- whichever it was
pub await_in : {Own : Type 0} {Tells : Type 0} {views : List TableView} {base now next : Seen Own} {kept kept1 kept2 : List (ℕ × List ℕ)} {ps qs : PortLists} {x y z : ℕ} {switches more : List ℕ} {before : Option TxnFault} (d : ℕ) (reverted : List Logged) (j : ℕ) (e : Logged) (r : Result (Unit {0}) Trouble) (buf : List ℕ) → IsProgressAt d reverted j → y < 2 ^ 32 → z ≡ next_xid y
    → Pending Tells views base now kept kept1 ps qs x y switches reverted before d → is_viewed d views ≡ true → EndsStep d switches more
    → OnOk r (AwaitsReplies Tells (alone d y) (barrier_sent (alone d y) ∷ []) (inverses_in d reverted) now next kept1 kept2) → IfErr r (λ t. Fails Tells d y (inverses_in d reverted) now next kept1 kept2 (halt_by d t buf))
    → Further Tells views base next kept kept2 ps (ports_of d r buf qs) x z more (set reverted j (with_progress (record { xid = (get_or reverted j e).progress.xid; since = 0; failed = is_err r; lost = loses_by r }) (get_or reverted j e))) (first_fault_of before (fault_of d r buf))
await_in d reverted j e (Ok u) buf at lt_xid step p known ends ok err = unfaulted (barred_in d reverted j e at lt_xid step p known ends ok)
await_in d reverted j e (Err t) buf at lt_xid step p known ends ok err = stuck_in d reverted j e (halt_by d t buf) (is_of_link t) at (lost_link d t buf) step p known ends err

-- the inverse was sent just before
pub await_reverted : {Own : Type 0} {Tells : Type 0} {views : List TableView} {base now next : Seen Own} {kept kept1 kept2 : List (ℕ × List ℕ)} {ps qs : PortLists} {x y z : ℕ} {switches : List ℕ} {before : Option TxnFault} (d : ℕ) (log later : List Logged) (e : Logged) (r : Result (Unit {0}) Trouble) (buf : List ℕ) → 0 < length log → (get_or log 0 e).dpid ≡ d
    → later ≡ set log 0 (with_progress (record { xid = (get_or log 0 e).progress.xid; since = 0; failed = is_err r; lost = loses_by r }) (get_or log 0 e)) → y < 2 ^ 32 → z ≡ next_xid y
    → Pending Tells views base now kept kept1 ps qs x y switches log before d → is_viewed d views ≡ true
    → OnOk r (AwaitsReplies Tells (alone (get_or log 0 e).dpid y) (barrier_sent (alone (get_or log 0 e).dpid y) ∷ []) (inverses_in (get_or log 0 e).dpid log) now next kept1 kept2)
    → IfErr r (λ t. Fails Tells (get_or log 0 e).dpid y (inverses_in (get_or log 0 e).dpid log) now next kept1 kept2 (halt_by (get_or log 0 e).dpid t buf))
    → Further Tells views base next kept kept2 ps (ports_of d r buf qs) x z [] later (first_fault_of before (fault_of d r buf))
await_reverted {Tells = Tells} {now = now} {next = next} {kept1 = kept1} {kept2 = kept2} {y = y} d log later e r buf some is marked lt_xid step p known ok err =
    let here : IsProgressAt d log 0 = subst (λ (xs : List Logged). IsProgressAt d xs 0) (sym (cut_first log e some)) is in
    let ok2 = subst (λ (n : ℕ). OnOk r (AwaitsReplies Tells (alone n y) (barrier_sent (alone n y) ∷ []) (inverses_in n log) now next kept1 kept2)) is ok in
    let err2 = subst (λ (n : ℕ). IfErr r (λ t. Fails Tells n y (inverses_in n log) now next kept1 kept2 (halt_by n t buf))) is err in
    rw marked (await_in d log 0 e r buf here lt_xid step p known (inl refl) ok2 err2)

-- the switch of the newest inverse that was reverted to it
pub await_expected : {Own : Type 0} {Tells : Type 0} {views : List TableView} {base now next : Seen Own} {kept kept1 kept2 : List (ℕ × List ℕ)} {ps qs : PortLists} {x y z : ℕ} {switches : List ℕ} {before : Option TxnFault} (d i : ℕ) (log later : List Logged) (at : ℕ) (e : Logged) (r : Result (Unit {0}) Trouble) (buf : List ℕ) → IsProgressAt d log at
    → later ≡ set log at (with_progress (record { xid = (get_or log at e).progress.xid; since = 0; failed = is_err r; lost = loses_by r }) (get_or log at e)) → y < 2 ^ 32 → z ≡ next_xid y → i ≡ y
    → Further Tells views base now kept kept1 ps qs x y switches log before → is_viewed d views ≡ true → (get_or log at e).progress.failed ≡ false
    → OnOk r (AwaitsReplies Tells (alone (get_or log at e).dpid i) (barrier_sent (alone (get_or log at e).dpid i) ∷ []) (inverses_in (get_or log at e).dpid log) now next kept1 kept2)
    → IfErr r (λ t. Fails Tells (get_or log at e).dpid i (inverses_in (get_or log at e).dpid log) now next kept1 kept2 (halt_by (get_or log at e).dpid t buf))
    → Further Tells views base next kept kept2 ps (ports_of d r buf qs) x z (d ∷ switches) later (first_fault_of before (fault_of d r buf))
await_expected {Tells = Tells} {now = now} {next = next} {kept1 = kept1} {kept2 = kept2} {y = y} d i log later at e r buf here marked lt_xid step taken u known unfailed ok err =
    let is = IsProgressAt-dpid d log at e here in
    let free = ap (λ (f : UndoProgress). f.failed) (progress_of-at d log at e here) ∙ unfailed in
    let ok1 = subst (λ (n : ℕ). OnOk r (AwaitsReplies Tells (alone (get_or log at e).dpid n) (barrier_sent (alone (get_or log at e).dpid n) ∷ []) (inverses_in (get_or log at e).dpid log) now next kept1 kept2)) taken ok in
    let ok2 = subst (λ (n : ℕ). OnOk r (AwaitsReplies Tells (alone n y) (barrier_sent (alone n y) ∷ []) (inverses_in n log) now next kept1 kept2)) is ok1 in
    let err1 = subst (λ (n : ℕ). IfErr r (λ t. Fails Tells (get_or log at e).dpid n (inverses_in (get_or log at e).dpid log) now next kept1 kept2 (halt_by (get_or log at e).dpid t buf))) taken err in
    let err2 = subst (λ (n : ℕ). IfErr r (λ t. Fails Tells n y (inverses_in n log) now next kept1 kept2 (halt_by n t buf))) is err1 in
    rw marked (await_in d log at e r buf here lt_xid step (Pending-of d u known free) known (inr refl) ok2 err2)

-- and no inverse stands behind its barrier
pub barred_here : (d : ℕ) (log later : List Logged) (at : ℕ) (e : Logged) (f : UndoProgress) → IsProgressAt d log at → later ≡ set log at (with_progress f (get_or log at e)) → f.since ≡ 0 → HasPassedBarrier d later
barred_here d log later at e f here marked none = λ unfailed.
    rw marked (ap (λ (h : UndoProgress). h.since) (progress_of-set d log at (with_progress f (get_or log at e)) here (IsProgressAt-dpid d log at e here)) ∙ none)

pub barred_there : (d c : ℕ) (log later : List Logged) (at : ℕ) (e : Logged) (f : UndoProgress) → IsProgressAt d log at → later ≡ set log at (with_progress f (get_or log at e)) → f.since ≡ 0 → HasPassedBarrier c log → HasPassedBarrier c later
barred_there d c log later at e f here marked none before =
    elim (cases_eq c d) [
      | inl same ↦ subst (λ (n : ℕ). HasPassedBarrier n later) (sym same) (barred_here d log later at e f here marked none)
      | inr other ↦
          (let progress : progress_of c later ≡ progress_of c log = ap (progress_of c) marked ∙ progress_of-set_other d c log at (with_progress f (get_or log at e)) here (IsProgressAt-dpid d log at e here) other in
          subst (λ (h : UndoProgress). h.failed ≡ false → h.since ≡ 0) (sym progress) before)
    ]

pub barred_failed : (d : ℕ) (log : List Logged) (at : ℕ) (e : Logged) → IsProgressAt d log at → (get_or log at e).progress.failed ≡ true → HasPassedBarrier d log
barred_failed d log at e here failed = λ unfailed. absurd (no_both (progress_of d log).failed (ap (λ (f : UndoProgress). f.failed) (progress_of-at d log at e here) ∙ failed) unfailed)
  where
    no_both : (b : Bool) → b ≡ true → b ≡ false → ⊥
    no_both b is other = cc

pub barred_none : (d : ℕ) (log : List Logged) → keys_in d log ≡ [] → HasPassedBarrier d log
barred_none d log none = λ unfailed. ap (λ (f : UndoProgress). f.since) (progress_of-none d log none)

-- ---- No barrier is sent to a switch that failed, or for which no inverse was sent.

Further-passed : {Own : Type 0} {Tells : Type 0} {views : List TableView} {base now : Seen Own} {kept kept1 : List (ℕ × List ℕ)} {ps qs : PortLists} {x y : ℕ} {switches : List ℕ} {reverted : List Logged} {fault : Option TxnFault} (d : ℕ)
    → (u : Further Tells views base now kept kept1 ps qs x y switches reverted fault) → (is_stuck (parts_of d u.parts) ≡ false → inverses_of (parts_of d u.parts) ≡ []) → Further Tells views base now kept kept1 ps qs x y (d ∷ switches) reverted fault
Further-passed {switches = switches} d u none = record {
  parts = u.parts;
  undoing = record {
    continues = u.undoing.continues;
    told = u.undoing.told;
    next = u.undoing.next;
    numbered = u.undoing.numbered;
    stands = u.undoing.stands;
    loses = u.undoing.loses;
    keeps = u.undoing.keeps;
    order = u.undoing.order;
    ends = ends_skipped d switches u.parts none u.undoing.ends;
  };
  few = u.few;
  fault_is = u.fault_is;
  ports_is = u.ports_is;
}

no_both : (b : Bool) → b ≡ true → b ≡ false → ⊥
no_both b is other = cc

pub passed_none : {Own : Type 0} {Tells : Type 0} {views : List TableView} {base now : Seen Own} {kept kept1 : List (ℕ × List ℕ)} {ps qs : PortLists} {x y : ℕ} {switches : List ℕ} {fault : Option TxnFault} (d : ℕ) (log : List Logged) → keys_in d log ≡ []
    → is_viewed d views ≡ true → Further Tells views base now kept kept1 ps qs x y switches log fault → Further Tells views base now kept kept1 ps qs x y (d ∷ switches) log fault
passed_none d log none known u = Further-passed d u (λ free. sym ((u.undoing.stands d).inverses known free) ∙ keys_in-none d log none)

pub passed_failed : {Own : Type 0} {Tells : Type 0} {views : List TableView} {base now : Seen Own} {kept kept1 : List (ℕ × List ℕ)} {ps qs : PortLists} {x y : ℕ} {switches : List ℕ} {fault : Option TxnFault} (d : ℕ) (log : List Logged) (at : ℕ) (e : Logged) → IsProgressAt d log at → (get_or log at e).progress.failed ≡ true
    → is_viewed d views ≡ true → Further Tells views base now kept kept1 ps qs x y switches log fault → Further Tells views base now kept kept1 ps qs x y (d ∷ switches) log fault
passed_failed d log at e here failed known u = Further-passed d u (λ free. absurd (no_both (is_stuck (parts_of d u.parts)) (sym ((u.undoing.stands d).stuck known) ∙ ap (λ (f : UndoProgress). f.failed) (progress_of-at d log at e here) ∙ failed) free))
