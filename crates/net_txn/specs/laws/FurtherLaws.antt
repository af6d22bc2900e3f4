-- Laws of undos with their first fault: one inverse more, one barrier more, and a fault.
use Rattle.std.specs.Prelude.{◌≡◌, ◌≢◌, ℕ, ◌+◌, ◌^◌, ◌<◌, true, false, List, [], ◌∷◌, ◌++◌, map, Option, Some, None, refl}
use Rattle.std.proofs.Common.{sym, ap, ◌∙◌, subst, eq-eqb, inl, inr, arith}
use Rattle.std.proofs.lemmas.Bool.{ne_eqb, cases_eq}
use Rattle.of_types.specs.declared.journal.Act.TheVariants.{Sent}
use Rattle.of_match.specs.declared.key.Key.{Key}
use Rattle.flow_table.specs.View.{TableView}
use Rattle.outside.specs.declared.step.WorldStep.{WorldStep}
use Rattle.outside.specs.declared.step.WorldStep.TheVariants.{Acted}
use Rattle.outside.specs.Seen.{Seen}
use Rattle.outside.specs.State.{state, is_joined}
use Rattle.lego_model.specs.declared.fault.TxnFault.{TxnFault}
use Rattle.net_txn.specs.declared.halt.Halt.{Halt}
use Rattle.net_txn.specs.declared.halt.Halt.TheVariants.{Lost, Fault}
use Rattle.net_txn.specs.declared.logged.Logged.{Logged}
use Rattle.lego_model.specs.UndoFaults.{inverse_bytes, AreBefore}
use Rattle.lego_model.specs.BarrierWaits.{next_xid, barrier_sent}
use Rattle.net_txn.specs.laws.ProgressLaws.{progress_of-other, inverses_in-other}
use Rattle.net_txn.specs.laws.UndoWaitLaws.{IsHaltOf-behind}
use Rattle.net_txn.specs.laws.TableBackLaws.{stays_joined}
use Rattle.net_txn.specs.Ports.{PortLists, lost_ports, ports_lost}
use Rattle.net_txn.specs.Undos.{Undoing, is_lost, is_stuck, lost_in, lost_parts, fault_by, ports_by, CanBeSent, alone, Moves, Fails, AwaitsReplies, Part, Inverse, BarrierPassed, Stuck, parts_of, since_of, inverses_of, first_fault, first_fault_of, progress_of, inverses_in, key_logged, Further, Pending, IsRoomLeft, IsThinned, sent_in}
use Rattle.net_txn.specs.Views.{is_viewed}
use Rattle.net_txn.specs.laws.PartOrderLaws.{EndsStep, ends_none, ends_more}
use Rattle.net_txn.specs.laws.UndoLaws.{out_of_stuck, SameFor, Undoing-part, Undoing-none, Undoing-skipped, Stands-inverse, Stands-stuck, Stands-barred}

pub first_or_none : (o : Option TxnFault) → first_fault_of o None ≡ o
first_or_none None = refl
first_or_none (Some f) = refl

-- ---- The ports of those that were lost

pub ports_lost-append : (xs ys : List ℕ) (ps : PortLists) → ports_lost (xs ++ ys) ps ≡ ports_lost ys (ports_lost xs ps)
ports_lost-append [] ys ps = refl
ports_lost-append (x ∷ xs) ys ps = ports_lost-append xs ys (lost_ports x ps)

none_more : (xs : List ℕ) (ps : PortLists) → ports_lost xs ps ≡ ports_lost (xs ++ []) ps
none_more xs ps = sym (ports_lost-append xs [] ps)

-- ---- Steps of an undo

pub Further-none : {Own : Type 0} (Tells : Type 0) (views : List TableView) (seen : Seen Own) (kept : List (ℕ × List ℕ)) (ps : PortLists) (x : ℕ) → Further Tells views seen seen kept kept ps ps x x [] [] None
Further-none Tells views seen kept ps x = record { parts = []; undoing = Undoing-none Tells views seen kept x; few = λ d. omega arith; fault_is = refl; ports_is = refl }

pub Further-skipped : {Own : Type 0} {Tells : Type 0} {views : List TableView} {base now : Seen Own} {kept kept1 : List (ℕ × List ℕ)} {ps qs : PortLists} {x y : ℕ} {switches : List ℕ} {reverted : List Logged} {fault : Option TxnFault} (e : Logged)
    → Further Tells views base now kept kept1 ps qs x y switches reverted fault → (is_viewed e.dpid views ≡ true → (progress_of e.dpid reverted).failed ≡ true) → e.progress.failed ≡ true → e.progress.lost ≡ (progress_of e.dpid reverted).lost → Further Tells views base now kept kept1 ps qs x y switches (e ∷ reverted) fault
Further-skipped e f failed is out = record { parts = f.parts; undoing = Undoing-skipped e f.undoing failed is out; few = f.few; fault_is = f.fault_is; ports_is = f.ports_is }

-- a switch that is joined and has not failed
pub Pending-of : {Own : Type 0} {Tells : Type 0} {views : List TableView} {base now : Seen Own} {kept kept1 : List (ℕ × List ℕ)} {ps qs : PortLists} {x y : ℕ} {switches : List ℕ} {reverted : List Logged} {fault : Option TxnFault} (d : ℕ)
    → Further Tells views base now kept kept1 ps qs x y switches reverted fault → is_viewed d views ≡ true → (progress_of d reverted).failed ≡ false → Pending Tells views base now kept kept1 ps qs x y switches reverted fault d
Pending-of d f known unfailed = record {
  parts = f.parts;
  undoing = f.undoing;
  few = λ c other. f.few c;
  free = sym ((f.undoing.stands d).stuck known) ∙ unfailed;
  fault_is = f.fault_is;
  ports_is = f.ports_is;
}

-- its inverses are few
pub Further-of : {Own : Type 0} {Tells : Type 0} {views : List TableView} {base now : Seen Own} {kept kept1 : List (ℕ × List ℕ)} {ps qs : PortLists} {x y : ℕ} {switches : List ℕ} {reverted : List Logged} {fault : Option TxnFault} (d : ℕ)
    → Pending Tells views base now kept kept1 ps qs x y switches reverted fault d → is_viewed d views ≡ true → (progress_of d reverted).since < 4096 → Further Tells views base now kept kept1 ps qs x y switches reverted fault
Further-of d p known few = record {
  parts = p.parts;
  undoing = p.undoing;
  few = λ c. elim (cases_eq c d) [ inl same ↦ subst (λ (n : ℕ). since_of (parts_of n p.parts) < 4096) (sym same) mine | inr other ↦ p.few c other ];
  fault_is = p.fault_is;
  ports_is = p.ports_is;
}
  where
    mine : since_of (parts_of d p.parts) < 4096
    mine = let same = (p.undoing.stands d).since known p.free in omega (arith, same, few)

-- its inverse is sent
pub Further-inverse : {Own : Type 0} {Tells : Type 0} {views : List TableView} {base now next : Seen Own} {kept kept1 : List (ℕ × List ℕ)} {ps qs : PortLists} {x y : ℕ} {switches : List ℕ} {reverted : List Logged} {fault : Option TxnFault} (d : ℕ) (e : Logged)
    → Further Tells views base now kept kept1 ps qs x y switches reverted fault → is_viewed d views ≡ true → (progress_of d reverted).failed ≡ false → e.dpid ≡ d → e.progress.xid ≡ y → e.progress.failed ≡ false → e.progress.lost ≡ false → ((progress_of d reverted).since < 4096 → e.progress.since ≡ (progress_of d reverted).since + 1)
    → CanBeSent e.progress.xid e.key → Moves Tells d (Acted (Sent d (inverse_bytes y e.key)) ∷ []) now next → Pending Tells views base next kept kept1 ps qs x (next_xid y) [] (e ∷ reverted) fault d
Further-inverse {Tells = Tells} {views = views} {base = base} {now = now} {next = next} {ps = ps} {y = y} {reverted = reverted} d e f known unfailed is numbered well stays more can m =
    let s = f.undoing.stands d in
    let free = sym (s.stuck known) ∙ unfailed in
    let few = f.few d in
    let since = more (let same = s.since known free in omega (arith, same, few)) in
    let m2 = subst (λ (n : ℕ). Moves Tells d (Acted (Sent d (inverse_bytes n e.key)) ∷ []) now next) (sym numbered) m in
    record {
      parts = (d, Inverse e.progress.xid e.key) ∷ f.parts;
      undoing = Undoing-part d (Inverse e.progress.xid e.key) (e ∷ reverted) f.undoing m2 numbered (λ c other. (progress_of-other c e reverted (λ same. other (same ∙ is)), inverses_in-other c e reverted (λ same. other (same ∙ is))))
          (Stands-inverse (is_viewed d views) d base.counts now.counts next.counts (parts_of d f.parts) reverted e f.undoing.continues.none_fell m.continues.none_fell s known free can few is well stays since) (λ t joined. tt) refl (inl (ap (λ (n : ℕ). (n, e.key)) (sym is), f.undoing.order)) (ends_none ((d, Inverse e.progress.xid e.key) ∷ f.parts));
      few = λ c other. rw (ne_eqb d c (λ same. other (sym same))) (f.few c);
      free = rw (eq-eqb d d refl) refl;
      fault_is = f.fault_is ∙ sym (first_or_none (first_fault f.parts));
      ports_is = f.ports_is ∙ none_more (lost_parts f.parts) ps;
    }

-- its barrier was answered
pub Further-barred : {Own : Type 0} {Tells : Type 0} {views : List TableView} {base now next : Seen Own} {kept kept1 kept2 : List (ℕ × List ℕ)} {ps qs : PortLists} {x y : ℕ} {switches more : List ℕ} {reverted : List Logged} {fault : Option TxnFault} (d : ℕ) (later : List Logged)
    → y < 2 ^ 32 → Pending Tells views base now kept kept1 ps qs x y switches reverted fault d → is_viewed d views ≡ true → (progress_of d later).failed ≡ false → (progress_of d later).lost ≡ false → (progress_of d later).since ≡ 0 → inverses_in d later ≡ inverses_in d reverted → ((c : ℕ) → c ≢ d → SameFor c later reverted)
    → map key_logged later ≡ map key_logged reverted → EndsStep d switches more → AwaitsReplies Tells (alone d y) (barrier_sent (alone d y) ∷ []) (inverses_in d reverted) now next kept1 kept2 → Further Tells views base next kept kept2 ps qs x (next_xid y) more later fault
Further-barred {views = views} {base = base} {now = now} {next = next} {ps = ps} {y = y} {switches = switches} {more = more} {reverted = reverted} d later lt p known unfailed stays none same others kept_log step t =
    let s = p.undoing.stands d in
    let before = subst (λ (ps : List (ℕ × Key)). AreBefore (alone d y) ps t.got) (s.inverses known p.free) t.before in
    record {
      parts = (d, BarrierPassed y t.got) ∷ p.parts;
      undoing = Undoing-part d (BarrierPassed y t.got) later p.undoing t.moves refl others
          (Stands-barred (is_viewed d views) d y base.counts now.counts next.counts (parts_of d p.parts) reverted later t.got p.undoing.continues.none_fell t.moves.continues.none_fell s known p.free (record { is_xid = lt; few = t.few; before = before }) unfailed stays none same)
          (λ told joined. tt) t.kept_is (rw kept_log p.undoing.order) (ends_more d (BarrierPassed y t.got) switches more p.parts refl step p.undoing.ends);
      few = λ c. elim (cases_eq c d) [ inl mine ↦ rw (eq-eqb d c (sym mine)) (omega arith) | inr other ↦ rw (ne_eqb d c (λ is. other (sym is))) (p.few c other) ];
      fault_is = p.fault_is ∙ sym (first_or_none (first_fault p.parts));
      ports_is = p.ports_is ∙ none_more (lost_parts p.parts) ps;
    }

-- it failed, or was lost

ports_of_stuck : (d y : ℕ) (halt : Halt) (steps : List WorldStep) (qs : PortLists) → ports_lost (lost_in d (Stuck y halt steps)) qs ≡ ports_by d halt qs
ports_of_stuck d y Lost steps qs = refl
ports_of_stuck d y (Fault fault) steps qs = refl

-- a switch that is joined stays so while it does not fail
joined_still : {Own : Type 0} {Tells : Type 0} {views : List TableView} {base now : Seen Own} {kept kept1 : List (ℕ × List ℕ)} {x y : ℕ} {switches : List ℕ} {reverted : List Logged} {parts : List (ℕ × Part)} (d : ℕ)
    → Undoing Tells views base now kept kept1 x y switches reverted parts → is_stuck (parts_of d parts) ≡ false → Tells → is_joined d (state base) ≡ true → is_joined d (state now) ≡ true
joined_still {base = base} {now = now} {parts = parts} d u free told joined = stays_joined base now d parts u.continues.given (u.told told) (λ c. (u.stands c).run) free joined

pub Further-stuck : {Own : Type 0} {Tells : Type 0} {views : List TableView} {base now next : Seen Own} {kept kept1 kept2 : List (ℕ × List ℕ)} {ps qs : PortLists} {x y : ℕ} {switches more : List ℕ} {reverted : List Logged} {before : Option TxnFault} (d : ℕ) (later : List Logged) (halt : Halt)
    → Pending Tells views base now kept kept1 ps qs x y switches reverted before d → is_viewed d views ≡ true → (progress_of d later).failed ≡ true → (progress_of d later).lost ≡ is_lost halt → ((c : ℕ) → c ≢ d → SameFor c later reverted)
    → ((xs : List (ℕ × Key)) → IsThinned xs (map key_logged reverted) → IsThinned xs (map key_logged later)) → EndsStep d switches more → Fails Tells d y (inverses_in d reverted) now next kept1 kept2 halt
    → Further Tells views base next kept kept2 ps (ports_by d halt qs) x (next_xid y) more later (first_fault_of before (fault_by halt))
Further-stuck {Tells = Tells} {views = views} {base = base} {now = now} {next = next} {kept1 = kept1} {kept2 = kept2} {ps = ps} {qs = qs} {y = y} {switches = switches} {more = more} {reverted = reverted} d later halt p known failed out others thinned step g =
    let s = p.undoing.stands d in
    let f = subst (λ (xs : List (ℕ × Key)). Fails Tells d y xs now next kept1 kept2 halt) (s.inverses known p.free) g in
    let cause = IsHaltOf-behind d (inverses_of (parts_of d p.parts)) base.counts now.counts next.counts f.steps halt p.undoing.continues.none_fell f.cause in
    let part = Stuck y halt f.steps in
    record {
      parts = (d, part) ∷ p.parts;
      undoing = Undoing-part d part later p.undoing f.moves refl others
          (Stands-stuck (is_viewed d views) d y base.counts now.counts next.counts (parts_of d p.parts) reverted later halt f.steps p.undoing.continues.none_fell f.moves.continues.none_fell s known p.free (record { ids = f.ids; each = f.moves.each; cause = cause; places = f.places; quiet = f.quiet }) failed
          (out ∙ sym (out_of_stuck y halt f.steps (parts_of d p.parts))))
          (λ told joined. f.loses told (joined_still d p.undoing p.free told (joined d known)))
          f.keeps (thinned (sent_in p.parts) p.undoing.order) (ends_more d part switches more p.parts refl step p.undoing.ends);
      few = λ c. elim (cases_eq c d) [ inl mine ↦ rw (eq-eqb d c (sym mine)) (omega arith) | inr other ↦ rw (ne_eqb d c (λ is. other (sym is))) (p.few c other) ];
      fault_is = ap (λ (o : Option TxnFault). first_fault_of o (fault_by halt)) p.fault_is;
      ports_is = ap (ports_by d halt) p.ports_is ∙ sym (ports_of_stuck d y halt f.steps (ports_lost (lost_parts p.parts) ps)) ∙ sym (ports_lost-append (lost_parts p.parts) (lost_in d part) ps);
    }

-- ---- Room

pub room_same : (fault : Option TxnFault) (room : ℕ) → IsRoomLeft fault fault room room
room_same fault room = (λ none. (none, refl), omega arith, λ some. refl)

pub room_then : (f g h : Option TxnFault) (a b c : ℕ) → IsRoomLeft f g a b → IsRoomLeft g h b c → IsRoomLeft f h a c
room_then f None h a b c first second =
    let same = first.0 refl in
    (λ none. (same.0, (second.0 none).1 ∙ same.1), omega (arith, same.1, second.1), λ some. absurd (some same.0))
room_then f (Some fault) h a b c first second =
    let kept = second.2 (λ none. absurd cc) in
    (λ none. absurd (some_not (second.0 none).0), omega (arith, kept, first.1), λ some. kept ∙ first.2 some)
  where
    some_not : Some fault ≡ None → ⊥
    some_not is = cc

-- the same, where its parts are the same
pub Further-alike : {Own : Type 0} {Tells : Type 0} {views now_views : List TableView} {base now : Seen Own} {kept kept1 : List (ℕ × List ℕ)} {ps qs now_ps : PortLists} {x y : ℕ} {switches : List ℕ} {reverted later : List Logged} {fault now_fault : Option TxnFault}
    → views ≡ now_views → qs ≡ now_ps → reverted ≡ later → fault ≡ now_fault → Further Tells views base now kept kept1 ps qs x y switches reverted fault → Further Tells now_views base now kept kept1 ps now_ps x y switches later now_fault
Further-alike same_views same_ports same_log same_fault u = rw (sym same_views, sym same_ports, sym same_log, sym same_fault) u
