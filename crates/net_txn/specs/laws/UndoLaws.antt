-- Laws of undos: one part more, and what it leaves of each switch.
use Rattle.std.specs.Prelude.{◌≡◌, ◌≢◌, ℕ, ◌+◌, ◌<◌, Bool, true, false, List, [], ◌∷◌, ◌++◌, map, refl}
use Rattle.std.proofs.Common.{sym, ap, ◌∙◌, subst, append_assoc, eq-eqb, inl, inr}
use Rattle.std.proofs.lemmas.Bool.{ne_eqb, cases_eq}
use Rattle.std.proofs.lemmas.List.{append-nil}
use Rattle.lego_io.specs.laws.CountLaws.{Rose-before}
use Rattle.of_match.specs.declared.key.Key.{Key}
use Rattle.flow_table.specs.View.{TableView}
use Rattle.outside.specs.declared.step.WorldStep.{WorldStep}
use Rattle.outside.specs.Seen.{Counts, NoneFell, Seen}
use Rattle.outside.specs.State.{state}
use Rattle.outside.specs.laws.SeenLaws.{Continues-refl, Continues-trans}
use Rattle.lego_model.specs.declared.fault.TxnFault.{TxnFault}
use Rattle.lego_model.specs.declared.fault.TxnFault.TheVariants.{SwitchBroke, Diverged, Flooded, NoMemory}
use Rattle.net_txn.specs.declared.halt.Halt.{Halt}
use Rattle.net_txn.specs.declared.halt.Halt.TheVariants.{Lost, Fault}
use Rattle.net_txn.specs.declared.logged.UndoProgress.{UndoProgress}
use Rattle.net_txn.specs.declared.logged.Logged.{Logged}
use Rattle.lego_model.specs.BarrierWaits.{next_xid}
use Rattle.net_txn.specs.laws.ProgressLaws.{progress_of-same, progress_of-other, inverses_in-same, inverses_in-other}
use Rattle.net_txn.specs.Undos.{AreJoined, LosesIn, is_lost, is_out, CanBeSent, IsFaultOf, IsHaltOf, IsStuckBy, IsBarrierPassed, Moves, Part, Inverse, BarrierPassed, Stuck, part_steps, steps_of, parts_of, xid_of, is_stuck, since_of, inverses_of, IsRun, progress_of, inverses_in, key_logged, Stands, Undoing, KeepsOne, IsThinned, inverse_in, sent_in, EndsByBarriers}
use Rattle.net_txn.specs.Views.{is_viewed}
use Rattle.net_txn.specs.laws.PartOrderLaws.{thinned_more, ends_none}

-- ---- A switch that failed or was lost

pub out_of_stuck : (y : ℕ) (halt : Halt) (steps : List WorldStep) (parts : List Part) → is_out (Stuck y halt steps ∷ parts) ≡ is_lost halt
out_of_stuck y Lost steps parts = refl
out_of_stuck y (Fault fault) steps parts = refl

-- ---- Later

IsFaultOf-later : (d : ℕ) (sent : List (ℕ × Key)) (old mid new : Counts) (steps : List WorldStep) (fault : TxnFault) → NoneFell old mid → NoneFell mid new → IsFaultOf d sent old mid steps fault → IsFaultOf d sent old new steps fault
IsFaultOf-later d sent old mid new steps (SwitchBroke e bytes) up after cause = cause
IsFaultOf-later d sent old mid new steps (Diverged e inverse bytes) up after cause = cause
IsFaultOf-later d sent old mid new steps (Flooded e n) up after cause = cause
IsFaultOf-later d sent old mid new steps NoMemory up after cause =
    (Rose-before old.shorts mid.shorts new.shorts up.shorts cause.0 after.shorts, Rose-before (old.shorts_of d) (mid.shorts_of d) (new.shorts_of d) (up.shorts_of d) cause.1 (after.shorts_of d))

IsHaltOf-later : (d : ℕ) (sent : List (ℕ × Key)) (old mid new : Counts) (steps : List WorldStep) (halt : Halt) → NoneFell old mid → NoneFell mid new → IsHaltOf d sent old mid steps halt → IsHaltOf d sent old new steps halt
IsHaltOf-later d sent old mid new steps Lost up after cause = (Rose-before (old.link_faults d) (mid.link_faults d) (new.link_faults d) (up.link_faults d) cause.0 (after.link_faults d), cause.1)
IsHaltOf-later d sent old mid new steps (Fault fault) up after cause = IsFaultOf-later d sent old mid new steps fault up after cause

IsRun-later : (d : ℕ) (old mid new : Counts) (parts : List Part) → NoneFell old mid → NoneFell mid new → IsRun old mid d parts → IsRun old new d parts
IsRun-later d old mid new [] up after run = tt
IsRun-later d old mid new (Inverse xid k ∷ older) up after run = (run.0, run.1, run.2, IsRun-later d old mid new older up after run.3)
IsRun-later d old mid new (BarrierPassed xid got ∷ older) up after run = (run.0, run.1, IsRun-later d old mid new older up after run.2)
IsRun-later d old mid new (Stuck xid halt steps ∷ older) up after run =
    (record { ids = run.0.ids; each = run.0.each; cause = IsHaltOf-later d (inverses_of older) old mid new steps halt up after run.0.cause; places = run.0.places; quiet = run.0.quiet }, run.1, IsRun-later d old mid new older up after run.2)

Stands-later : (known : Bool) (d : ℕ) (old mid new : Counts) (parts : List Part) (reverted : List Logged) → NoneFell old mid → NoneFell mid new → Stands known d old mid parts reverted → Stands known d old new parts reverted
Stands-later known d old mid new parts reverted up after s = record {
  unknown = s.unknown;
  run = IsRun-later d old mid new parts up after s.run;
  stuck = s.stuck;
  out = s.out;
  since = s.since;
  inverses = s.inverses;
}

-- another log with the same fares and inverses of the switch
Stands-same : (known : Bool) (d : ℕ) (old new : Counts) (parts : List Part) (reverted later : List Logged) → progress_of d later ≡ progress_of d reverted → inverses_in d later ≡ inverses_in d reverted → Stands known d old new parts reverted → Stands known d old new parts later
Stands-same known d old new parts reverted later fares inverses s = record {
  unknown = s.unknown;
  run = s.run;
  stuck = λ k. ap (λ (f : UndoProgress). f.failed) fares ∙ s.stuck k;
  out = ap (λ (f : UndoProgress). f.lost) fares ∙ s.out;
  since = λ k n. ap (λ (f : UndoProgress). f.since) fares ∙ s.since k n;
  inverses = λ k n. inverses ∙ s.inverses k n;
}

-- ---- One part more

abbrev pub SameFor : ℕ → List Logged → List Logged → Type 0
SameFor c later reverted = (progress_of c later ≡ progress_of c reverted) × (inverses_in c later ≡ inverses_in c reverted)

pub Undoing-part : {Own : Type 0} {Tells : Type 0} {views : List TableView} {base now next : Seen Own} {kept kept1 kept2 : List (ℕ × List ℕ)} {x y : ℕ} {switches more : List ℕ} {reverted : List Logged} {parts : List (ℕ × Part)} (d : ℕ) (p : Part) (later : List Logged)
    → Undoing Tells views base now kept kept1 x y switches reverted parts → Moves Tells d (part_steps d p) now next → xid_of p ≡ y → ((c : ℕ) → c ≢ d → SameFor c later reverted)
    → Stands (is_viewed d views) d base.counts next.counts (p ∷ parts_of d parts) later → (Tells → AreJoined views (state base) → LosesIn d p) → KeepsOne d p kept1 kept2 → IsThinned (inverse_in d p ++ sent_in parts) (map key_logged later) → EndsByBarriers more ((d, p) ∷ parts)
    → Undoing Tells views base next kept kept2 x (next_xid y) more later ((d, p) ∷ parts)
Undoing-part {Tells = Tells} {views = views} {base = base} {now = now} {next = next} {kept1 = kept1} {x = x} {y = y} {reverted = reverted} {parts = parts} d p later u m is others here loses keeps order ends = record {
  continues = Continues-trans Tells base now next u.continues m.continues;
  told = λ t. m.told t ∙ ap (λ (s : List WorldStep). s ++ part_steps d p) (u.told t) ∙ append_assoc base.history (steps_of parts) (part_steps d p);
  next = ap next_xid u.next;
  numbered = (is ∙ u.next, u.numbered);
  stands = λ c. elim (cases_eq c d) [ inl same ↦ mine c same | inr other ↦ theirs c other ];
  loses = λ t joined. (loses t joined, u.loses t joined);
  keeps = (kept1, u.keeps, keeps);
  order = order;
  ends = ends;
}
  where
    mine : (c : ℕ) → c ≡ d → Stands (is_viewed c views) c base.counts next.counts (parts_of c ((d, p) ∷ parts)) later
    mine c same =
        subst (λ (n : ℕ). Stands (is_viewed n views) n base.counts next.counts (parts_of n ((d, p) ∷ parts)) later) (sym same) (rw (eq-eqb d d refl) here)

    theirs : (c : ℕ) → c ≢ d → Stands (is_viewed c views) c base.counts next.counts (parts_of c ((d, p) ∷ parts)) later
    theirs c other =
        rw (ne_eqb d c (λ is. other (sym is))) (Stands-same (is_viewed c views) c base.counts next.counts (parts_of c parts) reverted later (others c other).0 (others c other).1
        (Stands-later (is_viewed c views) c base.counts now.counts next.counts (parts_of c parts) reverted u.continues.none_fell m.continues.none_fell (u.stands c)))

no_view : (known : Bool) (X : Type 0) → known ≡ true → known ≡ false → X
no_view known X is other = absurd cc

pub Stands-inverse : (known : Bool) (d : ℕ) (old mid new : Counts) (parts : List Part) (reverted : List Logged) (e : Logged) → NoneFell old mid → NoneFell mid new → Stands known d old mid parts reverted → known ≡ true → is_stuck parts ≡ false → CanBeSent e.progress.xid e.key → since_of parts < 4096
    → e.dpid ≡ d → e.progress.failed ≡ false → e.progress.lost ≡ false → e.progress.since ≡ (progress_of d reverted).since + 1 → Stands known d old new (Inverse e.progress.xid e.key ∷ parts) (e ∷ reverted)
Stands-inverse known d old mid new parts reverted e up after s known_is free can few is unfailed stays more = record {
  unknown = λ no. no_view known _ known_is no;
  run = (can, few, free, IsRun-later d old mid new parts up after s.run);
  stuck = λ k. ap (λ (f : UndoProgress). f.failed) (progress_of-same d e reverted is) ∙ unfailed;
  out = ap (λ (f : UndoProgress). f.lost) (progress_of-same d e reverted is) ∙ stays;
  since = λ k n. ap (λ (f : UndoProgress). f.since) (progress_of-same d e reverted is) ∙ more ∙ ap (λ (n : ℕ). n + 1) (s.since k free);
  inverses = λ k n. inverses_in-same d e reverted is ∙ ap (λ (ps : List (ℕ × Key)). (e.progress.xid, e.key) ∷ ps) (s.inverses k free);
}

pub Stands-stuck : (known : Bool) (d xid : ℕ) (old mid new : Counts) (parts : List Part) (reverted later : List Logged) (halt : Halt) (steps : List WorldStep) → NoneFell old mid → NoneFell mid new → Stands known d old mid parts reverted → known ≡ true → is_stuck parts ≡ false
    → IsStuckBy d xid (inverses_of parts) old new halt steps → (progress_of d later).failed ≡ true → (progress_of d later).lost ≡ is_out (Stuck xid halt steps ∷ parts) → Stands known d old new (Stuck xid halt steps ∷ parts) later
Stands-stuck known d xid old mid new parts reverted later halt steps up after s known_is free stuck failed out = record {
  unknown = λ no. no_view known _ known_is no;
  run = (stuck, free, IsRun-later d old mid new parts up after s.run);
  stuck = λ k. failed;
  out = out;
  since = λ k n. absurd cc;
  inverses = λ k n. absurd cc;
}

pub Stands-barred : (known : Bool) (d xid : ℕ) (old mid new : Counts) (parts : List Part) (reverted later : List Logged) (got : List (List ℕ)) → NoneFell old mid → NoneFell mid new → Stands known d old mid parts reverted → known ≡ true → is_stuck parts ≡ false
    → IsBarrierPassed d xid (inverses_of parts) got → (progress_of d later).failed ≡ false → (progress_of d later).lost ≡ false → (progress_of d later).since ≡ 0 → inverses_in d later ≡ inverses_in d reverted → Stands known d old new (BarrierPassed xid got ∷ parts) later
Stands-barred known d xid old mid new parts reverted later got up after s known_is free barred unfailed stays none same = record {
  unknown = λ no. no_view known _ known_is no;
  run = (barred, free, IsRun-later d old mid new parts up after s.run);
  stuck = λ k. unfailed;
  out = stays;
  since = λ k n. none;
  inverses = λ k n. same ∙ s.inverses k free;
}

-- nothing was done yet
pub Undoing-none : {Own : Type 0} (Tells : Type 0) (views : List TableView) (seen : Seen Own) (kept : List (ℕ × List ℕ)) (x : ℕ) → Undoing Tells views seen seen kept kept x x [] [] []
Undoing-none Tells views seen kept x = record {
  continues = Continues-refl Tells seen;
  told = λ t. sym (append-nil seen.history);
  next = refl;
  numbered = tt;
  stands = λ d. record { unknown = λ no. refl; run = tt; stuck = λ k. refl; out = refl; since = λ k n. refl; inverses = λ k n. refl };
  loses = λ t joined. tt;
  keeps = refl;
  order = tt;
  ends = ends_none [];
}

-- an inverse that is not reverted, of a switch that failed or is not joined
pub Undoing-skipped : {Own : Type 0} {Tells : Type 0} {views : List TableView} {base now : Seen Own} {kept kept1 : List (ℕ × List ℕ)} {x y : ℕ} {switches : List ℕ} {reverted : List Logged} {parts : List (ℕ × Part)} (e : Logged)
    → Undoing Tells views base now kept kept1 x y switches reverted parts → (is_viewed e.dpid views ≡ true → (progress_of e.dpid reverted).failed ≡ true) → e.progress.failed ≡ true → e.progress.lost ≡ (progress_of e.dpid reverted).lost → Undoing Tells views base now kept kept1 x y switches (e ∷ reverted) parts
Undoing-skipped {views = views} {base = base} {now = now} {reverted = reverted} {parts = parts} e u failed is out = record {
  continues = u.continues;
  told = u.told;
  next = u.next;
  numbered = u.numbered;
  stands = λ c. elim (cases_eq c e.dpid) [ inl same ↦ mine c same | inr other ↦ Stands-same (is_viewed c views) c base.counts now.counts (parts_of c parts) reverted (e ∷ reverted) (progress_of-other c e reverted other) (inverses_in-other c e reverted other) (u.stands c) ];
  loses = u.loses;
  keeps = u.keeps;
  order = thinned_more (sent_in parts) (key_logged e) (map key_logged reverted) u.order;
  ends = u.ends;
}
  where
    mine : (c : ℕ) → c ≡ e.dpid → Stands (is_viewed c views) c base.counts now.counts (parts_of c parts) (e ∷ reverted)
    mine c same = subst (λ (n : ℕ). Stands (is_viewed n views) n base.counts now.counts (parts_of n parts) (e ∷ reverted)) (sym same) (
        let s = u.stands e.dpid in
        let stuck : is_viewed e.dpid views ≡ true → is_stuck (parts_of e.dpid parts) ≡ true = λ k. sym (s.stuck k) ∙ failed k in
        record {
          unknown = s.unknown;
          run = s.run;
          stuck = λ k. ap (λ (f : UndoProgress). f.failed) (progress_of-same e.dpid e reverted refl) ∙ is ∙ sym (stuck k);
          out = ap (λ (f : UndoProgress). f.lost) (progress_of-same e.dpid e reverted refl) ∙ out ∙ s.out;
          since = λ k n. let so = stuck k in absurd cc;
          inverses = λ k n. let so = stuck k in absurd cc;
        })
