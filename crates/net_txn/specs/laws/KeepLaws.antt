-- In a world that keeps its word an undo in which no switch fails but by its link keeps no message of one that is not lost.
use Rattle.std.specs.Prelude.{◌≡◌, ◌==◌, ℕ, Bool, true, false, not, ◌||◌, List, [], ◌∷◌, ◌++◌, ◌⊎◌, map, filter, None, Result, IsOk, if◌then◌else◌, refl}
use Rattle.std.proofs.Common.{ap, ◌∙◌, subst, eq-eqb, inl, inr}
use Rattle.std.proofs.lemmas.Bool.{cases_Bool}
use Rattle.std.proofs.lemmas.List.{append-nil}
use Rattle.std.proofs.lemmas.List.Elements.{filter-append}
use Rattle.of_wire.specs.declared.message.Message.TheVariants.{BarrierRequest, BarrierReply}
use Rattle.of_wire.specs.Spelling.{message_bytes}
use Rattle.of_wire.specs.laws.ReadingLaws.{reading_of-message_bytes}
use Rattle.flow_table.specs.Switch.{Declared, SwitchState}
use Rattle.outside.specs.Seen.{Counts, Seen}
use Rattle.outside.specs.State.{State, after_step, after_steps, state, waits_of}
use Rattle.outside.specs.laws.StateLaws.{Conforming-rest, MaySteps-front, MaySteps-rest}
use Rattle.outside.specs.Conforming.{MaySteps, Conforming}
use Rattle.flow_table.specs.View.{TableView}
use Rattle.lego_model.specs.declared.fault.TxnFault.{TxnFault}
use Rattle.net_txn.specs.MessageStore.{KeptWhereFit}
use Rattle.lego_model.specs.BarrierWaits.{kept_of, barrier_sent}
use Rattle.net_txn.specs.laws.HeardLaws.{IsMessage-barrier}
use Rattle.net_txn.specs.laws.StepLaws.{told_waits, barrier_sends}
use Rattle.net_txn.specs.laws.NoticeLaws.{with_entries, notices_alone, notices_kept}
use Rattle.net_txn.specs.declared.halt.Halt.TheVariants.{Lost, Fault}
use Rattle.of_types.specs.Membership.{is_among}
use Rattle.net_txn.specs.Waits.{KeptMore}
use Rattle.net_txn.specs.laws.UndoWaitLaws.{until_more}
use Rattle.net_txn.specs.Undos.{lost_in, lost_parts, alone, Part, Inverse, BarrierPassed, Stuck, part_steps, steps_of, parts_of, fault_in, first_fault, ended_by, IsRun, IsBarrierPassed, inverses_of, Keeps, KeepsOne, StandsReady}
use Rattle.net_txn.specs.Views.{is_viewed}
use Rattle.net_txn.specs.laws.AgreeLaws.{both_none, no_fault}
use Rattle.net_txn.specs.laws.LostPartLaws.{among-append}
use Rattle.net_txn.specs.laws.RestoreLaws.{AllRun, runs_here, runs_older, older_free, entries_left, Left, left_all}
use Rattle.net_txn.specs.laws.PartOrderLaws.{or_here}

-- what a wait gets then are notices, of which none is kept
barred_keeps : (declared : List Declared) (d xid : ℕ) (got : List (List ℕ)) (s : SwitchState) (older : List Part) (t : State) (kept now_kept : List (ℕ × List ℕ)) → IsBarrierPassed d xid (inverses_of older) got → MaySteps declared (part_steps d (BarrierPassed xid got)) t → Left d s older t
    → KeptWhereFit kept (kept_of (alone d xid) got) now_kept → now_kept ≡ kept
barred_keeps declared d xid got s older t kept now_kept is may l some =
    let a = alone d xid in
    let now = with_entries (entries_left older s.table.entries) s in
    let read = reading_of-message_bytes xid BarrierRequest is.is_xid IsMessage-barrier in
    let u = after_step (barrier_sent a) t in
    let waits : waits_of d u ≡ waits_of d t ++ message_bytes xid BarrierReply ∷ [] = told_waits d xid BarrierRequest (message_bytes xid BarrierRequest) t now read l.switch ∙ ap (λ (ws : List (List ℕ)). waits_of d t ++ ws) (barrier_sends xid now) in
    let same : got ≡ waits_of d t = notices_alone declared a (waits_of d t) got u l.notices waits may.1 is.before.before_reply in
    let none : kept_of a got ≡ [] = ap (kept_of a) same ∙ notices_kept a (waits_of d t) refl l.notices in
    subst (λ (ms : List (ℕ × List ℕ)). KeptWhereFit kept ms now_kept) none some

-- what is kept, of the switches that are not lost
abbrev kept_in : (ℕ → Bool) → List (ℕ × List ℕ) → List (ℕ × List ℕ)
kept_in keep ms = filter (λ m. keep m.0) ms

none_of : (keep : ℕ → Bool) (d : ℕ) (more : List (List ℕ)) → keep d ≡ false → kept_in keep (map (λ b. (d, b)) more) ≡ []
none_of keep d [] lost = refl
none_of keep d (b ∷ bs) lost = rw lost (none_of keep d bs lost)

more_none : (keep : ℕ → Bool) (d : ℕ) (kept now_kept : List (ℕ × List ℕ)) → KeptMore d kept now_kept → keep d ≡ false → kept_in keep now_kept ≡ kept_in keep kept
more_none keep d kept now_kept more lost =
    ap (kept_in keep) more.1 ∙ filter-append (λ m. keep m.0) kept (map (λ b. (d, b)) more.0) ∙ ap (λ (ms : List (ℕ × List ℕ)). kept_in keep kept ++ ms) (none_of keep d more.0 lost) ∙ append-nil (kept_in keep kept)

part_keeps : (declared : List Declared) (old new : Counts) (keep : ℕ → Bool) (d : ℕ) (p : Part) (s : SwitchState) (older : List Part) (t : State) (kept now_kept : List (ℕ × List ℕ)) → IsRun old new d (p ∷ older) → fault_in p ≡ None → MaySteps declared (part_steps d p) t → Left d s older t
    → KeepsOne d p kept now_kept → (is_among d (lost_in d p) ≡ true → keep d ≡ false) → kept_in keep now_kept ≡ kept_in keep kept
part_keeps declared old new keep d (Inverse xid k) s older t kept now_kept run none may l some lost = ap (kept_in keep) some
part_keeps declared old new keep d (BarrierPassed xid got) s older t kept now_kept run none may l some lost = ap (kept_in keep) (barred_keeps declared d xid got s older t kept now_kept run.0 may l some)
part_keeps declared old new keep d (Stuck xid Lost steps) s older t kept now_kept run none may l some lost = more_none keep d kept now_kept (until_more d xid None steps kept now_kept some) (lost (rw (eq-eqb d d refl) refl))
part_keeps declared old new keep d (Stuck xid (Fault fault) steps) s older t kept now_kept run none may l some lost = absurd cc

-- ---- Switches that stand ready

-- each switch of these parts does
abbrev pub AreReady : List (ℕ × Part) → State → Type 0
AreReady parts t = (d : ℕ) → (parts_of d parts ≡ []) ⊎ StandsReady d t

pub cons_not_none : (x : Part) (xs : List Part) → x ∷ xs ≡ [] → ⊥
cons_not_none x xs is = cc

some_ready : (p : ℕ × Part) (older : List (ℕ × Part)) (t : State) → (parts_of p.0 (p ∷ older) ≡ []) ⊎ StandsReady p.0 t → StandsReady p.0 t
some_ready p older t (inl empty) = absurd (cons_not_none p.1 (parts_of p.0 older) (subst (λ (b : Bool). (if b then p.1 ∷ parts_of p.0 older else parts_of p.0 older) ≡ []) (eq-eqb p.0 p.0 refl) empty))
some_ready p older t (inr s) = s

pub older_none : (p : ℕ × Part) (older : List (ℕ × Part)) (d : ℕ) → parts_of d (p ∷ older) ≡ [] → parts_of d older ≡ []
older_none p older d empty = elim (cases_Bool (p.0 == d)) [
  | inl mine ↦ absurd (cons_not_none p.1 (parts_of d older) (rw mine at empty))
  | inr other ↦ rw other at empty
]

none_or_ready : (p : ℕ × Part) (older : List (ℕ × Part)) (t : State) (d : ℕ) → (parts_of d (p ∷ older) ≡ []) ⊎ StandsReady d t → (parts_of d older ≡ []) ⊎ StandsReady d t
none_or_ready p older t d (inl empty) = inl (older_none p older d empty)
none_or_ready p older t d (inr s) = inr s

pub ready_here : (p : ℕ × Part) (older : List (ℕ × Part)) (t : State) → AreReady (p ∷ older) t → StandsReady p.0 t
ready_here p older t ready = some_ready p older t (ready p.0)

pub ready_older : (p : ℕ × Part) (older : List (ℕ × Part)) (t : State) → AreReady (p ∷ older) t → AreReady older t
ready_older p older t ready d = none_or_ready p older t d (ready d)

-- a switch that is not joined has no parts
pub ready_all : (views : List TableView) (parts : List (ℕ × Part)) (t : State) → ((d : ℕ) → is_viewed d views ≡ false → parts_of d parts ≡ []) → ((d : ℕ) → is_viewed d views ≡ true → StandsReady d t) → AreReady parts t
ready_all views parts t unknown ready d = elim (cases_Bool (is_viewed d views)) [ inl known ↦ inr (ready d known) | inr not_is ↦ inl (unknown d not_is) ]

-- ---- The whole

or_second : (a b : Bool) → b ≡ true → (a || b) ≡ true
or_second true b is = refl
or_second false b is = is

all_keep : (declared : List Declared) (old new : Counts) (keep : ℕ → Bool) (parts : List (ℕ × Part)) (t : State) (kept now_kept : List (ℕ × List ℕ)) → AllRun old new parts → first_fault parts ≡ None → MaySteps declared (steps_of parts) t
    → AreReady parts t → Keeps kept parts now_kept → ((d : ℕ) → is_among d (lost_parts parts) ≡ true → keep d ≡ false) → kept_in keep now_kept ≡ kept_in keep kept
all_keep declared old new keep [] t kept now_kept all none may ready keeps lost = ap (kept_in keep) keeps
all_keep declared old new keep (p ∷ older) t kept now_kept all none may ready keeps lost =
    let n = both_none (first_fault older) (fault_in p.1) none in
    let may_older = MaySteps-front declared (steps_of older) (part_steps p.0 p.1) t may in
    let may_part = MaySteps-rest declared (steps_of older) (part_steps p.0 p.1) t may in
    let runs = runs_older old new p older all in
    let here = runs_here old new p older all in
    let earlier = λ (d : ℕ) (is : is_among d (lost_parts older) ≡ true). lost d (among-append d (lost_parts older) (lost_in p.0 p.1) ∙ or_here (is_among d (lost_parts older)) (is_among d (lost_in p.0 p.1)) is) in
    let now = λ (is : is_among p.0 (lost_in p.0 p.1) ≡ true). lost p.0 (among-append p.0 (lost_parts older) (lost_in p.0 p.1) ∙ or_second (is_among p.0 (lost_parts older)) (is_among p.0 (lost_in p.0 p.1)) is) in
    let rest = all_keep declared old new keep older t kept keeps.0 runs n.0 may_older (ready_older p older t ready) keeps.1 earlier in
    let s = ready_here p older t ready in
    let l = left_all declared old new p.0 s.switch older t runs (older_free old new p.0 p.1 (parts_of p.0 older) here) may_older s.stands s.waits in
    part_keeps declared old new keep p.0 p.1 s.switch (parts_of p.0 older) (after_steps (steps_of older) t) keeps.0 now_kept here n.1 may_part l keeps.2 now ∙ rest

pub none_kept : {Own : Type 0} (old new : Seen Own) (views : List TableView) (parts : List (ℕ × Part)) (result : Result (Unit {0}) TxnFault) (kept now_kept : List (ℕ × List ℕ)) → new.given ≡ old.given → new.history ≡ old.history ++ steps_of parts → AllRun old.counts new.counts parts
    → ((d : ℕ) → is_viewed d views ≡ false → parts_of d parts ≡ []) → result ≡ ended_by (first_fault parts) → IsOk result → Conforming new → ((d : ℕ) → is_viewed d views ≡ true → StandsReady d (state old)) → Keeps kept parts now_kept
    → filter (λ m. not (is_among m.0 (lost_parts parts))) now_kept ≡ filter (λ m. not (is_among m.0 (lost_parts parts))) kept
none_kept old new views parts result kept now_kept given told all unknown ended ok keeps_word ready keeps =
    let may = Conforming-rest old new (steps_of parts) given told keeps_word in
    let none = no_fault (first_fault parts) (subst (λ (r : Result (Unit {0}) TxnFault). IsOk r) ended ok) in
    all_keep old.given.declared old.counts new.counts (λ d. not (is_among d (lost_parts parts))) parts (state old) kept now_kept all none may (ready_all views parts (state old) unknown ready) keeps
    (λ d is. ap not is)
