-- The calls of an undo are in place where each switch that has a view is joined.
use Rattle.std.specs.Prelude.{◌≡◌, ℕ, Bool, true, false, List, [], ◌∷◌, ◌++◌, ◌⊎◌, if◌then◌else◌, refl}
use Rattle.std.proofs.Common.{subst, eq-eqb, inl, inr}
use Rattle.std.proofs.lemmas.Bool.{cases_Bool}
use Rattle.flow_table.specs.Switch.{Declared}
use Rattle.flow_table.specs.View.{TableView}
use Rattle.outside.specs.Seen.{Counts, Seen}
use Rattle.outside.specs.State.{State, after_steps, state, is_joined}
use Rattle.outside.specs.InOrder.{MayComeAll, InOrder}
use Rattle.outside.specs.laws.InOrderLaws.{InOrder-rest, come_front, come_rest}
use Rattle.lego_model.specs.BarrierWaits.{wait_steps, reply_got}
use Rattle.net_txn.specs.LinkSteps.{MakesNoStrayCall}
use Rattle.lego_model.specs.UndoFaults.{AreExpectedOnLinks, GoesWithoutStrays}
use Rattle.net_txn.specs.laws.LinkStepLaws.{links_append, wait_links}
use Rattle.net_txn.specs.laws.LinkStrayLaws.{places_append, no_strays_by, sure_settled}
use Rattle.net_txn.specs.laws.UndoWithoutStraysLaws.{goes_sure}
use Rattle.net_txn.specs.Undos.{AreJoined, alone, Part, Inverse, BarrierPassed, Stuck, part_steps, steps_of, parts_of, IsRun}
use Rattle.net_txn.specs.Views.{is_viewed}
use Rattle.net_txn.specs.laws.RestoreLaws.{AllRun, runs_here, runs_older, older_free}
use Rattle.net_txn.specs.laws.KeepLaws.{cons_not_none, older_none}
use Rattle.net_txn.specs.laws.TableBackLaws.{joined_left}

-- ---- One part

part_goes : (old new : Counts) (d : ℕ) (p : Part) (older : List Part) → IsRun old new d (p ∷ older) → GoesWithoutStrays d (part_steps d p)
part_goes old new d (Inverse xid k) older run = goes_sure d (part_steps d (Inverse xid k)) (refl, tt) (λ s. tt, tt)
part_goes old new d (BarrierPassed xid got) older run =
    let a = alone d xid in
    goes_sure d (part_steps d (BarrierPassed xid got)) (refl, links_append (wait_steps a got) (reply_got a ∷ []) (wait_links a got) (refl, tt)) (sure_settled a got)
part_goes old new d (Stuck xid halt steps) older run = run.0.places

-- ---- Switches that are joined

-- each switch of these parts is
abbrev AreServed : List (ℕ × Part) → State → Type 0
AreServed parts s = (d : ℕ) → (parts_of d parts ≡ []) ⊎ (is_joined d s ≡ true)

some_served : (p : ℕ × Part) (older : List (ℕ × Part)) (s : State) → (parts_of p.0 (p ∷ older) ≡ []) ⊎ (is_joined p.0 s ≡ true) → is_joined p.0 s ≡ true
some_served p older s (inl empty) = absurd (cons_not_none p.1 (parts_of p.0 older) (subst (λ (b : Bool). (if b then p.1 ∷ parts_of p.0 older else parts_of p.0 older) ≡ []) (eq-eqb p.0 p.0 refl) empty))
some_served p older s (inr joined) = joined

none_or_served : (p : ℕ × Part) (older : List (ℕ × Part)) (s : State) (d : ℕ) → (parts_of d (p ∷ older) ≡ []) ⊎ (is_joined d s ≡ true) → (parts_of d older ≡ []) ⊎ (is_joined d s ≡ true)
none_or_served p older s d (inl empty) = inl (older_none p older d empty)
none_or_served p older s d (inr joined) = inr joined

served_all : (views : List TableView) (parts : List (ℕ × Part)) (s : State) → ((d : ℕ) → is_viewed d views ≡ false → parts_of d parts ≡ []) → AreJoined views s → AreServed parts s
served_all views parts s unknown joined d = elim (cases_Bool (is_viewed d views)) [ inl known ↦ inr (joined d known) | inr not_is ↦ inl (unknown d not_is) ]

-- ---- All parts

parts_place : (declared : List Declared) (old new : Counts) (parts : List (ℕ × Part)) (s : State) → AllRun old new parts → AreServed parts s → MayComeAll declared (steps_of parts) s → AreExpectedOnLinks (steps_of parts) s
parts_place declared old new [] s run served may = tt
parts_place declared old new (p ∷ older) s run served may =
    let front = steps_of older in
    let steps = part_steps p.0 p.1 in
    let before = parts_place declared old new older s (runs_older old new p older run) (λ d. none_or_served p older s d (served d)) (come_front declared front steps s may) in
    let joined : is_joined p.0 (after_steps front s) ≡ true =
    joined_left old new p.0 older s (runs_older old new p older run) (older_free old new p.0 p.1 (parts_of p.0 older) (runs_here old new p older run)) (some_served p older s (served p.0)) in
    let here = part_goes old new p.0 p.1 (parts_of p.0 older) (runs_here old new p older run) declared (after_steps front s) (come_rest declared front steps s may) joined in
    places_append front steps s before here.places

pub undo_place : {Own : Type 0} (old new : Seen Own) (views : List TableView) (parts : List (ℕ × Part)) → new.given ≡ old.given → new.history ≡ old.history ++ steps_of parts → AllRun old.counts new.counts parts
    → ((d : ℕ) → is_viewed d views ≡ false → parts_of d parts ≡ []) → InOrder new → AreJoined views (state old) → MakesNoStrayCall old new
undo_place old new views parts given told run unknown order joined =
    no_strays_by old new (steps_of parts) told
    (parts_place old.given.declared old.counts new.counts parts (state old) run (served_all views parts (state old) unknown joined) (InOrder-rest old new (steps_of parts) given told order))
