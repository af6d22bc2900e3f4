-- Laws of what comes next in a simulated world.
use Rattle.std.specs.Prelude.{◌≡◌, ℕ, ◌+◌, ◌<◌, ◌↔◌, Bool, true, false, is_some, List, [], ◌∷◌, ◌++◌, length, drop, Option, None, Some, Result, Ok, Err, All, IfSome, IfNone, IfOk, slice_get, refl}
use Rattle.std.specs.Option.{option_to_list}
use Rattle.std.proofs.Common.{zero, suc, sym, ap, ◌∙◌, arith, drop-drop}
use Rattle.std.proofs.lemmas.Option.{slice_get_within}
use Rattle.std.proofs.lemmas.Bool.{false≢true}
use Rattle.std.proofs.lemmas.List.{length-drop}
use Rattle.std.proofs.Math.Seq.{drop-nil}
use Rattle.std.proofs.lemmas.List.Elements.{All-append, All-nil, All-cons}
use Rattle.of_types.specs.declared.journal.WorldStim.{WorldStim}
use Rattle.outside.specs.declared.step.WorldStep.{WorldStep}
use Rattle.outside.specs.declared.step.WorldStep.TheVariants.{Joined, Left, Moment}
use Rattle.outside.specs.declared.call.FailCall.{FailCall}
use Rattle.outside.specs.declared.item.Item.{Item}
use Rattle.outside.specs.declared.item.Item.TheVariants as items
use Rattle.flow_table.specs.Switch.{Declared}
use Rattle.outside.specs.State.{State, due_of, after_step, upcoming, waiting_in}
use Rattle.outside.specs.Calls.{item_step, IsIdle, IsOver}
use Rattle.outside.specs.Conforming.{MayStep}
use Rattle.outside.specs.InOrder.{MayCome}
use Rattle.sim_world.specs.Scripts.{Scripts, Life, life_after}
use Rattle.sim_world.specs.World.{IsAsTold, counted_next, next_told}
use Rattle.sim_world.specs.Links.{IsDue, due_in}
use Rattle.sim_world.specs.laws.LinksLaws.{due_of-links}
use Rattle.sim_world.specs.laws.LifeLaws.{slice_get-drop}

-- what a stimulus makes due, as it is held
pub due_is : (x : WorldStim) (s : State) (step : Option WorldStep) → due_in x s.moment s.links ≡ option_to_list step → due_of x s ≡ option_to_list step
due_is x s step is = due_of-links x s ∙ is

-- the stimuli to come without the first
pub one_fewer : (begun : ℕ) (all : List WorldStim) → drop 1 (drop begun all) ≡ drop (begun + 1) all
one_fewer begun all = drop-drop 1 begun all

pub all_due : (due : List WorldStep) (step : Option WorldStep) → All IsDue due → IfSome step IsDue → All IsDue (due ++ option_to_list step)
all_due due None all is = All-append IsDue due [] all (All-nil IsDue)
all_due due (Some step) all is = All-append IsDue due (step ∷ []) all (All-cons IsDue step [] is (All-nil IsDue))

-- where one is to come, not all were begun
pub next_within : (begun : ℕ) (all : List WorldStim) (x : WorldStim) → slice_get (drop begun all) 0 ≡ Some x → begun < length all
next_within begun all x is = omega (arith, slice_get_within (drop begun all) 0 x is, length-drop begun all)

-- the stimulus that was looked up is the next to come, and where none was found none is to come
nothing_left : (begun : ℕ) (all : List WorldStim) → slice_get all begun ≡ None → drop begun all ≡ []
nothing_left begun [] none = rw drop-nil refl
nothing_left zero (x ∷ xs) none = absurd cc
nothing_left (suc begun) (x ∷ xs) none = nothing_left begun xs none

pub none_to_come : {E : Type 0} (begun : ℕ) (all : List WorldStim) (found : Result (Option WorldStim) E) → IfOk found (λ next. next ≡ slice_get all begun) → IfOk found (λ next. IfNone next (drop begun all ≡ []))
none_to_come begun all (Ok None) is = nothing_left begun all (sym is)
none_to_come begun all (Ok (Some x)) is = tt
none_to_come begun all (Err e) is = tt

pub next_to_come : {E : Type 0} (begun : ℕ) (all : List WorldStim) (found : Result (Option WorldStim) E) → IfOk found (λ next. next ≡ slice_get all begun)
    → IfOk found (λ next. IfSome next (λ x. slice_get (drop begun all) 0 ≡ Some x))
next_to_come begun all (Ok None) is = tt
next_to_come begun all (Ok (Some x)) is = slice_get-drop all begun ∙ sym is
next_to_come begun all (Err e) is = tt

-- ---- What is due

-- telling what is due takes it off, and moves no life
pub due_moves : (step : WorldStep) (s : State) → IsDue step → after_step step s ≡ record s { due = drop 1 s.due }
unfolding IsDue after_step
due_moves (Joined d bytes) s is = refl
due_moves (Left d) s is = refl
due_moves (Moment t) s is = refl
due_moves other s is = absurd is

pub due_lives : (own : Scripts) (fails : List FailCall) (app : ℕ) (step : WorldStep) (l : Life) → IsDue step → life_after own fails app step l ≡ l
unfolding IsDue life_after
due_lives own fails app (Joined d bytes) l is = refl
due_lives own fails app (Left d) l is = refl
due_lives own fails app (Moment t) l is = refl
due_lives own fails app other l is = absurd is

pub due_counts : (step : WorldStep) (n : ℕ) → IsDue step → counted_next step n ≡ n + 1
unfolding IsDue
due_counts (Joined d bytes) n is = refl
due_counts (Left d) n is = refl
due_counts (Moment t) n is = refl
due_counts other n is = absurd is

pub due_is_told : (fails : List FailCall) (n : ℕ) (step : WorldStep) (s : State) → IsDue step → next_told fails n ≡ false → IsAsTold fails n step s
unfolding IsDue IsAsTold
due_is_told fails n (Joined d bytes) s is told = told
due_is_told fails n (Left d) s is told = told
due_is_told fails n (Moment t) s is told = told
due_is_told fails n other s is told = absurd is

pub due_may : (declared : List Declared) (step : WorldStep) (s : State) → IsDue step → slice_get (upcoming s) 0 ≡ Some step → MayCome declared step s
unfolding IsDue MayCome MayStep
due_may declared (Joined d bytes) s is next = next
due_may declared (Left d) s is next = next
due_may declared (Moment t) s is next = next
due_may declared other s is next = absurd is

-- ---- What is told next

-- where something is told next, nothing is idle
pub not_idle : (s : State) (step : WorldStep) → slice_get (upcoming s) 0 ≡ Some step → IsIdle s → ⊥
not_idle s step next idle = false≢true (ap is_some (ap (λ (steps : List WorldStep). slice_get steps 0) (sym idle.1) ∙ next))

pub not_over : (s : State) → s.begun ≡ true → IsOver s → ⊥
not_over s begun over = false≢true (sym over.0 ∙ begun)

pub first_due : (s : State) (step : WorldStep) (rest : List WorldStep) → s.due ≡ step ∷ rest → slice_get (upcoming s) 0 ≡ Some step
unfolding upcoming
first_due s step rest is = rw is refl

pub first_waiting : (s : State) (step : WorldStep) → s.due ≡ [] → slice_get (waiting_in s.links) 0 ≡ Some step → slice_get (upcoming s) 0 ≡ Some step
unfolding upcoming
first_waiting s step none is = rw none is

pub nothing_upcoming : (s : State) → s.due ≡ [] → waiting_in s.links ≡ [] → upcoming s ≡ []
unfolding upcoming
nothing_upcoming s due waiting = rw (due, waiting) refl

abbrev pub is_idle : Item → Bool
is_idle items.Idle = true
is_idle other = false

abbrev pub is_end : Item → Bool
is_end items.End = true
is_end other = false

-- an item that tells a step which is due or came from a switch is neither Idle nor End
pub due_item : (item : Item) (buf : List ℕ) → IsDue (item_step item buf) → (is_idle item ≡ false) × (is_end item ≡ false)
unfolding IsDue item_step
due_item (items.Joined d n) buf is = (refl, refl)
due_item (items.Left d) buf is = (refl, refl)
due_item (items.Moment t) buf is = (refl, refl)
due_item other buf is = absurd is

pub IsNotIdle : (item : Item) → is_idle item ≡ false → item ≡ items.Idle → ⊥
IsNotIdle item apart is = false≢true (sym apart ∙ ap is_idle is)

pub IsNotEnd : (item : Item) → is_end item ≡ false → item ≡ items.End → ⊥
IsNotEnd item apart is = false≢true (sym apart ∙ ap is_end is)

-- What is told of a state in which a stimulus is begun: nothing to do with Idle or End where something is upcoming.
pub told_something : (item : Item) (buf : List ℕ) (s : State) (step : WorldStep) → s.begun ≡ true → slice_get (upcoming s) 0 ≡ Some step → is_idle item ≡ false → is_end item ≡ false
    → ((item ≡ items.Idle) ↔ IsIdle s) × ((item ≡ items.End) ↔ IsOver s)
told_something item buf s step begun next no_idle no_end = (
  (λ is. absurd (IsNotIdle item no_idle is), λ idle. absurd (not_idle s step next idle)),
  (λ is. absurd (IsNotEnd item no_end is), λ over. absurd (not_over s begun over)),
)

pub told_idle : (s : State) → s.begun ≡ true → upcoming s ≡ [] → ((items.Idle ≡ items.Idle) ↔ IsIdle s) × ((items.Idle ≡ items.End) ↔ IsOver s)
told_idle s begun none = (
  (λ is. (begun, none), λ idle. refl),
  (λ is. absurd (IsNotEnd items.Idle refl is), λ over. absurd (not_over s begun over)),
)

-- a message of a switch
abbrev pub IsMessage : Item → Type 0
IsMessage (items.From d n) = Unit {0}
IsMessage other = ⊥
