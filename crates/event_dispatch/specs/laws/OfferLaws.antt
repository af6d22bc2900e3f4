-- Laws of an event that is offered to one application after the other: what was offered so far, up to one that stopped the event there, to the
-- last one, or to a fault.
use Rattle.std.specs.Prelude.{◌≡◌, ℕ, zero, suc, ◌+◌, ◌<◌, ◌≤◌, Bool, true, false, List, [], ◌∷◌, ◌++◌, length, take, drop, map, get_or, set, slice_get, Some, Result, Ok, Err, MatchResult, refl}
use Rattle.std.specs.List.{AllByRecursion, list_any}
use Rattle.std.proofs.Common.{sym, ap, ap₂, ◌∙◌, subst, append_assoc, add-one, arith, inl, inr, true≢false}
use Rattle.std.proofs.lemmas.Bool.{and_parts, cases_Bool, cases_eq}
use Rattle.std.proofs.lemmas.List.{append-nil}
use Rattle.flow_table.specs.View.{TableView}
use Rattle.app_frames.specs.declared.frame.Event.{Event}
use Rattle.crash_policy.specs.Policies.{app_value}
use Rattle.lego_model.specs.AtOnce.{AtOnce}
use Rattle.lego_model.specs.RunReport.{event_line}
use Rattle.outside.specs.Seen.{Seen, Continues, journal}
use Rattle.outside.specs.laws.SeenLaws.{Continues-refl}
use Rattle.net_txn.specs.laws.RowLaws.{any_of_map}
use Rattle.net_txn.specs.Net.{NetState}
use Rattle.checkpoint_store.specs.Slots.{Slot}
use Rattle.app_visor.specs.CallsFor.{CallsFor, CalmLater}
use Rattle.app_visor.specs.laws.CalmLaws.{calm_none, calm_later}
use Rattle.crash_policy.specs.Asking.{is_given}
use Rattle.run_laws.specs.Engine.{Application, Engine, EachFrom, focus}
use Rattle.run_laws.specs.Moves.{IsAtRest}
use Rattle.run_laws.specs.Facts.{is_taking, TakesEvent, Between, HasItsTurn, IsOffered, AreLeftOut, if_stopped, Offers}
use Rattle.run_laws.specs.laws.OtherLaws.{calls-silent, silent-at-once}
use Rattle.event_dispatch.specs.declared.fault.Fault.{Fault}
use Rattle.event_dispatch.specs.declared.fault.Fault.TheVariants as faults
use Rattle.event_dispatch.specs.declared.engine_core.Core.{Core}
use Rattle.event_dispatch.specs.declared.run.Managed.{Managed}
use Rattle.event_dispatch.specs.declared.run.Run.{Run}
use Rattle.event_dispatch.specs.Runs.{AreRead, StoreRests, CoreGoes, AreNumbered, AreGoing, Going}
use Rattle.event_dispatch.specs.Stored.{KeepsOthers}
use Rattle.event_dispatch.specs.Shows.{application_of, focus_of, engine_with, engine_of, Adds, queued_run}
use Rattle.event_dispatch.specs.Serves.{Notes, stand, OfferNoted, AllOffered, IsDispatched}
use Rattle.event_dispatch.specs.Passes.{Passes, PassesSoFar}
use Rattle.event_dispatch.specs.Why.{served_by}
use Rattle.event_dispatch.specs.Undone.{IsShort}
use Rattle.event_dispatch.specs.TurnParts.{TurnFails}
use Rattle.event_dispatch.specs.EventParts.{OfferDone, OfferStops, OffersDone, OffersStop, DispatchDone, DispatchStops}
use Rattle.event_dispatch.specs.Cut.{IsOfTurn, OfferFails, StopsWithin, OffersFail, FailsIn}
use Rattle.event_dispatch.specs.laws.SteadyLaws.{reads_none, quietly_none, quietly_here}
use Rattle.event_dispatch.specs.laws.PassesLaws.{SameNext, next_of, passes_number, so_far_none, so_far_then}
use Rattle.event_dispatch.specs.laws.TurnPartLaws.{passes_over}
use Rattle.event_dispatch.specs.laws.WhyLaws.{why_then}
use Rattle.event_dispatch.specs.laws.DispatchStrayLaws.{reads_over, own_point, later_here}
use Rattle.event_dispatch.specs.laws.NoEventLaws.{no_event_none}
use Rattle.event_dispatch.specs.laws.TalkingLaws.{rests_at_once, goes_none}
use Rattle.event_dispatch.specs.laws.LeftLaws.{behind_at, left_none}

-- ---- Lists

pub map_both : {A B : Type 0} (f : A → B) (xs ys : List A) → map f (xs ++ ys) ≡ map f xs ++ map f ys
map_both f [] ys = refl
map_both f (x ∷ xs) ys = ap (λ (zs : List _). f x ∷ zs) (map_both f xs ys)

pub map_take : {A B : Type 0} (f : A → B) (n : ℕ) (xs : List A) → map f (take n xs) ≡ take n (map f xs)
map_take f zero xs = refl
map_take f (suc n) [] = refl
map_take f (suc n) (x ∷ xs) = ap (λ (zs : List _). f x ∷ zs) (map_take f n xs)

pub map_drop : {A B : Type 0} (f : A → B) (n : ℕ) (xs : List A) → map f (drop n xs) ≡ drop n (map f xs)
map_drop f zero xs = refl
map_drop f (suc n) [] = refl
map_drop f (suc n) (x ∷ xs) = map_drop f n xs

pub map_length : {A B : Type 0} (f : A → B) (xs : List A) → length (map f xs) ≡ length xs
map_length f [] = refl
map_length f (x ∷ xs) = ap suc (map_length f xs)

cons_head : {A : Type 0} (x y : A) (xs ys : List A) → x ∷ xs ≡ y ∷ ys → x ≡ y
cons_head x y xs ys is = cc

cons_tail : {A : Type 0} (x y : A) (xs ys : List A) → x ∷ xs ≡ y ∷ ys → xs ≡ ys
cons_tail x y xs ys is = cc

-- the item at a place
pub split_at : {A : Type 0} (front back : List A) (n : ℕ) (m : A) → length front ≡ n → n < length (front ++ back) → m ≡ get_or (front ++ back) n m → back ≡ m ∷ drop 1 back
split_at [] [] n m here less is = absurd (omega (arith, less))
split_at {A = A} [] (x ∷ back) n m here less is = ap (λ (y : A). y ∷ back) (sym (subst (λ (k : ℕ). m ≡ get_or (x ∷ back) k m) (sym here) is))
split_at (f ∷ front) back zero m here less is = absurd (omega (arith, here))
split_at (f ∷ front) back (suc n) m here less is = split_at front back n m (omega (arith, here)) (omega (arith, less)) is

-- it is another then
pub set_at : {A : Type 0} (front back : List A) (n : ℕ) (m now_m : A) → length front ≡ n → set (front ++ m ∷ back) n now_m ≡ front ++ now_m ∷ back
set_at [] back n m now_m here = subst (λ (k : ℕ). set (m ∷ back) k now_m ≡ now_m ∷ back) here refl
set_at (f ∷ front) back zero m now_m here = absurd (omega (arith, here))
set_at (f ∷ front) back (suc n) m now_m here = ap (λ (xs : List _). f ∷ xs) (set_at front back n m now_m (omega (arith, here)))

pub drop_one : {A : Type 0} (n : ℕ) (xs : List A) → drop 1 (drop n xs) ≡ drop (suc n) xs
drop_one zero xs = refl
drop_one (suc n) [] = refl
drop_one (suc n) (x ∷ xs) = drop_one n xs

pub take_next : {A : Type 0} (n : ℕ) (xs : List A) (m : A) (rest : List A) → drop n xs ≡ m ∷ rest → take (suc n) xs ≡ take n xs ++ m ∷ []
take_next zero [] m rest is = absurd cc
take_next zero (x ∷ xs) m rest is = ap (λ (y : _). y ∷ []) (cons_head x m xs rest is)
take_next (suc n) [] m rest is = absurd cc
take_next (suc n) (x ∷ xs) m rest is = ap (λ (ys : List _). x ∷ ys) (take_next n xs m rest is)

pub taken_length : {A B : Type 0} (f : A → B) (n : ℕ) (xs : List A) (m : A) (rest : List A) → drop n xs ≡ m ∷ rest → length (map f (take n xs)) ≡ n
taken_length f zero xs m rest is = refl
taken_length f (suc n) [] m rest is = absurd cc
taken_length f (suc n) (x ∷ xs) m rest is = ap suc (taken_length f n xs m rest is)

pub taken_whole : {A : Type 0} (n : ℕ) (xs : List A) → take n xs ++ drop n xs ≡ xs
taken_whole zero xs = refl
taken_whole (suc n) [] = refl
taken_whole (suc n) (x ∷ xs) = ap (λ (ys : List _). x ∷ ys) (taken_whole n xs)

any_at : {A : Type 0} (p : A → Bool) (n : ℕ) (xs : List A) (m : A) (rest : List A) → drop n xs ≡ m ∷ rest → p m ≡ true → list_any p xs ≡ true
any_at p zero [] m rest is holds = absurd cc
any_at p zero (x ∷ xs) m rest is holds = let here : p x ≡ true = ap p (cons_head x m xs rest is) ∙ holds in rw here refl
any_at p (suc n) [] m rest is holds = absurd cc
any_at p (suc n) (x ∷ xs) m rest is holds = elim (cases_Bool (p x)) [
  | inl here ↦ rw here refl
  | inr other ↦ rw other (any_at p n xs m rest is holds)
]

-- ---- Applications and their places

pub numbered_at : (i : ℕ) (front : List Managed) (m : Managed) (back : List Managed) → AreNumbered i (front ++ m ∷ back) → m.state.index ≡ i + length front
numbered_at i [] m back numbered = omega (arith, numbered.0)
numbered_at i (f ∷ front) m back numbered = omega (arith, numbered_at (i + 1) front m back numbered.1)

pub numbered_set : (i : ℕ) (front : List Managed) (m now_m : Managed) (back : List Managed) → now_m.state.index ≡ m.state.index → AreNumbered i (front ++ m ∷ back) → AreNumbered i (front ++ now_m ∷ back)
numbered_set i [] m now_m back same numbered = (same ∙ numbered.0, numbered.1)
numbered_set i (f ∷ front) m now_m back same numbered = (numbered.0, numbered_set (i + 1) front m now_m back same numbered.1)

numbered_back : (i k : ℕ) (front back : List Managed) → k ≡ i + length front → AreNumbered i (front ++ back) → AreNumbered k back
numbered_back i k [] back is numbered = let same : i ≡ k = omega (arith, is) in subst (λ (n : ℕ). AreNumbered n back) same numbered
numbered_back i k (f ∷ front) back is numbered = numbered_back (i + 1) k front back (omega (arith, is)) numbered.1

abbrev AreApart : ℕ → List Managed → Type 0
AreApart k apps = AllByRecursion (λ m. m.state.index ≡ k → ⊥) apps

apart_back : (i k : ℕ) (back : List Managed) → k < i → AreNumbered i back → AreApart k back
apart_back i k [] less numbered = tt
apart_back i k (m ∷ back) less numbered = ((λ same. omega (arith, same, numbered.0, less)), apart_back (i + 1) k back (omega (arith, less)) numbered.1)

apart_front : (i k : ℕ) (front back : List Managed) → i + length front ≤ k → AreNumbered i (front ++ back) → AreApart k front
apart_front i k [] back le numbered = tt
apart_front i k (m ∷ front) back le numbered = ((λ same. omega (arith, same, numbered.0, le)), apart_front (i + 1) k front back (omega (arith, le)) numbered.1)

-- what the engine keeps of others stays
same_kept : (k : ℕ) (slots now_slots : List Slot) (m : Managed) → KeepsOthers k slots now_slots → (m.state.index ≡ k → ⊥) → application_of now_slots m ≡ application_of slots m
same_kept k slots now_slots m keeps other = ap (λ (x : Slot). record (application_of slots m) { kept = x.kept.checkpoint }) (keeps.others m.state.index other)

others_kept : (k : ℕ) (slots now_slots : List Slot) (apps : List Managed) → KeepsOthers k slots now_slots → AreApart k apps → map (application_of now_slots) apps ≡ map (application_of slots) apps
others_kept k slots now_slots [] keeps apart = refl
others_kept k slots now_slots (m ∷ apps) keeps apart = ap₂ (λ (a : Application) (items : List Application). a ∷ items) (same_kept k slots now_slots m keeps apart.0) (others_kept k slots now_slots apps keeps apart.1)

-- ---- Offers behind one another

no_stop : (stops : Bool) (Stopped Goes : Type 0) → (Stopped → true ≡ false) → if_stopped stops Stopped Goes → (stops ≡ false) × Goes
no_stop true Stopped Goes never both = absurd (true≢false (never both))
no_stop false Stopped Goes never both = (refl, both)

goes_so : (stops : Bool) (Stopped Goes : Type 0) → stops ≡ false → Goes → if_stopped stops Stopped Goes
goes_so true Stopped Goes is goes = absurd (true≢false is)
goes_so false Stopped Goes is goes = goes

module _ {Own : Type 0} (Tells : Type 0) (accepts : List TableView → Bool) (event : Event) (number : ℕ) where
  pub offers_then : (i k : ℕ) (xs ys : List Application) (text more : List ℕ) (from mid to : Between Own) (front back : List Application) (stopped : Bool) → k ≡ i + length xs
      → Offers Tells accepts event number i xs text from mid front false → Offers Tells accepts event number k ys more mid to back stopped → Offers Tells accepts event number i (xs ++ ys) (text ++ more) from to (front ++ back) stopped
  offers_then i k [] ys text more from mid to front back stopped is first later =
      let here : k ≡ i = omega (arith, is) in
      subst (λ (t : List ℕ). Offers Tells accepts event number i ys t from to (front ++ back) stopped) (ap (λ (t : List ℕ). t ++ more) (sym first.1))
      (subst (λ (items : List Application). Offers Tells accepts event number i ys more from to items stopped) (ap (λ (items : List Application). items ++ back) (sym first.2))
      (subst (λ (b : Between Own). Offers Tells accepts event number i ys more b to back stopped) first.0 (subst (λ (n : ℕ). Offers Tells accepts event number n ys more mid to back stopped) here later)))
  offers_then i k (x ∷ xs) ys text more from mid to front back stopped is first later =
      let one = first.0 in
      let goes = no_stop one.stops (AreLeftOut xs one.mid mid one.later_text one.later_apps false) (Offers Tells accepts event number (i + 1) xs one.later_text one.mid mid one.later_apps false) (λ left. sym left.3) first.1 in (
        record {
          mid = one.mid;
          now_app = one.now_app;
          stops = one.stops;
          front_text = one.front_text;
          later_text = one.later_text ++ more;
          later_apps = one.later_apps ++ back;
          offered = one.offered;
          apps_is = ap (λ (items : List Application). items ++ back) one.apps_is;
          text_is = ap (λ (t : List ℕ). t ++ more) one.text_is ∙ append_assoc one.front_text one.later_text more;
        },
        goes_so one.stops (AreLeftOut (xs ++ ys) one.mid to (one.later_text ++ more) (one.later_apps ++ back) stopped) (Offers Tells accepts event number (i + 1) (xs ++ ys) (one.later_text ++ more) one.mid to (one.later_apps ++ back) stopped) goes.0
            (offers_then (i + 1) k xs ys one.later_text more one.mid mid to one.later_apps back stopped (omega (arith, is)) goes.1 later),
      )

  -- one goes on
  pub offers_one : (i : ℕ) (text : List ℕ) (from to : Between Own) (a now_a : Application) → IsOffered Tells accepts event number i (is_taking event a) false text from to a now_a → Offers Tells accepts event number i (a ∷ []) text from to (now_a ∷ []) false
  offers_one i text from to a now_a offered = (
    record { mid = to; now_app = now_a; stops = false; front_text = text; later_text = []; later_apps = []; offered = offered; apps_is = refl; text_is = sym (append-nil text) },
    (refl, refl, refl, refl),
  )

  -- one stops it there
  pub offers_stop : (i : ℕ) (text : List ℕ) (from to : Between Own) (a now_a : Application) (more : List Application) → IsOffered Tells accepts event number i (is_taking event a) true text from to a now_a → Offers Tells accepts event number i (a ∷ more) text from to (now_a ∷ more) true
  offers_stop i text from to a now_a more offered = (
    record { mid = to; now_app = now_a; stops = true; front_text = text; later_text = []; later_apps = more; offered = offered; apps_is = refl; text_is = sym (append-nil text) },
    (refl, refl, refl, refl),
  )

-- ---- What was offered so far

pub record OffersSoFar {Own : Type 0} (Tells : Type 0) (accepts : List TableView → Bool) (event : Event) (n : ℕ) (old now : Seen Own) (c now_c : Core) (apps now_apps : List Managed) : Type 0 where
  pub front : List Managed
  pub now_is : now_apps ≡ front ++ drop n apps
  pub here : length front ≡ n
  pub goes : CoreGoes now_c
  pub events : now_c.events ≡ c.events
  pub number : length now_c.store ≡ length c.store
  pub number_is : length c.store ≡ length now_apps
  pub numbered : AreNumbered 0 (front ++ drop n apps)
  pub kept : map (application_of now_c.store) (drop n apps) ≡ map (application_of c.store) (drop n apps)
  pub text : List ℕ
  pub offers : Offers Tells accepts event c.events 0 (map (application_of c.store) (take n apps)) text (stand old c) (stand now now_c) (map (application_of now_c.store) front) false
  pub notes : Notes text c now_c
  pub passes : PassesSoFar Tells (length c.store) old now c.net now_c.net

pub offers_first : {Own : Type 0} (Tells : Type 0) (accepts : List TableView → Bool) (event : Event) (seen : Seen Own) (c : Core) (apps : List Managed) → AreGoing c apps → OffersSoFar Tells accepts event 0 seen seen c c apps apps
offers_first Tells accepts event seen c apps going = record {
  front = [];
  now_is = refl;
  here = refl;
  goes = going.core;
  events = refl;
  number = refl;
  number_is = going.number;
  numbered = going.numbered;
  kept = refl;
  text = [];
  offers = (refl, refl, refl, refl);
  notes = sym (append-nil c.lines.items);
  passes = so_far_none Tells seen c.net;
}

-- the one that is next
pub next_split : {Own Tells : Type 0} {accepts : List TableView → Bool} {event : Event} {old now : Seen Own} {c now_c : Core} {apps now_apps : List Managed} (n : ℕ) (m : Managed) → OffersSoFar Tells accepts event n old now c now_c apps now_apps → n < length now_apps → m ≡ get_or now_apps n m
    → drop n apps ≡ m ∷ drop (suc n) apps
next_split {apps = apps} n m so_far less is =
    split_at so_far.front (drop n apps) n m so_far.here (subst (λ (ms : List Managed). n < length ms) so_far.now_is less) (is ∙ ap (λ (ms : List Managed). get_or ms n m) so_far.now_is)
    ∙ ap (λ (ms : List Managed). m ∷ ms) (drop_one n apps)

pub next_index : {Own Tells : Type 0} {accepts : List TableView → Bool} {event : Event} {old now : Seen Own} {c now_c : Core} {apps now_apps : List Managed} (n : ℕ) (m : Managed) → OffersSoFar Tells accepts event n old now c now_c apps now_apps → drop n apps ≡ m ∷ drop (suc n) apps → m.state.index ≡ n
next_index {apps = apps} n m so_far split =
    let at = numbered_at 0 so_far.front m (drop (suc n) apps) (subst (λ (ms : List Managed). AreNumbered 0 (so_far.front ++ ms)) split so_far.numbered) in
    omega (arith, at, so_far.here)

pub next_place : {Own Tells : Type 0} {accepts : List TableView → Bool} {event : Event} {old now : Seen Own} {c now_c : Core} {apps now_apps : List Managed} (n : ℕ) (m : Managed) → OffersSoFar Tells accepts event n old now c now_c apps now_apps → n < length now_apps → m ≡ get_or now_apps n m → m.state.index < length now_c.store
next_place n m so_far less is =
    let at = next_index n m so_far (next_split n m so_far less is) in
    omega (arith, at, less, so_far.number, so_far.number_is)

module _ {Own : Type 0} {Tells : Type 0} {accepts : List TableView → Bool} {event : Event} (n : ℕ) (old now new : Seen Own) (c now_c later_c : Core) (apps now_apps : List Managed) (m now_m : Managed) (stops : Bool)
    (so_far : OffersSoFar Tells accepts event n old now c now_c apps now_apps) (split : drop n apps ≡ m ∷ drop (suc n) apps)
    (passes : Passes {T = Bool} {E = Fault} Tells (length now_c.store) now new now_c.net later_c.net (Ok stops))
    (done : OfferDone Tells accepts event stops now new now_c later_c m now_m) where
  abbrev past_it : List Managed
  past_it = drop (suc n) apps

  at_place : m.state.index ≡ n
  at_place = next_index n m so_far split

  numbered_now : AreNumbered 0 (so_far.front ++ m ∷ past_it)
  numbered_now = subst (λ (ms : List Managed). AreNumbered 0 (so_far.front ++ ms)) split so_far.numbered

  kept_split : map (application_of now_c.store) (m ∷ past_it) ≡ map (application_of c.store) (m ∷ past_it)
  kept_split = subst (λ (ms : List Managed). map (application_of now_c.store) ms ≡ map (application_of c.store) ms) split so_far.kept

  same_before : application_of now_c.store m ≡ application_of c.store m
  same_before = cons_head (application_of now_c.store m) (application_of c.store m) (map (application_of now_c.store) past_it) (map (application_of c.store) past_it) kept_split

  -- those behind are as they were
  kept_later : map (application_of later_c.store) past_it ≡ map (application_of c.store) past_it
  kept_later =
      others_kept m.state.index now_c.store later_c.store past_it done.others
      (apart_back (suc n) m.state.index past_it (omega (arith, at_place)) (numbered_back 0 (suc n) (so_far.front ++ m ∷ []) past_it (omega (arith, length_last so_far.front m, so_far.here)) (subst (λ (ms : List Managed). AreNumbered 0 ms) (sym (append_assoc so_far.front (m ∷ []) past_it)) numbered_now)))
      ∙ cons_tail (application_of now_c.store m) (application_of c.store m) (map (application_of now_c.store) past_it) (map (application_of c.store) past_it) kept_split
    where
      length_last : (xs : List Managed) (x : Managed) → length (xs ++ x ∷ []) ≡ length xs + 1
      length_last [] x = refl
      length_last (y ∷ ys) x = omega (arith, length_last ys x)

  -- and those in front
  kept_front : map (application_of later_c.store) so_far.front ≡ map (application_of now_c.store) so_far.front
  kept_front = others_kept m.state.index now_c.store later_c.store so_far.front done.others (apart_front 0 m.state.index so_far.front (m ∷ past_it) (omega (arith, so_far.here, at_place)) numbered_now)

  offered_here : IsOffered Tells accepts event c.events n (is_taking event (application_of c.store m)) stops done.offered.text (stand now now_c) (stand new later_c) (application_of c.store m) (application_of later_c.store now_m)
  offered_here =
      subst (λ (a : Application). IsOffered Tells accepts event c.events n (is_taking event a) stops done.offered.text (stand now now_c) (stand new later_c) a (application_of later_c.store now_m)) same_before
      (subst (λ (i : ℕ). IsOffered Tells accepts event c.events i (is_taking event (application_of now_c.store m)) stops done.offered.text (stand now now_c) (stand new later_c) (application_of now_c.store m) (application_of later_c.store now_m)) at_place
      (subst (λ (k : ℕ). IsOffered Tells accepts event k m.state.index (is_taking event (application_of now_c.store m)) stops done.offered.text (stand now now_c) (stand new later_c) (application_of now_c.store m) (application_of later_c.store now_m)) so_far.events done.offered.offered))

  offers_before : Offers Tells accepts event c.events 0 (map (application_of c.store) (take n apps)) so_far.text (stand old c) (stand now now_c) (map (application_of later_c.store) so_far.front) false
  offers_before = subst (λ (items : List Application). Offers Tells accepts event c.events 0 (map (application_of c.store) (take n apps)) so_far.text (stand old c) (stand now now_c) items false) (sym kept_front) so_far.offers

  now_apps_are : set now_apps n now_m ≡ so_far.front ++ now_m ∷ past_it
  now_apps_are = ap (λ (ms : List Managed). set ms n now_m) (so_far.now_is ∙ ap (λ (ms : List Managed). so_far.front ++ ms) split) ∙ set_at so_far.front (drop (suc n) apps) n m now_m so_far.here

  notes_now : Notes (so_far.text ++ done.offered.text) c later_c
  notes_now = done.offered.notes ∙ ap (λ (xs : List ℕ). xs ++ done.offered.text) so_far.notes ∙ append_assoc c.lines.items so_far.text done.offered.text

  number_now : length later_c.store ≡ length c.store
  number_now = done.others.number ∙ so_far.number

  length_now : length c.store ≡ length (set now_apps n now_m)
  length_now = so_far.number_is ∙ ap (λ (ms : List Managed). length ms) (so_far.now_is ∙ ap (λ (ms : List Managed). so_far.front ++ ms) split) ∙ same_length so_far.front past_it m now_m ∙ ap (λ (ms : List Managed). length ms) (sym now_apps_are)
    where
      same_length : (xs ys : List Managed) (x y : Managed) → length (xs ++ x ∷ ys) ≡ length (xs ++ y ∷ ys)
      same_length [] ys x y = refl
      same_length (z ∷ xs) ys x y = ap suc (same_length xs ys x y)

  going_now : AreGoing later_c (set now_apps n now_m)
  going_now = record {
    core = done.goes;
    numbered = subst (λ (ms : List Managed). AreNumbered 0 ms) (sym now_apps_are) (numbered_set 0 so_far.front m now_m past_it done.index numbered_now);
    number = number_now ∙ length_now;
  }

  -- it goes on
  pub offers_on : stops ≡ false → OffersSoFar Tells accepts event (n + 1) old new c later_c apps (set now_apps n now_m)
  offers_on go = subst (λ (k : ℕ). OffersSoFar Tells accepts event k old new c later_c apps (set now_apps n now_m)) (sym (add-one n)) (record {
    front = so_far.front ++ now_m ∷ [];
    now_is = now_apps_are ∙ sym (append_assoc so_far.front (now_m ∷ []) past_it);
    here = omega (arith, length_last so_far.front now_m, so_far.here);
    goes = done.goes;
    events = done.events ∙ so_far.events;
    number = number_now;
    number_is = length_now;
    numbered = subst (λ (ms : List Managed). AreNumbered 0 ms) (sym (append_assoc so_far.front (now_m ∷ []) past_it)) (numbered_set 0 so_far.front m now_m past_it done.index numbered_now);
    kept = kept_later;
    text = so_far.text ++ done.offered.text;
    offers = subst (λ (items : List Application). Offers Tells accepts event c.events 0 items (so_far.text ++ done.offered.text) (stand old c) (stand new later_c) (map (application_of later_c.store) (so_far.front ++ now_m ∷ [])) false)
        (sym (ap (λ (ms : List Managed). map (application_of c.store) ms) (take_next n apps m past_it split) ∙ map_both (application_of c.store) (take n apps) (m ∷ [])))
        (subst (λ (items : List Application). Offers Tells accepts event c.events 0 (map (application_of c.store) (take n apps) ++ application_of c.store m ∷ []) (so_far.text ++ done.offered.text) (stand old c) (stand new later_c) items false)
        (sym (map_both (application_of later_c.store) so_far.front (now_m ∷ [])))
        (offers_then Tells accepts event c.events 0 n (map (application_of c.store) (take n apps)) (application_of c.store m ∷ []) so_far.text done.offered.text (stand old c) (stand now now_c) (stand new later_c) (map (application_of later_c.store) so_far.front) (application_of later_c.store now_m ∷ []) false
        (omega (arith, taken_length (application_of c.store) n apps m past_it split)) offers_before
        (offers_one Tells accepts event c.events n done.offered.text (stand now now_c) (stand new later_c) (application_of c.store m) (application_of later_c.store now_m)
        (subst (λ (b : Bool). IsOffered Tells accepts event c.events n (is_taking event (application_of c.store m)) b done.offered.text (stand now now_c) (stand new later_c) (application_of c.store m) (application_of later_c.store now_m)) go offered_here))));
    notes = notes_now;
    passes = so_far_then so_far.passes (passes_number (length c.store) (length now_c.store) so_far.number passes);
  })
    where
      length_last : (xs : List Managed) (x : Managed) → length (xs ++ x ∷ []) ≡ length xs + 1
      length_last [] x = refl
      length_last (y ∷ ys) x = omega (arith, length_last ys x)

  -- it stops there
  stopped_there : stops ≡ true → AllOffered Tells accepts event old new c later_c apps (set now_apps n now_m)
  stopped_there stop = record {
    text = so_far.text ++ done.offered.text;
    stopped = true;
    offers = subst (λ (items : List Application). Offers Tells accepts event c.events 0 items (so_far.text ++ done.offered.text) (stand old c) (stand new later_c) (map (application_of later_c.store) (set now_apps n now_m)) true)
        (sym (map_both (application_of c.store) (take n apps) (m ∷ past_it)) ∙ ap (λ (ms : List Managed). map (application_of c.store) (take n apps ++ ms)) (sym split) ∙ ap (λ (ms : List Managed). map (application_of c.store) ms) (taken_whole n apps))
        (subst (λ (items : List Application). Offers Tells accepts event c.events 0 (map (application_of c.store) (take n apps) ++ application_of c.store m ∷ map (application_of c.store) past_it) (so_far.text ++ done.offered.text) (stand old c) (stand new later_c) items true)
        (ap (λ (items : List Application). map (application_of later_c.store) so_far.front ++ application_of later_c.store now_m ∷ items) (sym kept_later)
        ∙ sym (map_both (application_of later_c.store) so_far.front (now_m ∷ past_it)) ∙ ap (λ (ms : List Managed). map (application_of later_c.store) ms) (sym now_apps_are))
        (offers_then Tells accepts event c.events 0 n (map (application_of c.store) (take n apps)) (application_of c.store m ∷ map (application_of c.store) past_it) so_far.text done.offered.text (stand old c) (stand now now_c) (stand new later_c) (map (application_of later_c.store) so_far.front)
        (application_of later_c.store now_m ∷ map (application_of c.store) past_it) true (omega (arith, taken_length (application_of c.store) n apps m past_it split)) offers_before
        (offers_stop Tells accepts event c.events n done.offered.text (stand now now_c) (stand new later_c) (application_of c.store m) (application_of later_c.store now_m) (map (application_of c.store) past_it)
        (subst (λ (b : Bool). IsOffered Tells accepts event c.events n (is_taking event (application_of c.store m)) b done.offered.text (stand now now_c) (stand new later_c) (application_of c.store m) (application_of later_c.store now_m)) stop offered_here))));
    notes = notes_now;
  }

  pub offers_end : stops ≡ true → OffersDone Tells accepts event old new c later_c apps (set now_apps n now_m)
  offers_end stop = record { going = going_now; events = done.events ∙ so_far.events; number = number_now; offered = stopped_there stop }

-- all were offered it
module _ {Own : Type 0} {Tells : Type 0} {accepts : List TableView → Bool} {event : Event} (n : ℕ) (old now : Seen Own) (c now_c : Core) (apps now_apps : List Managed) (so_far : OffersSoFar Tells accepts event n old now c now_c apps now_apps) (all : length now_apps ≤ n) where
  none_behind : drop n apps ≡ []
  none_behind = nothing so_far.front (drop n apps) so_far.here (subst (λ (ms : List Managed). length ms ≤ n) so_far.now_is all)
    where
      longer : (xs ys : List Managed) (y : Managed) → length xs < length (xs ++ y ∷ ys)
      longer [] ys y = omega arith
      longer (x ∷ xs) ys y = omega (arith, longer xs ys y)

      nothing : (xs ys : List Managed) → length xs ≡ n → length (xs ++ ys) ≤ n → ys ≡ []
      nothing xs [] is le = refl
      nothing xs (y ∷ ys) is le = absurd (omega (arith, is, le, longer xs ys y))

  front_is : now_apps ≡ so_far.front
  front_is = so_far.now_is ∙ ap (λ (ms : List Managed). so_far.front ++ ms) none_behind ∙ append-nil so_far.front

  taken_is : take n apps ≡ apps
  taken_is = sym (append-nil (take n apps)) ∙ ap (λ (ms : List Managed). take n apps ++ ms) (sym none_behind) ∙ taken_whole n apps

  offered_all : AllOffered Tells accepts event old now c now_c apps now_apps
  offered_all = record {
    text = so_far.text;
    stopped = false;
    offers = subst (λ (items : List Application). Offers Tells accepts event c.events 0 items so_far.text (stand old c) (stand now now_c) (map (application_of now_c.store) now_apps) false) (ap (λ (ms : List Managed). map (application_of c.store) ms) taken_is)
        (subst (λ (ms : List Managed). Offers Tells accepts event c.events 0 (map (application_of c.store) (take n apps)) so_far.text (stand old c) (stand now now_c) (map (application_of now_c.store) ms) false) (sym front_is) so_far.offers);
    notes = so_far.notes;
  }

  going_all : AreGoing now_c now_apps
  going_all = record {
    core = so_far.goes;
    numbered = subst (λ (ms : List Managed). AreNumbered 0 ms) (sym so_far.now_is) so_far.numbered;
    number = so_far.number ∙ so_far.number_is;
  }

  pub all_offered : OffersDone Tells accepts event old now c now_c apps now_apps
  all_offered = record { going = going_all; events = so_far.events; number = so_far.number; offered = offered_all }

-- ---- A fault ended it

each_of : (P : ℕ → Application → Type 0) (f : Managed → Application) (i k : ℕ) (front : List Managed) (m : Managed) (rest : List Managed) → k ≡ i + length front → EachFrom P i (map f (front ++ m ∷ rest)) → P k (f m)
each_of P f i k [] m rest is each = let here : i ≡ k = omega (arith, is) in subst (λ (n : ℕ). P n (f m)) here each.0
each_of P f i k (x ∷ front) m rest is each = each_of P f (i + 1) k front m rest (omega (arith, is)) each.1

rule_at_place : (f : Managed → Application) (k : ℕ) (front : List Managed) (m : Managed) (rest : List Managed) → k ≡ length front → slice_get (map (λ (a : Application). a.rule) (map f (front ++ m ∷ rest))) k ≡ Some (f m).rule
rule_at_place f k [] m rest is = subst (λ (n : ℕ). slice_get (map (λ (a : Application). a.rule) (map f (m ∷ rest))) n ≡ Some (f m).rule) (sym is) refl
rule_at_place f zero (x ∷ front) m rest is = absurd (omega (arith, is))
rule_at_place f (suc k) (x ∷ front) m rest is = rule_at_place f k front m rest (omega (arith, is))

of_turn_at : (fault : Fault) (p : Managed → Bool) (n : ℕ) (apps : List Managed) (m : Managed) (rest : List Managed) → drop n apps ≡ m ∷ rest → IsOfTurn fault (p m) → IsOfTurn fault (list_any p apps)
of_turn_at faults.Next p n apps m rest split holds = any_at p n apps m rest split holds
of_turn_at (faults.Txn fault) p n apps m rest split holds = any_at p n apps m rest split holds
of_turn_at faults.Write p n apps m rest split holds = tt
of_turn_at faults.NoMemory p n apps m rest split holds = tt

module _ {Own : Type 0} {Tells : Type 0} {accepts : List TableView → Bool} {event : Event} (n : ℕ) (old now new : Seen Own) (c now_c : Core) (apps now_apps : List Managed) (m : Managed) (fault : Fault)
    (so_far : OffersSoFar Tells accepts event n old now c now_c apps now_apps) (split : drop n apps ≡ m ∷ drop (suc n) apps) (later : Continues Tells now new)
    (stops : OfferStops Tells event now new now_c m fault) where
  abbrev fails : OfferFails Tells fault event now new now_c m
  fails = stops.fails

  abbrev behind : List Managed
  behind = drop (suc n) apps

  abbrev engine_now : Engine
  engine_now = engine_with now_c now_apps

  now_split : now_apps ≡ so_far.front ++ m ∷ behind
  now_split = so_far.now_is ∙ ap (λ (ms : List Managed). so_far.front ++ ms) split

  place_is : m.state.index ≡ n
  place_is = next_index n m so_far split

  is_at_rest : EachFrom (IsAtRest now) 0 engine_now.apps → IsAtRest now m.state.index (application_of now_c.store m)
  is_at_rest each = each_of (IsAtRest now) (application_of now_c.store) 0 m.state.index so_far.front m behind (omega (arith, place_is, so_far.here)) (subst (λ (ms : List Managed). EachFrom (IsAtRest now) 0 (map (application_of now_c.store) ms)) now_split each)

  place_within : m.state.index < length engine_now.apps
  place_within =
      let long : length engine_now.apps ≡ length now_apps = map_length (application_of now_c.store) now_apps in
      let split_long : length now_apps ≡ length (so_far.front ++ m ∷ behind) = ap (λ (ms : List Managed). length ms) now_split in
      omega (arith, long, split_long, place_is, so_far.here, longer so_far.front behind m)
    where
      longer : (xs ys : List Managed) (y : Managed) → length xs < length (xs ++ y ∷ ys)
      longer [] ys y = omega arith
      longer (x ∷ xs) ys y = omega (arith, longer xs ys y)

  same_taking : is_taking event (application_of now_c.store m) ≡ is_taking event (application_of c.store m)
  same_taking = refl

  within_stops : StopsWithin Tells fault now new engine_now
  within_stops = record {
    talks = record {
      talks = λ told each app less. elim (cases_eq app m.state.index) [
        | inl same ↦ subst (λ (i : ℕ). AtOnce i (journal new.history)) (sym same) (fails.talks told (is_at_rest each))
        | inr other ↦ silent-at-once app now new (calls-silent m.state.index app now new (fails.later told).own other) (rests_at_once now engine_now.apps app each less)
      ];
    };
    left = record {
      left = λ told keeps order ready each.
          behind_at m.state.index (app_value m.rule.now)
          (subst (λ (ms : List Managed). slice_get (map (λ (a : Application). a.rule) (map (application_of now_c.store) ms)) m.state.index ≡ Some (app_value m.rule.now)) (sym now_split)
          (rule_at_place (application_of now_c.store) m.state.index so_far.front m behind (omega (arith, place_is, so_far.here))))
          (fails.left told keeps order ready (is_at_rest each));
    };
    here = later_here m.state.index place_within fails.later;
    plain = fails.plain;
  }

  stopped_within : OffersFail Tells accepts fault event old new c apps
  stopped_within = record {
    number = n;
    mid = now;
    mid_core = now_c;
    mid_apps = now_apps;
    on = so_far.passes.continues;
    text = so_far.text;
    front = so_far.front;
    offers = so_far.offers;
    apps_are = ap (λ (ms : List Managed). map (application_of now_c.store) ms) so_far.now_is ∙ map_both (application_of now_c.store) so_far.front (drop n apps)
        ∙ ap (λ (items : List Application). map (application_of now_c.store) so_far.front ++ items) so_far.kept;
    events_is = so_far.events;
    of_turn = of_turn_at fault (λ x. is_taking event (application_of c.store x)) n apps m behind split (subst (λ (b : Bool). IsOfTurn fault b) same_taking fails.of_turn);
    reads = so_far.passes.reads;
    later = later;
    within = within_stops;
  }

  pub offers_stop_at : OffersStop Tells accepts event old new c apps fault
  offers_stop_at = record { fails = stopped_within; why = why_then old now new (served_by fault) so_far.passes.continues stops.why }

-- ---- What one application was to have

-- it is passed over
pub offer_passed : {Own : Type 0} (Tells : Type 0) (accepts : List TableView → Bool) (event : Event) (seen : Seen Own) (c : Core) (m : Managed) → CoreGoes c
    → is_taking event (application_of c.store m) ≡ false
    → OfferDone Tells accepts event false seen seen c c m m
offer_passed Tells accepts event seen c m goes passed = record {
  goes = goes;
  events = refl;
  others = record { number = refl; others = λ i other. refl };
  index = refl;
  rule = refl;
  offered = record {
    text = [];
    offered = subst (λ (b : Bool). IsOffered Tells accepts event c.events m.state.index b false [] (stand seen c) (stand seen c) (application_of c.store m)
        (application_of c.store m)) (sym passed) (refl, refl, refl, refl);
    notes = sym (append-nil c.lines.items);
  };
}

-- it had the event
pub offer_had : {Own : Type 0} {Tells : Type 0} {accepts : List TableView → Bool} {event : Event} {stops : Bool} (text : List ℕ) (old new : Seen Own) (c now_c : Core)
    (m now_m : Managed) → is_taking event (application_of c.store m) ≡ true → now_c.events ≡ c.events → now_m.state.index ≡ m.state.index → (Tells → CallsFor m.state.index old new)
    → TakesEvent Tells accepts event stops text old new (focus_of c m) (focus_of now_c now_m) → Notes text c now_c → OfferNoted Tells accepts event stops old new c now_c m now_m
offer_had {Tells = Tells} {accepts = accepts} {event = event} {stops = stops} text old new c now_c m now_m takes events index own had notes = record {
  text = text;
  offered = subst (λ (b : Bool). IsOffered Tells accepts event c.events m.state.index b stops text (stand old c) (stand new now_c) (application_of c.store m) (application_of now_c.store now_m)) (sym takes)
      (has_turn now_m.state.index now_c.events index events had);
  notes = notes;
}
  where
    has_turn : (i k : ℕ) → i ≡ m.state.index → k ≡ c.events → TakesEvent Tells accepts event stops text old new (focus m.state.index (application_of c.store m) c.net c.queue c.events) (focus i (application_of now_c.store now_m) now_c.net now_c.queue k)
        → HasItsTurn Tells accepts event c.events m.state.index stops text (stand old c) (stand new now_c) (application_of c.store m) (application_of now_c.store now_m)
    has_turn i k at same t = record {
      takes = subst (λ (q : ℕ × ℕ). TakesEvent Tells accepts event stops text old new (focus m.state.index (application_of c.store m) c.net c.queue c.events) (focus q.0 (application_of now_c.store now_m) now_c.net now_c.queue q.1))
          (ap₂ (λ (x y : ℕ). (x, y)) at same) t;
      own = own;
    }

-- it has none, or memory was wanting before it
pub offer_none : {Own : Type 0} (Tells : Type 0) (event : Event) (seen : Seen Own) (c : Core) (m : Managed)
    → OfferStops Tells event seen seen c m faults.NoMemory
offer_none Tells event seen c m = record {
  fails = record {
    talks = λ told rests. rests.at_once;
    of_turn = tt;
    left = λ told keeps order ready rests. inl (inl (no_event_none seen));
    later = λ told. own_point (calm_later (calm_none m.state.index seen));
    plain = record { plain = λ told keeps ready sound. inl tt };
  };
  why = tt;
}

-- it is alive where it has it
pub taking_alive : (event : Event) (a : Application) → is_taking event a ≡ true → a.alive ≡ true
taking_alive event a is = (and_parts a.alive (is_given a.rule event.kind) is).0

pub takes_of : (fault : Fault) {b : Bool} → b ≡ true → IsOfTurn fault b
takes_of faults.Next holds = holds
takes_of (faults.Txn fault) holds = holds
takes_of faults.Write holds = tt
takes_of faults.NoMemory holds = tt

-- a fault ended its turn
pub offer_fails : {Own : Type 0} {Tells : Type 0} {event : Event} (fault : Fault) (old new : Seen Own) (c : Core) (m : Managed)
    → is_taking event (application_of c.store m) ≡ true → (Tells → CalmLater m.state.index old new)
    → TurnFails Tells m.state.index m.rule.now.budget m.state.rest old new c.net fault
    → OfferStops Tells event old new c m fault
offer_fails {event = event} fault old new c m takes later turn =
    let alive = taking_alive event (application_of c.store m) takes in
    record {
      fails = record {
        talks = λ told rests. turn.talks.talks told rests.at_once (rests.rest_is alive).0 (rests.rest_is alive).1;
        of_turn = takes_of fault takes;
        left = λ told keeps order ready rests. inl (turn.left.left told keeps order ready rests.at_once (rests.rest_is alive).1);
        later = λ told. own_point (later told);
        plain = turn.plain;
      };
      why = turn.why;
    }

-- ---- The event, with its line

module _ (event : Event) (r : Run) (c : Core) (adds : Adds (event_line (r.core.events + 1) event.kind event.dpid) (record r.core { events = r.core.events + 1 }) c) where
  apps_noted : map (application_of c.store) r.apps.items ≡ map (application_of r.core.store) r.apps.items
  apps_noted = ap (λ (slots : List Slot). map (application_of slots) r.apps.items) adds.stays.store

  stand_noted : {Own : Type 0} (seen : Seen Own) → stand seen c ≡ stand seen r.core
  stand_noted seen = ap₂ (λ (net : NetState) (queue : List Event). record { seen = seen; net = net; queue = queue }) adds.stays.net adds.stays.queue

  pub noted_going : AreGoing r.core r.apps.items → AreGoing c r.apps.items
  noted_going going = record {
    core = record {
      room = subst (λ (net : NetState). 1 ≤ net.room) (sym adds.stays.net) going.core.room;
      read = subst (λ (net : NetState). AreRead net.kept) (sym adds.stays.net) going.core.read;
      store = subst (λ (slots : List Slot). StoreRests slots) (sym adds.stays.store) going.core.store;
      left = ap (λ (net : NetState). net.left) adds.stays.net ∙ going.core.left;
    };
    numbered = going.numbered;
    number = ap (λ (slots : List Slot). length slots) adds.stays.store ∙ going.number;
  }

  pub noted_number : length c.store ≡ length r.core.store
  noted_number = ap (λ (slots : List Slot). length slots) adds.stays.store

  pub noted_views : c.net.views ≡ r.core.net.views
  noted_views = ap (λ (net : NetState). net.views) adds.stays.net

  noted_next : SameNext r.core.net c.net
  noted_next = next_of adds.stays.net

  dispatched_is : {Own : Type 0} {Tells : Type 0} {accepts : List TableView → Bool} (old new : Seen Own) (now_r : Run) → now_r.core.events ≡ c.events
      → AllOffered Tells accepts event old new c now_r.core r.apps.items now_r.apps.items → IsDispatched Tells accepts event old new r now_r
  dispatched_is {Own = Own} {Tells = Tells} {accepts = accepts} old new now_r events all = record {
    text = event_line (r.core.events + 1) event.kind event.dpid ++ all.text;
    dispatches = record {
      turn_text = all.text;
      stopped = all.stopped;
      offers = subst (λ (items : List Application). Offers Tells accepts event (r.core.events + 1) 0 items all.text (stand old r.core) (stand new now_r.core) (map (application_of now_r.core.store) now_r.apps.items) all.stopped) apps_noted
          (subst (λ (b : Between Own). Offers Tells accepts event (r.core.events + 1) 0 (map (application_of c.store) r.apps.items) all.text b (stand new now_r.core) (map (application_of now_r.core.store) now_r.apps.items) all.stopped) (stand_noted old)
          (subst (λ (k : ℕ). Offers Tells accepts event k 0 (map (application_of c.store) r.apps.items) all.text (stand old c) (stand new now_r.core) (map (application_of now_r.core.store) now_r.apps.items) all.stopped) adds.stays.events all.offers));
      events_is = events ∙ adds.stays.events;
      text_is = refl;
    };
    notes = all.notes ∙ ap (λ (xs : List ℕ). xs ++ all.text) adds.lines ∙ append_assoc r.core.lines.items (event_line (r.core.events + 1) event.kind event.dpid) all.text;
  }

  fails_is : {Own : Type 0} {Tells : Type 0} {accepts : List TableView → Bool} (fault : Fault) (old new : Seen Own)
      → OffersFail Tells accepts fault event old new c r.apps.items → FailsIn Tells accepts fault event old new (engine_of r)
  fails_is {Own = Own} {Tells = Tells} {accepts = accepts} fault old new f = record {
    number = f.number;
    mid = f.mid;
    mid_engine = engine_with f.mid_core f.mid_apps;
    on = f.on;
    given = record {
      text = f.text;
      front = map (application_of f.mid_core.store) f.front;
      offers = subst (λ (items : List Application). Offers Tells accepts event (r.core.events + 1) 0 items f.text (stand old r.core) (stand f.mid f.mid_core) (map (application_of f.mid_core.store) f.front) false)
          (ap (λ (slots : List Slot). map (application_of slots) (take f.number r.apps.items)) adds.stays.store ∙ map_take (application_of r.core.store) f.number r.apps.items)
          (subst (λ (b : Between Own). Offers Tells accepts event (r.core.events + 1) 0 (map (application_of c.store) (take f.number r.apps.items)) f.text b (stand f.mid f.mid_core) (map (application_of f.mid_core.store) f.front) false) (stand_noted old)
          (subst (λ (k : ℕ). Offers Tells accepts event k 0 (map (application_of c.store) (take f.number r.apps.items)) f.text (stand old c) (stand f.mid f.mid_core) (map (application_of f.mid_core.store) f.front) false) adds.stays.events f.offers));
      apps_is = f.apps_are ∙ ap (λ (items : List Application). map (application_of f.mid_core.store) f.front ++ items)
          (ap (λ (slots : List Slot). map (application_of slots) (drop f.number r.apps.items)) adds.stays.store ∙ map_drop (application_of r.core.store) f.number r.apps.items);
      events_is = f.events_is ∙ adds.stays.events;
    };
    of_turn = subst (λ (b : Bool). IsOfTurn fault b)
        (ap (λ (slots : List Slot). list_any (λ m. is_taking event (application_of slots m)) r.apps.items) adds.stays.store ∙ sym (any_of_map (is_taking event) (application_of r.core.store) r.apps.items)) f.of_turn;
    reads = reads_over r.core.net c.net f.mid_core.net f.mid_core.net noted_views refl f.reads;
    later = f.later;
    within = f.within;
  }

  -- however it ended
  pub dispatch_ended : {Own : Type 0} (Tells : Type 0) (accepts : List TableView → Bool) (result : Result (Unit {0}) Fault) (old new : Seen Own) (now_r : Run)
      → MatchResult result (λ _. OffersDone Tells accepts event old new c now_r.core r.apps.items now_r.apps.items)
      (OffersStop Tells accepts event old new c r.apps.items)
      → MatchResult result (λ _. DispatchDone Tells accepts event old new r now_r) (DispatchStops Tells accepts event old new r)
  dispatch_ended Tells accepts (Ok x) old new now_r all = record {
    going = all.going;
    events = all.events ∙ adds.stays.events;
    number = all.number ∙ noted_number;
    dispatched = dispatched_is old new now_r all.events all.offered;
  }
  dispatch_ended Tells accepts (Err fault) old new now_r stops = record { fails = fails_is fault old new stops.fails; why = stops.why }

  pub dispatch_passes : {Own T E : Type 0} {Tells : Type 0} {old new : Seen Own} {now_net : NetState} {result : Result T E}
      → Passes Tells (length c.store) old new c.net now_net result → Passes Tells (length r.core.store) old new r.core.net now_net result
  dispatch_passes passes = passes_number (length r.core.store) (length c.store) noted_number (passes_over r.core.net c.net noted_next passes)

-- another event waits
pub going_queued : (queue : List Event) (r : Run) → Going r → Going (queued_run queue r)
going_queued queue r going = record {
  core = record { room = going.core.room; read = going.core.read; store = going.core.store; left = going.core.left };
  numbered = going.numbered;
  number = going.number;
}

-- memory was wanting for its line
pub dispatch_short : {Own : Type 0} (Tells : Type 0) (accepts : List TableView → Bool) (event : Event) (seen : Seen Own) (r : Run)
    → DispatchStops Tells accepts event seen seen r faults.NoMemory
dispatch_short Tells accepts event seen r =
    let e : Engine = record (engine_of r) { events = r.core.events + 1 } in
    record {
      fails = record {
        number = 0;
        mid = seen;
        mid_engine = e;
        on = Continues-refl Tells seen;
        given = record { text = []; front = []; offers = (refl, refl, refl, refl); apps_is = refl; events_is = refl };
        of_turn = tt;
        reads = reads_none Tells seen r.core.net r.core.net refl;
        later = Continues-refl Tells seen;
        within = record {
          talks = goes_none Tells seen e;
          left = left_none Tells (IsShort faults.NoMemory) seen e;
          here = quietly_here (quietly_none Tells seen);
          plain = record { plain = λ told keeps ready sound. inl tt };
        };
      };
      why = tt;
    }
