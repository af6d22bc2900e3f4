-- A call of an application of the other world that was started from here shows nothing here but want of memory.
use Rattle.std.specs.Prelude.{◌≡◌, ◌≢◌, ◌==◌, ℕ, Bool, true, false, not, List, [], ◌∷◌, ◌++◌, Some, Result, Ok, Err, slice_get, refl}
use Rattle.std.proofs.Common.{sym, ap, ◌∙◌, subst, inl, inr}
use Rattle.std.proofs.lemmas.Bool.{cases_Bool, cases_eq, false≢true, eqb-true, ne_eqb, eq-eqb}
use Rattle.std.proofs.lemmas.List.{append-nil}
use Rattle.std.proofs.lemmas.Option.{same_Some}
use Rattle.lego_io.specs.Count.{raised}
use Rattle.of_types.specs.Membership.{is_among}
use Rattle.flow_table.specs.Switch.{Declared}
use Rattle.outside.specs.declared.faults.Short.{Short}
use Rattle.outside.specs.declared.item.Taken.{Taken}
use Rattle.outside.specs.declared.item.Taken.TheVariants as gave
use Rattle.outside.specs.declared.step.WorldStep.{WorldStep}
use Rattle.outside.specs.Seen.{Counts, Seen, AreCounts, with_stray}
use Rattle.outside.specs.State.{State, at_first, after_steps, state, is_running}
use Rattle.outside.specs.laws.StateLaws.{state-append}
use Rattle.outside.specs.laws.CallLaws.{Ends-state}
use Rattle.outside.specs.Calls.{Starts, start_steps, start_counts, Gives, give_steps, give_counts, Takes, take_steps, take_counts, Ends, end_steps}
use Rattle.linked_world.specs.Linked.{link_steps, Note, woven, Grows, AppCounts, with_apps, seen_with, seen_of, Linkage, Stands, IsLinkage, running_without, stray_count, short_count}
use Rattle.linked_world.specs.Still.{Still, Shorted, Tried, start_answer, give_answer}
use Rattle.linked_world.specs.laws.StillLaws.{tried_behind}
use Rattle.linked_world.specs.laws.WovenLaws.{link_steps-app, Grows-more, woven-more}
use Rattle.linked_world.specs.laws.CountLaws.{total-Rose, total-Rose_own, NoneFell-apps, NoneFell-own, AreCounts-apps, AreCounts-same, short-apps}
use Rattle.linked_world.specs.laws.LinkCallLaws.{LinksMoved}
use Rattle.linked_world.specs.laws.AppCallLaws.{AreApps, rises, short_fit, short_fell, short_seen, start_apps, start_runs, give_apps, give_runs, take_apps, take_runs, end_apps, end_runs}

-- ---- Nothing is seen of such steps

none_seen : (steps : List WorldStep) → AreApps steps → link_steps steps ≡ []
unfolding AreApps link_steps
none_seen [] are = refl
none_seen (step ∷ steps) are = link_steps-app step steps are.0 ∙ none_seen steps are.1

same_history : {Own : Type 0} (notes : List Note) (apps : AppCounts) (old new : Seen Own) (steps : List WorldStep) → Grows [] notes old.history → AreApps steps → new.history ≡ old.history ++ steps
    → (seen_with notes apps new).history ≡ (seen_with notes apps old).history
unfolding seen_with
same_history notes apps old new steps grows are longer =
    ap (λ (xs : List WorldStep). woven [] notes xs) longer
    ∙ woven-more [] notes old.history steps grows
    ∙ ap (λ (xs : List WorldStep). woven [] notes old.history ++ xs) (none_seen steps are)
    ∙ append-nil (woven [] notes old.history)

there_counts : (declared : List Declared) (apps : AppCounts) (stray : Bool) (expected counts : Counts) → stray ≡ false → AreCounts declared (with_stray stray expected) counts
    → AreCounts declared (with_apps apps expected) (with_apps apps counts)
there_counts declared apps true expected counts none are = absurd (false≢true (sym none))
there_counts declared apps false expected counts none are = AreCounts-apps declared apps expected counts (record {
  shuts = are.shuts;
  next_faults = are.next_faults;
  starts_failed = are.starts_failed;
  closings = are.closings;
  silences = are.silences;
  link_faults = are.link_faults;
  shorts = are.shorts;
  shorts_of = are.shorts_of;
  strays = are.strays;
})

-- It stands, where the applications that are said to run there do.
Stands-there : {Own : Type 0} {Tells : Type 0} (notes : List Note) (running : List ℕ) (apps : AppCounts) (inside inside_then : List Bool) (old new : Seen Own) → Stands Tells notes running apps inside old
    → new.given ≡ old.given → (Tells → (steps : List WorldStep) × AreApps steps × (new.history ≡ old.history ++ steps))
    → (Tells → (app : ℕ) → slice_get inside_then app ≡ Some true → is_running app (state new) ≡ true) → Stands Tells notes running apps inside_then new
unfolding state seen_with
Stands-there notes running apps inside inside_then old new stands given more runs = record {
  grows = λ told. subst (Grows [] notes) (sym (more told).2) (Grows-more [] notes old.history (more told).0 (stands.grows told));
  run = λ told.
      ap (λ (xs : List WorldStep). (after_steps xs (at_first new.given)).running) (same_history notes apps old new (more told).0 (stands.grows told) (more told).1 (more told).2)
      ∙ ap (λ (g : _). (after_steps (woven [] notes old.history) (at_first g)).running) given
      ∙ stands.run told;
  fit = stands.fit;
  runs = runs;
}

-- ---- Bytes given

pub Gives-there : {Own : Type 0} {Tells : Type 0} {notes : List Note} {running : List ℕ} {apps : AppCounts} {inside : List Bool} {app : ℕ} {bytes : List ℕ} {old new : Seen Own} (result : Result Bool Short)
    → Stands Tells notes running apps inside old → slice_get inside app ≡ Some true → Gives Tells app bytes old new (give_answer result) → Tried Tells result (seen_with notes apps old) (seen_with notes apps new)
unfolding seen_with give_counts
Gives-there {notes = notes} {apps = apps} {app = app} {bytes = bytes} {old = old} {new = new} (Ok true) stands is call = record {
  given = call.given;
  none_fell = NoneFell-apps apps old.counts new.counts call.none_fell;
  told = λ told. (
    same_history notes apps old new (give_steps app bytes (give_answer (Ok true))) (stands.grows told) (give_apps app bytes (give_answer (Ok true))) (call.told told).history,
    λ shown. there_counts old.given.declared apps (not (is_running app (state old))) (give_counts (give_answer (Ok true)) old.counts) new.counts (ap not (stands.runs told app is)) ((call.told told).counts shown),
  );
}
Gives-there {notes = notes} {apps = apps} {app = app} {bytes = bytes} {old = old} {new = new} (Ok false) stands is call = record {
  given = call.given;
  none_fell = NoneFell-apps apps old.counts new.counts call.none_fell;
  told = λ told. (
    same_history notes apps old new (give_steps app bytes (give_answer (Ok false))) (stands.grows told) (give_apps app bytes (give_answer (Ok false))) (call.told told).history,
    λ shown. there_counts old.given.declared apps (not (is_running app (state old))) (give_counts (give_answer (Ok false)) old.counts) new.counts (ap not (stands.runs told app is)) ((call.told told).counts shown),
  );
}
Gives-there {notes = notes} {apps = apps} {app = app} {bytes = bytes} {old = old} {new = new} (Err short) stands is call = record {
  given = call.given;
  none_fell = NoneFell-apps apps old.counts new.counts call.none_fell;
  short = total-Rose old.counts.shorts new.counts.shorts apps.shorts (call.short refl);
  told = λ told. (
    same_history notes apps old new (give_steps app bytes (give_answer (Err short))) (stands.grows told) (give_apps app bytes (give_answer (Err short))) (call.told told).history,
    λ shown. subst (λ (c : Counts). AreCounts old.given.declared c (with_apps apps new.counts)) (short-apps apps old.counts)
        (there_counts old.given.declared apps (not (is_running app (state old))) (give_counts (give_answer (Err short)) old.counts) new.counts (ap not (stands.runs told app is)) ((call.told told).counts shown)),
  );
}

pub Gives-stands_there : {Own : Type 0} {Tells : Type 0} {notes : List Note} {running : List ℕ} {apps : AppCounts} {inside : List Bool} {app : ℕ} {bytes : List ℕ} {old new : Seen Own} (result : Result Bool Short)
    → Stands Tells notes running apps inside old → Gives Tells app bytes old new (give_answer result) → Stands Tells notes running apps inside new
Gives-stands_there {notes = notes} {running = running} {apps = apps} {inside = inside} {app = app} {bytes = bytes} {old = old} {new = new} result stands call =
    Stands-there notes running apps inside inside old new stands call.given
    (λ told. (give_steps app bytes (give_answer result), give_apps app bytes (give_answer result), (call.told told).history))
    (λ told other is.
    ap (is_running other) (state-append old new (give_steps app bytes (give_answer result)) call.given (call.told told).history)
    ∙ ap (is_among other) (give_runs app bytes (give_answer result) (state old).running (state old) refl)
    ∙ stands.runs told other is)

-- ---- Bytes taken

take_seen_there : (result : Result Taken Short) (apps : AppCounts) (c : Counts) (x : Taken) → result ≡ Ok x → with_apps apps (take_counts result c) ≡ with_apps apps c
unfolding take_counts
take_seen_there (Ok (gave.Some n)) apps c x is = refl
take_seen_there (Ok gave.Closed) apps c x is = refl
take_seen_there (Ok gave.Silent) apps c x is = refl
take_seen_there (Err short) apps c x is = absurd cc

pub Takes-there : {Own : Type 0} {Tells : Type 0} {notes : List Note} {running : List ℕ} {apps : AppCounts} {inside : List Bool} {app : ℕ} {old new : Seen Own} {buf : List ℕ} (result : Result Taken Short)
    → Stands Tells notes running apps inside old → slice_get inside app ≡ Some true → Takes Tells app old new result buf → Tried Tells result (seen_with notes apps old) (seen_with notes apps new)
unfolding seen_with take_counts
Takes-there {notes = notes} {apps = apps} {app = app} {old = old} {new = new} {buf = buf} (Ok taken) stands is call = record {
  given = call.given;
  none_fell = NoneFell-apps apps old.counts new.counts call.none_fell;
  told = λ told. (
    same_history notes apps old new (take_steps app (Ok taken) buf) (stands.grows told) (take_apps app (Ok taken) buf) (call.told told).history,
    λ shown. subst (λ (c : Counts). AreCounts old.given.declared c (with_apps apps new.counts)) (take_seen_there (Ok taken) apps old.counts taken refl)
        (there_counts old.given.declared apps (not (is_running app (state old))) (take_counts (Ok taken) old.counts) new.counts (ap not (stands.runs told app is)) ((call.told told).counts shown)),
  );
}
Takes-there {notes = notes} {apps = apps} {app = app} {old = old} {new = new} {buf = buf} (Err short) stands is call = record {
  given = call.given;
  none_fell = NoneFell-apps apps old.counts new.counts call.none_fell;
  short = total-Rose old.counts.shorts new.counts.shorts apps.shorts (call.short refl);
  told = λ told. (
    same_history notes apps old new (take_steps app (Err short) buf) (stands.grows told) (take_apps app (Err short) buf) (call.told told).history,
    λ shown. subst (λ (c : Counts). AreCounts old.given.declared c (with_apps apps new.counts)) (short-apps apps old.counts)
        (there_counts old.given.declared apps (not (is_running app (state old))) (take_counts (Err short) old.counts) new.counts (ap not (stands.runs told app is)) ((call.told told).counts shown)),
  );
}

pub Takes-stands_there : {Own : Type 0} {Tells : Type 0} {notes : List Note} {running : List ℕ} {apps : AppCounts} {inside : List Bool} {app : ℕ} {old new : Seen Own} {buf : List ℕ} (result : Result Taken Short)
    → Stands Tells notes running apps inside old → Takes Tells app old new result buf → Stands Tells notes running apps inside new
Takes-stands_there {notes = notes} {running = running} {apps = apps} {inside = inside} {app = app} {old = old} {new = new} {buf = buf} result stands call =
    Stands-there notes running apps inside inside old new stands call.given
    (λ told. (take_steps app result buf, take_apps app result buf, (call.told told).history))
    (λ told other is.
    ap (is_running other) (state-append old new (take_steps app result buf) call.given (call.told told).history)
    ∙ ap (is_among other) (take_runs app result buf (state old).running (state old) refl)
    ∙ stands.runs told other is)

-- ---- An end

other_runs : (other app : ℕ) (running : List ℕ) → (other == app) ≡ false → is_among other running ≡ true → is_among other (running_without app running) ≡ true
other_runs other app [] differ is = is
other_runs other app (a ∷ rest) differ is =
    elim (cases_Bool (a == app)) [
      | inl here ↦ rw here (elim (cases_Bool (a == other)) [
        | inl same ↦ absurd (false≢true (sym differ ∙ eq-eqb other app (sym (eqb-true a other same) ∙ eqb-true a app here)))
        | inr not_same ↦ other_runs other app rest differ (rw not_same at is)
      ])
      | inr kept ↦ rw kept (elim (cases_Bool (a == other)) [
        | inl same ↦ rw same refl
        | inr not_same ↦ rw not_same (other_runs other app rest differ (rw not_same at is))
      ])
    ]

pub none_runs : (app : ℕ) (running : List ℕ) → is_among app (running_without app running) ≡ false
none_runs app [] = refl
none_runs app (a ∷ rest) =
    elim (cases_Bool (a == app)) [
      | inl here ↦ rw here (none_runs app rest)
      | inr kept ↦ rw kept (rw kept (none_runs app rest))
    ]

ended_running : {Own Tells : Type 0} (app : ℕ) (old new : Seen Own) → Tells → Ends Tells app old new → (state new).running ≡ running_without app (state old).running
ended_running app old new told call = ap (λ (s : State). s.running) (Ends-state told call) ∙ end_runs app (state old).running (state old) refl

-- none but the one that was ended is said to run no more
pub record LeftOut (app : ℕ) (inside inside_then : List Bool) : Type 0 where
  pub here : slice_get inside_then app ≢ Some true
  pub others : (i : ℕ) → i ≢ app → slice_get inside_then i ≡ slice_get inside i

pub Ends-there : {Own : Type 0} {Tells : Type 0} {notes : List Note} {running : List ℕ} {apps : AppCounts} {inside : List Bool} {app : ℕ} {old new : Seen Own}
    → Stands Tells notes running apps inside old → Ends Tells app old new → Still Tells (seen_with notes apps old) (seen_with notes apps new)
unfolding seen_with
Ends-there {notes = notes} {apps = apps} {app = app} {old = old} {new = new} stands call = record {
  given = call.given;
  none_fell = NoneFell-apps apps old.counts new.counts call.none_fell;
  told = λ told. (
    same_history notes apps old new (end_steps app (is_running app (state old))) (stands.grows told) (end_apps app (is_running app (state old))) (call.told told).history,
    λ shown. AreCounts-apps old.given.declared apps old.counts new.counts ((call.told told).counts shown),
  );
}

pub Ends-stands_there : {Own : Type 0} {Tells : Type 0} {notes : List Note} {running : List ℕ} {apps : AppCounts} {inside inside_then : List Bool} {app : ℕ} {old new : Seen Own}
    → Stands Tells notes running apps inside old → LeftOut app inside inside_then → Ends Tells app old new → Stands Tells notes running apps inside_then new
Ends-stands_there {notes = notes} {running = running} {apps = apps} {inside = inside} {inside_then = inside_then} {app = app} {old = old} {new = new} stands left call =
    Stands-there notes running apps inside inside_then old new stands call.given
    (λ told. (end_steps app (is_running app (state old)), end_apps app (is_running app (state old)), (call.told told).history))
    (λ told other is. elim (cases_eq other app) [
      | inl same ↦ absurd (left.here (subst (λ (n : ℕ). slice_get inside_then n ≡ Some true) same is))
      | inr differ ↦ ap (is_among other) (ended_running app old new told call)
          ∙ other_runs other app (state old).running (ne_eqb other app differ) (stands.runs told other (sym (left.others other differ) ∙ is))
    ])

-- ---- A start

front_runs : (other app : ℕ) (running : List ℕ) → is_among other running ≡ true → is_among other (running ++ app ∷ []) ≡ true
front_runs other app [] is = absurd (false≢true is)
front_runs other app (a ∷ rest) is =
    elim (cases_Bool (a == other)) [
      | inl same ↦ rw same refl
      | inr differ ↦ rw differ (front_runs other app rest (rw differ at is))
    ]

last_runs : (app : ℕ) (running : List ℕ) → is_among app (running ++ app ∷ []) ≡ true
last_runs app [] = rw (eq-eqb app app refl) refl
last_runs app (a ∷ rest) =
    elim (cases_Bool (a == app)) [
      | inl same ↦ rw same refl
      | inr differ ↦ rw differ (last_runs app rest)
    ]

start_there : {Own : Type 0} {Tells : Type 0} {notes : List Note} {running : List ℕ} {apps : AppCounts} {inside : List Bool} {app : ℕ} {old new : Seen Own} (result : Result Bool Short)
    → Stands Tells notes running apps inside old → (Tells → is_running app (state old) ≡ false) → Starts Tells app old new (start_answer result) → Tried Tells result (seen_with notes apps old) (seen_with notes apps new)
unfolding seen_with start_counts
start_there {notes = notes} {apps = apps} {app = app} {old = old} {new = new} (Ok true) stands none call = record {
  given = call.given;
  none_fell = NoneFell-apps apps old.counts new.counts call.none_fell;
  told = λ told. (
    same_history notes apps old new (start_steps app (start_answer (Ok true))) (stands.grows told) (start_apps app (start_answer (Ok true))) (call.told told).history,
    λ shown. there_counts old.given.declared apps (is_running app (state old)) (start_counts (start_answer (Ok true)) old.counts) new.counts (none told) ((call.told told).counts shown),
  );
}
start_there {notes = notes} {apps = apps} {app = app} {old = old} {new = new} (Ok false) stands none call = record {
  given = call.given;
  none_fell = NoneFell-apps apps old.counts new.counts call.none_fell;
  told = λ told. (
    same_history notes apps old new (start_steps app (start_answer (Ok false))) (stands.grows told) (start_apps app (start_answer (Ok false))) (call.told told).history,
    λ shown. there_counts old.given.declared apps (is_running app (state old)) (start_counts (start_answer (Ok false)) old.counts) new.counts (none told) ((call.told told).counts shown),
  );
}
start_there {notes = notes} {apps = apps} {app = app} {old = old} {new = new} (Err short) stands none call = record {
  given = call.given;
  none_fell = NoneFell-apps apps old.counts new.counts call.none_fell;
  short = total-Rose old.counts.shorts new.counts.shorts apps.shorts (call.short refl);
  told = λ told. (
    same_history notes apps old new (start_steps app (start_answer (Err short))) (stands.grows told) (start_apps app (start_answer (Err short))) (call.told told).history,
    λ shown. subst (λ (c : Counts). AreCounts old.given.declared c (with_apps apps new.counts)) (short-apps apps old.counts)
        (there_counts old.given.declared apps (is_running app (state old)) (start_counts (start_answer (Err short)) old.counts) new.counts (none told) ((call.told told).counts shown)),
  );
}

-- it was started
abbrev pub was_started : Result Bool Short → Bool
was_started (Ok started) = started
was_started (Err short) = false

-- the one that was started is said to run, and no other is said otherwise
pub record LeftIn (app : ℕ) (result : Result Bool Short) (inside inside_then : List Bool) : Type 0 where
  pub here : slice_get inside_then app ≡ Some (was_started result)
  pub others : (i : ℕ) → i ≢ app → slice_get inside_then i ≡ slice_get inside i

-- An application of the other world is ended, if it runs, and started.
pub record Restarts {Own : Type 0} (Tells : Type 0) (app : ℕ) (old new : Seen Own) (result : Result Bool Short) : Type 0 where
  pub between : Seen Own
  pub ends : Ends Tells app old between
  pub starts : Starts Tells app between new (start_answer result)

started_running : {Own : Type 0} {Tells : Type 0} (app other : ℕ) (old new : Seen Own) (result : Result Bool Short) → Tells → Starts Tells app old new (start_answer result)
    → is_running other (state new) ≡ is_running other (after_steps (start_steps app (start_answer result)) (state old))
started_running app other old new result told call =
    ap (is_running other) (state-append old new (start_steps app (start_answer result)) call.given (call.told told).history)

runs_on : (other : ℕ) (app : ℕ) (s : State) (result : Result Bool Short) → is_running other s ≡ true → is_running other (after_steps (start_steps app (start_answer result)) s) ≡ true
runs_on other app s (Ok true) is = ap (is_among other) (start_runs app (start_answer (Ok true)) s.running s refl) ∙ front_runs other app s.running is
runs_on other app s (Ok false) is = ap (is_among other) (start_runs app (start_answer (Ok false)) s.running s refl) ∙ is
runs_on other app s (Err short) is = ap (is_among other) (start_runs app (start_answer (Err short)) s.running s refl) ∙ is

runs_then : (app : ℕ) (s : State) (result : Result Bool Short) → was_started result ≡ true → is_running app (after_steps (start_steps app (start_answer result)) s) ≡ true
runs_then app s (Ok true) is = ap (is_among app) (start_runs app (start_answer (Ok true)) s.running s refl) ∙ last_runs app s.running
runs_then app s (Ok false) is = absurd (false≢true is)
runs_then app s (Err short) is = absurd (false≢true is)

-- between the end and the start nothing is said to run
stands_between : {Own : Type 0} {Tells : Type 0} (notes : List Note) (running : List ℕ) (apps : AppCounts) (inside : List Bool) (app : ℕ) (old new : Seen Own) → Stands Tells notes running apps inside old
    → Ends Tells app old new → Stands Tells notes running apps [] new
stands_between notes running apps inside app old new stands call =
    Stands-there notes running apps inside [] old new stands call.given
    (λ told. (end_steps app (is_running app (state old)), end_apps app (is_running app (state old)), (call.told told).history))
    (λ told other is. absurd cc)

pub Restarts-there : {Own : Type 0} {Tells : Type 0} {notes : List Note} {running : List ℕ} {apps : AppCounts} {inside : List Bool} {app : ℕ} {old new : Seen Own} (result : Result Bool Short)
    → Stands Tells notes running apps inside old → Restarts Tells app old new result → Tried Tells result (seen_with notes apps old) (seen_with notes apps new)
Restarts-there {notes = notes} {running = running} {apps = apps} {inside = inside} {app = app} {old = old} {new = new} result stands call =
    tried_behind _ _ _ result (Ends-there stands call.ends)
    (start_there result (stands_between notes running apps inside app old call.between stands call.ends)
    (λ told. ap (is_among app) (ended_running app old call.between told call.ends) ∙ none_runs app (state old).running) call.starts)

pub Restarts-stands_there : {Own : Type 0} {Tells : Type 0} {notes : List Note} {running : List ℕ} {apps : AppCounts} {inside inside_then : List Bool} {app : ℕ} {old new : Seen Own} (result : Result Bool Short)
    → Stands Tells notes running apps inside old → LeftIn app result inside inside_then → Restarts Tells app old new result → Stands Tells notes running apps inside_then new
Restarts-stands_there {notes = notes} {running = running} {apps = apps} {inside = inside} {inside_then = inside_then} {app = app} {old = old} {new = new} result stands left call =
    let between = call.between in
    Stands-there notes running apps [] inside_then between new (stands_between notes running apps inside app old between stands call.ends) call.starts.given
    (λ told. (start_steps app (start_answer result), start_apps app (start_answer result), (call.starts.told told).history))
    (λ told other is. elim (cases_eq other app) [
      | inl same ↦
          let started : was_started result ≡ true = same_Some (was_started result) true (sym left.here ∙ subst (λ (n : ℕ). slice_get inside_then n ≡ Some true) same is) in
          subst (λ (n : ℕ). is_running n (state new) ≡ true) (sym same)
          (started_running app app between new result told call.starts ∙ runs_then app (state between) result started)
      | inr differ ↦
          started_running app other between new result told call.starts
          ∙ runs_on other app (state between) result (ap (is_among other) (ended_running app old between told call.ends)
          ∙ other_runs other app (state old).running (ne_eqb other app differ) (stands.runs told other (sym (left.others other differ) ∙ is)))
    ])

-- ---- The world as data

-- the other world moved, and which of its applications are said to run
abbrev pub MovedThere : {W : Type 0} → Linkage W → Linkage W → Type 0
MovedThere old new = new ≡ (record old { links = new.links; inside = new.inside })

pub gives_there : {Own W : Type 0} {Tells : Type 0} (see : W → Seen Own) (app : ℕ) (bytes : List ℕ) (old new : Linkage W) (result : Result Bool Short) → IsLinkage Tells see old → slice_get old.inside app ≡ Some true
    → LinksMoved old new → Gives Tells app bytes (see old.links) (see new.links) (give_answer result) → Tried Tells result (seen_of see old) (seen_of see new)
unfolding seen_of
gives_there {Tells = Tells} see app bytes old new result is runs moved call =
    subst (λ (d : Linkage _). Tried Tells result (seen_of see old) (seen_of see d)) (sym moved) (Gives-there result is runs call)

pub gives_stands_there : {Own W : Type 0} {Tells : Type 0} (see : W → Seen Own) (app : ℕ) (bytes : List ℕ) (old new : Linkage W) (result : Result Bool Short) → IsLinkage Tells see old
    → LinksMoved old new → Gives Tells app bytes (see old.links) (see new.links) (give_answer result) → IsLinkage Tells see new
gives_stands_there {Tells = Tells} see app bytes old new result is moved call = subst (IsLinkage Tells see) (sym moved) (Gives-stands_there result is call)

pub takes_there : {Own W : Type 0} {Tells : Type 0} (see : W → Seen Own) (app : ℕ) (old new : Linkage W) (result : Result Taken Short) (buf : List ℕ) → IsLinkage Tells see old → slice_get old.inside app ≡ Some true
    → LinksMoved old new → Takes Tells app (see old.links) (see new.links) result buf → Tried Tells result (seen_of see old) (seen_of see new)
unfolding seen_of
takes_there {Tells = Tells} see app old new result buf is runs moved call =
    subst (λ (d : Linkage _). Tried Tells result (seen_of see old) (seen_of see d)) (sym moved) (Takes-there result is runs call)

pub takes_stands_there : {Own W : Type 0} {Tells : Type 0} (see : W → Seen Own) (app : ℕ) (old new : Linkage W) (result : Result Taken Short) (buf : List ℕ) → IsLinkage Tells see old
    → LinksMoved old new → Takes Tells app (see old.links) (see new.links) result buf → IsLinkage Tells see new
takes_stands_there {Tells = Tells} see app old new result buf is moved call = subst (IsLinkage Tells see) (sym moved) (Takes-stands_there result is call)

pub ends_there : {Own W : Type 0} {Tells : Type 0} (see : W → Seen Own) (app : ℕ) (old new : Linkage W) → IsLinkage Tells see old
    → MovedThere old new → Ends Tells app (see old.links) (see new.links) → Still Tells (seen_of see old) (seen_of see new)
unfolding seen_of
ends_there {Tells = Tells} see app old new is moved call =
    subst (λ (d : Linkage _). Still Tells (seen_of see old) (seen_of see d)) (sym moved) (Ends-there is call)

pub ends_stands_there : {Own W : Type 0} {Tells : Type 0} (see : W → Seen Own) (app : ℕ) (old new : Linkage W) → IsLinkage Tells see old
    → MovedThere old new → LeftOut app old.inside new.inside → Ends Tells app (see old.links) (see new.links) → IsLinkage Tells see new
ends_stands_there {Tells = Tells} see app old new is moved left call = subst (IsLinkage Tells see) (sym moved) (Ends-stands_there is left call)

pub restarts_there : {Own W : Type 0} {Tells : Type 0} (see : W → Seen Own) (app : ℕ) (old new : Linkage W) (result : Result Bool Short) → IsLinkage Tells see old
    → MovedThere old new → Restarts Tells app (see old.links) (see new.links) result → Tried Tells result (seen_of see old) (seen_of see new)
unfolding seen_of
restarts_there {Tells = Tells} see app old new result is moved call =
    subst (λ (d : Linkage _). Tried Tells result (seen_of see old) (seen_of see d)) (sym moved) (Restarts-there result is call)

pub restarts_stands_there : {Own W : Type 0} {Tells : Type 0} (see : W → Seen Own) (app : ℕ) (old new : Linkage W) (result : Result Bool Short) → IsLinkage Tells see old
    → MovedThere old new → LeftIn app result old.inside new.inside → Restarts Tells app (see old.links) (see new.links) result → IsLinkage Tells see new
restarts_stands_there {Tells = Tells} see app old new result is moved left call = subst (IsLinkage Tells see) (sym moved) (Restarts-stands_there result is left call)

-- ---- Want of memory

-- it is counted here
abbrev pub Wanted : {W : Type 0} → Linkage W → Linkage W → Type 0
Wanted old new = new ≡ (record old { counts = stray_count false (short_count old.counts) })

pub shorted_by : {Own W : Type 0} {Tells : Type 0} (see : W → Seen Own) (old new : Linkage W) → IsLinkage Tells see old → Wanted old new → Shorted Tells (seen_of see old) (seen_of see new)
unfolding seen_of seen_with
shorted_by {Tells = Tells} see old new is wanted =
    let inner = (see old.links).counts in
    subst (λ (d : Linkage _). Shorted Tells (seen_of see old) (seen_of see d)) (sym wanted) (record {
      given = refl;
      none_fell = NoneFell-own old.counts (short_count old.counts) inner (short_fell old.counts is.fit);
      short = total-Rose_own inner.shorts old.counts.shorts (raised old.counts.shorts) (rises old.counts.shorts is.fit.shorts);
      told = λ told. (refl, λ shown. AreCounts-same _ _ _ (short_seen old.counts inner));
    })

pub shorted_stands : {Own W : Type 0} {Tells : Type 0} (see : W → Seen Own) (old new : Linkage W) → IsLinkage Tells see old → Wanted old new → IsLinkage Tells see new
unfolding state seen_with
shorted_stands {Tells = Tells} see old new is wanted =
    subst (IsLinkage Tells see) (sym wanted) (record {
      grows = is.grows;
      run = is.run;
      fit = short_fit old.counts is.fit;
      runs = is.runs;
    })
