-- What each call of a simulated world does is what such a call of any world does.
use Rattle.std.specs.Prelude.{◌≡◌, ◌==◌, ℕ, ◌+◌, ◌≤◌, ◌++◌, filter, length, Bool, true, false, not, ◌||◌, List, [], ◌∷◌, map, if◌then◌else◌, None, Result, Ok, Err, IsErr, IsErrOf, refl}
use Rattle.std.specs.List.{list_any}
use Rattle.std.proofs.Common.{sym, ap, ◌∙◌, subst, arith}
use Rattle.std.proofs.lemmas.List.{append-nil}
use Rattle.of_types.specs.declared.journal.TookWhat.{TookWhat}
use Rattle.of_types.specs.declared.journal.TookWhat.TheVariants as took
use Rattle.std.proofs.lemmas.Bool.{false≢true, and_parts, or_parts, not-true}
use Rattle.lego_io.specs.Count.{Rose}
use Rattle.flow_table.specs.Switch.{Declared}
use Rattle.outside.specs.declared.faults.Short.{Short}
use Rattle.outside.specs.declared.faults.OpenFault.{OpenFault}
use Rattle.outside.specs.declared.faults.OpenFault.TheVariants as opening
use Rattle.outside.specs.declared.faults.NextFault.{NextFault}
use Rattle.outside.specs.declared.faults.NextFault.TheVariants as coming
use Rattle.outside.specs.declared.faults.StartFault.{StartFault}
use Rattle.outside.specs.declared.faults.StartFault.TheVariants as starting
use Rattle.outside.specs.declared.faults.GiveFault.{GiveFault}
use Rattle.outside.specs.declared.faults.GiveFault.TheVariants as giving
use Rattle.outside.specs.declared.faults.LinkFault.{LinkFault}
use Rattle.outside.specs.declared.faults.LinkFault.TheVariants as linking
use Rattle.outside.specs.declared.item.Item.{Item}
use Rattle.outside.specs.declared.item.Taken.{Taken}
use Rattle.outside.specs.declared.item.Taken.TheVariants as gave
use Rattle.outside.specs.declared.step.WorldStep.{WorldStep}
use Rattle.outside.specs.Seen.{AreCounts, is_declared, with_stray}
use Rattle.outside.specs.State.{Link, State, state, but_marks, after_steps, is_running, is_joined, link_of, switch_of, waits_of, upcoming}
use Rattle.outside.specs.Calls.{Opens, Nexts, Starts, Gives, Takes, Ends, Sends, Receives, open_counts, next_counts, start_counts, give_counts, take_counts, link_counts, end_steps, stim_steps, send_steps, receive_steps, can_receive, IsIdle, IsOver}
use Rattle.outside.specs.declared.call.FailCall.{FailCall}
use Rattle.sim_world.specs.Scripts.{Scripts, Life, will_start, will_give, next_taken, take_fault}
use Rattle.sim_world.specs.Lives.{took_of}
use Rattle.sim_world.specs.Tally.{TallyState, CountsFor, counts_of, tally_stray}
use Rattle.sim_world.specs.laws.TallyLaws.{Counted, counts-none, counts-shut, counts-next_fault, counts-start_failed, counts-closing, counts-silence, counts-short, counts-short_of, counts-fault_of, counted-none, counted-shut, counted-next_fault, counted-start_failed, counted-closing, counted-silence, counted-short, counted-short_of, counted-fault_of, rose-raised, rose-fault_of, rose-short_of}
use Rattle.sim_world.specs.World.{WorldData, all_declared, given_of, seen_of, Stands, Moves}
use Rattle.sim_world.specs.laws.WorldLaws.{declared_but, declared-stays, after_steps-but_marks}
use Rattle.sim_world.specs.Doing.{open_tally, next_tally, start_tally, give_tally, take_tally, link_tally, DoesOpen, DoesNext, DoesStart, DoesGive, DoesTake, DoesSend, DoesReceive}

-- ---- What was given stays

pub given-stays : (old new : WorldData) (steps : List WorldStep) (counted : TallyState) → Moves old new steps counted → given_of new ≡ given_of old
unfolding given_of
given-stays old new steps counted moves =
    let declared : all_declared new.state ≡ all_declared old.state =
    ap all_declared moves.state ∙ declared_but (after_steps steps old.state) ∙ declared-stays steps old.state in
    rw (declared, moves.scripts, moves.stimuli, moves.fails) refl

-- ---- open

pub open_counted : {T : Type 0} (declared : List Declared) (stray : Bool) (result : Result T OpenFault) (t : TallyState) → CountsFor declared t → Counted declared t (tally_stray stray (open_tally result t))
open_counted declared stray (Ok x) t for = counted-none declared stray t for
open_counted declared stray (Err opening.Shut) t for = counted-shut declared stray t for
open_counted declared stray (Err opening.Short) t for = counted-short declared stray t for

open_are : {T : Type 0} (declared : List Declared) (stray : Bool) (result : Result T OpenFault) (t : TallyState) → CountsFor declared t
    → AreCounts declared (with_stray stray (open_counts result (counts_of t))) (counts_of (tally_stray stray (open_tally result t)))
unfolding open_counts
open_are declared stray (Ok x) t for = counts-none declared stray t for
open_are declared stray (Err opening.Shut) t for = counts-shut declared stray t for
open_are declared stray (Err opening.Short) t for = counts-short declared stray t for

open_shut : {T : Type 0} (declared : List Declared) (stray : Bool) (result : Result T OpenFault) (t : TallyState) → CountsFor declared t → IsErrOf result opening.Shut
    → Rose (counts_of t).shuts (counts_of (tally_stray stray (open_tally result t))).shuts
unfolding counts_of
open_shut declared stray result t for is =
    subst (λ r. Rose (counts_of t).shuts (counts_of (tally_stray stray (open_tally r t))).shuts) (sym is) (rose-raised t.shuts for.within.shuts)

open_short : {T : Type 0} (declared : List Declared) (stray : Bool) (result : Result T OpenFault) (t : TallyState) → CountsFor declared t → IsErrOf result opening.Short
    → Rose (counts_of t).shorts (counts_of (tally_stray stray (open_tally result t))).shorts
unfolding counts_of
open_short declared stray result t for is =
    subst (λ r. Rose (counts_of t).shorts (counts_of (tally_stray stray (open_tally r t))).shorts) (sym is) (rose-raised t.shorts for.within.shorts)

pub Opens_by : {T : Type 0} (old new : WorldData) (result : Result T OpenFault) → Stands old → DoesOpen old new result → Opens (Unit {0}) (seen_of old) (seen_of new) result
unfolding seen_of given_of
Opens_by old new result stands does =
    let d = all_declared old.state in
    let stray : (state (seen_of old)).opened ≡ old.state.opened = ap (λ (s : State). s.opened) stands.state in
    record {
      given = given-stays old new _ _ does.moves;
      none_fell = rw does.moves.tally (open_counted d old.state.opened result old.tally stands.tally).none_fell;
      shut = λ is. rw does.moves.tally (open_shut d old.state.opened result old.tally stands.tally is);
      short = λ is. rw does.moves.tally (open_short d old.state.opened result old.tally stands.tally is);
      told = λ told. record {
        history = does.moves.history;
        counts = λ shown. rw (stray, does.moves.tally) (open_are d old.state.opened result old.tally stands.tally);
        out_of_place = λ shown. λ is. does.out_of_place (rw (← stray) is);
      };
    }

-- ---- next

pub next_counted : (declared : List Declared) (result : Result Item NextFault) (t : TallyState) → CountsFor declared t → Counted declared t (next_tally result t)
next_counted declared (Ok item) t for = counted-none declared false t for
next_counted declared (Err coming.Failed) t for = counted-next_fault declared t for
next_counted declared (Err coming.Short) t for = counted-short declared false t for

next_are : (declared : List Declared) (result : Result Item NextFault) (t : TallyState) → CountsFor declared t
    → AreCounts declared (next_counts result (counts_of t)) (counts_of (next_tally result t))
unfolding next_counts
next_are declared (Ok item) t for = counts-none declared false t for
next_are declared (Err coming.Failed) t for = counts-next_fault declared t for
next_are declared (Err coming.Short) t for = counts-short declared false t for

next_failed : (result : Result Item NextFault) (declared : List Declared) (t : TallyState) → CountsFor declared t → IsErrOf result coming.Failed
    → Rose (counts_of t).next_faults (counts_of (next_tally result t)).next_faults
unfolding counts_of
next_failed result declared t for is =
    subst (λ r. Rose (counts_of t).next_faults (counts_of (next_tally r t)).next_faults) (sym is) (rose-raised t.next_faults for.within.next_faults)

next_short : (result : Result Item NextFault) (declared : List Declared) (t : TallyState) → CountsFor declared t → IsErrOf result coming.Short
    → Rose (counts_of t).shorts (counts_of (next_tally result t)).shorts
unfolding counts_of
next_short result declared t for is =
    subst (λ r. Rose (counts_of t).shorts (counts_of (next_tally r t)).shorts) (sym is) (rose-raised t.shorts for.within.shorts)

-- what is upcoming, and whether a stimulus is begun, do not hang on marks
idle_same : (steps : List WorldStep) (s t : State) → but_marks s ≡ but_marks t → IsIdle (after_steps steps s) ≡ IsIdle (after_steps steps t)
unfolding upcoming
idle_same steps s t same =
    ap (λ (x : State). IsIdle x) (after_steps-but_marks steps s ∙ ap (λ (x : State). but_marks (after_steps steps x)) same ∙ sym (after_steps-but_marks steps t))

over_same : (steps : List WorldStep) (s t : State) → but_marks s ≡ but_marks t → IsOver (after_steps steps s) ≡ IsOver (after_steps steps t)
over_same steps s t same =
    ap (λ (x : State). IsOver x) (after_steps-but_marks steps s ∙ ap (λ (x : State). but_marks (after_steps steps x)) same ∙ sym (after_steps-but_marks steps t))

pub Nexts_by : (old new : WorldData) (result : Result Item NextFault) (buf : List ℕ) → Stands old → DoesNext old new result buf → Nexts (Unit {0}) (seen_of old) (seen_of new) result buf
unfolding seen_of given_of
Nexts_by old new result buf stands does =
    let d = all_declared old.state in
    let same : but_marks (state (seen_of old)) ≡ but_marks old.state = ap but_marks stands.state in
    record {
      given = given-stays old new _ _ does.moves;
      none_fell = rw does.moves.tally (next_counted d result old.tally stands.tally).none_fell;
      item = does.item;
      failed = λ is. rw does.moves.tally (next_failed result d old.tally stands.tally is);
      short = λ is. rw does.moves.tally (next_short result d old.tally stands.tally is);
      told = λ told. record {
        begun = does.begun;
        to_come = λ shown. rw (ap (λ (s : State). s.to_come) stands.state) does.to_come;
        history = does.moves.history;
        counts = λ shown. rw does.moves.tally (next_are d result old.tally stands.tally);
        idle = λ shown. rw (idle_same (stim_steps does.begun) (state (seen_of old)) old.state same) does.idle;
        over = λ shown. rw (over_same (stim_steps does.begun) (state (seen_of old)) old.state same) does.over;
      };
    }

-- ---- start

pub start_counted : {T : Type 0} (declared : List Declared) (stray : Bool) (result : Result T StartFault) (t : TallyState) → CountsFor declared t → Counted declared t (tally_stray stray (start_tally result t))
start_counted declared stray (Ok x) t for = counted-none declared stray t for
start_counted declared stray (Err starting.NotStarted) t for = counted-start_failed declared stray t for
start_counted declared stray (Err starting.Short) t for = counted-short declared stray t for

start_are : {T : Type 0} (declared : List Declared) (stray : Bool) (result : Result T StartFault) (t : TallyState) → CountsFor declared t
    → AreCounts declared (with_stray stray (start_counts result (counts_of t))) (counts_of (tally_stray stray (start_tally result t)))
unfolding start_counts
start_are declared stray (Ok x) t for = counts-none declared stray t for
start_are declared stray (Err starting.NotStarted) t for = counts-start_failed declared stray t for
start_are declared stray (Err starting.Short) t for = counts-short declared stray t for

start_not : {T : Type 0} (declared : List Declared) (stray : Bool) (result : Result T StartFault) (t : TallyState) → CountsFor declared t → IsErrOf result starting.NotStarted
    → Rose ((counts_of t).starts_failed) ((counts_of (tally_stray stray (start_tally result t))).starts_failed)
unfolding counts_of
start_not declared stray result t for is =
    subst (λ r. Rose ((counts_of t).starts_failed) ((counts_of (tally_stray stray (start_tally r t))).starts_failed)) (sym is) (rose-raised t.starts_failed for.within.starts_failed)

start_short : {T : Type 0} (declared : List Declared) (stray : Bool) (result : Result T StartFault) (t : TallyState) → CountsFor declared t → IsErrOf result starting.Short
    → Rose ((counts_of t).shorts) ((counts_of (tally_stray stray (start_tally result t))).shorts)
unfolding counts_of
start_short declared stray result t for is =
    subst (λ r. Rose ((counts_of t).shorts) ((counts_of (tally_stray stray (start_tally r t))).shorts)) (sym is) (rose-raised t.shorts for.within.shorts)

pub Starts_by : {T : Type 0} (app : ℕ) (old new : WorldData) (result : Result T StartFault) → Stands old → DoesStart app old new result → Starts (Unit {0}) app (seen_of old) (seen_of new) result
unfolding seen_of given_of
Starts_by app old new result stands does =
    let d = all_declared old.state in
    let runs : is_running app (state (seen_of old)) ≡ is_running app old.state = ap (λ (s : State). is_running app s) stands.state in
    record {
      given = given-stays old new _ _ does.moves;
      none_fell = rw does.moves.tally (start_counted d (is_running app old.state) result old.tally stands.tally).none_fell;
      not_started = λ is. rw does.moves.tally (start_not d (is_running app old.state) result old.tally stands.tally is);
      short = λ is. rw does.moves.tally (start_short d (is_running app old.state) result old.tally stands.tally is);
      told = λ told. record {
        history = does.moves.history;
        counts = λ shown. rw (runs, does.moves.tally) (start_are d (is_running app old.state) result old.tally stands.tally);
        out_of_place = λ shown. λ is. does.out_of_place (rw (← runs) is);
      };
    }

-- ---- give

pub give_counted : {T : Type 0} (declared : List Declared) (stray : Bool) (result : Result T GiveFault) (t : TallyState) → CountsFor declared t → Counted declared t (tally_stray stray (give_tally result t))
give_counted declared stray (Ok x) t for = counted-none declared stray t for
give_counted declared stray (Err giving.Gone) t for = counted-closing declared stray t for
give_counted declared stray (Err giving.Short) t for = counted-short declared stray t for

give_are : {T : Type 0} (declared : List Declared) (stray : Bool) (result : Result T GiveFault) (t : TallyState) → CountsFor declared t
    → AreCounts declared (with_stray stray (give_counts result (counts_of t))) (counts_of (tally_stray stray (give_tally result t)))
unfolding give_counts
give_are declared stray (Ok x) t for = counts-none declared stray t for
give_are declared stray (Err giving.Gone) t for = counts-closing declared stray t for
give_are declared stray (Err giving.Short) t for = counts-short declared stray t for

give_gone : {T : Type 0} (declared : List Declared) (stray : Bool) (result : Result T GiveFault) (t : TallyState) → CountsFor declared t → IsErrOf result giving.Gone
    → Rose ((counts_of t).closings) ((counts_of (tally_stray stray (give_tally result t))).closings)
unfolding counts_of
give_gone declared stray result t for is =
    subst (λ r. Rose ((counts_of t).closings) ((counts_of (tally_stray stray (give_tally r t))).closings)) (sym is) (rose-raised t.closings for.within.closings)

give_short : {T : Type 0} (declared : List Declared) (stray : Bool) (result : Result T GiveFault) (t : TallyState) → CountsFor declared t → IsErrOf result giving.Short
    → Rose ((counts_of t).shorts) ((counts_of (tally_stray stray (give_tally result t))).shorts)
unfolding counts_of
give_short declared stray result t for is =
    subst (λ r. Rose ((counts_of t).shorts) ((counts_of (tally_stray stray (give_tally r t))).shorts)) (sym is) (rose-raised t.shorts for.within.shorts)

pub Gives_by : {T : Type 0} (app : ℕ) (bytes : List ℕ) (old new : WorldData) (result : Result T GiveFault) → Stands old → DoesGive app bytes old new result → Gives (Unit {0}) app bytes (seen_of old) (seen_of new) result
unfolding seen_of given_of
Gives_by app bytes old new result stands does =
    let d = all_declared old.state in
    let runs : is_running app (state (seen_of old)) ≡ is_running app old.state = ap (λ (s : State). is_running app s) stands.state in
    record {
      given = given-stays old new _ _ does.moves;
      none_fell = rw does.moves.tally (give_counted d (not (is_running app old.state)) result old.tally stands.tally).none_fell;
      gone = λ is. rw does.moves.tally (give_gone d (not (is_running app old.state)) result old.tally stands.tally is);
      short = λ is. rw does.moves.tally (give_short d (not (is_running app old.state)) result old.tally stands.tally is);
      told = λ told. record {
        history = does.moves.history;
        counts = λ shown. rw (runs, does.moves.tally) (give_are d (not (is_running app old.state)) result old.tally stands.tally);
        out_of_place = λ shown. λ is. does.out_of_place (rw (← runs) is);
      };
    }

-- ---- take

pub take_counted : (declared : List Declared) (stray : Bool) (result : Result Taken Short) (t : TallyState) → CountsFor declared t → Counted declared t (tally_stray stray (take_tally result t))
take_counted declared stray (Ok (gave.Some n)) t for = counted-none declared stray t for
take_counted declared stray (Ok gave.Closed) t for = counted-closing declared stray t for
take_counted declared stray (Ok gave.Silent) t for = counted-silence declared stray t for
take_counted declared stray (Err short) t for = counted-short declared stray t for

take_are : (declared : List Declared) (stray : Bool) (result : Result Taken Short) (t : TallyState) → CountsFor declared t
    → AreCounts declared (with_stray stray (take_counts result (counts_of t))) (counts_of (tally_stray stray (take_tally result t)))
unfolding take_counts
take_are declared stray (Ok (gave.Some n)) t for = counts-none declared stray t for
take_are declared stray (Ok gave.Closed) t for = counts-closing declared stray t for
take_are declared stray (Ok gave.Silent) t for = counts-silence declared stray t for
take_are declared stray (Err short) t for = counts-short declared stray t for

take_closed : (declared : List Declared) (stray : Bool) (result : Result Taken Short) (t : TallyState) → CountsFor declared t → (result ≡ Ok gave.Closed)
    → Rose ((counts_of t).closings) ((counts_of (tally_stray stray (take_tally result t))).closings)
unfolding counts_of
take_closed declared stray result t for is =
    subst (λ r. Rose ((counts_of t).closings) ((counts_of (tally_stray stray (take_tally r t))).closings)) (sym is) (rose-raised t.closings for.within.closings)

take_silent : (declared : List Declared) (stray : Bool) (result : Result Taken Short) (t : TallyState) → CountsFor declared t → (result ≡ Ok gave.Silent)
    → Rose ((counts_of t).silences) ((counts_of (tally_stray stray (take_tally result t))).silences)
unfolding counts_of
take_silent declared stray result t for is =
    subst (λ r. Rose ((counts_of t).silences) ((counts_of (tally_stray stray (take_tally r t))).silences)) (sym is) (rose-raised t.silences for.within.silences)

take_short : (declared : List Declared) (stray : Bool) (result : Result Taken Short) (t : TallyState) → CountsFor declared t → IsErr result
    → Rose ((counts_of t).shorts) ((counts_of (tally_stray stray (take_tally result t))).shorts)
unfolding counts_of
take_short declared stray (Ok what) t for is = absurd (false≢true is)
take_short declared stray (Err short) t for is = rose-raised t.shorts for.within.shorts

pub Takes_by : (app : ℕ) (old new : WorldData) (result : Result Taken Short) (buf : List ℕ) → Stands old → DoesTake app old new result buf → Takes (Unit {0}) app (seen_of old) (seen_of new) result buf
unfolding seen_of given_of
Takes_by app old new result buf stands does =
    let d = all_declared old.state in
    let runs : is_running app (state (seen_of old)) ≡ is_running app old.state = ap (λ (s : State). is_running app s) stands.state in
    record {
      given = given-stays old new _ _ does.moves;
      none_fell = rw does.moves.tally (take_counted d (not (is_running app old.state)) result old.tally stands.tally).none_fell;
      taken = does.taken;
      closed = λ is. rw does.moves.tally (take_closed d (not (is_running app old.state)) result old.tally stands.tally is);
      silent = λ is. rw does.moves.tally (take_silent d (not (is_running app old.state)) result old.tally stands.tally is);
      short = λ is. rw does.moves.tally (take_short d (not (is_running app old.state)) result old.tally stands.tally is);
      told = λ told. record {
        history = does.moves.history;
        counts = λ shown. rw (runs, does.moves.tally) (take_are d (not (is_running app old.state)) result old.tally stands.tally);
        out_of_place = λ shown. λ is. does.out_of_place (rw (← runs) is);
      };
    }

-- ---- end

pub Ends_by : (app : ℕ) (old new : WorldData) → Stands old → Moves old new (end_steps app (is_running app old.state)) old.tally → Ends (Unit {0}) app (seen_of old) (seen_of new)
unfolding seen_of given_of
Ends_by app old new stands moves =
    let d = all_declared old.state in
    let runs : is_running app (state (seen_of old)) ≡ is_running app old.state = ap (λ (s : State). is_running app s) stands.state in
    record {
      given = given-stays old new _ _ moves;
      none_fell = rw moves.tally (counted-none d false old.tally stands.tally).none_fell;
      told = λ told. record {
        history = rw runs moves.history;
        counts = λ shown. rw moves.tally (counts-none d false old.tally stands.tally);
      };
    }

-- ---- link

pub link_counted : {T : Type 0} (declared : List Declared) (stray : Bool) (d : ℕ) (result : Result T LinkFault) (t : TallyState) → CountsFor declared t → Counted declared t (tally_stray stray (link_tally d result t))
link_counted declared stray d (Ok x) t for = counted-none declared stray t for
link_counted declared stray d (Err linking.Failed) t for = counted-fault_of declared stray d t for
link_counted declared stray d (Err linking.Short) t for = counted-short_of declared stray d t for

link_are : {T : Type 0} (declared : List Declared) (stray : Bool) (d : ℕ) (result : Result T LinkFault) (t : TallyState) → CountsFor declared t
    → AreCounts declared (with_stray stray (link_counts d result (counts_of t))) (counts_of (tally_stray stray (link_tally d result t)))
unfolding link_counts
link_are declared stray d (Ok x) t for = counts-none declared stray t for
link_are declared stray d (Err linking.Failed) t for = counts-fault_of declared stray d t for
link_are declared stray d (Err linking.Short) t for = counts-short_of declared stray d t for

link_failed : {T : Type 0} (declared : List Declared) (stray : Bool) (d : ℕ) (result : Result T LinkFault) (t : TallyState) → CountsFor declared t → (is_declared d declared ≡ false → stray ≡ true) → IsErrOf result linking.Failed
    → Rose ((counts_of t).link_faults d) ((counts_of (tally_stray stray (link_tally d result t))).link_faults d)
unfolding counts_of
link_failed declared stray d result t for out is =
    subst (λ r. Rose ((counts_of t).link_faults d) ((counts_of (tally_stray stray (link_tally d r t))).link_faults d)) (sym is) (rose-fault_of declared stray d t for out)

link_short : {T : Type 0} (declared : List Declared) (stray : Bool) (d : ℕ) (result : Result T LinkFault) (t : TallyState) → CountsFor declared t → IsErrOf result linking.Short
    → Rose ((counts_of t).shorts) ((counts_of (tally_stray stray (link_tally d result t))).shorts)
unfolding counts_of
link_short declared stray d result t for is =
    subst (λ r. Rose ((counts_of t).shorts) ((counts_of (tally_stray stray (link_tally d r t))).shorts)) (sym is) (rose-raised t.shorts for.within.shorts)

link_short_of : {T : Type 0} (declared : List Declared) (stray : Bool) (d : ℕ) (result : Result T LinkFault) (t : TallyState) → CountsFor declared t → IsErrOf result linking.Short
    → Rose ((counts_of t).shorts_of d) ((counts_of (tally_stray stray (link_tally d result t))).shorts_of d)
unfolding counts_of
link_short_of declared stray d result t for is =
    subst (λ r. Rose ((counts_of t).shorts_of d) ((counts_of (tally_stray stray (link_tally d r t))).shorts_of d)) (sym is) (rose-short_of declared stray d t for)

-- a switch that is not declared is not joined, and no message of it waits
undeclared : (d : ℕ) (ls : List Link) → list_any (λ x. x.dpid == d) (map (λ l. l.declared) ls) ≡ false → link_of d ls ≡ None
undeclared d [] none = refl
undeclared d (l ∷ ls) none =
    let apart = or_parts (l.declared.dpid == d) _ none in
    rw apart.0 (undeclared d ls apart.1)

out_is_stray : (d : ℕ) (s : State) → is_declared d (all_declared s) ≡ false → not (is_joined d s) ≡ true
unfolding all_declared switch_of
out_is_stray d s none = rw (undeclared d s.links none) refl

none_is_stray : (d : ℕ) (s : State) → is_declared d (all_declared s) ≡ false → not (can_receive d s) ≡ true
unfolding all_declared waits_of
none_is_stray d s none = rw (undeclared d s.links none) refl

pub Sends_by : {T : Type 0} (d : ℕ) (frame : List ℕ) (old new : WorldData) (result : Result T LinkFault) → Stands old → DoesSend d frame old new result → Sends (Unit {0}) d frame (seen_of old) (seen_of new) result
unfolding seen_of given_of switch_of
Sends_by d frame old new result stands does =
    let ds = all_declared old.state in
    let stray = not (is_joined d old.state) in
    let joined : is_joined d (state (seen_of old)) ≡ is_joined d old.state = ap (λ (s : State). is_joined d s) stands.state in
    record {
      given = given-stays old new _ _ does.moves;
      none_fell = rw does.moves.tally (link_counted ds stray d result old.tally stands.tally).none_fell;
      failed = λ is. rw does.moves.tally (link_failed ds stray d result old.tally stands.tally (out_is_stray d old.state) is);
      short = λ is. rw does.moves.tally (link_short ds stray d result old.tally stands.tally is);
      short_of = λ is. rw does.moves.tally (link_short_of ds stray d result old.tally stands.tally is);
      told = λ told. record {
        history = does.moves.history ∙ ap (λ (b : Bool). old.history ++ send_steps d frame b result) (sym joined);
        counts = λ shown. rw (joined, does.moves.tally) (link_are ds stray d result old.tally stands.tally);
        out_of_place = λ is. does.out_of_place (rw (← joined) is);
      };
    }

pub Receives_by : (d : ℕ) (old new : WorldData) (result : Result ℕ LinkFault) (buf : List ℕ) → Stands old → DoesReceive d old new result buf → Receives (Unit {0}) d (seen_of old) (seen_of new) result buf
unfolding seen_of given_of switch_of waits_of
Receives_by d old new result buf stands does =
    let ds = all_declared old.state in
    let stray = not (can_receive d old.state) in
    let joined : is_joined d (state (seen_of old)) ≡ is_joined d old.state = ap (λ (s : State). is_joined d s) stands.state in
    let waits : can_receive d (state (seen_of old)) ≡ can_receive d old.state = ap (λ (s : State). can_receive d s) stands.state in
    record {
      given = given-stays old new _ _ does.moves;
      none_fell = rw does.moves.tally (link_counted ds stray d result old.tally stands.tally).none_fell;
      message = does.message;
      failed = λ is. rw does.moves.tally (link_failed ds stray d result old.tally stands.tally (none_is_stray d old.state) is);
      short = λ is. rw does.moves.tally (link_short ds stray d result old.tally stands.tally is);
      short_of = λ is. rw does.moves.tally (link_short_of ds stray d result old.tally stands.tally is);
      told = λ told. record {
        history = does.moves.history ∙ ap (λ (b : Bool). old.history ++ receive_steps d b result buf) (sym joined);
        counts = λ shown. rw (waits, does.moves.tally) (link_are ds stray d result old.tally stands.tally);
        out_of_place = λ shown. λ is. does.out_of_place (rw (← waits) is);
      };
    }

-- ---- A call that succeeds is in place

pub started_in_place : (own : Scripts) (fails : List FailCall) (app : ℕ) (l : Life) → will_start own fails app l ≡ true → l.running ≡ false
unfolding will_start
started_in_place own fails app l will = not-true l.running (and_parts (not l.running) _ (and_parts _ _ will).0).0

pub given_in_place : (fails : List FailCall) (app : ℕ) (l : Life) → will_give fails app l ≡ true → l.running ≡ true
unfolding will_give
given_in_place fails app l will = (and_parts l.running _ will).0

-- ---- A take, and an end

is_closed : TookWhat → Bool
is_closed took.Closed = true
is_closed other = false

out_takes : (fails : List FailCall) (app room : ℕ) (l : Life) → l.running ≡ false → next_taken fails app room l ≡ took.Closed
unfolding next_taken take_fault
out_takes fails app room l out = rw out refl

closed_by : (taken : Taken) (buf : List ℕ) → took_of taken buf ≡ took.Closed → taken ≡ gave.Closed
unfolding is_closed
closed_by (gave.Some n) buf is = absurd (false≢true (ap is_closed is))
closed_by gave.Closed buf is = refl
closed_by gave.Silent buf is = absurd (false≢true (ap is_closed is))

-- an application that does not run has closed its end
pub taken_out_of_place : (fails : List FailCall) (app room : ℕ) (l : Life) (taken : Taken) (buf : List ℕ) → took_of taken buf ≡ next_taken fails app room l → l.running ≡ false → taken ≡ gave.Closed
taken_out_of_place fails app room l taken buf what out = closed_by taken buf (what ∙ out_takes fails app room l out)

kept_one : (b : Bool) (x : ℕ) (xs : List ℕ) → length (if not b then x ∷ xs else xs) ≤ length xs + 1
kept_one true x xs = omega arith
kept_one false x xs = omega arith

pub fewer_or_same : (app : ℕ) (running : List ℕ) → length (filter (λ a. not (a == app)) running) ≤ length running
fewer_or_same app [] = omega arith
fewer_or_same app (a ∷ running) =
    omega (arith, kept_one (a == app) a (filter (λ a. not (a == app)) running), fewer_or_same app running)

fewer_one : (app a : ℕ) (running : List ℕ) → (here : Bool) → (here || list_any (λ a. a == app) running) ≡ true
    → (list_any (λ a. a == app) running ≡ true → length (filter (λ a. not (a == app)) running) + 1 ≤ length running)
    → length (if not here then a ∷ filter (λ a. not (a == app)) running else filter (λ a. not (a == app)) running) + 1 ≤ length (a ∷ running)
fewer_one app a running true runs later = omega (arith, fewer_or_same app running)
fewer_one app a running false runs later = omega (arith, later runs)

-- the end of an application that runs takes one away
pub fewer_run : (app : ℕ) (running : List ℕ) → list_any (λ a. a == app) running ≡ true → length (filter (λ a. not (a == app)) running) + 1 ≤ length running
fewer_run app [] runs = absurd (false≢true runs)
fewer_run app (a ∷ running) runs = fewer_one app a running (a == app) runs (fewer_run app running)

-- where nothing is done nothing moves
pub Moves_none : (w : WorldData) → w.state ≡ but_marks w.state → length w.state.running ≤ w.room → Moves w w [] w.tally
Moves_none w plain promised = record {
  scripts = refl;
  stimuli = refl;
  fails = refl;
  told = refl;
  history = sym (append-nil w.history);
  nexts = refl;
  room = promised;
  tally = refl;
  state = plain;
  lives = λ app. refl;
}
