-- Each call of a simulated world keeps what it keeps.
use Rattle.std.specs.Prelude.{◌≡◌, ℕ, ◌+◌, ◌≤◌, Bool, true, false, not, is_some, List, [], ◌∷◌, ◌++◌, length, drop, take, Option, None, Some, Result, Ok, Err, All, IfSome, slice_get, refl}
use Rattle.std.specs.List.{AllByRecursion}
use Rattle.std.proofs.Common.{sym, ap, ◌∙◌, subst, arith}
use Rattle.std.proofs.lemmas.Bool.{false≢true}
use Rattle.std.proofs.lemmas.List.Elements.{All-tail}
use Rattle.std.proofs.lemmas.List.{length-append, append-nil}
use Rattle.of_types.specs.declared.journal.Act.{Act}
use Rattle.of_types.specs.declared.journal.Act.TheVariants.{Stim, Started, Gave, Gone, Ended, Sent, Got}
use Rattle.of_types.specs.declared.journal.WorldStim.{WorldStim}
use Rattle.of_types.specs.declared.journal.WorldStim.TheVariants.{Join, Leave, At, Of}
use Rattle.flow_table.specs.Switch.{Declared}
use Rattle.outside.specs.declared.faults.Short.{Short}
use Rattle.outside.specs.declared.faults.OpenFault.{OpenFault}
use Rattle.outside.specs.declared.faults.OpenFault.TheVariants as opening
use Rattle.outside.specs.declared.faults.NextFault.{NextFault}
use Rattle.outside.specs.declared.faults.NextFault.TheVariants as coming
use Rattle.outside.specs.declared.faults.StartFault.{StartFault}
use Rattle.outside.specs.declared.faults.StartFault.TheVariants as starting
use Rattle.outside.specs.declared.faults.GiveFault.{GiveFault}
use Rattle.outside.specs.declared.faults.GiveFault.TheVariants as giving
use Rattle.outside.specs.declared.faults.LinkFault.{LinkFault}
use Rattle.outside.specs.declared.faults.LinkFault.TheVariants as linking
use Rattle.outside.specs.declared.item.Item.{Item}
use Rattle.outside.specs.declared.item.Item.TheVariants as items
use Rattle.outside.specs.declared.item.Taken.{Taken}
use Rattle.outside.specs.declared.item.Taken.TheVariants as gave
use Rattle.outside.specs.declared.step.WorldStep.{WorldStep}
use Rattle.outside.specs.declared.step.WorldStep.TheVariants.{Acted, TookInto, Opened, NotOpened, NextFailed, SendLost, RecvLost, SendFailed, RecvFailed}
use Rattle.outside.specs.declared.call.FailCall.{FailCall}
use Rattle.outside.specs.State.{Link, State, after_step, after_steps, after_act, after_stim, moment_after, is_running, is_joined}
use Rattle.outside.specs.Calls.{open_steps, next_steps, stim_steps, item_step, start_steps, give_steps, take_steps, end_steps, unsent, send_steps, unreceived, receive_steps, can_receive}
use Rattle.outside.specs.Conforming.{IsWorldStim, MayStep, MayAct}
use Rattle.outside.specs.InOrder.{MayCome, MayComeAll}
use Rattle.sim_world.specs.Tally.{TallyState, CountsFor}
use Rattle.sim_world.specs.Places.{AreExpected, FewStrays}
use Rattle.sim_world.specs.laws.PlaceLaws.{places_move, open_places, next_places, start_places, give_places, take_places, send_places, receive_places}
use Rattle.sim_world.specs.Scripts.{Scripts, Life, IsScripted, AreScripted}
use Rattle.sim_world.specs.Lives.{life_in}
use Rattle.sim_world.specs.Links.{IsDue}
use Rattle.sim_world.specs.laws.NextCallLaws.{can_come_next}
use Rattle.sim_world.specs.laws.LinkLaws.{Stands-more}
use Rattle.sim_world.specs.laws.LinkStepLaws.{AreStanding, AreStanding-begun, AreStanding-sent, AreStanding-got, AreStanding-lost, AreStanding-failed, AreStanding-told}
use Rattle.sim_world.specs.World.{WorldData, Moves, IsAsTold, AreAsTold, all_declared, CanCome}
use Rattle.sim_world.specs.laws.WorldLaws.{Stands_moves}
use Rattle.sim_world.specs.Doing.{DoesOpen, DoesNext, DoesStart, DoesGive, DoesTake, DoesSend, DoesReceive}
use Rattle.sim_world.specs.laws.DoingLaws.{open_counted, next_counted, start_counted, give_counted, take_counted, link_counted}
use Rattle.sim_world.specs.Keeping.{Keeps}

-- ---- The number of steps grows

pub standing_more : (moment most more : ℕ) (ls : List Link) → most ≤ more → AreStanding moment most ls → AreStanding moment more ls
standing_more moment most more [] le are = tt
standing_more moment most more (l ∷ ls) le are = (Stands-more moment most more l le are.0, standing_more moment most more ls le are.1)

-- ---- Steps that leave switches, what is due, the moment and the stimuli to come

pub record Around (s t : State) : Type 0 where
  pub links : t.links ≡ s.links
  pub due : t.due ≡ s.due
  pub moment : t.moment ≡ s.moment
  pub to_come : t.to_come ≡ s.to_come

abbrev pub IsQuietAct : Act → Type 0
IsQuietAct (Started app ok) = Unit {0}
IsQuietAct (Gave app bytes) = Unit {0}
IsQuietAct (Gone app bytes) = Unit {0}
IsQuietAct (Ended app) = Unit {0}
IsQuietAct other = ⊥

abbrev pub IsQuiet : WorldStep → Type 0
IsQuiet (Acted act) = IsQuietAct act
IsQuiet (TookInto app what room) = Unit {0}
IsQuiet Opened = Unit {0}
IsQuiet NotOpened = Unit {0}
IsQuiet NextFailed = Unit {0}
IsQuiet other = ⊥

quiet_act : (act : Act) (s : State) → IsQuietAct act → Around s (after_act act s)
unfolding after_act
quiet_act (Started app ok) s is = record { links = refl; due = refl; moment = refl; to_come = refl }
quiet_act (Gave app bytes) s is = record { links = refl; due = refl; moment = refl; to_come = refl }
quiet_act (Gone app bytes) s is = record { links = refl; due = refl; moment = refl; to_come = refl }
quiet_act (Ended app) s is = record { links = refl; due = refl; moment = refl; to_come = refl }
quiet_act other s is = absurd is

quiet_step : (step : WorldStep) (s : State) → IsQuiet step → Around s (after_step step s)
unfolding after_step
quiet_step (Acted act) s is = quiet_act act s is
quiet_step (TookInto app what room) s is = record { links = refl; due = refl; moment = refl; to_come = refl }
quiet_step Opened s is = record { links = refl; due = refl; moment = refl; to_come = refl }
quiet_step NotOpened s is = record { links = refl; due = refl; moment = refl; to_come = refl }
quiet_step NextFailed s is = record { links = refl; due = refl; moment = refl; to_come = refl }
quiet_step other s is = absurd is

quiet_steps : (steps : List WorldStep) (s : State) → AllByRecursion IsQuiet steps → Around s (after_steps steps s)
quiet_steps [] s all = record { links = refl; due = refl; moment = refl; to_come = refl }
quiet_steps (step ∷ steps) s all =
    let first = quiet_step step s all.0 in
    let rest = quiet_steps steps (after_step step s) all.1 in
    record {
      links = rest.links ∙ first.links;
      due = rest.due ∙ first.due;
      moment = rest.moment ∙ first.moment;
      to_come = rest.to_come ∙ first.to_come;
    }

quiet_may_act : (declared : List Declared) (act : Act) (s : State) → IsQuietAct act → MayCome declared (Acted act) s
unfolding MayCome MayStep MayAct
quiet_may_act declared (Started app ok) s is = tt
quiet_may_act declared (Gave app bytes) s is = tt
quiet_may_act declared (Gone app bytes) s is = tt
quiet_may_act declared (Ended app) s is = tt
quiet_may_act declared other s is = absurd is

quiet_may : (declared : List Declared) (step : WorldStep) (s : State) → IsQuiet step → MayCome declared step s
unfolding MayCome MayStep
quiet_may declared (Acted act) s is = quiet_may_act declared act s is
quiet_may declared (TookInto app what room) s is = tt
quiet_may declared Opened s is = tt
quiet_may declared NotOpened s is = tt
quiet_may declared NextFailed s is = tt
quiet_may declared other s is = absurd is

quiet_may_steps : (declared : List Declared) (steps : List WorldStep) (s : State) → AllByRecursion IsQuiet steps → MayComeAll declared steps s
quiet_may_steps declared [] s all = tt
quiet_may_steps declared (step ∷ steps) s all = (quiet_may declared step s all.0, quiet_may_steps declared steps (after_step step s) all.1)

-- ---- A call whose steps are such

length_more : (xs ys : List WorldStep) → length (xs ++ ys) ≡ length xs + length ys
length_more xs ys = length-append xs ys

pub keeps_quiet : (old new : WorldData) (steps : List WorldStep) (counted : TallyState) → Keeps old → Moves old new steps counted → AllByRecursion IsQuiet steps
    → AreScripted old.scripts old.told steps (λ app. life_in app old.lives) → AreAsTold old.told old.nexts steps old.state → CountsFor (all_declared old.state) counted → (AreExpected steps old.state → FewStrays old.tally counted) → Keeps new
keeps_quiet old new steps counted keeps moves quiet scripts told counts places =
    let around = quiet_steps steps old.state quiet in
    let links : new.state.links ≡ old.state.links = ap (λ (s : State). s.links) moves.state ∙ around.links in
    let due : new.state.due ≡ old.state.due = ap (λ (s : State). s.due) moves.state ∙ around.due in
    let moment : new.state.moment ≡ old.state.moment = ap (λ (s : State). s.moment) moves.state ∙ around.moment in
    let to_come : new.state.to_come ≡ old.state.to_come = ap (λ (s : State). s.to_come) moves.state ∙ around.to_come in
    record {
      stands = Stands_moves old new steps counted keeps.stands moves
          (record { word = quiet_may_steps (all_declared old.state) steps old.state quiet; scripts = scripts; told = told })
          counts (rw (moment, to_come) keeps.stands.can_come);
      standing = rw (links, moment, moves.history, length_more old.history steps)
          (standing_more old.state.moment (length old.history) (length old.history + length steps) old.state.links (omega arith) keeps.standing);
      within = rw moment keeps.within;
      due = rw due keeps.due;
      places = places_move old new steps counted keeps.stands moves keeps.places places;
    }

-- ---- Each call

open_quiet : {T : Type 0} (result : Result T OpenFault) → AllByRecursion IsQuiet (open_steps result)
unfolding open_steps
open_quiet (Ok x) = (tt, tt)
open_quiet (Err opening.Shut) = (tt, tt)
open_quiet (Err opening.Short) = tt

open_scripted : {T : Type 0} (own : Scripts) (fails : List FailCall) (result : Result T OpenFault) (lives : ℕ → Life) → AreScripted own fails (open_steps result) lives
unfolding open_steps IsScripted
open_scripted own fails (Ok x) lives = (tt, tt)
open_scripted own fails (Err opening.Shut) lives = (tt, tt)
open_scripted own fails (Err opening.Short) lives = tt

pub keeps_open : {T : Type 0} (old new : WorldData) (result : Result T OpenFault) → Keeps old → DoesOpen old new result → AreAsTold old.told old.nexts (open_steps result) old.state → Keeps new
keeps_open old new result keeps does told =
    keeps_quiet old new (open_steps result) _ keeps does.moves (open_quiet result) (open_scripted old.scripts old.told result _) told
    (open_counted (all_declared old.state) old.state.opened result old.tally keeps.stands.tally).for (open_places result old.state old.tally does.out_of_place)

start_quiet : {T : Type 0} (app : ℕ) (result : Result T StartFault) → AllByRecursion IsQuiet (start_steps app result)
unfolding start_steps
start_quiet app (Ok x) = (tt, tt)
start_quiet app (Err starting.NotStarted) = (tt, tt)
start_quiet app (Err starting.Short) = tt

start_told : {T : Type 0} (fails : List FailCall) (n app : ℕ) (result : Result T StartFault) (s : State) → AreAsTold fails n (start_steps app result) s
unfolding start_steps IsAsTold
start_told fails n app (Ok x) s = (tt, tt)
start_told fails n app (Err starting.NotStarted) s = (tt, tt)
start_told fails n app (Err starting.Short) s = tt

pub keeps_start : {T : Type 0} (app : ℕ) (old new : WorldData) (result : Result T StartFault) → Keeps old → DoesStart app old new result → AreScripted old.scripts old.told (start_steps app result) (λ a. life_in a old.lives) → Keeps new
keeps_start app old new result keeps does scripted =
    keeps_quiet old new (start_steps app result) _ keeps does.moves (start_quiet app result) scripted (start_told old.told old.nexts app result old.state)
    (start_counted (all_declared old.state) (is_running app old.state) result old.tally keeps.stands.tally).for (start_places app result old.state old.tally does.out_of_place)

give_quiet : {T : Type 0} (app : ℕ) (bytes : List ℕ) (result : Result T GiveFault) → AllByRecursion IsQuiet (give_steps app bytes result)
unfolding give_steps
give_quiet app bytes (Ok x) = (tt, tt)
give_quiet app bytes (Err giving.Gone) = (tt, tt)
give_quiet app bytes (Err giving.Short) = tt

give_told : {T : Type 0} (fails : List FailCall) (n app : ℕ) (bytes : List ℕ) (result : Result T GiveFault) (s : State) → AreAsTold fails n (give_steps app bytes result) s
unfolding give_steps IsAsTold
give_told fails n app bytes (Ok x) s = (tt, tt)
give_told fails n app bytes (Err giving.Gone) s = (tt, tt)
give_told fails n app bytes (Err giving.Short) s = tt

pub keeps_give : {T : Type 0} (app : ℕ) (bytes : List ℕ) (old new : WorldData) (result : Result T GiveFault) → Keeps old → DoesGive app bytes old new result
    → AreScripted old.scripts old.told (give_steps app bytes result) (λ a. life_in a old.lives) → Keeps new
keeps_give app bytes old new result keeps does scripted =
    keeps_quiet old new (give_steps app bytes result) _ keeps does.moves (give_quiet app bytes result) scripted (give_told old.told old.nexts app bytes result old.state)
    (give_counted (all_declared old.state) (not (is_running app old.state)) result old.tally keeps.stands.tally).for (give_places app bytes result old.state old.tally does.out_of_place)

take_quiet : (app : ℕ) (result : Result Taken Short) (buf : List ℕ) → AllByRecursion IsQuiet (take_steps app result buf)
unfolding take_steps
take_quiet app (Ok (gave.Some n)) buf = (tt, tt)
take_quiet app (Ok gave.Closed) buf = (tt, tt)
take_quiet app (Ok gave.Silent) buf = (tt, tt)
take_quiet app (Err short) buf = tt

take_told : (fails : List FailCall) (n app : ℕ) (result : Result Taken Short) (buf : List ℕ) (s : State) → AreAsTold fails n (take_steps app result buf) s
unfolding take_steps IsAsTold
take_told fails n app (Ok (gave.Some m)) buf s = (tt, tt)
take_told fails n app (Ok gave.Closed) buf s = (tt, tt)
take_told fails n app (Ok gave.Silent) buf s = (tt, tt)
take_told fails n app (Err short) buf s = tt

pub keeps_take : (app : ℕ) (old new : WorldData) (result : Result Taken Short) (buf : List ℕ) → Keeps old → DoesTake app old new result buf
    → AreScripted old.scripts old.told (take_steps app result buf) (λ a. life_in a old.lives) → Keeps new
keeps_take app old new result buf keeps does scripted =
    keeps_quiet old new (take_steps app result buf) _ keeps does.moves (take_quiet app result buf) scripted (take_told old.told old.nexts app result buf old.state)
    (take_counted (all_declared old.state) (not (is_running app old.state)) result old.tally keeps.stands.tally).for (take_places app result buf old.state old.tally does.out_of_place)

end_quiet : (app : ℕ) (runs : Bool) → AllByRecursion IsQuiet (end_steps app runs)
unfolding end_steps
end_quiet app true = (tt, tt)
end_quiet app false = tt

end_told : (fails : List FailCall) (n app : ℕ) (runs : Bool) (s : State) → AreAsTold fails n (end_steps app runs) s
unfolding end_steps IsAsTold
end_told fails n app true s = (tt, tt)
end_told fails n app false s = tt

pub keeps_end : (app : ℕ) (old new : WorldData) → Keeps old → Moves old new (end_steps app (is_running app old.state)) old.tally
    → AreScripted old.scripts old.told (end_steps app (is_running app old.state)) (λ a. life_in a old.lives) → Keeps new
keeps_end app old new keeps moves scripted =
    keeps_quiet old new (end_steps app (is_running app old.state)) old.tally keeps moves (end_quiet app (is_running app old.state)) scripted
    (end_told old.told old.nexts app (is_running app old.state) old.state) keeps.stands.tally (λ are few most. few)

-- ---- Calls of links

-- What a call keeps of the state: where switches stand, and all else but the switches.
record LinkedBy (most : ℕ) (s t : State) : Type 0 where
  standing : AreStanding s.moment most t.links
  due : t.due ≡ s.due
  moment : t.moment ≡ s.moment
  to_come : t.to_come ≡ s.to_come

keeps_linked : (old new : WorldData) (steps : List WorldStep) (counted : TallyState) → Keeps old → Moves old new steps counted → LinkedBy (length (old.history ++ steps)) old.state (after_steps steps old.state)
    → MayComeAll (all_declared old.state) steps old.state → AreScripted old.scripts old.told steps (λ app. life_in app old.lives) → AreAsTold old.told old.nexts steps old.state → CountsFor (all_declared old.state) counted → (AreExpected steps old.state → FewStrays old.tally counted) → Keeps new
keeps_linked old new steps counted keeps moves linked word scripts told counts places =
    let links : new.state.links ≡ (after_steps steps old.state).links = ap (λ (s : State). s.links) moves.state in
    let due : new.state.due ≡ old.state.due = ap (λ (s : State). s.due) moves.state ∙ linked.due in
    let moment : new.state.moment ≡ old.state.moment = ap (λ (s : State). s.moment) moves.state ∙ linked.moment in
    let to_come : new.state.to_come ≡ old.state.to_come = ap (λ (s : State). s.to_come) moves.state ∙ linked.to_come in
    record {
      stands = Stands_moves old new steps counted keeps.stands moves (record { word = word; scripts = scripts; told = told }) counts
          (rw (moment, to_come) keeps.stands.can_come);
      standing = rw (links, moment, moves.history) linked.standing;
      within = rw moment keeps.within;
      due = rw due keeps.due;
      places = places_move old new steps counted keeps.stands moves keeps.places places;
    }

one_more : (history : List WorldStep) (step : WorldStep) → length (history ++ step ∷ []) ≡ length history + 1
one_more history step = length-append history (step ∷ [])

unsent_linked : (d : ℕ) (joined : Bool) (history : List WorldStep) (s : State) → AreStanding s.moment (length history) s.links
    → LinkedBy (length (history ++ unsent d joined ∷ [])) s (after_step (unsent d joined) s)
unfolding after_step
unsent_linked d true history s standing = record {
  standing = rw (one_more history (SendLost d)) (AreStanding-lost d s.moment (length history) s.links standing);
  due = refl;
  moment = refl;
  to_come = refl;
}
unsent_linked d false history s standing = record {
  standing = rw (one_more history (SendFailed d)) (AreStanding-failed d s.moment (length history) s.links standing);
  due = refl;
  moment = refl;
  to_come = refl;
}

send_linked : {T : Type 0} (d : ℕ) (frame : List ℕ) (joined : Bool) (result : Result T LinkFault) (history : List WorldStep) (s : State) → AreStanding s.moment (length history) s.links
    → LinkedBy (length (history ++ send_steps d frame joined result)) s (after_steps (send_steps d frame joined result) s)
unfolding send_steps after_step after_act
send_linked d frame joined (Ok x) history s standing = record {
  standing = rw (one_more history (Acted (Sent d frame))) (AreStanding-sent d frame s.moment (length history) s.links standing);
  due = refl;
  moment = refl;
  to_come = refl;
}
send_linked d frame joined (Err linking.Failed) history s standing = unsent_linked d joined history s standing
send_linked d frame joined (Err linking.Short) history s standing = record {
  standing = rw (append-nil history) standing;
  due = refl;
  moment = refl;
  to_come = refl;
}

unsent_scripted : (own : Scripts) (fails : List FailCall) (d : ℕ) (joined : Bool) (lives : ℕ → Life) → AreScripted own fails (unsent d joined ∷ []) lives
unfolding IsScripted
unsent_scripted own fails d true lives = (tt, tt)
unsent_scripted own fails d false lives = (tt, tt)

send_scripted : {T : Type 0} (own : Scripts) (fails : List FailCall) (d : ℕ) (frame : List ℕ) (joined : Bool) (result : Result T LinkFault) (lives : ℕ → Life) → AreScripted own fails (send_steps d frame joined result) lives
unfolding send_steps IsScripted
send_scripted own fails d frame joined (Ok x) lives = (tt, tt)
send_scripted own fails d frame joined (Err linking.Failed) lives = unsent_scripted own fails d joined lives
send_scripted own fails d frame joined (Err linking.Short) lives = tt

pub keeps_send : {T : Type 0} (d : ℕ) (frame : List ℕ) (old new : WorldData) (result : Result T LinkFault) → Keeps old → DoesSend d frame old new result
    → MayComeAll (all_declared old.state) (send_steps d frame (is_joined d old.state) result) old.state → AreAsTold old.told old.nexts (send_steps d frame (is_joined d old.state) result) old.state → Keeps new
keeps_send d frame old new result keeps does word told =
    let joined = is_joined d old.state in
    keeps_linked old new (send_steps d frame joined result) _ keeps does.moves (send_linked d frame joined result old.history old.state keeps.standing)
    word (send_scripted old.scripts old.told d frame joined result _) told
    (link_counted (all_declared old.state) (not joined) d result old.tally keeps.stands.tally).for (send_places d frame result old.state old.tally does.out_of_place)

unreceived_linked : (d : ℕ) (joined : Bool) (history : List WorldStep) (s : State) → AreStanding s.moment (length history) s.links
    → LinkedBy (length (history ++ unreceived d joined ∷ [])) s (after_step (unreceived d joined) s)
unfolding after_step
unreceived_linked d true history s standing = record {
  standing = rw (one_more history (RecvLost d)) (AreStanding-lost d s.moment (length history) s.links standing);
  due = refl;
  moment = refl;
  to_come = refl;
}
unreceived_linked d false history s standing = record {
  standing = rw (one_more history (RecvFailed d)) (AreStanding-failed d s.moment (length history) s.links standing);
  due = refl;
  moment = refl;
  to_come = refl;
}

receive_linked : (d : ℕ) (joined : Bool) (result : Result ℕ LinkFault) (buf : List ℕ) (history : List WorldStep) (s : State) → AreStanding s.moment (length history) s.links
    → LinkedBy (length (history ++ receive_steps d joined result buf)) s (after_steps (receive_steps d joined result buf) s)
unfolding receive_steps after_step after_act
receive_linked d joined (Ok n) buf history s standing = record {
  standing = rw (one_more history (Acted (Got d (take n buf)))) (AreStanding-got d s.moment (length history) s.links standing);
  due = refl;
  moment = refl;
  to_come = refl;
}
receive_linked d joined (Err linking.Failed) buf history s standing = unreceived_linked d joined history s standing
receive_linked d joined (Err linking.Short) buf history s standing = record {
  standing = rw (append-nil history) standing;
  due = refl;
  moment = refl;
  to_come = refl;
}

unreceived_scripted : (own : Scripts) (fails : List FailCall) (d : ℕ) (joined : Bool) (lives : ℕ → Life) → AreScripted own fails (unreceived d joined ∷ []) lives
unfolding IsScripted
unreceived_scripted own fails d true lives = (tt, tt)
unreceived_scripted own fails d false lives = (tt, tt)

receive_scripted : (own : Scripts) (fails : List FailCall) (d : ℕ) (joined : Bool) (result : Result ℕ LinkFault) (buf : List ℕ) (lives : ℕ → Life) → AreScripted own fails (receive_steps d joined result buf) lives
unfolding receive_steps IsScripted
receive_scripted own fails d joined (Ok n) buf lives = (tt, tt)
receive_scripted own fails d joined (Err linking.Failed) buf lives = unreceived_scripted own fails d joined lives
receive_scripted own fails d joined (Err linking.Short) buf lives = tt

pub keeps_recv : (d : ℕ) (old new : WorldData) (result : Result ℕ LinkFault) (buf : List ℕ) → Keeps old → DoesReceive d old new result buf
    → MayComeAll (all_declared old.state) (receive_steps d (is_joined d old.state) result buf) old.state → AreAsTold old.told old.nexts (receive_steps d (is_joined d old.state) result buf) old.state → Keeps new
keeps_recv d old new result buf keeps does word told =
    let joined = is_joined d old.state in
    keeps_linked old new (receive_steps d joined result buf) _ keeps does.moves (receive_linked d joined result buf old.history old.state keeps.standing)
    word (receive_scripted old.scripts old.told d joined result buf _) told
    (link_counted (all_declared old.state) (not (can_receive d old.state)) d result old.tally keeps.stands.tally).for (receive_places d result buf old.state old.tally does.out_of_place)

-- ---- next: an item that is told

due_less : (due : List WorldStep) → All IsDue due → All IsDue (drop 1 due)
due_less [] all = all
due_less (step ∷ due) all = All-tail IsDue step due all

-- What telling an item leaves.
record ToldBy (most : ℕ) (s t : State) : Type 0 where
  standing : AreStanding s.moment most t.links
  due : All IsDue t.due
  moment : t.moment ≡ s.moment
  to_come : t.to_come ≡ s.to_come

told_by : (item : Item) (buf : List ℕ) (most : ℕ) (s : State) → AreStanding s.moment most s.links → All IsDue s.due → ToldBy most s (after_step (item_step item buf) s)
unfolding item_step after_step
told_by (items.From d n) buf most s standing due = record { standing = AreStanding-told d s.moment most s.links standing; due = due; moment = refl; to_come = refl }
told_by (items.Joined d n) buf most s standing due = record { standing = standing; due = due_less s.due due; moment = refl; to_come = refl }
told_by (items.Left d) buf most s standing due = record { standing = standing; due = due_less s.due due; moment = refl; to_come = refl }
told_by (items.Moment t) buf most s standing due = record { standing = standing; due = due_less s.due due; moment = refl; to_come = refl }
told_by items.Idle buf most s standing due = record { standing = standing; due = due; moment = refl; to_come = refl }
told_by items.End buf most s standing due = record { standing = standing; due = due; moment = refl; to_come = refl }

item_scripted : (own : Scripts) (fails : List FailCall) (item : Item) (buf : List ℕ) (lives : ℕ → Life) → IsScripted own fails (item_step item buf) lives
unfolding item_step IsScripted
item_scripted own fails (items.From d n) buf lives = tt
item_scripted own fails (items.Joined d n) buf lives = tt
item_scripted own fails (items.Left d) buf lives = tt
item_scripted own fails (items.Moment t) buf lives = tt
item_scripted own fails items.Idle buf lives = tt
item_scripted own fails items.End buf lives = tt

stim_scripted : (own : Scripts) (fails : List FailCall) (x : WorldStim) (lives : ℕ → Life) → IsScripted own fails (Acted (Stim x)) lives
unfolding IsScripted
stim_scripted own fails x lives = tt

-- ---- next: a stimulus that begins

within_after : (declared : List Declared) (x : WorldStim) (moment : ℕ) → IsWorldStim declared moment x → moment ≤ 4294967295 → moment_after x moment ≤ 4294967295
unfolding IsWorldStim
within_after declared (Join d) moment is within = within
within_after declared (Leave d) moment is within = within
within_after declared (At t) moment is within = is.1
within_after declared (Of d x) moment is within = within

come_after : (declared : List Declared) (moment : ℕ) (xs : List WorldStim) (x : WorldStim) → CanCome declared moment xs → slice_get xs 0 ≡ Some x → CanCome declared (moment_after x moment) (drop 1 xs)
come_after declared moment [] x come is = absurd (false≢true (ap is_some is))
come_after declared moment (y ∷ xs) x come is = subst (λ (o : Option WorldStim). IfSome o (λ z. CanCome declared (moment_after z moment) xs)) is come.1

-- What beginning a stimulus leaves.
record BegunBy (declared : List Declared) (most : ℕ) (t : State) : Type 0 where
  standing : AreStanding t.moment most t.links
  due : All IsDue t.due
  within : t.moment ≤ 4294967295
  can_come : CanCome declared t.moment t.to_come

begun_by : (declared : List Declared) (x : WorldStim) (most : ℕ) (s : State) → AreStanding s.moment most s.links → s.moment ≤ 4294967295 → CanCome declared s.moment s.to_come → slice_get s.to_come 0 ≡ Some x
    → All IsDue (after_stim x s).due → BegunBy declared most (after_step (Acted (Stim x)) s)
unfolding after_step after_act after_stim
begun_by declared x most s standing within come next due =
    let is = can_come_next declared s.moment s.to_come x come next in
    record {
      standing = AreStanding-begun declared x s.moment most s.links is standing;
      due = due;
      within = within_after declared x s.moment is within;
      can_come = come_after declared s.moment s.to_come x come next;
    }

failed_scripted : (own : Scripts) (fails : List FailCall) (lives : ℕ → Life) → IsScripted own fails NextFailed lives
unfolding IsScripted
failed_scripted own fails lives = tt

-- ---- next

keeps_item : (old new : WorldData) (begun : Option WorldStim) (item : Item) (buf : List ℕ) → Keeps old → IfSome begun (λ x. slice_get old.state.to_come 0 ≡ Some x)
    → Moves old new (stim_steps begun ++ item_step item buf ∷ []) old.tally
    → MayComeAll (all_declared old.state) (stim_steps begun ++ item_step item buf ∷ []) old.state
    → AreAsTold old.told old.nexts (stim_steps begun ++ item_step item buf ∷ []) old.state → IfSome begun (λ x. All IsDue (after_stim x old.state).due) → Keeps new
keeps_item old new None item buf keeps to_come moves word told due =
    let most = length (old.history ++ item_step item buf ∷ []) in
    let standing = standing_more old.state.moment (length old.history) most old.state.links (omega (arith, one_more old.history (item_step item buf))) keeps.standing in
    let by = told_by item buf most old.state standing keeps.due in
    let moment : new.state.moment ≡ old.state.moment = ap (λ (s : State). s.moment) moves.state ∙ by.moment in
    let come : new.state.to_come ≡ old.state.to_come = ap (λ (s : State). s.to_come) moves.state ∙ by.to_come in
    record {
      stands = Stands_moves old new (item_step item buf ∷ []) old.tally keeps.stands moves
          (record {
            word = word;
            scripts = (item_scripted old.scripts old.told item buf _, tt);
            told = told;
          }) keeps.stands.tally (rw (moment, come) keeps.stands.can_come);
      standing = rw (ap (λ (s : State). s.links) moves.state, moment, moves.history) by.standing;
      within = rw moment keeps.within;
      due = subst (All IsDue) (sym (ap (λ (s : State). s.due) moves.state)) by.due;
      places = places_move old new (item_step item buf ∷ []) old.tally keeps.stands moves keeps.places (λ are few most. few);
    }
keeps_item old new (Some x) item buf keeps to_come moves word told due =
    let steps = Acted (Stim x) ∷ item_step item buf ∷ [] in
    let most = length (old.history ++ steps) in
    let longer : length (old.history ++ steps) ≡ length old.history + 2 = length-append old.history steps in
    let standing = standing_more old.state.moment (length old.history) most old.state.links (omega (arith, longer)) keeps.standing in
    let begun = begun_by (all_declared old.state) x most old.state standing keeps.within keeps.stands.can_come to_come due in
    let after = after_step (Acted (Stim x)) old.state in
    let by = told_by item buf most after begun.standing begun.due in
    let moment : new.state.moment ≡ after.moment = ap (λ (s : State). s.moment) moves.state ∙ by.moment in
    let come : new.state.to_come ≡ after.to_come = ap (λ (s : State). s.to_come) moves.state ∙ by.to_come in
    record {
      stands = Stands_moves old new steps old.tally keeps.stands moves
          (record {
            word = word;
            scripts = (stim_scripted old.scripts old.told x _, (item_scripted old.scripts old.told item buf _, tt));
            told = told;
          }) keeps.stands.tally (rw (moment, come) begun.can_come);
      standing = rw (ap (λ (s : State). s.links) moves.state, moment, moves.history) by.standing;
      within = rw moment begun.within;
      due = subst (All IsDue) (sym (ap (λ (s : State). s.due) moves.state)) by.due;
      places = places_move old new steps old.tally keeps.stands moves keeps.places (λ are few most. few);
    }

pub keeps_next : (old new : WorldData) (result : Result Item NextFault) (buf : List ℕ) → Keeps old → DoesNext old new result buf → Keeps new
unfolding next_steps
keeps_next old new (Ok item) buf keeps does =
    keeps_item old new does.begun item buf keeps does.to_come does.moves does.word does.told does.due
keeps_next old new (Err coming.Failed) buf keeps does =
    keeps_quiet old new (NextFailed ∷ []) _ keeps does.moves (tt, tt) (failed_scripted old.scripts old.told _, tt) does.told
    (next_counted (all_declared old.state) (Err coming.Failed) old.tally keeps.stands.tally).for (λ are. next_places (Err coming.Failed) old.tally)
keeps_next old new (Err coming.Short) buf keeps does =
    keeps_quiet old new [] _ keeps does.moves tt tt tt (next_counted (all_declared old.state) (Err coming.Short) old.tally keeps.stands.tally).for
    (λ are. next_places (Err coming.Short) old.tally)
