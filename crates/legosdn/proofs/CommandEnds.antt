-- How each command ends, which reads its input and then runs, before it has its status.
use Rattle.std.proofs.Common.{◌≡◌, ◌⊎◌, ℕ, List, [], ◌∷◌, Option, Some, None, Result, Ok, Err, IfErr, OnOk, IfSome, Contains, refl, sym, subst, ◌∙◌, ap, inl, inr}
use Rattle.std.specs.Result.{IsErrAnd}
use Rattle.command_words.specs.declared.command.Command.{Command}
use Rattle.command_words.specs.declared.command.Command.TheVariants.{Replay, Run, Record, Gen}
use Rattle.command_words.specs.Commands.{command_in}
use Rattle.lego_io.specs.Count.{NeverFell}
use Rattle.outside.specs.Seen.{Seen}
use Rattle.outside.specs.InOrder.{BringMessages}
use Rattle.sim_world.specs.World.{WorldData, seen_of}
use Rattle.legosdn.specs.declared.stop.InputRefusal.{InputRefusal}
use Rattle.legosdn.specs.declared.stop.Stop.{Stop}
use Rattle.legosdn.specs.declared.stop.Stop.TheVariants.{Usage, Refused, ReadFault, WriteFault, Shut, NextFault, SwitchBroke, Diverged, EventsLeft, NoMemory}
use Rattle.legosdn.specs.Input.{ProgramValue, run_policy, Spelling}
use Rattle.legosdn.specs.Stops.{stop_status, stop_line, refusal_line}
use Rattle.legosdn.specs.Headline.{NoneFloods, Streams, streams, IsReplay, IsRun, IsRecord, IsGen, IsNoSession, IsNoPolicy, IsReadCause, IsRunCause, IsEarly, IsLate, SpellsPolicy, OfInput, Loaded, KeepsLines, RunsAs, Wrote, NotBegun, Replays}
use Rattle.legosdn.specs.Live.{Taken, IsTaken, TellsInOrder, ServesWhole, ServesUntil, ServesAs, ServesCut, TakenAs, ServesTaken, Serves}
use Rattle.legosdn.specs.Course.{StandsAt}
use Rattle.legosdn.proofs.Causes.{are_new, run_causes, ran_causes, unread_causes, no_both}
use Rattle.legosdn.proofs.Loads.{loaded_as, unread_as}
use Rattle.sim_world.specs.Building.{IsNew}
use Rattle.run_course.specs.Parts.{TakesCourse}
use Rattle.legosdn.proofs.Runs.{untouched, by_read, stops_by_read, runs_by_read, lines_by_read, not_begun}
use Rattle.legosdn.proofs.Statuses.{is_broken, is_diverged, is_memory, not_late, not_before}

-- ---- By the command

command_is : (P : Type 0) (words : List (List ℕ)) (command : Option Command) → command_in words ≡ command → (IsReplay words → P) → ((start count : ℕ) → IsGen words start count → P) → ((port rounds : ℕ) → IsRun words port rounds → P)
    → ((port rounds : ℕ) → IsRecord words port rounds → P) → (command_in words ≡ None → P) → P
command_is P words None is replays draws runs records none = none is
command_is P words (Some Replay) is replays draws runs records none = replays is
command_is P words (Some (Gen start count)) is replays draws runs records none = draws start count is
command_is P words (Some (Run port rounds)) is replays draws runs records none = runs port rounds is
command_is P words (Some (Record port rounds)) is replays draws runs records none = records port rounds is

pub by_command : (P : Type 0) (words : List (List ℕ)) → (IsReplay words → P) → ((start count : ℕ) → IsGen words start count → P) → ((port rounds : ℕ) → IsRun words port rounds → P)
    → ((port rounds : ℕ) → IsRecord words port rounds → P) → (command_in words ≡ None → P) → P
by_command P words replays draws runs records none = command_is P words (command_in words) refl replays draws runs records none

-- ---- Nothing ran

taken_by_read : {T : Type 0} (told left : Option (List ℕ)) (result : Result T Stop) → IsErrAnd result (λ s. Unit {0}) → IfErr result (λ s. IsLate s → IsTaken told left) → TakenAs result told left
taken_by_read told left (Ok x) is so = absurd is
taken_by_read told left (Err s) is so = so

some_err : {T : Type 0} (stop : Stop) (result : Result T Stop) → IsErrAnd result (λ s. s ≡ stop) → IsErrAnd result (λ s. Unit {0})
some_err stop (Ok x) is = absurd is
some_err stop (Err s) is = tt

stays_early : {T : Type 0} (Stays : Type 0) (stop : Stop) (result : Result T Stop) → IsErrAnd result (λ s. s ≡ stop) → (IsEarly stop → Stays) → IfErr result (λ s. IsEarly s → Stays)
stays_early Stays stop (Ok x) is stays = tt
stays_early Stays stop (Err s) is stays = λ early. stays (subst IsEarly is early)

ok_none : {T : Type 0} (P : Type 0) (stop : Stop) (result : Result T Stop) → IsErrAnd result (λ s. s ≡ stop) → OnOk result P
ok_none P stop (Ok x) is = absurd is
ok_none P stop (Err s) is = tt

pub serves_unread : {Own T : Type 0} (Tells : Type 0) (rounds : ℕ) (told left : Option (List ℕ)) (i j k : ℕ) (seen : Seen Own) (contents : Option (List ℕ)) (Stays : Type 0) (stop : Stop) (result : Result T Stop) → IsErrAnd result (λ s. s ≡ stop)
    → IsReadCause IsNoPolicy told i j stop → Stays → Serves Tells rounds result (streams told contents i k) (streams left contents j k) seen seen Stays
serves_unread Tells rounds told left i j k seen contents Stays stop result is cause stays = record {
  taken = taken_by_read told left result (some_err stop result is) (by_read (IsTaken told left) IsNoPolicy told i j stop result is cause);
  no_other = inr stays;
  runs = λ tells. inr (stops_by_read IsNoPolicy told i j seen contents stop result is tells.untouched cause);
  course = λ told_all. inr refl;
  why = unread_causes Tells IsNoPolicy told i j k k seen seen stop result is cause;
  early = stays_early Stays stop result is (λ early. stays);
}

-- what a run gives where it comes to its end is no part of how it ends
pub serves_ok : {Own T : Type 0} (Tells : Type 0) (rounds : ℕ) (old new : Streams) (was now : Seen Own) (Stays : Type 0) (x : T) → Serves Tells rounds (Ok x) old new was now Stays → Serves {T = Unit {0}} Tells rounds (Ok tt) old new was now Stays
serves_ok Tells rounds old new was now Stays x ends = record { taken = ends.taken; no_other = ends.no_other; runs = ends.runs; course = ends.course; why = tt; early = tt }

pub serves_err : {Own T : Type 0} (Tells : Type 0) (rounds : ℕ) (old new : Streams) (was now : Seen Own) (Stays : Type 0) (stop : Stop) → Serves {T = T} Tells rounds (Err stop) old new was now Stays → Serves {T = Unit {0}} Tells rounds (Err stop) old new was now Stays
serves_err Tells rounds old new was now Stays stop ends = record { taken = ends.taken; no_other = ends.no_other; runs = ends.runs; course = ends.course; why = ends.why; early = ends.early }

pub replays_unread : (spells : Spelling) {T : Type 0} (told left : Option (List ℕ)) (i j k : ℕ) (was now : WorldData) (contents : Option (List ℕ)) (Stays : Type 0) (stop : Stop) (result : Result T Stop) → IsErrAnd result (λ s. s ≡ stop) → (seen_of now).history ≡ []
    → IsReadCause (IsNoSession spells) told i j stop → (IsEarly stop → Stays) → Replays spells result (streams told contents i k) (streams left contents j k) was now Stays
replays_unread spells told left i j k was now contents Stays stop result is none cause stays = record {
  loaded = unread_as spells told left (seen_of now) i j stop result is none cause;
  runs = runs_by_read spells told left i j now contents stop result is none cause;
  course = (seen_of now, none, inr refl);
  lines = ok_none (KeepsLines now) stop result is;
  late_lines = lines_by_read spells (KeepsLines now) told i j stop result is cause;
  why = unread_causes (Unit {0}) (IsNoSession spells) told i j k k (seen_of was) (seen_of now) stop result is cause;
  early = stays_early Stays stop result is stays;
}

-- ---- The input was taken, and the world ran

taken_as : {T : Type 0} (told left : Option (List ℕ)) (result : Result T Stop) → IsTaken told left → TakenAs result told left
taken_as told left (Ok x) taken = taken
taken_as told left (Err stop) taken = λ late. taken

not_early : {Own : Type 0} (P Tells : Type 0) (k l : ℕ) (old new : Seen Own) (stop : Stop) → IsRunCause Tells k l old new stop → IsEarly stop → P
not_early P Tells k l old new Usage cause early = absurd cause
not_early P Tells k l old new (Refused refusal) cause early = absurd cause
not_early P Tells k l old new ReadFault cause early = absurd cause
not_early P Tells k l old new WriteFault cause early = absurd early
not_early P Tells k l old new Shut cause early = absurd early
not_early P Tells k l old new NextFault cause early = absurd early
not_early P Tells k l old new (SwitchBroke d) cause early = absurd early
not_early P Tells k l old new (Diverged d) cause early = absurd early
not_early P Tells k l old new (EventsLeft left) cause early = absurd early
not_early P Tells k l old new NoMemory cause early = absurd early

none_early : {Own T : Type 0} (Stays Tells : Type 0) (k l : ℕ) (old new : Seen Own) (result : Result T Stop) → IfErr result (IsRunCause Tells k l old new) → IfErr result (λ stop. IsEarly stop → Stays)
none_early Stays Tells k l old new (Ok x) cause = tt
none_early Stays Tells k l old new (Err stop) cause = not_early Stays Tells k l old new stop cause

pub serves_taken : {Own T : Type 0} (Tells : Type 0) (rounds : ℕ) (old new : Streams) (was now : Seen Own) (Stays : Type 0) (result : Result T Stop) (program : ProgramValue) → Taken program old.remaining new.remaining
    → (TellsInOrder Tells was now → ServesAs program rounds result now old.contents new.contents) → (Tells → TakesCourse program.apps was now old.contents (StandsAt result new.contents)) → IfErr result (IsRunCause Tells old.sink_faults new.sink_faults was now)
    → Serves Tells rounds result old new was now Stays
serves_taken Tells rounds old new was now Stays result program taken runs course why = record {
  taken = taken_as old.remaining new.remaining result (program, taken);
  no_other = inl (program, taken);
  runs = λ tells. inl (program, taken, runs tells);
  course = λ told. inl (program, taken, course told);
  why = ran_causes Tells IsNoPolicy old.remaining old.source_faults new.source_faults old.sink_faults new.sink_faults was now result why;
  early = none_early Stays Tells old.sink_faults new.sink_faults was now result why;
}

on_ok : {T : Type 0} (P : Type 0) (result : Result T Stop) → P → OnOk result P
on_ok P (Ok x) holds = holds
on_ok P (Err stop) holds = tt

when_late : {T : Type 0} (P : Type 0) (result : Result T Stop) → P → IfErr result (λ stop. IsLate stop → P)
when_late P (Ok x) holds = tt
when_late P (Err stop) holds = λ late. holds

-- a session was loaded into a new world, and run
pub replays_loaded : (spells : Spelling) {T : Type 0} (old new : Streams) (was begun now : WorldData) (Stays : Type 0) (result : Result T Stop) (program : ProgramValue) → Loaded spells program old.remaining new.remaining (seen_of now)
    → RunsAs program result now old.contents new.contents → TakesCourse program.apps (seen_of begun) (seen_of now) old.contents (StandsAt result new.contents) → KeepsLines now → IsNew was → IsNew begun → IfErr result (IsRunCause (Unit {0}) old.sink_faults new.sink_faults (seen_of begun) (seen_of now))
    → Replays spells result old new was now Stays
replays_loaded spells old new was begun now Stays result program loaded runs course lines first second why = record {
  loaded = loaded_as spells old.remaining new.remaining (seen_of now) (seen_of begun) old.sink_faults new.sink_faults result why (program, loaded);
  runs = inl (program, loaded, runs);
  course = (seen_of begun, untouched begun second, inl (program, loaded, course));
  lines = on_ok (KeepsLines now) result lines;
  late_lines = when_late (KeepsLines now) result lines;
  why = run_causes spells old.remaining old.source_faults new.source_faults old.sink_faults new.sink_faults (seen_of was) (seen_of begun) (seen_of now) result (are_new was first) (are_new begun second) why;
  early = none_early Stays (Unit {0}) old.sink_faults new.sink_faults (seen_of begun) (seen_of now) result why;
}

-- ---- The run of the applications that were taken

told_spelled : (told : Option (List ℕ)) (program : ProgramValue) (input : List ℕ) → IfSome told (λ bytes. input ≡ bytes) → run_policy input ≡ Ok program → IfSome told (λ bytes. SpellsPolicy bytes program)
told_spelled None program input whole spelled = tt
told_spelled (Some bytes) program input whole spelled = subst (λ (b : List ℕ). run_policy b ≡ Ok program) whole spelled

-- it is that which the input spells
pub of_policy : (P : ProgramValue → Type 0) (told left : Option (List ℕ)) (program : ProgramValue) → Taken program told left → P program → OfInput SpellsPolicy told P
of_policy P told left program taken holds = record { program = program; spelled = told_spelled told program taken.input taken.whole taken.spelled; holds = holds }

pub served_whole : {Own : Type 0} {rounds : ℕ} (told left : Option (List ℕ)) (seen : Seen Own) (a b : Option (List ℕ)) → ServesTaken {T = Unit {0}} rounds (Ok tt) told left seen a b → (program : ProgramValue) × Taken program told left × ServesWhole program rounds seen a b
served_whole told left seen a b (inl served) = served
served_whole told left seen a b (inr before) = absurd before

pub served_of_policy : {Own : Type 0} {rounds : ℕ} (told left : Option (List ℕ)) (seen : Seen Own) (a b : Option (List ℕ)) → ServesTaken {T = Unit {0}} rounds (Ok tt) told left seen a b → OfInput SpellsPolicy told (λ program. ServesWhole program rounds seen a b)
served_of_policy {rounds = rounds} told left seen a b serves = let served = served_whole told left seen a b serves in of_policy (λ program. ServesWhole program rounds seen a b) told left served.0 served.1 served.2

served_late : {Own : Type 0} (rounds : ℕ) (told left : Option (List ℕ)) (seen : Seen Own) (a b : Option (List ℕ)) (stop : Stop) → IsLate stop → ServesTaken {T = Unit {0}} rounds (Err stop) told left seen a b → (program : ProgramValue) × Taken program told left × ServesUntil program rounds stop seen a b
served_late rounds told left seen a b stop late (inl served) = served
served_late rounds told left seen a b stop late (inr before) = not_before _ stop before.0 late

-- at such a status it went so far, or did not begin
pub served_or_not_begun : {Own : Type 0} {rounds : ℕ} (told left : Option (List ℕ)) (status : ℕ) (seen : Seen Own) (stop : Stop) (contents before now_contents : Option (List ℕ)) (faults_old faults faults_new : ℕ) → status ≡ stop_status stop
    → Contains (5 ∷ 6 ∷ 8 ∷ 9 ∷ 10 ∷ 12 ∷ []) (stop_status stop) → NeverFell faults_old faults → ServesTaken {T = Unit {0}} rounds (Err stop) told left seen contents before → Wrote before now_contents faults faults_new (stop_line stop)
    → OfInput SpellsPolicy told (λ program. ServesCut program rounds status seen contents now_contents faults_old faults_new) ⊎ NotBegun status seen contents now_contents faults_old faults_new
served_or_not_begun {rounds = rounds} told left status seen stop contents before now_contents faults_old faults faults_new is within up (inl served) written =
    inl (of_policy (λ program. ServesCut program rounds status seen contents now_contents faults_old faults_new) told left served.0 served.1 (record {
      stop = stop;
      status_is = is;
      before = before;
      faults = faults;
      never_fell = up;
      run = served.2;
      written = written;
    }))
served_or_not_begun {rounds = rounds} told left status seen stop contents before now_contents faults_old faults faults_new is within up (inr before_all) written =
    inr (not_begun status seen stop contents before now_contents faults_old faults faults_new is (is_memory stop before_all.0 within) up before_all.1 before_all.2 written)

-- ---- What follows

pub broke_live : {Own : Type 0} (rounds : ℕ) (told left : Option (List ℕ)) (seen : Seen Own) (a b : Option (List ℕ)) (stop : Stop) → ServesTaken {T = Unit {0}} rounds (Err stop) told left seen a b → NoneFloods seen → BringMessages seen.history → stop_status stop ≡ 8 → ⊥
broke_live rounds told left seen a b stop serves none messages eight =
    let is = is_broken stop eight in
    let served = served_late rounds told left seen a b stop (subst IsLate (sym is.1) tt) serves in
    (subst (λ (s : Stop). ServesUntil served.0 rounds s seen a b) is.1 served.2).0 none messages

pub diverged_live : {Own : Type 0} (rounds : ℕ) (told left : Option (List ℕ)) (seen : Seen Own) (a b : Option (List ℕ)) (stop : Stop) → ServesTaken {T = Unit {0}} rounds (Err stop) told left seen a b → BringMessages seen.history → stop_status stop ≡ 9 → ⊥
diverged_live rounds told left seen a b stop serves messages nine =
    let is = is_diverged stop nine in
    let served = served_late rounds told left seen a b stop (subst IsLate (sym is.1) tt) serves in
    (subst (λ (s : Stop). ServesUntil served.0 rounds s seen a b) is.1 served.2).0 messages

-- a policy that is taken is not refused
pub good_policy : (told : Option (List ℕ)) (input : List ℕ) (program : ProgramValue) → told ≡ Some input → run_policy input ≡ Ok program → (refusal : InputRefusal) → IfSome told (IsNoPolicy refusal) → ⊥
good_policy told input program whole spelled refusal cause = no_both program (refusal_line refusal) (sym spelled ∙ subst (λ (t : Option (List ℕ)). IfSome t (IsNoPolicy refusal)) whole cause)

refused_or_taken : (bytes : List ℕ) (left : Option (List ℕ)) (line : List ℕ) → IsTaken (Some bytes) left → run_policy bytes ≡ Err line → ⊥
refused_or_taken bytes left line taken e = no_both taken.0 line (sym taken.1.spelled ∙ ap run_policy taken.1.whole ∙ e)

-- one that is taken is none
pub none_refused_policy : (told left : Option (List ℕ)) (P : Type 0) (line : List ℕ) → IsTaken told left → IfSome told (λ input. run_policy input ≡ Err line → P)
none_refused_policy None left P line taken = tt
none_refused_policy (Some bytes) left P line taken = λ e. absurd (refused_or_taken bytes left line taken e)

stays_refused : (bytes : List ℕ) (left : Option (List ℕ)) (line : List ℕ) (World Sink : Type 0) → run_policy bytes ≡ Err line → IsTaken (Some bytes) left ⊎ (World × Sink) → World
stays_refused bytes left line World Sink e (inl taken) = absurd (refused_or_taken bytes left line taken e)
stays_refused bytes left line World Sink e (inr stays) = stays.0

pub refuses_policy : (told left : Option (List ℕ)) (stop : Stop) (line : List ℕ) (World Sink : Type 0) → (IsLate stop → IsTaken told left) → IsTaken told left ⊎ (World × Sink)
    → IfSome told (λ input. run_policy input ≡ Err line → Contains (2 ∷ 3 ∷ 4 ∷ 12 ∷ []) (stop_status stop) × World)
refuses_policy None left stop line World Sink late other = tt
refuses_policy (Some bytes) left stop line World Sink late other = λ e. (not_late stop (λ so. refused_or_taken bytes left line (late so) e), stays_refused bytes left line World Sink e other)
