-- The run of a session is the reference controller's.
use Rattle.std.proofs.Common.{◌≡◌, ◌⊎◌, ℕ, ◌^◌, ◌≤◌, Bool, false, List, [], ◌∷◌, length, Contains, Option, Some, None, Result, Ok, Err, IfErr, IfSome, refl, sym, ap, ◌∙◌, subst, arith, inl, inr}
use Rattle.std.proofs.lemmas.Bool.{ne_eqb}
use Rattle.std.proofs.lemmas.List.{take_all}
use Rattle.std.specs.Result.{IsErrAnd}
use Rattle.of_types.specs.declared.journal.WorldStim.{WorldStim}
use Rattle.lego_io.specs.Count.{NeverFell}
use Rattle.lego_io.specs.laws.CountLaws.{Rose-after}
use Rattle.lego_model.specs.SessionLines.{SessionValue}
use Rattle.lego_model.specs.SessionText.{session_text}
use Rattle.lego_model.specs.laws.SessionTextLaws.{session_read}
use Rattle.lego_model.specs.CutRun.{NothingDone}
use Rattle.lego_model.specs.OwnIds.{own_ids, AscendWithin, OwnIdsAscend}
use Rattle.lego_model.specs.History.{stimuli_in}
use Rattle.lego_model.specs.WholeRun.{TookFirst, is_spent, EndsAlike, LeavesAlike}
use Rattle.outside.specs.declared.step.WorldStep.{WorldStep}
use Rattle.outside.specs.Seen.{Seen, Continues, journal}
use Rattle.outside.specs.State.{at_first, after_steps, state}
use Rattle.outside.specs.InOrder.{BringMessages, InOrder}
use Rattle.sim_world.specs.Told.{without_links}
use Rattle.sim_world.specs.Scripts.{Scripts, KeepsScripts}
use Rattle.sim_world.specs.World.{WorldData, given_of, seen_of}
use Rattle.sim_world.specs.Tally.{counts_of}
use Rattle.sim_world.specs.Building.{IsNew, Begins}
use Rattle.session_text.specs.Loading.{given_by}
use Rattle.legosdn.specs.declared.stop.InputRefusal.{InputRefusal}
use Rattle.legosdn.specs.declared.stop.Stop.{Stop}
use Rattle.legosdn.specs.declared.stop.Stop.TheVariants.{Usage, Refused, ReadFault, WriteFault, Shut, NextFault, SwitchBroke, Diverged, EventsLeft, NoMemory}
use Rattle.legosdn.specs.Input.{ProgramValue, Spelling}
use Rattle.legosdn.specs.Said.{allowed_by}
use Rattle.legosdn.specs.Stops.{stop_status, stop_line, refusal_line}
use Rattle.legosdn.specs.Headline.{Faults, IsNoSession, IsReadCause, IsCause, NoneFailed, IsEarly, IsLate, SpellsSession, OfInput, Loaded, KeepsLines, Wrote, RunsWhole, RunsPart, NoneFloods, SomeRefused, StopsAs, RunsAs, StopsBefore, RunsLoaded, LeftAs, CutShort, NotBegun}
use Rattle.legosdn.specs.Live.{TellsInOrder, ServesWhole, ServesPart, ServesUntil, ServesAs}
use Rattle.legosdn.proofs.Causes.{no_both}
use Rattle.legosdn.proofs.CutRuns.{lines_said, writing_said, memory_said}
use Rattle.legosdn.proofs.Said.{kept_to_lines, ends_as_said, leaves_as_said}
use Rattle.legosdn.proofs.Statuses.{is_left, is_broken, is_diverged, is_memory, not_before}

-- a session that was read has a million stimuli at most
pub loads_few : (names : List (List ℕ)) (n : ℕ) (bytes : List ℕ) (seen : Seen Scripts) → (s : SessionValue) × (session_text names n bytes ≡ Ok s) × Begins (given_by s) seen → length seen.given.stimuli ≤ 1000000
unfolding given_by
loads_few names n bytes seen read =
    let few = (session_read names n bytes read.0 read.1).0.few_stimuli in
    subst (λ (xs : List WorldStim). length xs ≤ 1000000) (sym (ap (λ g. g.stimuli) read.2.all)) few

-- nothing has happened in a new world
pub untouched : (w : WorldData) → IsNew w → (seen_of w).history ≡ []
unfolding seen_of
untouched w is = is.history

-- and no application runs where nothing has happened
pub none_runs_yet : {Own : Type 0} (seen : Seen Own) → seen.history ≡ [] → (state seen).running ≡ []
unfolding state at_first
none_runs_yet seen is = ap (λ (steps : List WorldStep). (after_steps steps (at_first seen.given)).running) is

pub none_runs : (w : WorldData) → IsNew w → (state (seen_of w)).running ≡ []
none_runs w is = none_runs_yet (seen_of w) (untouched w is)

-- no message was sent there
pub no_ids_yet : {Own : Type 0} (seen : Seen Own) → seen.history ≡ [] → OwnIdsAscend seen
unfolding own_ids journal
no_ids_yet seen is = subst (λ (steps : List WorldStep). AscendWithin 1 (own_ids (journal steps)) (2 ^ 32)) (sym is) (omega arith)

pub no_ids : (w : WorldData) → IsNew w → OwnIdsAscend (seen_of w)
no_ids w is = no_ids_yet (seen_of w) (untouched w is)

-- a simulated world tells in order
pub tells : (old new : Seen Scripts) → old.history ≡ [] → InOrder new → TellsInOrder (Unit {0}) old new
tells old new none order = record { told = tt; untouched = none; order = order }

-- all stimuli of a session happen, since there are more rounds
all_happen : (seen : Seen Scripts) → length seen.given.stimuli ≤ 1000000 → TookFirst 1000000000 seen → stimuli_in seen ≡ seen.given.stimuli
all_happen seen few took = took ∙ take_all 1000000000 seen.given.stimuli (omega (arith, few))

never_spent : (seen : Seen Scripts) → length seen.given.stimuli ≤ 1000000 → stimuli_in seen ≡ seen.given.stimuli → is_spent 1000000000 seen ≡ false
never_spent seen few all =
    let told : length (stimuli_in seen) ≡ length seen.given.stimuli = ap (λ (xs : List WorldStim). length xs) all in
    ne_eqb (length (stimuli_in seen)) 1000000000 (λ same. omega (arith, few, told, same))

-- the world kept to the lines that it was given
lines_seen : (sim : WorldData) → KeepsLines sim → KeepsScripts (seen_of sim).given.own (without_links (seen_of sim).given.fails) (seen_of sim).history
unfolding seen_of given_of
lines_seen sim lines = lines

runs_whole : (program : ProgramValue) (sim : WorldData) (a b : Option (List ℕ)) → KeepsLines sim → length (seen_of sim).given.stimuli ≤ 1000000 → ServesWhole program 1000000000 (seen_of sim) a b → RunsWhole program (seen_of sim) a b
runs_whole program sim a b lines few whole =
    let all = all_happen (seen_of sim) few whole.stimuli in
    let alike = subst (λ (spent : Bool). EndsAlike program.apps (allowed_by program.judge) spent (seen_of sim) a b whole.events) (never_spent (seen_of sim) few all) whole.alike in
    record {
      events = whole.events;
      alike = alike;
      stimuli = all;
      as_said = λ no_call. ends_as_said program (seen_of sim) a b whole.events alike all (kept_to_lines (length program.apps) (seen_of sim) (without_links (seen_of sim).given.fails) (lines_seen sim lines) no_call alike.in_order alike.at_once);
    }

runs_part : (program : ProgramValue) (sim : WorldData) (a b : Option (List ℕ)) (left : ℕ) → KeepsLines sim → length (seen_of sim).given.stimuli ≤ 1000000 → ServesPart program 1000000000 (seen_of sim) a b left → RunsPart program (seen_of sim) a b left
runs_part program sim a b left lines few part =
    let all = all_happen (seen_of sim) few part.stimuli in
    let alike = subst (λ (spent : Bool). LeavesAlike program.apps (allowed_by program.judge) spent (seen_of sim) a b left) (never_spent (seen_of sim) few all) part.alike in
    record {
      alike = alike;
      stimuli = all;
      as_said = λ no_call. leaves_as_said program (seen_of sim) a b left alike all (kept_to_lines (length program.apps) (seen_of sim) (without_links (seen_of sim).given.fails) (lines_seen sim lines) no_call alike.in_order alike.at_once);
    }

some_refused : (sim : WorldData) → (BringMessages (seen_of sim).history → ⊥) → SomeRefused sim
unfolding seen_of
some_refused sim none = none

-- how it goes, over what the lines of the session say
stops_said : (program : ProgramValue) (sim : WorldData) (a b : Option (List ℕ)) (stop : Stop) → KeepsLines sim → length (seen_of sim).given.stimuli ≤ 1000000 → ServesUntil program 1000000000 stop (seen_of sim) a b → StopsAs program stop sim a b
stops_said program sim a b Usage lines few until = tt
stops_said program sim a b (Refused refusal) lines few until = tt
stops_said program sim a b ReadFault lines few until = tt
stops_said program sim a b WriteFault lines few until = writing_said program sim a b lines until
stops_said program sim a b Shut lines few until = until
stops_said program sim a b NextFault lines few until = lines_said program sim a b lines until
stops_said program sim a b (SwitchBroke d) lines few until = ((λ none. some_refused sim (until.0 none)), lines_said program sim a b lines until.1)
stops_said program sim a b (Diverged d) lines few until = (some_refused sim until.0, lines_said program sim a b lines until.1)
stops_said program sim a b (EventsLeft left) lines few until = runs_part program sim a b left lines few until
stops_said program sim a b NoMemory lines few until = memory_said program sim a b (NothingDone [] (seen_of sim) a b) lines until

pub runs_said : {T : Type 0} (program : ProgramValue) (sim : WorldData) (a b : Option (List ℕ)) (result : Result T Stop) → KeepsLines sim → length (seen_of sim).given.stimuli ≤ 1000000 → ServesAs program 1000000000 result (seen_of sim) a b → RunsAs program result sim a b
runs_said program sim a b (Ok x) lines few serves = runs_whole program sim a b lines few serves
runs_said program sim a b (Err stop) lines few serves = stops_said program sim a b stop lines few serves

-- as few stimuli behind a run as before it
pub still_few : (old new : Seen Scripts) → Continues (Unit {0}) old new → length old.given.stimuli ≤ 1000000 → length new.given.stimuli ≤ 1000000
still_few old new continues few = subst (λ g. length g.stimuli ≤ 1000000) (sym continues.given) few

-- ---- The run of the applications that were loaded

told_spelled : (spells : Spelling) (told : Option (List ℕ)) (program : ProgramValue) (input : List ℕ) (session : SessionValue) → IfSome told (λ bytes. input ≡ bytes) → spells input ≡ Ok (program, session) → IfSome told (λ bytes. SpellsSession spells bytes program)
told_spelled spells None program input session whole spelled = tt
told_spelled spells (Some bytes) program input session whole spelled = (session, subst (λ (b : List ℕ). spells b ≡ Ok (program, session)) whole spelled)

-- it is that which the input spells
pub of_session : (spells : Spelling) (P : ProgramValue → Type 0) (told left : Option (List ℕ)) (seen : Seen Scripts) (program : ProgramValue) → Loaded spells program told left seen → P program → OfInput (SpellsSession spells) told P
of_session spells P told left seen program loaded holds = record {
  program = program;
  spelled = told_spelled spells told program loaded.input loaded.session loaded.whole loaded.spelled;
  holds = holds;
}

-- a run that came to its end was one of such applications,
pub ran_whole : (spells : Spelling) (told left : Option (List ℕ)) (sim : WorldData) (a b : Option (List ℕ)) → RunsLoaded {T = Unit {0}} spells (Ok tt) told left sim a b → (program : ProgramValue) × Loaded spells program told left (seen_of sim) × RunsWhole program (seen_of sim) a b
ran_whole spells told left sim a b (inl ran) = ran
ran_whole spells told left sim a b (inr before) = absurd before

pub whole_of_input : (spells : Spelling) (told left : Option (List ℕ)) (sim : WorldData) (a b : Option (List ℕ)) → RunsLoaded {T = Unit {0}} spells (Ok tt) told left sim a b → OfInput (SpellsSession spells) told (λ program. RunsWhole program (seen_of sim) a b)
whole_of_input spells told left sim a b runs = let ran = ran_whole spells told left sim a b runs in of_session spells (λ program. RunsWhole program (seen_of sim) a b) told left (seen_of sim) ran.0 ran.1 ran.2

-- and so was one that a stop ended that comes once the world runs
abbrev RanUntil : Spelling → Stop → Option (List ℕ) → Option (List ℕ) → WorldData → Option (List ℕ) → Option (List ℕ) → Type 0
RanUntil spells stop told left sim a b = (program : ProgramValue) × Loaded spells program told left (seen_of sim) × StopsAs program stop sim a b

ran_late : (spells : Spelling) (told left : Option (List ℕ)) (sim : WorldData) (a b : Option (List ℕ)) (stop : Stop) → IsLate stop → RunsLoaded {T = Unit {0}} spells (Err stop) told left sim a b → RanUntil spells stop told left sim a b
ran_late spells told left sim a b stop late (inl ran) = ran
ran_late spells told left sim a b stop late (inr before) = not_before _ stop before.0 late

-- how the run went up to a stop
cut_short : (program : ProgramValue) (status : ℕ) (sim : WorldData) (stop : Stop) (contents before now_contents : Option (List ℕ)) (faults_old faults faults_new : ℕ) → status ≡ stop_status stop → NeverFell faults_old faults → StopsAs program stop sim contents before
    → Wrote before now_contents faults faults_new (stop_line stop) → CutShort program status sim contents now_contents faults_old faults_new
cut_short program status sim stop contents before now_contents faults_old faults faults_new is up runs written = record {
  stop = stop;
  status_is = is;
  before = before;
  faults = faults;
  never_fell = up;
  run = runs;
  written = written;
}

-- it did not begin: the line is the first that is written
wrote_first : (stop : Stop) (contents before now_contents : Option (List ℕ)) (faults_old faults faults_new : ℕ) → stop ≡ NoMemory → NeverFell faults_old faults → before ≡ contents → Wrote before now_contents faults faults_new (stop_line stop)
    → Wrote contents now_contents faults_old faults_new (stop_line NoMemory)
wrote_first stop contents before now_contents faults_old faults faults_new memory up still written =
    elim (subst (λ (s : Stop). Wrote contents now_contents faults faults_new (stop_line s)) memory (subst (λ (c : Option (List ℕ)). Wrote c now_contents faults faults_new (stop_line stop)) still written)) [
      | inl all ↦ inl all
      | inr part ↦ inr (Rose-after faults_old faults faults_new up part.0, part.1)
    ]

pub not_begun : {Own : Type 0} (status : ℕ) (seen : Seen Own) (stop : Stop) (contents before now_contents : Option (List ℕ)) (faults_old faults faults_new : ℕ) → status ≡ stop_status stop → stop ≡ NoMemory → NeverFell faults_old faults → seen.history ≡ []
    → before ≡ contents → Wrote before now_contents faults faults_new (stop_line stop) → NotBegun status seen contents now_contents faults_old faults_new
not_begun status seen stop contents before now_contents faults_old faults faults_new is memory up none still written = record {
  status_is = is ∙ ap stop_status memory;
  nothing = none;
  written = wrote_first stop contents before now_contents faults_old faults faults_new memory up still written;
}

-- at such a status it went so far, or did not begin
pub cut_or_not_begun : (spells : Spelling) (told left : Option (List ℕ)) (status : ℕ) (sim : WorldData) (stop : Stop) (contents before now_contents : Option (List ℕ)) (faults_old faults faults_new : ℕ) → status ≡ stop_status stop
    → Contains (5 ∷ 6 ∷ 8 ∷ 9 ∷ 10 ∷ 12 ∷ []) (stop_status stop) → NeverFell faults_old faults → RunsLoaded {T = Unit {0}} spells (Err stop) told left sim contents before → Wrote before now_contents faults faults_new (stop_line stop)
    → OfInput (SpellsSession spells) told (λ program. CutShort program status sim contents now_contents faults_old faults_new) ⊎ NotBegun status (seen_of sim) contents now_contents faults_old faults_new
cut_or_not_begun spells told left status sim stop contents before now_contents faults_old faults faults_new is within up (inl ran) written =
    inl (of_session spells (λ program. CutShort program status sim contents now_contents faults_old faults_new) told left (seen_of sim) ran.0 ran.1
    (cut_short ran.0 status sim stop contents before now_contents faults_old faults faults_new is up ran.2 written))
cut_or_not_begun spells told left status sim stop contents before now_contents faults_old faults faults_new is within up (inr before_all) written =
    inr (not_begun status (seen_of sim) stop contents before now_contents faults_old faults faults_new is (is_memory stop before_all.0 within) up before_all.1 before_all.2 written)

-- where events are left, the last line tells how many
left_as : (spells : Spelling) (program : ProgramValue) (sim : WorldData) (left : ℕ) (stop : Stop) (contents before now_contents : Option (List ℕ)) (faults_old faults faults_new : ℕ) (told : Option (List ℕ)) (old new : Faults Scripts) → stop ≡ EventsLeft left → NeverFell faults_old faults
    → StopsAs program stop sim contents before → IsCause (Unit {0}) (IsNoSession spells) told old new stop → Wrote before now_contents faults faults_new (stop_line stop) → LeftAs program sim contents now_contents faults_old faults_new
left_as spells program sim left stop contents before now_contents faults_old faults faults_new told old new is up runs cause written = record {
  left = left;
  some = subst (IsCause (Unit {0}) (IsNoSession spells) told old new) is cause;
  before = before;
  faults = faults;
  never_fell = up;
  run = subst (λ (s : Stop). StopsAs program s sim contents before) is runs;
  written = subst (λ (s : Stop). Wrote before now_contents faults faults_new (stop_line s)) is written;
}

late_at : (stop other : Stop) → stop ≡ other → IsLate other → IsLate stop
late_at stop other is late = subst IsLate (sym is) late

pub left_of_input : (spells : Spelling) (rest : Option (List ℕ)) (sim : WorldData) (stop : Stop) (contents before now_contents : Option (List ℕ)) (faults_old faults faults_new : ℕ) (told : Option (List ℕ)) (old new : Faults Scripts) → stop_status stop ≡ 10 → NeverFell faults_old faults
    → RunsLoaded {T = Unit {0}} spells (Err stop) told rest sim contents before → IsCause (Unit {0}) (IsNoSession spells) told old new stop → Wrote before now_contents faults faults_new (stop_line stop)
    → OfInput (SpellsSession spells) told (λ program. LeftAs program sim contents now_contents faults_old faults_new)
left_of_input spells rest sim stop contents before now_contents faults_old faults faults_new told old new ten up runs cause written =
    let last = is_left stop ten in
    let ran = ran_late spells told rest sim contents before stop (late_at stop (EventsLeft last.0) last.1 tt) runs in
    of_session spells (λ program. LeftAs program sim contents now_contents faults_old faults_new) told rest (seen_of sim) ran.0 ran.1
    (left_as spells ran.0 sim last.0 stop contents before now_contents faults_old faults faults_new told old new last.1 up ran.2 cause written)

-- where an input is not read, nothing was done
pub read_before : (IsRefused : InputRefusal → List ℕ → Type 0) (told : Option (List ℕ)) (k l : ℕ) (stop : Stop) → IsReadCause IsRefused told k l stop → IsEarly stop ⊎ (stop ≡ NoMemory)
read_before IsRefused told k l Usage cause = absurd cause
read_before IsRefused told k l (Refused refusal) cause = inl tt
read_before IsRefused told k l ReadFault cause = inl tt
read_before IsRefused told k l WriteFault cause = absurd cause
read_before IsRefused told k l Shut cause = absurd cause
read_before IsRefused told k l NextFault cause = absurd cause
read_before IsRefused told k l (SwitchBroke d) cause = absurd cause
read_before IsRefused told k l (Diverged d) cause = absurd cause
read_before IsRefused told k l (EventsLeft left) cause = absurd cause
read_before IsRefused told k l NoMemory cause = inr refl

pub stops_by_read : {Own T : Type 0} (IsRefused : InputRefusal → List ℕ → Type 0) (told : Option (List ℕ)) (k l : ℕ) (seen : Seen Own) (contents : Option (List ℕ)) (stop : Stop) (result : Result T Stop) → IsErrAnd result (λ s. s ≡ stop) → seen.history ≡ []
    → IsReadCause IsRefused told k l stop → StopsBefore result seen contents contents
stops_by_read IsRefused told k l seen contents stop (Ok x) is none cause = absurd is
stops_by_read IsRefused told k l seen contents stop (Err s) is none cause =
    subst (λ (t : Stop). (IsEarly t ⊎ (t ≡ NoMemory)) × (seen.history ≡ []) × (contents ≡ contents)) (sym is) (read_before IsRefused told k l stop cause, none, refl)

pub runs_by_read : (spells : Spelling) {T : Type 0} (told left : Option (List ℕ)) (k l : ℕ) (sim : WorldData) (contents : Option (List ℕ)) (stop : Stop) (result : Result T Stop) → IsErrAnd result (λ s. s ≡ stop) → (seen_of sim).history ≡ [] → IsReadCause (IsNoSession spells) told k l stop
    → RunsLoaded spells result told left sim contents contents
runs_by_read spells told left k l sim contents stop result is none cause = inr (stops_by_read (IsNoSession spells) told k l (seen_of sim) contents stop result is none cause)

-- and comes before anything runs
read_not_late : (P : Type 0) (IsRefused : InputRefusal → List ℕ → Type 0) (told : Option (List ℕ)) (k l : ℕ) (stop : Stop) → IsReadCause IsRefused told k l stop → IsLate stop → P
read_not_late P IsRefused told k l Usage cause late = absurd cause
read_not_late P IsRefused told k l (Refused refusal) cause late = absurd late
read_not_late P IsRefused told k l ReadFault cause late = absurd late
read_not_late P IsRefused told k l WriteFault cause late = absurd cause
read_not_late P IsRefused told k l Shut cause late = absurd cause
read_not_late P IsRefused told k l NextFault cause late = absurd cause
read_not_late P IsRefused told k l (SwitchBroke d) cause late = absurd cause
read_not_late P IsRefused told k l (Diverged d) cause late = absurd cause
read_not_late P IsRefused told k l (EventsLeft left) cause late = absurd cause
read_not_late P IsRefused told k l NoMemory cause late = absurd late

pub by_read : {T : Type 0} (P : Type 0) (IsRefused : InputRefusal → List ℕ → Type 0) (told : Option (List ℕ)) (k l : ℕ) (stop : Stop) (result : Result T Stop) → IsErrAnd result (λ s. s ≡ stop) → IsReadCause IsRefused told k l stop → IfErr result (λ s. IsLate s → P)
by_read P IsRefused told k l stop (Ok x) is cause = tt
by_read P IsRefused told k l stop (Err s) is cause = λ late. read_not_late P IsRefused told k l stop cause (subst IsLate is late)

pub lines_by_read : (spells : Spelling) {T : Type 0} (P : Type 0) (told : Option (List ℕ)) (k l : ℕ) (stop : Stop) (result : Result T Stop) → IsErrAnd result (λ s. s ≡ stop) → IsReadCause (IsNoSession spells) told k l stop → IfErr result (λ s. IsLate s → P)
lines_by_read spells P told k l stop result is cause = by_read P (IsNoSession spells) told k l stop result is cause

-- what a stop of a switch says of the run
pub broke_as : (spells : Spelling) (told left : Option (List ℕ)) (sim : WorldData) (stop : Stop) (a b : Option (List ℕ)) → RunsLoaded {T = Unit {0}} spells (Err stop) told left sim a b → NoneFloods (seen_of sim) → stop_status stop ≡ 8 → SomeRefused sim
broke_as spells told left sim stop a b runs none eight =
    let is = is_broken stop eight in
    let ran = ran_late spells told left sim a b stop (late_at stop (SwitchBroke is.0) is.1 tt) runs in
    (subst (λ (s : Stop). StopsAs ran.0 s sim a b) is.1 ran.2).0 none

pub diverged_as : (spells : Spelling) (told left : Option (List ℕ)) (sim : WorldData) (stop : Stop) (a b : Option (List ℕ)) → RunsLoaded {T = Unit {0}} spells (Err stop) told left sim a b → stop_status stop ≡ 9 → SomeRefused sim
diverged_as spells told left sim stop a b runs nine =
    let is = is_diverged stop nine in
    let ran = ran_late spells told left sim a b stop (late_at stop (Diverged is.0) is.1 tt) runs in
    (subst (λ (s : Stop). StopsAs ran.0 s sim a b) is.1 ran.2).0

-- ---- A good input is answered

pub completes : {Own : Type 0} (Tells : Type 0) (IsRefused : InputRefusal → List ℕ → Type 0) (told : Option (List ℕ)) (old new : Faults Own) (stop : Stop) → IsCause Tells IsRefused told old new stop → ((refusal : InputRefusal) → IfSome told (IsRefused refusal) → ⊥)
    → (stop_status stop ≡ 8 → ⊥) → (stop_status stop ≡ 9 → ⊥) → NoneFailed old new → Contains (0 ∷ 10 ∷ 12 ∷ []) (stop_status stop)
completes Tells IsRefused told old new Usage cause good broke diverged none = absurd cause
completes Tells IsRefused told old new (Refused refusal) cause good broke diverged none = absurd (good refusal cause)
completes Tells IsRefused told old new ReadFault cause good broke diverged none = absurd (none.source cause)
completes Tells IsRefused told old new WriteFault cause good broke diverged none = absurd (none.sink cause)
completes Tells IsRefused told old new Shut cause good broke diverged none = absurd (none.shuts cause)
completes Tells IsRefused told old new NextFault cause good broke diverged none = absurd (none.next_faults cause)
completes Tells IsRefused told old new (SwitchBroke d) cause good broke diverged none = absurd (broke refl)
completes Tells IsRefused told old new (Diverged d) cause good broke diverged none = absurd (diverged refl)
completes Tells IsRefused told old new (EventsLeft left) cause good broke diverged none = (1, omega arith, refl)
completes Tells IsRefused told old new NoMemory cause good broke diverged none = (2, omega arith, refl)

-- an input that spells a session is not refused
pub good_session : (spells : Spelling) (told : Option (List ℕ)) (input : List ℕ) (program : ProgramValue) (session : SessionValue) → told ≡ Some input → spells input ≡ Ok (program, session) → (refusal : InputRefusal) → IfSome told (IsNoSession spells refusal) → ⊥
good_session spells told input program session whole spelled refusal cause = no_both (program, session) (refusal_line refusal) (sym spelled ∙ subst (λ (t : Option (List ℕ)). IfSome t (IsNoSession spells refusal)) whole cause)

-- nothing was counted in a new world
pub new_strays : (w : WorldData) → IsNew w → (seen_of w).counts.strays ≤ (seen_of w).counts.shorts
unfolding seen_of counts_of
new_strays w is = omega (arith, is.counts.strays)
