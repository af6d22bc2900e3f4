-- Whether calls are in place: an application is started only where it does not run, and given to and taken from only while it runs;
-- messages go only to switches that are joined, and are taken only where one waits; the world is opened once. A call out of place never
-- succeeds, so that only the steps of calls that failed, or found an end closed, have to be looked at. All of this is our own choice.
use Rattle.std.specs.Prelude.{◌≡◌, ◌≤◌, ℕ, Bool, true, false, List, [], ◌∷◌}
use Rattle.of_types.specs.declared.journal.Act.{Act}
use Rattle.of_types.specs.declared.journal.Act.TheVariants.{Started, Gone}
use Rattle.of_types.specs.declared.journal.TookWhat.{TookWhat}
use Rattle.of_types.specs.declared.journal.TookWhat.TheVariants as took
use Rattle.outside.specs.declared.step.WorldStep.{WorldStep}
use Rattle.outside.specs.declared.step.WorldStep.TheVariants.{Acted, TookInto, NotOpened, RecvLost, SendFailed, RecvFailed}
use Rattle.outside.specs.State.{State, after_step, is_running, has_waiting}
use Rattle.sim_world.specs.Tally.{TallyState, last_count}

-- a start that failed is in place where the application did not run
abbrev pub IsStartExpected : ℕ → Bool → State → Type 0
IsStartExpected app true s = Unit {0}
IsStartExpected app false s = is_running app s ≡ false

-- a take that found the end closed is in place where the application ran
abbrev pub IsTakeExpected : ℕ → TookWhat → State → Type 0
IsTakeExpected app took.Closed s = is_running app s ≡ true
IsTakeExpected app other s = Unit {0}

-- the act is of a call in place
abbrev pub IsActExpected : Act → State → Type 0
IsActExpected (Started app ok) s = IsStartExpected app ok s
IsActExpected (Gone app bytes) s = is_running app s ≡ true
IsActExpected other s = Unit {0}

-- the step is of a call in place, in the state before it
abbrev pub IsExpected : WorldStep → State → Type 0
IsExpected (Acted act) s = IsActExpected act s
IsExpected (TookInto app what room) s = IsTakeExpected app what s
IsExpected NotOpened s = s.opened ≡ false
IsExpected (RecvLost d) s = has_waiting d s ≡ true
IsExpected (SendFailed d) s = ⊥
IsExpected (RecvFailed d) s = ⊥
IsExpected other s = Unit {0}

-- each step is of a call in place, in the state that those before it leave
abbrev pub AreExpected : List WorldStep → State → Type 0
AreExpected [] s = Unit {0}
AreExpected (step ∷ steps) s = IsExpected step s × AreExpected steps (after_step step s)

-- no more calls are counted as out of place than wanted memory, if it was so before
abbrev pub FewStrays : TallyState → TallyState → Type 0
FewStrays before after = before.strays ≤ before.shorts → before.strays ≤ last_count → after.strays ≤ after.shorts
