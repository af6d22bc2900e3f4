-- What a simulated world is given before anything happens. All of this is our own choice.
use Rattle.std.specs.Prelude.{◌≡◌, ℕ, true, List, [], ◌∷◌, ◌++◌, nat_lt, if◌then◌else◌}
use Rattle.std.specs.List.{AllByRecursion}
use Rattle.of_types.specs.declared.journal.WorldStim.{WorldStim}
use Rattle.app_frames.specs.declared.script.ScriptStep.{ScriptStep}
use Rattle.app_frames.specs.declared.script.StartScript.{StartScript}
use Rattle.flow_table.specs.Switch.{Declared}
use Rattle.outside.specs.declared.call.FailCall.{FailCall}
use Rattle.outside.specs.Seen.{Given, Seen, Counts}
use Rattle.outside.specs.State.{at_first, moment_after}
use Rattle.outside.specs.Conforming.{AreDeclaredFrom, MayDeclare}
use Rattle.sim_world.specs.Tally.{CountsFor, counts_of}
use Rattle.sim_world.specs.Told.{without_links}
use Rattle.sim_world.specs.Scripts.{Scripts}
use Rattle.sim_world.specs.World.{WorldData, all_declared, given_of, CanCome}

-- ---- One thing more

-- a switch among others, which stand by number
abbrev pub insert_declared : Declared → List Declared → List Declared
insert_declared d [] = d ∷ []
insert_declared d (e ∷ es) = if nat_lt d.dpid e.dpid then d ∷ e ∷ es else e ∷ insert_declared d es

abbrev pub with_switch : Declared → Given Scripts → Given Scripts
with_switch d given = record given { declared = insert_declared d given.declared }

abbrev pub with_stimulus : WorldStim → Given Scripts → Given Scripts
with_stimulus x given = record given { stimuli = given.stimuli ++ x ∷ [] }

-- a call that is to fail
abbrev pub with_fail : FailCall → Given Scripts → Given Scripts
with_fail fail given = record given { fails = given.fails ++ fail ∷ [] }

-- how the next start of an application ends
abbrev pub with_start : ℕ → StartScript → Given Scripts → Given Scripts
with_start app start given = record given { own = record given.own { starts = given.own.starts ++ (app, start) ∷ [] } }

-- what an application gives in its next turn
abbrev pub with_reply : ℕ → List ScriptStep → Given Scripts → Given Scripts
with_reply app reply given = record given { own = record given.own { replies = given.own.replies ++ (app, reply) ∷ [] } }

-- all lines of the applications' turns, and all stimuli, behind those before
abbrev pub with_replies : List (ℕ × List ScriptStep) → Given Scripts → Given Scripts
with_replies replies given = record given { own = record given.own { replies = given.own.replies ++ replies } }

abbrev pub with_stimuli : List WorldStim → Given Scripts → Given Scripts
with_stimuli stimuli given = record given { stimuli = given.stimuli ++ stimuli }

-- ---- Nothing

abbrev pub nothing_given : Given Scripts
nothing_given = record { declared = []; stimuli = []; fails = []; own = record { starts = []; replies = [] }; shows = true }

-- ---- What may be given

-- the moment of the last stimulus that names one, or the one before
abbrev pub last_moment_from : ℕ → List WorldStim → ℕ
last_moment_from moment [] = moment
last_moment_from moment (x ∷ xs) = last_moment_from (moment_after x moment) xs

-- the same, where the run begins at moment 0
abbrev pub last_moment_of : List WorldStim → ℕ
last_moment_of stimuli = last_moment_from 0 stimuli

-- switches by number, each one that may be declared, and stimuli of those, with moments that do not go back
pub record MayBeGiven (given : Given Scripts) : Type 0 where
  pub declared : AreDeclaredFrom 1 given.declared
  pub switches : AllByRecursion MayDeclare given.declared
  pub stimuli : CanCome given.declared 0 given.stimuli

-- ---- A world in which nothing happened yet

-- no fault came
pub record AreZero (counts : Counts) : Type 0 where
  pub shuts : counts.shuts ≡ 0
  pub next_faults : counts.next_faults ≡ 0
  pub starts_failed : counts.starts_failed ≡ 0
  pub closings : counts.closings ≡ 0
  pub silences : counts.silences ≡ 0
  pub link_faults : (d : ℕ) → counts.link_faults d ≡ 0
  pub shorts : counts.shorts ≡ 0
  pub shorts_of : (d : ℕ) → counts.shorts_of d ≡ 0
  pub strays : counts.strays ≡ 0

pub record IsNew (w : WorldData) : Type 0 where
  pub history : w.history ≡ []
  pub nexts : w.nexts ≡ 0
  pub calls : w.calls ≡ 0
  pub lives : w.lives ≡ []
  pub told : w.told ≡ without_links w.fails
  pub state : w.state ≡ at_first (given_of w)
  pub counts : AreZero (counts_of w.tally)
  pub tally : CountsFor (all_declared w.state) w.tally

-- It was given one thing more, and still nothing happened.
pub record Gets (change : Given Scripts → Given Scripts) (old new : WorldData) : Type 0 where
  pub still : IsNew new
  pub given : given_of new ≡ change (given_of old)

-- What is seen of a world that was given this, and in which nothing happened yet.
pub record Begins (given : Given Scripts) (seen : Seen Scripts) : Type 0 where
  pub all : seen.given ≡ given
  pub history : seen.history ≡ []
  pub counts : AreZero seen.counts
