-- A simulated world as data, and what holds of it: its history is one that its switches, its scripts and the calls that are told to
-- fail make. All of this is our own choice.
use Rattle.std.specs.Prelude.{◌≡◌, ℕ, ◌+◌, ◌≤◌, Bool, true, false, not, ◌||◌, List, [], ◌∷◌, ◌++◌, length, map, if◌then◌else◌}
use Rattle.std.specs.List.{AllByRecursion}
use Rattle.lego_io.specs.Count.{raised}
use Rattle.of_types.specs.declared.journal.Act.{Act}
use Rattle.of_types.specs.declared.journal.Act.TheVariants.{Sent, Got}
use Rattle.of_types.specs.declared.journal.WorldStim.{WorldStim}
use Rattle.outside.specs.declared.call.CallKind.TheVariants as kinds
use Rattle.outside.specs.declared.call.FailCall.{FailCall}
use Rattle.outside.specs.declared.step.WorldStep.{WorldStep}
use Rattle.outside.specs.declared.step.WorldStep.TheVariants.{Acted, TookInto, From, Joined, Left, Moment, Idle, End, Opened, NotOpened, NextFailed, SendLost, RecvLost, SendFailed, RecvFailed}
use Rattle.flow_table.specs.Switch.{Declared}
use Rattle.outside.specs.Seen.{Given, Seen}
use Rattle.outside.specs.State.{State, at_first, after_step, after_steps, state, but_marks, moment_after, link_fails, is_joined, has_waiting}
use Rattle.outside.specs.Conforming.{AreDeclaredFrom, MayDeclare, IsWorldStim}
use Rattle.outside.specs.InOrder.{MayComeAll}
use Rattle.sim_world.specs.Tally.{TallyState, CountsFor, counts_of}
use Rattle.sim_world.specs.Told.{is_told, without_links}
use Rattle.sim_world.specs.Scripts.{Scripts, Life, fresh, life_through, KeepsScripts}
use Rattle.sim_world.specs.Lives.{life_in}

-- ---- As data

-- What a world was given (the calls that are to fail also without those of links), its history and for how many more steps there is room, how many answers of `next` and how many calls
-- that can want memory there were, its counts, the state that it is in (but for marks, which it does not keep), and the life of each application.
pub record WorldData : Type 0 where
  pub scripts : Scripts
  pub stimuli : List WorldStim
  pub fails : List FailCall
  pub told : List FailCall
  pub history : List WorldStep
  pub room : ℕ
  pub nexts : ℕ
  pub calls : ℕ
  pub tally : TallyState
  pub state : State
  pub lives : List (ℕ × Life)

unfoldable pub all_declared : State → List Declared
all_declared s = map (λ l. l.declared) s.links

unfoldable pub given_of : WorldData → Given Scripts
given_of w = record { declared = all_declared w.state; stimuli = w.stimuli; fails = w.fails; own = w.scripts; shows = true }

-- what is seen of it
unfoldable pub seen_of : WorldData → Seen Scripts
seen_of w = record { given = given_of w; history = w.history; counts = counts_of w.tally }

-- ---- Calls that are told to fail

-- an answer of `next`
abbrev pub is_next_answer : WorldStep → Bool
is_next_answer (From d bytes) = true
is_next_answer (Joined d bytes) = true
is_next_answer (Left d) = true
is_next_answer (Moment t) = true
is_next_answer Idle = true
is_next_answer End = true
is_next_answer NextFailed = true
is_next_answer other = false

abbrev pub counted_next : WorldStep → ℕ → ℕ
counted_next step n = if is_next_answer step then n + 1 else n

abbrev pub nexts_through : List WorldStep → ℕ → ℕ
nexts_through [] n = n
nexts_through (step ∷ steps) n = nexts_through steps (counted_next step n)

-- the next call that can want memory is told to
abbrev pub short_told : List FailCall → ℕ → Bool
short_told fails calls = is_told kinds.Short 0 (raised calls) fails

-- a call to send fails where it is told to, or the switch is not joined; one to take a message also where none waits
abbrev pub send_fails : ℕ → State → Bool
send_fails d s = link_fails d s || not (is_joined d s)

abbrev pub recv_fails : ℕ → State → Bool
recv_fails d s = link_fails d s || not (is_joined d s) || not (has_waiting d s)

abbrev pub IsActAsTold : List FailCall → Act → State → Type 0
IsActAsTold fails (Sent d bytes) s = send_fails d s ≡ false
IsActAsTold fails (Got d bytes) s = recv_fails d s ≡ false
IsActAsTold fails other s = Unit {0}

abbrev pub next_told : List FailCall → ℕ → Bool
next_told fails n = is_told kinds.Next 0 (n + 1) fails

-- A step fails exactly where it is told to or out of place; how many answers of `next` came before it stands beside.
unfoldable pub IsAsTold : List FailCall → ℕ → WorldStep → State → Type 0
IsAsTold fails n (Acted act) s = IsActAsTold fails act s
IsAsTold fails n (TookInto app what room) s = Unit {0}
IsAsTold fails n Opened s = (s.opened || is_told kinds.Open 0 1 fails) ≡ false
IsAsTold fails n NotOpened s = (s.opened || is_told kinds.Open 0 1 fails) ≡ true
IsAsTold fails n NextFailed s = next_told fails n ≡ true
IsAsTold fails n (SendLost d) s = send_fails d s ≡ true
IsAsTold fails n (RecvLost d) s = recv_fails d s ≡ true
IsAsTold fails n (SendFailed d) s = send_fails d s ≡ true
IsAsTold fails n (RecvFailed d) s = recv_fails d s ≡ true
IsAsTold fails n item s = next_told fails n ≡ false

abbrev pub AreAsTold : List FailCall → ℕ → List WorldStep → State → Type 0
AreAsTold fails n [] s = Unit {0}
AreAsTold fails n (step ∷ steps) s = IsAsTold fails n step s × AreAsTold fails (counted_next step n) steps (after_step step s)

-- ---- Stimuli that can come

-- each of a declared switch and within its limits, and moments do not go back
abbrev pub CanCome : List Declared → ℕ → List WorldStim → Type 0
CanCome declared moment [] = Unit {0}
CanCome declared moment (x ∷ xs) = IsWorldStim declared moment x × CanCome declared (moment_after x moment) xs

-- ---- The history

-- What a history keeps: what switches send is told in order, applications keep to their scripts, and what fails is what is told to.
pub record IsHistory (given : Given Scripts) (history : List WorldStep) : Type 0 where
  pub word : MayComeAll given.declared history (at_first given)
  pub scripts : KeepsScripts given.own (without_links given.fails) history
  pub told : AreAsTold (without_links given.fails) 0 history (at_first given)

-- ---- What holds of a world

pub record Stands (w : WorldData) : Type 0 where
  pub declared : AreDeclaredFrom 1 (all_declared w.state)
  pub switches : AllByRecursion MayDeclare (all_declared w.state)
  pub state : but_marks (state (seen_of w)) ≡ w.state
  pub lives : (app : ℕ) → life_in app w.lives ≡ life_through w.scripts w.told app w.history fresh
  pub told : w.told ≡ without_links w.fails
  pub nexts : w.nexts ≡ nexts_through w.history 0
  pub history : IsHistory (given_of w) w.history
  pub room : length w.state.running ≤ w.room
  pub tally : CountsFor (all_declared w.state) w.tally
  pub can_come : CanCome (all_declared w.state) w.state.moment w.state.to_come

-- What a call does: what was given stays, the history goes on by these steps, and counts become those. Room is left for the ends that
-- were promised.
pub record Moves (old new : WorldData) (steps : List WorldStep) (counted : TallyState) : Type 0 where
  pub scripts : new.scripts ≡ old.scripts
  pub stimuli : new.stimuli ≡ old.stimuli
  pub fails : new.fails ≡ old.fails
  pub told : new.told ≡ old.told
  pub history : new.history ≡ old.history ++ steps
  pub nexts : new.nexts ≡ nexts_through steps old.nexts
  pub room : length new.state.running ≤ new.room
  pub tally : new.tally ≡ counted
  pub state : new.state ≡ but_marks (after_steps steps old.state)
  pub lives : (app : ℕ) → life_in app new.lives ≡ life_through old.scripts old.told app steps (life_in app old.lives)
