-- A world whose switches are those of another world, and whose applications are its own: what is seen of it is woven of the history of
-- the other world and of notes, each the step of an application and the other world as it stood then. All of this is our own choice.
use Rattle.std.specs.Prelude.{◌≡◌, ◌==◌, ℕ, ◌+◌, ◌-◌, ◌^◌, ◌≤◌, Bool, true, false, not, List, [], ◌∷◌, ◌++◌, map, filter, drop, length, min, Some, Result, Ok, Err, IsTrue, slice_get, if◌then◌else◌}
use Rattle.lego_io.specs.Count.{raised}
use Rattle.of_types.specs.declared.journal.Act.{Act}
use Rattle.of_types.specs.declared.journal.Act.TheVariants.{Started, Gave, Gone, Took, Ended}
use Rattle.of_types.specs.declared.journal.TookWhat.{TookWhat}
use Rattle.of_types.specs.declared.journal.TookWhat.TheVariants as took
use Rattle.outside.specs.declared.faults.Short.{Short}
use Rattle.outside.specs.declared.faults.StartFault.{StartFault}
use Rattle.outside.specs.declared.faults.StartFault.TheVariants as starting
use Rattle.outside.specs.declared.faults.GiveFault.{GiveFault}
use Rattle.outside.specs.declared.faults.GiveFault.TheVariants as giving
use Rattle.outside.specs.declared.item.Taken.{Taken}
use Rattle.outside.specs.declared.item.Taken.TheVariants as gave
use Rattle.outside.specs.declared.step.WorldStep.{WorldStep}
use Rattle.outside.specs.declared.step.WorldStep.TheVariants.{Acted, TookInto}
use Rattle.outside.specs.Seen.{Counts, Seen, Longer}
use Rattle.outside.specs.State.{state, is_running}

-- ---- Steps of applications

abbrev pub is_app_act : Act → Bool
is_app_act (Started app ok) = true
is_app_act (Gave app bytes) = true
is_app_act (Gone app bytes) = true
is_app_act (Took app what) = true
is_app_act (Ended app) = true
is_app_act other = false

-- the step is one of an application: its start, what it was given, what was taken from it, its end
abbrev pub is_app_step : WorldStep → Bool
is_app_step (Acted act) = is_app_act act
is_app_step (TookInto app what room) = true
is_app_step other = false

abbrev pub is_link_step : WorldStep → Bool
is_link_step step = not (is_app_step step)

-- the other steps, in order
unfoldable pub link_steps : List WorldStep → List WorldStep
link_steps steps = filter is_link_step steps

-- ---- The history

-- a step of an application, behind the history that the other world had then
abbrev pub Note : Type 0
Note = List WorldStep × WorldStep

abbrev pub noted : {W Own : Type 0} → (W → Seen Own) → List (W × WorldStep) → List Note
noted see notes = map (λ note. ((see note.0).history, note.1)) notes

-- what came of the other world behind a front of its history, but for its applications
abbrev pub links_since : List WorldStep → List WorldStep → List WorldStep
links_since before now = link_steps (drop (length before) now)

-- the notes, each behind what came of the other world before it, and what came since the last
abbrev pub woven : List WorldStep → List Note → List WorldStep → List WorldStep
woven before [] now = links_since before now
woven before (note ∷ notes) now = links_since before note.0 ++ note.1 ∷ woven note.0 notes now

-- the other world's history went on from note to note, and each note is of an application
abbrev pub Grows : List WorldStep → List Note → List WorldStep → Type 0
Grows before [] now = Longer before now
Grows before (note ∷ notes) now = Longer before note.0 × IsTrue (is_app_step note.1) × Grows note.0 notes now

-- ---- Counts

-- the calls of applications are counted here
pub record AppCounts : Type 0 where
  pub starts_failed : ℕ
  pub closings : ℕ
  pub silences : ℕ
  pub shorts : ℕ
  pub strays : ℕ

-- two counts of the same, which stay at the last value of 64 bits
abbrev pub total : ℕ → ℕ → ℕ
total a b = min (2 ^ 64 - 1) (a + b)

abbrev pub with_apps : AppCounts → Counts → Counts
with_apps apps c = record {
  shuts = c.shuts;
  next_faults = c.next_faults;
  starts_failed = apps.starts_failed;
  closings = apps.closings;
  silences = apps.silences;
  link_faults = c.link_faults;
  shorts = total c.shorts apps.shorts;
  shorts_of = c.shorts_of;
  strays = total c.strays apps.strays;
}

-- each fits into 64 bits
pub record AreAppCounts (apps : AppCounts) : Type 0 where
  pub starts_failed : apps.starts_failed ≤ 2 ^ 64 - 1
  pub closings : apps.closings ≤ 2 ^ 64 - 1
  pub silences : apps.silences ≤ 2 ^ 64 - 1
  pub shorts : apps.shorts ≤ 2 ^ 64 - 1
  pub strays : apps.strays ≤ 2 ^ 64 - 1

-- ---- What is seen

unfoldable pub seen_with : {Own : Type 0} → List Note → AppCounts → Seen Own → Seen Own
seen_with notes apps inner = record {
  given = inner.given;
  history = woven [] notes inner.history;
  counts = with_apps apps inner.counts;
}

-- the world as data: the other world, the notes, the applications that were started and not ended, counts, and for each application of
-- the other world whether it was started from here and not ended
pub record Linkage (W : Type 0) : Type 0 where
  pub links : W
  pub notes : List (W × WorldStep)
  pub running : List ℕ
  pub counts : AppCounts
  pub inside : List Bool

unfoldable pub seen_of : {Own W : Type 0} → (W → Seen Own) → Linkage W → Seen Own
seen_of see d = seen_with (noted see d.notes) d.counts (see d.links)

-- What holds of it over all calls, where the other world tells.
pub record Stands {Own : Type 0} (Tells : Type 0) (notes : List Note) (running : List ℕ) (apps : AppCounts) (inside : List Bool) (inner : Seen Own) : Type 0 where
  pub grows : Tells → Grows [] notes inner.history
  pub run : Tells → (state (seen_with notes apps inner)).running ≡ running
  pub fit : AreAppCounts apps
  pub runs : Tells → (app : ℕ) → slice_get inside app ≡ Some true → is_running app (state inner) ≡ true

abbrev pub IsLinkage : {Own W : Type 0} → Type 0 → (W → Seen Own) → Linkage W → Type 0
IsLinkage Tells see d = Stands Tells (noted see d.notes) d.running d.counts d.inside (see d.links)

-- ---- Calls of applications

abbrev pub running_after : {T : Type 0} → ℕ → Result T StartFault → List ℕ → List ℕ
running_after app (Ok x) running = running ++ app ∷ []
running_after app (Err fault) running = running

abbrev pub running_without : ℕ → List ℕ → List ℕ
running_without app running = filter (λ a. not (a == app)) running

abbrev pub stray_count : Bool → AppCounts → AppCounts
stray_count stray c = record c { strays = if stray then raised c.strays else c.strays }

abbrev pub short_count : AppCounts → AppCounts
short_count c = record c { shorts = raised c.shorts }

unfoldable pub start_count : {T : Type 0} → Result T StartFault → AppCounts → AppCounts
start_count (Ok x) c = c
start_count (Err starting.NotStarted) c = record c { starts_failed = raised c.starts_failed }
start_count (Err starting.Short) c = short_count c

unfoldable pub give_count : {T : Type 0} → Result T GiveFault → AppCounts → AppCounts
give_count (Ok x) c = c
give_count (Err giving.Gone) c = record c { closings = raised c.closings }
give_count (Err giving.Short) c = short_count c

unfoldable pub take_count : Result Taken Short → AppCounts → AppCounts
take_count (Ok (gave.Some n)) c = c
take_count (Ok gave.Closed) c = record c { closings = raised c.closings }
take_count (Ok gave.Silent) c = record c { silences = raised c.silences }
take_count (Err short) c = short_count c

-- A call of an application: the other world stays, these steps are noted, these applications run then, and the counts are these.
pub record Notes {Own W : Type 0} (see : W → Seen Own) (steps : List WorldStep) (running_then : List ℕ) (counts_then : AppCounts) (old new : Linkage W) : Type 0 where
  pub links : new.links ≡ old.links
  pub notes : noted see new.notes ≡ noted see old.notes ++ map (λ step. ((see old.links).history, step)) steps
  pub running : new.running ≡ running_then
  pub counts : new.counts ≡ counts_then
  pub inside : new.inside ≡ old.inside

-- so much room takes it
abbrev pub IsTakeable : TookWhat → ℕ → Type 0
IsTakeable (took.Bytes bytes) room = (1 ≤ length bytes) × (length bytes ≤ room)
IsTakeable other room = Unit {0}

-- what is answered of an application that does not run
abbrev pub in_place : Bool → TookWhat → TookWhat
in_place true what = what
in_place false what = took.Closed
