-- What each call of a simulated world does, over the world as data: which steps it appends, and what it counts.
use Rattle.std.specs.Prelude.{◌≡◌, ℕ, ◌-◌, ◌^◌, ◌<◌, ◌≤◌, length, All, false, not, List, [], ◌∷◌, Option, Some, Result, Ok, Err, IsErr, IfOk, IfSome, IsTrue, slice_get, ◌↔◌}
use Rattle.std.specs.List.{AllByRecursion}
use Rattle.lego_io.specs.Count.{raised}
use Rattle.of_types.specs.declared.journal.WorldStim.{WorldStim}
use Rattle.outside.specs.declared.faults.Short.{Short}
use Rattle.outside.specs.declared.faults.OpenFault.{OpenFault}
use Rattle.outside.specs.declared.faults.OpenFault.TheVariants as opening
use Rattle.outside.specs.declared.faults.NextFault.{NextFault}
use Rattle.outside.specs.declared.faults.NextFault.TheVariants as coming
use Rattle.outside.specs.declared.faults.StartFault.{StartFault}
use Rattle.outside.specs.declared.faults.StartFault.TheVariants as starting
use Rattle.outside.specs.declared.faults.GiveFault.{GiveFault}
use Rattle.outside.specs.declared.faults.GiveFault.TheVariants as giving
use Rattle.outside.specs.declared.faults.LinkFault.{LinkFault}
use Rattle.outside.specs.declared.faults.LinkFault.TheVariants as linking
use Rattle.outside.specs.declared.item.Item.{Item}
use Rattle.outside.specs.declared.item.Item.TheVariants as items
use Rattle.outside.specs.declared.item.Taken.{Taken}
use Rattle.outside.specs.declared.item.Taken.TheVariants as gave
use Rattle.outside.specs.State.{but_marks, after_stim, after_steps, is_running, is_joined, link_of}
use Rattle.outside.specs.InOrder.{MayCome, MayComeAll}
use Rattle.outside.specs.Calls.{item_step, open_steps, next_steps, stim_steps, start_steps, give_steps, take_steps, send_steps, receive_steps, can_receive, IsItemIn, IsTakenIn, IsMessageIn, IsIdle, IsOver}
use Rattle.sim_world.specs.Links.{IsDue, StandsAt, MayCall}
use Rattle.sim_world.specs.Tally.{TallyState, tally_stray, tally_short, tally_short_of, tally_fault_of}
use Rattle.sim_world.specs.Scripts.{Life}
use Rattle.sim_world.specs.Lives.{life_in}
use Rattle.sim_world.specs.World.{WorldData, Moves, IsAsTold, AreAsTold, next_told, all_declared, CanCome}

-- ---- Counts by answers

abbrev pub open_tally : {T : Type 0} → Result T OpenFault → TallyState → TallyState
open_tally (Ok x) t = t
open_tally (Err opening.Shut) t = record t { shuts = raised t.shuts }
open_tally (Err opening.Short) t = tally_short t

abbrev pub next_tally : Result Item NextFault → TallyState → TallyState
next_tally (Ok item) t = t
next_tally (Err coming.Failed) t = record t { next_faults = raised t.next_faults }
next_tally (Err coming.Short) t = tally_short t

abbrev pub start_tally : {T : Type 0} → Result T StartFault → TallyState → TallyState
start_tally (Ok x) t = t
start_tally (Err starting.NotStarted) t = record t { starts_failed = raised t.starts_failed }
start_tally (Err starting.Short) t = tally_short t

abbrev pub give_tally : {T : Type 0} → Result T GiveFault → TallyState → TallyState
give_tally (Ok x) t = t
give_tally (Err giving.Gone) t = record t { closings = raised t.closings }
give_tally (Err giving.Short) t = tally_short t

abbrev pub take_tally : Result Taken Short → TallyState → TallyState
take_tally (Ok (gave.Some n)) t = t
take_tally (Ok gave.Closed) t = record t { closings = raised t.closings }
take_tally (Ok gave.Silent) t = record t { silences = raised t.silences }
take_tally (Err short) t = tally_short t

abbrev pub link_tally : {T : Type 0} → ℕ → Result T LinkFault → TallyState → TallyState
link_tally d (Ok x) t = t
link_tally d (Err linking.Failed) t = tally_fault_of d t
link_tally d (Err linking.Short) t = tally_short_of d t

-- ---- What calls of applications need: lists of those that run agree, and one more call can be counted.

pub record AppsStand (w : WorldData) : Type 0 where
  pub plain : but_marks w.state ≡ w.state
  pub promised : length w.state.running ≤ w.room
  pub alike : (app : ℕ) → is_running app w.state ≡ (life_in app w.lives).running
  pub starts : (app : ℕ) → (life_in app w.lives).start_calls < 2 ^ 64 - 1
  pub gives : (app : ℕ) → (life_in app w.lives).give_calls < 2 ^ 64 - 1
  pub takes : (app : ℕ) → (life_in app w.lives).take_calls < 2 ^ 64 - 1

-- the lives at hand
abbrev pub lives_of : WorldData → ℕ → Life
lives_of w app = life_in app w.lives

-- ---- What `next` needs: what is due can be told, switches stand at the moment, and the stimuli to come can come.

pub record NextStands (w : WorldData) : Type 0 where
  pub promised : length w.state.running ≤ w.room
  pub few : w.nexts < 2 ^ 64 - 1
  pub due : All IsDue w.state.due
  pub standing : AllByRecursion (λ l. StandsAt w.state.moment l.switch) w.state.links
  pub within : w.state.moment ≤ 4294967295
  pub can_come : CanCome (all_declared w.state) w.state.moment w.state.to_come

-- ---- What is told in a state in which a stimulus is begun

pub record Tells (old new : WorldData) (item : Item) (buf : List ℕ) : Type 0 where
  pub moves : Moves old new (item_step item buf ∷ []) old.tally
  pub within : IsItemIn (Unit {0}) item buf
  pub idle : (item ≡ items.Idle) ↔ IsIdle old.state
  pub over : (item ≡ items.End) ↔ IsOver old.state
  pub may : MayCome (all_declared old.state) (item_step item buf) old.state
  pub told : next_told old.told old.nexts ≡ false → IsAsTold old.told old.nexts (item_step item buf) old.state

-- ---- What calls of links need: one more call of each link can be counted.

pub record LinksStand (w : WorldData) : Type 0 where
  pub promised : length w.state.running ≤ w.room
  pub may_call : (d : ℕ) → IfSome (link_of d w.state.links) MayCall

-- ---- Calls

pub record DoesOpen {T : Type 0} (old new : WorldData) (result : Result T OpenFault) : Type 0 where
  pub moves : Moves old new (open_steps result) (tally_stray old.state.opened (open_tally result old.tally))
  pub out_of_place : IsTrue old.state.opened → IsErr result

pub record DoesNext (old new : WorldData) (result : Result Item NextFault) (buf : List ℕ) : Type 0 where
  pub begun : Option WorldStim
  pub to_come : IfSome begun (λ x. slice_get old.state.to_come 0 ≡ Some x)
  pub moves : Moves old new (next_steps begun result buf) (next_tally result old.tally)
  pub item : IfOk result (λ item. IsItemIn (Unit {0}) item buf)
  pub idle : IfOk result (λ item. (item ≡ items.Idle) ↔ IsIdle (after_steps (stim_steps begun) old.state))
  pub over : IfOk result (λ item. (item ≡ items.End) ↔ IsOver (after_steps (stim_steps begun) old.state))
  pub word : MayComeAll (all_declared old.state) (next_steps begun result buf) old.state
  pub told : AreAsTold old.told old.nexts (next_steps begun result buf) old.state
  pub due : IfSome begun (λ x. All IsDue (after_stim x old.state).due)

pub record DoesStart {T : Type 0} (app : ℕ) (old new : WorldData) (result : Result T StartFault) : Type 0 where
  pub moves : Moves old new (start_steps app result) (tally_stray (is_running app old.state) (start_tally result old.tally))
  pub out_of_place : IsTrue (is_running app old.state) → IsErr result

pub record DoesGive {T : Type 0} (app : ℕ) (bytes : List ℕ) (old new : WorldData) (result : Result T GiveFault) : Type 0 where
  pub moves : Moves old new (give_steps app bytes result) (tally_stray (not (is_running app old.state)) (give_tally result old.tally))
  pub out_of_place : is_running app old.state ≡ false → IsErr result

pub record DoesTake (app : ℕ) (old new : WorldData) (result : Result Taken Short) (buf : List ℕ) : Type 0 where
  pub moves : Moves old new (take_steps app result buf) (tally_stray (not (is_running app old.state)) (take_tally result old.tally))
  pub taken : IfOk result (λ what. IsTakenIn what buf)
  pub out_of_place : is_running app old.state ≡ false → IfOk result (λ what. what ≡ gave.Closed)

pub record DoesSend {T : Type 0} (d : ℕ) (frame : List ℕ) (old new : WorldData) (result : Result T LinkFault) : Type 0 where
  pub moves : Moves old new (send_steps d frame (is_joined d old.state) result) (tally_stray (not (is_joined d old.state)) (link_tally d result old.tally))
  pub out_of_place : is_joined d old.state ≡ false → IsErr result

pub record DoesReceive (d : ℕ) (old new : WorldData) (result : Result ℕ LinkFault) (buf : List ℕ) : Type 0 where
  pub moves : Moves old new (receive_steps d (is_joined d old.state) result buf) (tally_stray (not (can_receive d old.state)) (link_tally d result old.tally))
  pub message : IfOk result (λ n. IsMessageIn (Unit {0}) n buf)
  pub out_of_place : can_receive d old.state ≡ false → IsErr result
