-- Attempts to start an application: what one does, and what they all leave. All of this is our own choice.
use Rattle.std.specs.Prelude.{◌≡◌, ℕ, zero, suc, Bool, true, false, ◌&&◌, List, [], ◌∷◌, ◌++◌, map, Option, Some, None, is_some, unwrap_or, ◌⊎◌, if◌then◌else◌}
use Rattle.std.specs.List.{flat_map}
use Rattle.lego_io.specs.Count.{Rose}
use Rattle.of_types.specs.declared.journal.Act.{Act}
use Rattle.of_types.specs.declared.journal.Act.TheVariants.{Started}
use Rattle.app_frames.specs.declared.cause.Tried.{Tried}
use Rattle.app_frames.specs.declared.cause.Tried.TheVariants.{Ready, Refused, Closed, Silent, Garbled}
use Rattle.app_frames.specs.declared.frame.AppFrame.TheVariants as frames
use Rattle.lego_model.specs.Journal.{Attempt, Start, inputs, start_of}
use Rattle.lego_model.specs.Turns.{outcome_of}
use Rattle.lego_model.specs.Scripted.{is_start_heard}
use Rattle.lego_model.specs.Controller.{App, restore_frame, is_ready, attempts, started}
use Rattle.outside.specs.Seen.{Counts, Seen, Continues}
use Rattle.outside.specs.State.{state, is_running}
use Rattle.outside.specs.Calls.{Ends}
use Rattle.journal_laws.specs.Readings.{Within, end_acts}
use Rattle.lego_model.specs.AtOnce.{Before, nothing_said}
use Rattle.checkpoint_store.specs.Slots.{Slot, slot_of}
use Rattle.app_visor.specs.declared.came.Came.{Came}
use Rattle.app_visor.specs.declared.came.Came.TheVariants as comes
use Rattle.app_visor.specs.Talks.{step_of}
use Rattle.app_visor.specs.Dialogues.{Speaks}

-- the kept checkpoint of an application
abbrev pub kept_of : ℕ → List Slot → List ℕ
kept_of app slots = (slot_of app slots).kept.checkpoint

-- ---- One attempt

-- the count that rose where an attempt failed so
abbrev pub TryRises : Tried → Counts → Counts → Type 0
TryRises Refused old new = Rose old.starts_failed new.starts_failed
TryRises Closed old new = Rose old.closings new.closings
TryRises Silent old new = Rose old.silences new.silences
TryRises tried old new = Unit {0}

-- the frames that the application is given by such a start: Restore with this checkpoint, where it could be
abbrev pub restored : List ℕ → Start → List (List ℕ)
restored kept start = if start.stands && start.restored then restore_frame kept ∷ [] else []

-- One attempt: the application is ended where it runs, and started; it is given Restore with the kept checkpoint, and its first frame is
-- awaited; where it is not ready it is ended. How it ended is what its acts say.
pub record IsTry {Own : Type 0} (Tells : Type 0) (app : ℕ) (kept : List ℕ) (attempt : Attempt) (tried : Tried) (rest : List ℕ) (old new : Seen Own) : Type 0 where
  pub continues : Continues Tells old new
  pub history : Tells → new.history ≡ old.history ++ map step_of (end_acts (is_running app (state old)) app ++ Started app attempt.stands ∷ attempt.acts)
  pub outcome : outcome_of (start_of attempt) ≡ (tried, rest)
  pub given : inputs app attempt.acts ≡ restored kept (start_of attempt)
  -- it did not end for the reason alone that no more was told
  pub heard : is_start_heard (start_of attempt) ≡ true
  pub rises : TryRises tried old.counts new.counts
  -- no act begins a turn or a further attempt
  pub within : Within app attempt.acts
  -- where it is not ready it does not run, and where it is ready it does
  pub ended : Tells → is_ready tried ≡ false → is_running app (state new) ≡ false
  pub running : Tells → is_ready tried ≡ true → is_running app (state new) ≡ true
  -- it goes on with the dialogue, where this tells whether the application runs
  pub speaks : Tells → (s : Before) → s.running ≡ is_running app (state old) → Speaks app s old new (is_ready tried) rest

pub record Tries {Own : Type 0} (Tells : Type 0) (app : ℕ) (kept : List ℕ) (tried : Tried) (rest : List ℕ) (old new : Seen Own) : Type 0 where
  pub attempt : Attempt
  pub went : IsTry Tells app kept attempt tried rest old new

-- ---- All attempts

-- an attempt, how it ended with the bytes behind Ready, and what was seen then
pub record OneTry (Own : Type 0) : Type 0 where
  pub attempt : Attempt
  pub tried : Tried
  pub rest : List ℕ
  pub after : Seen Own

-- At most so many attempts, until one is ready.
abbrev pub AreTries : {Own : Type 0} → Type 0 → ℕ → List ℕ → ℕ → List (OneTry Own) → Seen Own → Seen Own → Type 0
AreTries Tells app kept zero [] old new = new ≡ old
AreTries Tells app kept zero (t ∷ ts) old new = ⊥
AreTries Tells app kept (suc n) [] old new = ⊥
AreTries Tells app kept (suc n) (t ∷ ts) old new =
    IsTry Tells app kept t.attempt t.tried t.rest old t.after × (((is_ready t.tried ≡ true) × (ts ≡ []) × (new ≡ t.after)) ⊎ ((is_ready t.tried ≡ false) × AreTries Tells app kept n ts t.after new))

-- the bytes behind the frame Ready of the one that is ready, where one is
abbrev pub ready_rest : {Own : Type 0} → List (OneTry Own) → Option (List ℕ)
ready_rest [] = None
ready_rest (t ∷ ts) = if is_ready t.tried then Some t.rest else ready_rest ts

abbrev pub tries_of : {Own : Type 0} → List (OneTry Own) → List Tried
tries_of ts = map (λ t. t.tried) ts

abbrev pub starts_of : {Own : Type 0} → List (OneTry Own) → List Start
starts_of ts = map (λ t. start_of t.attempt) ts

abbrev pub given_by : {Own : Type 0} → List ℕ → List (OneTry Own) → List (List ℕ)
given_by kept ts = flat_map (λ t. restored kept (start_of t.attempt)) ts

-- what the attempts leave of an application of the reference whose starts were these and then more
abbrev pub restarted : {Own : Type 0} → List (OneTry Own) → List Start → App → App × List Tried
restarted ts more a =
    (record a { alive = is_some (ready_rest ts); rest = unwrap_or (ready_rest ts) []; inputs = a.inputs ++ given_by a.kept ts; starts = more }, tries_of ts)

-- The attempts of a restart with this checkpoint, how each ended, and that the reference's application with these starts comes to the same.
pub record Restarts {Own : Type 0} (Tells : Type 0) (app : ℕ) (kept : List ℕ) (old new : Seen Own) (found : Option (List ℕ)) (tries : List Tried) : Type 0 where
  pub all : List (OneTry Own)
  pub are : AreTries Tells app kept attempts all old new
  pub tries_is : tries ≡ tries_of all
  pub found_is : found ≡ ready_rest all
  pub as_started : (a : App) (more : List Start) → a.starts ≡ starts_of all ++ more → started attempts a ≡ restarted all more a

-- all of them, where the last ones are these
pub record TriedAll {Own : Type 0} (Tells : Type 0) (app : ℕ) (kept : List ℕ) (old new : Seen Own) (tries : List Tried) (later : List (OneTry Own)) : Type 0 where
  pub all : List (OneTry Own)
  pub are : AreTries Tells app kept attempts all old new
  pub tries_is : tries_of all ≡ tries ++ tries_of later
  pub found_is : ready_rest all ≡ ready_rest later

-- the attempts that are still to be made, behind those that were made
pub record TriesOn {Own : Type 0} (Tells : Type 0) (app : ℕ) (kept : List ℕ) (left : ℕ) (first : Seen Own) (tries : List Tried) (old : Seen Own) : Type 0 where
  pub whole : (later : List (OneTry Own)) (new : Seen Own) → AreTries Tells app kept left later old new → TriedAll Tells app kept first new tries later

-- ---- A start that stands

-- how it ends by what comes first
abbrev pub tried_by : Came → Tried
tried_by (comes.Frame frames.Ready) = Ready
tried_by (comes.Frame frames.Save) = Garbled
tried_by (comes.Frame frames.Keep) = Garbled
tried_by (comes.Frame frames.Undo) = Garbled
tried_by (comes.Frame (frames.Message dpid bytes)) = Garbled
tried_by (comes.Frame (frames.Done stop checkpoint)) = Garbled
tried_by (comes.Refused fault) = Garbled
tried_by comes.Closed = Closed
tried_by comes.Silent = Silent

-- the bytes behind the frame Ready
abbrev pub rest_of : Tried → List ℕ → List ℕ
rest_of tried unread = if is_ready tried then unread else []

abbrev pub stood : List Act → Attempt
stood acts = record { stands = true; acts = acts }

-- It is given Restore with the checkpoint, and its first frame comes or does not; that the application is then ended says nothing more of the start.
pub record Greets {Own : Type 0} (Tells : Type 0) (app : ℕ) (kept : List ℕ) (tried : Tried) (unread : List ℕ) (old new : Seen Own) : Type 0 where
  pub acts : List Act
  pub continues : Continues Tells old new
  pub history : Tells → new.history ≡ old.history ++ map step_of acts
  pub outcome : (running : Bool) → outcome_of (start_of (stood (acts ++ end_acts running app))) ≡ (tried, rest_of tried unread)
  pub given : (running : Bool) → inputs app (acts ++ end_acts running app) ≡ restored kept (start_of (stood (acts ++ end_acts running app)))
  pub heard : (running : Bool) → is_start_heard (start_of (stood (acts ++ end_acts running app))) ≡ true
  pub rises : TryRises tried old.counts new.counts
  -- no act begins a turn or a further attempt
  pub within : Within app acts
  -- it runs where it ran
  pub running : Tells → is_running app (state new) ≡ is_running app (state old)
  -- it goes on with the dialogue
  pub speaks : Tells → Speaks app nothing_said old new (is_ready tried) unread

-- it is ended where it is not ready
abbrev pub EndsUnless : {Own : Type 0} → Type 0 → ℕ → Bool → Seen Own → Seen Own → Type 0
EndsUnless Tells app true old new = new ≡ old
EndsUnless Tells app false old new = Ends Tells app old new
