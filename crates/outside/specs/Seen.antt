-- What is seen of the outside of a controller: what it was given, its history, and its counts. All of this is our own choice.
use Rattle.std.specs.Prelude.{◌≡◌, ℕ, ◌==◌, Bool, true, List, ◌++◌, Option, Some, None, if◌then◌else◌, IsTrue}
use Rattle.std.specs.List.{list_any, filter_map}
use Rattle.of_types.specs.declared.journal.Act.{Act}
use Rattle.of_types.specs.declared.journal.Act.TheVariants.{Took, Got, Lost}
use Rattle.of_types.specs.declared.journal.WorldStim.{WorldStim}
use Rattle.lego_io.specs.Count.{raised, Rose, NeverFell}
use Rattle.flow_table.specs.Switch.{Declared}
use Rattle.outside.specs.declared.call.FailCall.{FailCall}
use Rattle.outside.specs.declared.step.WorldStep.{WorldStep}
use Rattle.outside.specs.declared.step.WorldStep.TheVariants.{Acted, TookInto, From, Joined, Left, Moment, Idle, End, Opened, NotOpened, NextFailed, SendLost, RecvLost, SendFailed, RecvFailed}

-- ---- What is seen

-- What a world was given, and never changes: its switches, by number ascending, the stimuli of the whole run, the calls that are
-- to fail, and what else it was given, as the scripts of applications. `shows`: the world is a model that is known whole, so its
-- counts are exact, and what happens next is one of the stimuli. A world of real switches can tell its history and shows nothing.
pub record Given (Own : Type 0) : Type 0 where
  pub declared : List Declared
  pub stimuli : List WorldStim
  pub fails : List FailCall
  pub own : Own
  pub shows : Bool

-- How often each fault came. Those of links, and one of those of memory, are counted for each switch by its number.
pub record Counts : Type 0 where
  pub shuts : ℕ
  pub next_faults : ℕ
  pub starts_failed : ℕ
  pub closings : ℕ
  pub silences : ℕ
  pub link_faults : ℕ → ℕ
  pub shorts : ℕ
  pub shorts_of : ℕ → ℕ
  pub strays : ℕ

pub record Seen (Own : Type 0) : Type 0 where
  pub given : Given Own
  pub history : List WorldStep
  pub counts : Counts

-- what holds in a world that is known whole
abbrev pub IfShown : {Own : Type 0} → Seen Own → Type 0 → Type 0
IfShown seen A = seen.given.shows ≡ true → A

-- it tells, and is known whole
abbrev pub Shown : {Own : Type 0} → Type 0 → Seen Own → Type 0
Shown Tells seen = Tells × (seen.given.shows ≡ true)

-- ---- The journal

-- the act of a step; items other than messages are none, and so are failed calls, but those by which a switch is lost
abbrev pub act_of : WorldStep → Option Act
act_of (Acted act) = Some act
act_of (TookInto app what room) = Some (Took app what)
act_of (From d bytes) = Some (Got d bytes)
act_of (Joined d bytes) = None
act_of (Left d) = None
act_of (Moment t) = None
act_of Idle = None
act_of End = None
act_of Opened = None
act_of NotOpened = None
act_of NextFailed = None
act_of (SendLost d) = Some (Lost d)
act_of (RecvLost d) = Some (Lost d)
act_of (SendFailed d) = None
act_of (RecvFailed d) = None

-- the acts of a history, in order
unfoldable pub journal : List WorldStep → List Act
journal steps = filter_map act_of steps

-- ---- Counts

-- no count fell
pub record NoneFell (old new : Counts) : Type 0 where
  pub shuts : NeverFell old.shuts new.shuts
  pub next_faults : NeverFell old.next_faults new.next_faults
  pub starts_failed : NeverFell old.starts_failed new.starts_failed
  pub closings : NeverFell old.closings new.closings
  pub silences : NeverFell old.silences new.silences
  pub link_faults : (d : ℕ) → NeverFell (old.link_faults d) (new.link_faults d)
  pub shorts : NeverFell old.shorts new.shorts
  pub shorts_of : (d : ℕ) → NeverFell (old.shorts_of d) (new.shorts_of d)
  pub strays : NeverFell old.strays new.strays

-- a switch of this number is declared
abbrev pub is_declared : ℕ → List Declared → Bool
is_declared d declared = list_any (λ x. x.dpid == d) declared

-- the counts are these; what is counted for each switch is looked at for the declared ones
pub record AreCounts (declared : List Declared) (expected counts : Counts) : Type 0 where
  pub shuts : counts.shuts ≡ expected.shuts
  pub next_faults : counts.next_faults ≡ expected.next_faults
  pub starts_failed : counts.starts_failed ≡ expected.starts_failed
  pub closings : counts.closings ≡ expected.closings
  pub silences : counts.silences ≡ expected.silences
  pub link_faults : (d : ℕ) → IsTrue (is_declared d declared) → counts.link_faults d ≡ expected.link_faults d
  pub shorts : counts.shorts ≡ expected.shorts
  pub shorts_of : (d : ℕ) → IsTrue (is_declared d declared) → counts.shorts_of d ≡ expected.shorts_of d
  pub strays : counts.strays ≡ expected.strays

-- one more for the switch
abbrev pub raised_at : ℕ → (ℕ → ℕ) → ℕ → ℕ
raised_at d counts e = if e == d then raised (counts e) else counts e

-- one call out of place more, where it is one
abbrev pub with_stray : Bool → Counts → Counts
with_stray stray c = record c { strays = if stray then raised c.strays else c.strays }

-- want of memory, and want of memory in a call of the switch
abbrev pub with_short : Counts → Counts
with_short c = record c { shorts = raised c.shorts }

abbrev pub with_short_of : ℕ → Counts → Counts
with_short_of d c = record c { shorts = raised c.shorts; shorts_of = raised_at d c.shorts_of }

abbrev pub with_link_fault : ℕ → Counts → Counts
with_link_fault d c = record c { link_faults = raised_at d c.link_faults }

-- ---- Later

-- a history that goes on from another one
abbrev pub Longer : List WorldStep → List WorldStep → Type 0
Longer old new = (steps : List WorldStep) × (new ≡ old ++ steps)

-- What is seen after some calls: what the world was given stays, no count fell, and the history of a world that tells goes on.
pub record Continues {Own : Type 0} (Tells : Type 0) (old new : Seen Own) : Type 0 where
  pub given : new.given ≡ old.given
  pub none_fell : NoneFell old.counts new.counts
  pub told : Tells → Longer old.history new.history

-- Nothing failed on the switch: neither its link nor the memory of a call of it.
pub record LinkHeld (d : ℕ) (old new : Counts) : Type 0 where
  pub no_fault : ¬ Rose (old.link_faults d) (new.link_faults d)
  pub no_short : ¬ Rose (old.shorts_of d) (new.shorts_of d)
