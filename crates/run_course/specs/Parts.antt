-- The course of a run, in any world that tells: it goes from part to part. In a batch the messages that were kept come first, oldest first,
-- before all that is told in it; then the oldest of the events that wait is given to applications, one event after the other. So what was kept
-- is handled in the next batch, and what comes of it is given in its turn, and printed. All of this is our own.
use Rattle.std.specs.Prelude.{◌≡◌, ◌⊎◌, ℕ, ◌+◌, ◌≤◌, List, [], ◌∷◌, ◌++◌, length, map, Option, None}
use Rattle.std.specs.Io.KnownBytes.{append_known}
use Rattle.lego_io.specs.Sink.{TookPart}
use Rattle.app_frames.specs.declared.frame.Event.{Event}
use Rattle.outside.specs.Seen.{Seen, Longer}
use Rattle.lego_model.specs.RunReport.{event_line}
use Rattle.run_course.specs.Tables.{SameTables}
use Rattle.crash_policy.specs.Policies.{AppValue}
use Rattle.run_course.specs.Messages.{GotNone, all_events, tables_behind}
use Rattle.run_course.specs.Applications.{Application, at_first, StartsAll}
use Rattle.run_course.specs.Moves.{Holding, HoldsStill, AreQueued, OneByOne, ItemMove}
use Rattle.run_course.specs.Turns.{Offers}

-- how a run stands: what it holds, its applications in the order of the policy, how many events were given, and what was written
pub record Standing (Own : Type 0) : Type 0 where
  pub holding : Holding Own
  pub apps : List Application
  pub events : ℕ
  pub written : Option (List ℕ)

-- ---- A batch

-- The messages that were kept are taken, oldest first: all of them, or as many as a batch can have items. What they make, each of them, waits
-- behind the events that wait. Nothing is called meanwhile, and the other messages are kept still.
pub record KeptComeFirst {Own : Type 0} (from to : Holding Own) : Type 0 where
  pub taken : List (ℕ × List ℕ)
  pub kept : from.kept ≡ taken ++ to.kept
  pub all : (to.kept ≡ []) ⊎ (1000000 ≤ length taken)
  pub history : to.seen.history ≡ from.seen.history
  pub tables : SameTables (tables_behind taken from.tables) to.tables
  pub queued : AreQueued (all_events taken from.tables) from to

-- and then what is told, item by item; its lines are written
pub record TakesBatch {Own : Type 0} (from to : Standing Own) : Type 0 where
  pub mid : Holding Own
  pub first : KeptComeFirst from.holding mid
  pub items : OneByOne ItemMove mid to.holding
  pub apps : to.apps ≡ from.apps
  pub events : to.events ≡ from.events
  pub noted : List ℕ
  pub written : to.written ≡ append_known from.written noted

-- ---- An event

-- the oldest is given to the applications that listen to it, in their order, each of which has its turn, and written with its number and what came of it
pub record GivesOldest {Own : Type 0} (from to : Standing Own) : Type 0 where
  pub event : Event
  pub later : List Event
  pub waits : from.holding.queue ≡ event ∷ later
  pub offers : Offers (from.events + 1) event 0 from.apps to.apps (record from.holding { queue = later }) to.holding
  pub events : to.events ≡ from.events + 1
  pub turn_text : List ℕ
  pub written : to.written ≡ append_known from.written (event_line (from.events + 1) event.kind event.dpid ++ turn_text)

-- ---- The start

-- the applications were started, in their order, and their lines written
pub record Starts {Own : Type 0} (from to : Standing Own) : Type 0 where
  pub all : StartsAll 0 from.apps to.apps from.holding.seen to.holding.seen
  pub still : HoldsStill from.holding to.holding
  pub events : to.events ≡ from.events
  pub text : List ℕ
  pub written : to.written ≡ append_known from.written text

-- ---- The course

abbrev pub Part : {Own : Type 0} → Standing Own → Standing Own → Type 0
Part from to = TakesBatch from to ⊎ GivesOldest from to ⊎ Starts from to

-- part by part, with how the run stands behind each of them
abbrev pub Goes : {Own : Type 0} → List (Standing Own) → Standing Own → Standing Own → Type 0
Goes [] from to = to ≡ from
Goes (mid ∷ more) from to = Part from mid × Goes more mid to

-- no switch is joined, nothing is kept, no event waits, and none was given; the applications are those of these rules, and none was started
pub record Begins {Own : Type 0} (rules : List AppValue) (seen : Seen Own) (written : Option (List ℕ)) (at : Standing Own) : Type 0 where
  pub seen_is : at.holding.seen ≡ seen
  pub none_joined : (d : ℕ) → at.holding.tables d ≡ None
  pub none_kept : at.holding.kept ≡ []
  pub none_waits : at.holding.queue ≡ []
  pub apps_are : at.apps ≡ map at_first rules
  pub none_given : at.events ≡ 0
  pub written_is : at.written ≡ written

-- Where the sink failed: it took a part of the lines of one part more, or of the end of the report, where no event waits.
pub record WritesPart {Own : Type 0} (last : Standing Own) (written : Option (List ℕ)) : Type 0 where
  pub text : List ℕ
  pub whole : ((behind : Standing Own) × Part last behind × (behind.written ≡ append_known last.written text)) ⊎ (last.holding.queue ≡ [])
  pub part : TookPart last.written written text

-- The run of applications of these rules goes its course, up to its last whole part, behind which it stands so. Before it the world was opened, or
-- nothing was done.
pub record TakesCourse {Own : Type 0} (rules : List AppValue) (old new : Seen Own) (contents : Option (List ℕ)) (Stands : Standing Own → Type 0) : Type 0 where
  pub opened : Seen Own
  pub opening : GotNone old.history opened.history
  pub first : Standing Own
  pub begins : Begins rules opened contents first
  pub stops : List (Standing Own)
  pub last : Standing Own
  pub parts : Goes stops first last
  pub later : Longer last.holding.seen.history new.history
  pub stands : Stands last
