-- The course of a run, in any world: how the engine goes from one part of its work to the next. Of a batch: the messages that were kept while
-- something else was awaited come first, oldest first, before all that is told in it. Of an event: the oldest of those that wait is given. So what
-- was kept is handled in the next batch, and what comes of it is given in its turn, and printed. All of this is our own.
use Rattle.std.specs.Prelude.{◌≡◌, ◌⊎◌, ◌≤◌, ℕ, Bool, List, [], ◌∷◌, ◌++◌, length, map, Option}
use Rattle.std.specs.Io.KnownBytes.{append_known}
use Rattle.lego_io.specs.Sink.{TookPart}
use Rattle.flow_table.specs.View.{TableView}
use Rattle.crash_policy.specs.Policies.{AppValue}
use Rattle.app_frames.specs.declared.frame.Event.{Event}
use Rattle.outside.specs.declared.item.Item.{Item}
use Rattle.outside.specs.declared.step.WorldStep.{WorldStep}
use Rattle.outside.specs.declared.step.WorldStep.TheVariants.{From}
use Rattle.outside.specs.Seen.{Seen, Continues}
use Rattle.net_txn.specs.Net.{NetState}
use Rattle.batch_laws.specs.Knowledge.{knowledge_of, handled_all}
use Rattle.batch_laws.specs.Items.{TakesNext}
use Rattle.run_laws.specs.Engine.{Engine}
use Rattle.run_laws.specs.Facts.{Between, between, Dispatches, StartsAll}
use Rattle.run_laws.specs.First.{engine_at_first}

-- ---- The messages that were kept

-- messages, as if they were told now
abbrev pub as_told : List (ℕ × List ℕ) → List WorldStep
as_told messages = map (λ m. From m.0 m.1) messages

-- They were taken, oldest first: all of them, or as many as a batch can have items. The others are kept still, and nothing was called.
pub record KeptComesFirst {Own : Type 0} (Tells : Type 0) (old new : Seen Own) (net now_net : NetState) (queue now_queue : List Event) : Type 0 where
  pub taken : List (ℕ × List ℕ)
  pub kept_is : net.kept ≡ taken ++ now_net.kept
  pub all : (now_net.kept ≡ []) ⊎ (1000000 ≤ length taken)
  pub knowledge : knowledge_of now_net now_queue ≡ handled_all (as_told taken) (knowledge_of net queue)
  pub told : Tells → new.history ≡ old.history

-- Items were told, the last of them first here, and each was taken: what is known behind it, which events wait, and what is kept, is said there.
abbrev pub TakesItems : {Own : Type 0} → Type 0 → List Item → Between Own → Between Own → Type 0
TakesItems Tells [] from to = to ≡ from
TakesItems Tells (item ∷ before) from to =
    (mid : Between _) × TakesItems Tells before from mid × ((text : List ℕ) × TakesNext Tells item text mid.seen to.seen mid.net to.net mid.queue to.queue)

-- A batch: the messages that were kept come first, and then the items that are told.
pub record BatchTaken {Own : Type 0} (Tells : Type 0) (from to : Between Own) : Type 0 where
  pub mid : Between Own
  pub first : KeptComesFirst Tells from.seen mid.seen from.net mid.net from.queue mid.queue
  pub items : List Item
  pub told : TakesItems Tells items mid to

-- ---- Parts of a run

-- how a run stands: what is seen, what the engine keeps, and what was written
pub record Stage (Own : Type 0) : Type 0 where
  pub seen : Seen Own
  pub engine : Engine
  pub written : Option (List ℕ)

-- a batch was taken, and its lines were written
pub record TakesBatch {Own : Type 0} (Tells : Type 0) (from to : Stage Own) : Type 0 where
  pub taken : BatchTaken Tells (between from.seen from.engine) (between to.seen to.engine)
  pub events : to.engine.events ≡ from.engine.events
  pub apps : to.engine.apps ≡ from.engine.apps
  pub noted : List ℕ
  pub written : to.written ≡ append_known from.written noted

-- the oldest event was given to the applications that have a turn at it, and its lines were written; what its turns kept, released and undid is
-- said there
pub record GivesOldest {Own : Type 0} (Tells : Type 0) (accepts : List TableView → Bool) (from to : Stage Own) : Type 0 where
  pub event : Event
  pub later : List Event
  pub waits : from.engine.queue ≡ event ∷ later
  pub text : List ℕ
  pub dispatches : Dispatches Tells accepts event text from.seen to.seen (record from.engine { queue = later }) to.engine
  pub written : to.written ≡ append_known from.written text

-- applications were started, and their lines were written; nothing was taken or given
pub record Starts {Own : Type 0} (Tells : Type 0) (from to : Stage Own) : Type 0 where
  pub text : List ℕ
  pub all : StartsAll Tells text from.seen to.seen from.engine to.engine
  pub written : to.written ≡ append_known from.written text

abbrev pub IsPart : {Own : Type 0} → Type 0 → (List TableView → Bool) → Stage Own → Stage Own → Type 0
IsPart Tells accepts from to = TakesBatch Tells from to ⊎ GivesOldest Tells accepts from to ⊎ Starts Tells from to

pub record Part {Own : Type 0} (Tells : Type 0) (accepts : List TableView → Bool) (from to : Stage Own) : Type 0 where
  pub continues : Continues Tells from.seen to.seen
  pub part : IsPart Tells accepts from to

-- one part after the other, with these stages behind each of them
abbrev pub Course : {Own : Type 0} → Type 0 → (List TableView → Bool) → List (Stage Own) → Stage Own → Stage Own → Type 0
Course Tells accepts [] from to = to ≡ from
Course Tells accepts (mid ∷ more) from to = Part Tells accepts from mid × Course Tells accepts more mid to

pub record PartByPart {Own : Type 0} (Tells : Type 0) (accepts : List TableView → Bool) (from to : Stage Own) : Type 0 where
  pub stages : List (Stage Own)
  pub parts : Course Tells accepts stages from to

-- ---- A run up to its end, or up to a fault

-- behind the last whole part the world went on
pub record RunsOn {Own : Type 0} (Tells : Type 0) (accepts : List TableView → Bool) (from last : Stage Own) (new : Seen Own) : Type 0 where
  pub course : PartByPart Tells accepts from last
  pub later : Continues Tells last.seen new

-- Where the sink failed: it took a part of the lines of one part more, or of the end of the report, where no event waits.
pub record WritesPart {Own : Type 0} (Tells : Type 0) (accepts : List TableView → Bool) (last : Stage Own) (written : Option (List ℕ)) : Type 0 where
  pub text : List ℕ
  pub whole : ((behind : Stage Own) × IsPart Tells accepts last behind × (behind.written ≡ append_known last.written text)) ⊎ (last.engine.queue ≡ [])
  pub part : TookPart last.written written text

-- how the run of applications stands of which nothing has happened: no message is kept, and no event waits
abbrev pub first_stage : {Own : Type 0} → List AppValue → Seen Own → Option (List ℕ) → Stage Own
first_stage rules seen written = record { seen = seen; engine = engine_at_first rules; written = written }
