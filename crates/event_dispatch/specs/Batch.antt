-- What a batch does in a world that tells and keeps its word. All of this is our own.
use Rattle.std.specs.Prelude.{◌≡◌, ◌⊎◌, ℕ, ◌≤◌, Bool, true, false, List, [], ◌++◌, length, Option, Some, None}
use Rattle.of_types.specs.declared.journal.WorldStim.{WorldStim}
use Rattle.of_wire.specs.declared.message.Message.{Message}
use Rattle.of_wire.specs.declared.fault.WireFault.{WireFault}
use Rattle.of_wire.specs.declared.fault.WireFault.TheVariants.{NoMemory}
use Rattle.outside.specs.declared.item.Item.{Item}
use Rattle.outside.specs.declared.item.Item.TheVariants as items
use Rattle.outside.specs.declared.step.WorldStep.{WorldStep}
use Rattle.outside.specs.Seen.{Seen}
use Rattle.outside.specs.Conforming.{Conforming}
use Rattle.batch_laws.specs.Calm.{Calm}
use Rattle.batch_laws.specs.Knowledge.{knowledge_of, handled_all}
use Rattle.batch_laws.specs.Batches.{Standing}
use Rattle.batch_laws.specs.Items.{Enters, Handles, HandlesTold, TakesNext}
use Rattle.batch_laws.specs.InBatch.{BatchEnds, BatchOver, SoFar}
use Rattle.run_laws.specs.Course.{as_told}
use Rattle.event_dispatch.specs.declared.batch.Rest.{Rest}
use Rattle.event_dispatch.specs.declared.batch.Rest.TheVariants as rests
use Rattle.event_dispatch.specs.declared.engine_core.Core.{Core}

abbrev pub standing_of : {Own : Type 0} → Seen Own → Core → Standing Own
standing_of seen run = record { seen = seen; net = run.net; queue = run.queue; text = run.lines.items }

-- ---- Why bytes were not read

abbrev pub of_memory : WireFault → Bool
of_memory NoMemory = true
of_memory other = false

-- ---- An item

-- it was handled, and this text noted
pub record TakesItem {Own : Type 0} (Tells : Type 0) (item : WorldStep) (old new : Seen Own) (run now_run : Core) : Type 0 where
  pub text : List ℕ
  pub handles : Handles Tells item text old new run.net now_run.net run.queue now_run.queue
  pub lines : now_run.lines.items ≡ run.lines.items ++ text

-- the same of one that was told
pub record TakesTold {Own : Type 0} (Tells : Type 0) (item : WorldStep) (old new : Seen Own) (run now_run : Core) : Type 0 where
  pub text : List ℕ
  pub handles : HandlesTold Tells item text old new run.net now_run.net run.queue now_run.queue
  pub lines : now_run.lines.items ≡ run.lines.items ++ text

-- it joined or was lost, and this text noted
pub record TakesJoin {Own : Type 0} (Tells : Type 0) (d : ℕ) (m : Message) (old new : Seen Own) (run now_run : Core) : Type 0 where
  pub text : List ℕ
  pub enters : Enters Tells d m text old new run.net now_run.net run.queue now_run.queue
  pub lines : now_run.lines.items ≡ run.lines.items ++ text

-- ---- What was told next

abbrev pub rest_by : Item → Option Rest
rest_by items.Idle = Some rests.Idle
rest_by items.End = Some rests.End
rest_by other = None

pub record NextTaken {Own : Type 0} (Tells : Type 0) (rest : Option Rest) (old new : Seen Own) (run now_run : Core) : Type 0 where
  pub item : Item
  pub text : List ℕ
  pub takes : TakesNext Tells item text old new run.net now_run.net run.queue now_run.queue
  pub lines : now_run.lines.items ≡ run.lines.items ++ text
  pub rest_is : rest ≡ rest_by item

-- ---- The messages that were kept

-- In every world: these were taken, oldest first, and the others are kept still. None of them is an ECHO_REQUEST, so that nothing is called, and
-- no switch is lost.
pub record TakesFirst {Own : Type 0} (Tells : Type 0) (taken : List (ℕ × List ℕ)) (old new : Seen Own) (run now_run : Core) : Type 0 where
  pub kept_is : run.net.kept ≡ taken ++ now_run.net.kept
  pub knowledge : knowledge_of now_run.net now_run.queue ≡ handled_all (as_told taken) (knowledge_of run.net run.queue)
  pub told : Tells → new.history ≡ old.history

-- where there is none, nothing is done

abbrev pub IsAsBefore : {Own : Type 0} → Seen Own → Seen Own → Core → Core → Type 0
IsAsBefore old new run now_run = (new ≡ old) × (now_run.net ≡ run.net) × (now_run.queue ≡ run.queue) × (now_run.lines.items ≡ run.lines.items)

-- after so many of them
pub record KeptSoFar {Own : Type 0} (Tells : Type 0) (n : ℕ) (old new : Seen Own) (run now_run : Core) : Type 0 where
  pub taken : List (ℕ × List ℕ)
  pub number_is : length taken ≡ n
  pub first : TakesFirst Tells taken old new run now_run
  pub none : run.net.kept ≡ [] → (n ≡ 0) × IsAsBefore old new run now_run

-- and then, with how many items the batch can still have: all of them, or as many as a batch can have
pub record TakesKept {Own : Type 0} (Tells : Type 0) (left : ℕ) (old new : Seen Own) (run now_run : Core) : Type 0 where
  pub taken : List (ℕ × List ℕ)
  pub first : TakesFirst Tells taken old new run now_run
  pub all : (now_run.net.kept ≡ []) ⊎ ((1000000 ≤ length taken) × (left ≡ 0))
  pub none : run.net.kept ≡ [] → (left ≡ 1000000) × IsAsBefore old new run now_run

-- ---- A batch, after so many items

pub record BatchGoes {Own : Type 0} (Tells : Type 0) (n : ℕ) (old new : Seen Own) (run now_run : Core) : Type 0 where
  pub so_far : Tells → Conforming new → Calm old run.net → SoFar n (standing_of old run) (standing_of new now_run)

-- ---- A batch that is over: one stimulus was begun and its items were told, or nothing is to come

abbrev pub BatchBy : {Own : Type 0} → Rest → Standing Own → Standing Own → Type 0
BatchBy rests.Idle first now = (x : WorldStim) × BatchEnds x first now
BatchBy rests.End first now = BatchOver first now

pub record BatchShown {Own : Type 0} (Tells : Type 0) (rest : Rest) (old new : Seen Own) (run now_run : Core) : Type 0 where
  pub shown : Tells → Conforming new → Calm old run.net → BatchBy rest (standing_of old run) (standing_of new now_run)
