-- A batch in a world that keeps its word, while it goes on and when it is over: one stimulus was begun, its items are told one after the
-- other, and no switch moves but by the stimulus, or is lost. All of this is our own.
use Rattle.std.specs.Prelude.{◌≡◌, ◌≢◌, ℕ, ◌+◌, ◌⊎◌, Bool, true, false, List, [], ◌∷◌, ◌++◌, length, filter, Some, None, Ok, IsOk}
use Rattle.std.specs.List.{AllByRecursion}
use Rattle.of_types.specs.declared.journal.WorldStim.{WorldStim}
use Rattle.of_wire.specs.Reading.{reading_of}
use Rattle.lego_model.specs.History.{released_of, lost_of}
use Rattle.lego_model.specs.Controller.{lost_at}
use Rattle.lego_model.specs.RunReport.{lost_line}
use Rattle.lego_model.specs.Journal.{is_of, stimuli}
use Rattle.outside.specs.declared.item.Item.{Item}
use Rattle.outside.specs.declared.item.Item.TheVariants as items
use Rattle.outside.specs.declared.step.WorldStep.{WorldStep}
use Rattle.outside.specs.declared.step.WorldStep.TheVariants.{From, Joined}
use Rattle.outside.specs.Seen.{Seen, journal}
use Rattle.outside.specs.State.{State, after_stim, upcoming, state, switch_of, waits_of}
use Rattle.outside.specs.Calls.{Nexts, item_step}
use Rattle.outside.specs.Conforming.{MayBegin, Conforming}
use Rattle.switch_laws.specs.Orderly.{OrderlySince}
use Rattle.batch_laws.specs.Knowledge.{knowledge_of, handled_all, LosesAt, known_lost}
use Rattle.batch_laws.specs.Batches.{Standing}
use Rattle.batch_laws.specs.Deletions.{IsNoDeletion}
use Rattle.app_frames.specs.declared.frame.Event.{Event}
use Rattle.net_txn.specs.Net.{NetState}

-- ---- What of a state no item moves

-- all but the switches, what is due, and whether a stimulus is begun
pub record SameBesides (s t : State) : Type 0 where
  pub opened : s.opened ≡ t.opened
  pub running : s.running ≡ t.running
  pub moment : s.moment ≡ t.moment
  pub to_come : s.to_come ≡ t.to_come
  pub marks : s.marks ≡ t.marks

-- a message of a switch can be read
abbrev pub IsReadable : WorldStep → Type 0
IsReadable (From d bytes) = IsOk (reading_of bytes)
IsReadable other = Unit {0}

-- ---- While it goes on

-- So many items were told of the stimulus that was begun. Before the first one nothing has moved since; what is due is told first.
pub record InBatch {Own : Type 0} (x : WorldStim) (n : ℕ) (first now : Standing Own) : Type 0 where
  pub given : now.seen.given ≡ first.seen.given
  pub began : MayBegin first.seen.given.declared x (state first.seen)
  pub stays : SameBesides (state now.seen) (after_stim x (state first.seen))
  pub begun : (state now.seen).begun ≡ true
  pub switches : (d : ℕ) → switch_of d (state now.seen) ≡ switch_of d (after_stim x (state first.seen))
  pub due : ((state now.seen).due ≡ []) ⊎ (state now.seen ≡ after_stim x (state first.seen))
  pub told : List WorldStep
  pub count : length told ≡ n
  pub read : AllByRecursion IsReadable told
  pub order : told ++ upcoming (state now.seen) ≡ upcoming (after_stim x (state first.seen))
  pub knowledge : knowledge_of now.net now.queue ≡ handled_all told (knowledge_of first.net first.queue)
  pub kept : now.net.kept ≡ []
  pub log : now.net.log ≡ first.net.log
  pub room : now.net.room ≡ first.net.room
  pub held : now.net.held ≡ first.net.held
  pub left : now.net.left ≡ []
  pub text : now.text ≡ first.text
  pub lost : lost_of now.seen ≡ lost_of first.seen
  pub stimuli_is : stimuli (journal now.seen.history) ≡ stimuli (journal first.seen.history) ++ x ∷ []
  pub acts : (app : ℕ) → filter (is_of app) (journal now.seen.history) ≡ filter (is_of app) (journal first.seen.history)
  pub released : released_of now.seen ≡ released_of first.seen
  pub orderly : (app : ℕ) → OrderlySince app first.seen now.seen

-- ---- When it is over

-- Idle was told: all items of the stimulus were told and could be read, and the engine knows what they make of what it knew.
pub record BatchDone {Own : Type 0} (x : WorldStim) (first now : Standing Own) : Type 0 where
  pub given : now.seen.given ≡ first.seen.given
  pub began : MayBegin first.seen.given.declared x (state first.seen)
  pub stays : SameBesides (state now.seen) (after_stim x (state first.seen))
  pub begun : (state now.seen).begun ≡ false
  pub due : (state now.seen).due ≡ []
  pub waits : (d : ℕ) → waits_of d (state now.seen) ≡ []
  pub switches : (d : ℕ) → switch_of d (state now.seen) ≡ switch_of d (after_stim x (state first.seen))
  pub read : AllByRecursion IsReadable (upcoming (after_stim x (state first.seen)))
  pub knowledge : knowledge_of now.net now.queue ≡ handled_all (upcoming (after_stim x (state first.seen))) (knowledge_of first.net first.queue)
  pub kept : now.net.kept ≡ []
  pub log : now.net.log ≡ first.net.log
  pub room : now.net.room ≡ first.net.room
  pub held : now.net.held ≡ first.net.held
  pub left : now.net.left ≡ []
  pub text : now.text ≡ first.text
  pub lost : lost_of now.seen ≡ lost_of first.seen
  pub stimuli_is : stimuli (journal now.seen.history) ≡ stimuli (journal first.seen.history) ++ x ∷ []
  pub acts : (app : ℕ) → filter (is_of app) (journal now.seen.history) ≡ filter (is_of app) (journal first.seen.history)
  pub released : released_of now.seen ≡ released_of first.seen
  pub orderly : (app : ℕ) → OrderlySince app first.seen now.seen

-- A switch was lost at the one item of the stimulus, and told; it is out, and nothing more is upcoming. Idle was told, or not yet.
pub record BatchLost {Own : Type 0} (x : WorldStim) (begun : Bool) (first now : Standing Own) : Type 0 where
  pub dpid : ℕ
  pub of_stimulus : lost_at true x ≡ Some dpid
  pub item : WorldStep
  pub alone : upcoming (after_stim x (state first.seen)) ≡ item ∷ []
  pub at : LosesAt dpid item (knowledge_of first.net first.queue)
  pub given : now.seen.given ≡ first.seen.given
  pub began : MayBegin first.seen.given.declared x (state first.seen)
  pub stays : SameBesides (state now.seen) (after_stim x (state first.seen))
  pub begun_is : (state now.seen).begun ≡ begun
  pub due : (state now.seen).due ≡ []
  pub waits : (d : ℕ) → waits_of d (state now.seen) ≡ []
  pub out : switch_of dpid (state now.seen) ≡ None
  pub others : (d : ℕ) → d ≢ dpid → switch_of d (state now.seen) ≡ switch_of d (after_stim x (state first.seen))
  pub knowledge : knowledge_of now.net now.queue ≡ known_lost dpid item (knowledge_of first.net first.queue)
  pub kept : now.net.kept ≡ []
  pub log : now.net.log ≡ first.net.log
  pub room : now.net.room ≡ first.net.room
  pub held : now.net.held ≡ first.net.held
  pub left : now.net.left ≡ []
  pub text : now.text ≡ first.text ++ lost_line dpid
  pub lost : lost_of now.seen ≡ lost_of first.seen ++ dpid ∷ []
  pub stimuli_is : stimuli (journal now.seen.history) ≡ stimuli (journal first.seen.history) ++ x ∷ []
  pub acts : (app : ℕ) → filter (is_of app) (journal now.seen.history) ≡ filter (is_of app) (journal first.seen.history)
  pub released : released_of now.seen ≡ released_of first.seen
  pub orderly : (app : ℕ) → OrderlySince app first.seen now.seen

-- with a switch lost or none
abbrev pub BatchEnds : {Own : Type 0} → WorldStim → Standing Own → Standing Own → Type 0
BatchEnds x first now = BatchDone x first now ⊎ BatchLost x false first now

-- End was told: no stimulus is to come, and nothing was done.
pub record BatchOver {Own : Type 0} (first now : Standing Own) : Type 0 where
  pub given : now.seen.given ≡ first.seen.given
  pub to_come : (state first.seen).to_come ≡ []
  pub state_is : state now.seen ≡ state first.seen
  pub net : now.net ≡ first.net
  pub queue : now.queue ≡ first.queue
  pub text : now.text ≡ first.text
  pub acts : journal now.seen.history ≡ journal first.seen.history
  pub orderly : (app : ℕ) → OrderlySince app first.seen now.seen

-- ---- Item by item

-- how a batch stands after so many items
abbrev pub SoFar : {Own : Type 0} → ℕ → Standing Own → Standing Own → Type 0
SoFar n first now = ((n ≡ 0) × (now ≡ first)) ⊎ ((x : WorldStim) × (InBatch x n first now ⊎ ((n ≡ 1) × BatchLost x true first now)))

-- and with one item more
abbrev pub GoesOn : {Own : Type 0} → Item → ℕ → Standing Own → Standing Own → Type 0
GoesOn items.Idle n first now = (x : WorldStim) × BatchEnds x first now
GoesOn items.End n first now = BatchOver first now
GoesOn other n first now = (x : WorldStim) × (InBatch x (n + 1) first now ⊎ ((n + 1 ≡ 1) × BatchLost x true first now))

-- ---- What can be taken

-- A message can be read and tells of no deletion, and of a switch that joins nothing waits.
abbrev pub CanTake : WorldStep → State → Type 0
CanTake (From d bytes) s = IsOk (reading_of bytes) × IsNoDeletion (reading_of bytes)
CanTake (Joined d bytes) s = waits_of d s ≡ []
CanTake other s = Unit {0}

-- whatever a world that keeps its word tells next can be taken
abbrev pub CanTakeNext : {Own : Type 0} → Type 0 → Seen Own → Type 0
CanTakeNext {Own} Tells old = (item : Item) (buf : List ℕ) (mid : Seen Own) → Conforming mid → Nexts Tells old mid (Ok item) buf → CanTake (item_step item buf) (state mid)

abbrev pub standing : {Own : Type 0} → Seen Own → NetState → List Event → List ℕ → Standing Own
standing seen net queue text = record { seen = seen; net = net; queue = queue; text = text }
