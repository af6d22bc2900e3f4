-- One item of a batch: it was the next that was upcoming, the outside told it, and the engine handled it. All of this is our own.
use Rattle.std.specs.Prelude.{◌≡◌, ℕ, true, false, List, [], ◌∷◌, ◌++◌, filter, Some, None}
use Rattle.of_types.specs.declared.journal.WorldStim.{WorldStim}
use Rattle.app_frames.specs.declared.frame.Event.{Event}
use Rattle.lego_model.specs.Controller.{lost_at}
use Rattle.lego_model.specs.Journal.{is_of, stimuli, losses}
use Rattle.lego_model.specs.OrderlySteps.{IsOrderly}
use Rattle.lego_model.specs.RunReport.{lost_line}
use Rattle.outside.specs.declared.step.WorldStep.{WorldStep}
use Rattle.outside.specs.Seen.{Seen, journal}
use Rattle.outside.specs.State.{State, upcoming, state, switch_of, waits_of, is_joined}
use Rattle.outside.specs.Conforming.{MayStep, Conforming}
use Rattle.net_txn.specs.ChangeSteps.{Agrees}
use Rattle.net_txn.specs.Net.{NetState}
use Rattle.switch_laws.specs.Released.{released_by}
use Rattle.switch_laws.specs.Since.{ports_known}
use Rattle.batch_laws.specs.Batches.{Standing}
use Rattle.batch_laws.specs.InBatch.{SameBesides, IsReadable}
use Rattle.batch_laws.specs.Items.{Handles, IsFresh}
use Rattle.batch_laws.specs.Knowledge.{ports_lost}
use Rattle.batch_laws.specs.Waiting.{NoneWait}

-- from the state s before an item to the state t behind it: of what was upcoming the item is gone, and nothing else changed
pub record IsTold (item : WorldStep) (s t : State) : Type 0 where
  pub first : upcoming s ≡ item ∷ upcoming t
  pub besides : SameBesides t s
  pub begun : t.begun ≡ s.begun
  pub switches : (d : ℕ) → switch_of d t ≡ switch_of d s
  pub none_due : t.due ≡ []
  pub fresh : IsFresh item t
  pub readable : IsReadable item

-- an item that is due
pub record TellsDue (item : WorldStep) (s t : State) : Type 0 where
  pub first : upcoming s ≡ item ∷ upcoming t
  pub besides : SameBesides t s
  pub begun : t.begun ≡ s.begun
  pub links : t.links ≡ s.links
  pub none_due : t.due ≡ []

-- The item was told in a world that keeps its word, behind the run as it stood, and the engine handled it.
pub record Later {Own : Type 0} (Tells : Type 0) (item : WorldStep) (text : List ℕ) (now : Standing Own) (mid new : Seen Own) (net : NetState) (queue : List Event) : Type 0 where
  pub told : Tells
  pub keeps : Conforming new
  pub kept : Conforming mid
  pub given : mid.given ≡ now.seen.given
  pub longer : mid.history ≡ now.seen.history ++ item ∷ []
  pub may : MayStep now.seen.given.declared item (state now.seen)
  pub handles : Handles Tells item text mid new now.net net now.queue queue

-- what holds between batches: nothing waits, nothing is kept or due, and what is known of each switch is so
pub record Stills {Own : Type 0} (first : Standing Own) : Type 0 where
  pub none_due : (state first.seen).due ≡ []
  pub none_begun : (state first.seen).begun ≡ false
  pub waits : (d : ℕ) → waits_of d (state first.seen) ≡ []
  pub none_wait : NoneWait (state first.seen).links
  pub kept : first.net.kept ≡ []
  pub left : first.net.left ≡ []
  pub agrees : (d : ℕ) → Agrees d first.net.views (state first.seen)
  pub known : (d : ℕ) → ports_lost d first.net.ports ≡ ports_known d (switch_of d (state first.seen))

-- it is the first and only item of the stimulus, and its switch is joined where it was told
pub record LostAlone {Own : Type 0} (x : WorldStim) (d : ℕ) (text : List ℕ) (mid : Seen Own) (front later : List WorldStep) : Type 0 where
  pub of_stimulus : lost_at true x ≡ Some d
  pub first : front ≡ []
  pub last : later ≡ []
  pub joined : is_joined d (state mid) ≡ true
  pub text_is : text ≡ lost_line d

-- none of the items is a stimulus or an act of an application
pub record TellsNone (item : WorldStep) : Type 0 where
  pub stimuli_is : stimuli (journal (item ∷ [])) ≡ []
  pub loses : losses (journal (item ∷ [])) ≡ []
  pub acts : (app : ℕ) → filter (is_of app) (journal (item ∷ [])) ≡ []
  pub releases : released_by item ≡ None
  pub orderly : (app : ℕ) → IsOrderly app item
