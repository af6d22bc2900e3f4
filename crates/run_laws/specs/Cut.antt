-- A run that a fault ends before its end: how far it is the reference controller's, and what was written. All of this is our own.
use Rattle.std.specs.Prelude.{◌≡◌, ℕ, ◌<◌, ◌≤◌, Bool, true, List, ◌++◌, [], length, Option}
use Rattle.std.specs.List.{AllByRecursion}
use Rattle.of_types.specs.declared.journal.Act.{Act}
use Rattle.of_types.specs.declared.journal.Act.TheVariants.{Started, Gave, Gone, Took, Ended}
use Rattle.of_types.specs.declared.journal.WorldStim.{WorldStim}
use Rattle.crash_policy.specs.Policies.{AppValue}
use Rattle.lego_model.specs.Places.{Place}
use Rattle.lego_model.specs.AtOnce.{AtOnce}
use Rattle.outside.specs.declared.step.WorldStep.{WorldStep}
use Rattle.outside.specs.declared.step.WorldStep.TheVariants.{Acted, TookInto, NotOpened}
use Rattle.outside.specs.Seen.{Seen, Longer, journal}
use Rattle.outside.specs.Conforming.{Conforming}
use Rattle.outside.specs.InOrder.{InOrder, BringMessages}
use Rattle.run_course.specs.Points.{IsLastPoint}
use Rattle.run_laws.specs.Engine.{Engine}
use Rattle.run_course.specs.TurnsLeft.{TurnsBehind}
use Rattle.run_laws.specs.Moves.{Moved}
use Rattle.lego_model.specs.CutRun.{reference_so_far, dispatch_partly, start_said}
use Rattle.lego_model.specs.Controller.{Run}
use Rattle.lego_model.specs.Losses.{Losses}
use Rattle.lego_model.specs.ReferenceRun.{Said, AreSaid}
use Rattle.run_laws.specs.Whole.{RanAs}
use Rattle.lego_model.specs.AllLines.{CutBehindLines, CutInLines, CutForMemory}

-- ---- Calls for some applications, and no others

abbrev pub IsActAmong : ℕ → Act → Type 0
IsActAmong number (Started of stands) = of < number
IsActAmong number (Gave of bytes) = of < number
IsActAmong number (Gone of bytes) = of < number
IsActAmong number (Took of what) = of < number
IsActAmong number (Ended of) = of < number
IsActAmong number other = Unit {0}

-- no call for another application than the first so many, and no opening that failed
abbrev pub IsCallAmong : ℕ → WorldStep → Type 0
IsCallAmong number (Acted act) = IsActAmong number act
IsCallAmong number (TookInto of what room) = of < number
IsCallAmong number NotOpened = ⊥
IsCallAmong number other = Unit {0}

-- the history went on so
pub record CallsAmong {Own : Type 0} (number : ℕ) (old new : Seen Own) : Type 0 where
  pub steps : List WorldStep
  pub history : new.history ≡ old.history ++ steps
  pub all : AllByRecursion (IsCallAmong number) steps

-- ---- What is promised of a run that a fault ends

-- There is a point of it up to which it is so, where the world kept its word as far as there, whatever came behind it; and the whole journal
-- is a dialogue with each application then. In a world that tells in order all bytes that came of switches up to there are messages, so that
-- it kept its word as far as there, and no quiescent point lies behind; and where an application was given an event there, its turn was undone
-- on each switch that did not fail in the undo. Only where memory was wanting may it have been whole. Behind the point no other application
-- than those of the policy was called.
pub record CutAt {Own : Type 0} (rules : List AppValue) (Short : Type 0) (Alike : Seen Own → Type 0) (seen : Seen Own) : Type 0 where
  pub last : Seen Own
  pub given : seen.given ≡ last.given
  pub later : Longer last.history seen.history
  pub alike : Conforming last → Alike last
  pub at_once : Conforming last → (i : ℕ) → i < length rules → AtOnce i (journal seen.history)
  pub messages : InOrder seen → BringMessages last.history
  pub last_point : InOrder seen → IsLastPoint last seen
  pub no_other_called : CallsAmong (length rules) last seen
  pub tables : InOrder seen → TurnsBehind rules Short last seen

-- where what comes next failed, or a switch, no line is missing
abbrev pub CutWithLines : {Own : Type 0} → List AppValue → (List Place → Bool) → Seen Own → Option (List ℕ) → Option (List ℕ) → Type 0
CutWithLines rules allows seen contents now_contents = CutAt rules ⊥ (λ last. CutBehindLines rules allows last contents now_contents) seen

-- where the sink failed, it took a part of the last lines
abbrev pub CutWriting : {Own : Type 0} → List AppValue → (List Place → Bool) → Seen Own → Option (List ℕ) → Option (List ℕ) → Type 0
CutWriting rules allows seen contents now_contents = CutAt rules ⊥ (λ last. CutInLines rules allows last contents now_contents) seen

-- where memory was wanting
abbrev pub CutAlike : {Own : Type 0} → List AppValue → (List Place → Bool) → Seen Own → Option (List ℕ) → Option (List ℕ) → Type 0
CutAlike rules allows seen contents now_contents = CutAt rules (Unit {0}) (λ last. CutForMemory rules allows seen last contents now_contents) seen

-- ---- What parts of a run come to

-- they do what the reference controller does so far
pub record GoneSoFar {Own : Type 0} (allows : List Place → Bool) (started : Bool) (number : ℕ) (text : List ℕ) (first last : Seen Own) (e now_e : Engine) : Type 0 where
  pub stimuli : List WorldStim
  pub begun : List WorldStim
  pub begun_one : length begun ≤ 1
  pub moved : Moved (stimuli ++ begun) (reference_so_far allows started stimuli begun number) text first last e now_e

-- and then the next event is given to so many of the first applications
pub record GoneWithin {Own : Type 0} (allows : List Place → Bool) (number given : ℕ) (text : List ℕ) (first last : Seen Own) (e now_e : Engine) : Type 0 where
  pub here : Seen Own
  pub here_engine : Engine
  pub gone : GoneSoFar allows true number text first here e here_engine
  pub more : List ℕ
  pub partly : Moved [] (dispatch_partly allows given) more here last here_engine now_e

-- engine and reference controller stand alike, and what this said so far was noted; so it is over what is said of the applications, where
-- switches are lost at these places
pub record RanTo {Own : Type 0} (rules : List AppValue) (f : Run → Run) (losses later : Losses) (text : List ℕ) (last : Seen Own) (e : Engine) : Type 0 where
  pub as_said : (said : ℕ → Said) → AreSaid last said → RanAs rules later text last e (f (start_said rules losses last said))
