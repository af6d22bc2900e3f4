-- What the text of a recording is, beside the world that it stands over. All of this is our own choice.
use Rattle.std.specs.Prelude.{◌≡◌, ℕ, Bool, true, false, List, ◌++◌, length, take, map, Option, Some, None, slice_get}
use Rattle.of_types.specs.declared.journal.WorldStim.{WorldStim}
use Rattle.flow_table.specs.Switch.{Declared}
use Rattle.outside.specs.Seen.{Seen}
use Rattle.lego_model.specs.History.{stimuli_in}
use Rattle.session_record.specs.Deeds.{Deed}
use Rattle.session_record.specs.Lines.{StimulusLine, lines_text, stimulus_text}
use Rattle.session_record.specs.Recording.{recording}

-- The stimulus of a number is written behind a text; or there is none, and nothing is written.
abbrev pub NextTold : {Own : Type 0} → Type 0 → Seen Own → ℕ → Bool → List ℕ → List ℕ → Type 0
NextTold Tells seen n true before after = (x : WorldStim) × (Tells → slice_get (stimuli_in seen) n ≡ Some x) × (after ≡ before ++ stimulus_text x)
NextTold Tells seen n false before after = (Tells → slice_get (stimuli_in seen) n ≡ None) × (after ≡ before)

-- the first so many of them are written
pub record FirstTold {Own : Type 0} (Tells : Type 0) (seen : Seen Own) (n : ℕ) (before after : List ℕ) : Type 0 where
  pub first : List WorldStim
  pub own : Tells → first ≡ take n (stimuli_in seen)
  pub written : after ≡ before ++ lines_text (map StimulusLine first)

-- all of them are
pub record AllTold {Own : Type 0} (Tells : Type 0) (seen : Seen Own) (before after : List ℕ) : Type 0 where
  pub all : List WorldStim
  pub own : Tells → all ≡ stimuli_in seen
  pub written : after ≡ before ++ lines_text (map StimulusLine all)

-- It is the recording of these deeds and losses, over some switches and stimuli; where the world tells, over its own.
pub record Spells {Own : Type 0} (Tells : Type 0) (seen : Seen Own) (names : List (List ℕ)) (deeds : List Deed) (losses : List (ℕ × ℕ)) (text : List ℕ) : Type 0 where
  pub switches : List Declared
  pub stimuli : List WorldStim
  pub own_switches : Tells → switches ≡ seen.given.declared
  pub own_stimuli : Tells → stimuli ≡ stimuli_in seen
  pub spelled : text ≡ recording names switches stimuli deeds losses

-- the same of the deeds that were kept, if memory was never refused
pub record IsText {Own : Type 0} (Tells : Type 0) (seen : Seen Own) (names : List (List ℕ)) (log : Option (List Deed)) (losses : List (ℕ × ℕ)) (text : List ℕ) : Type 0 where
  pub deeds : List Deed
  pub kept : log ≡ Some deeds
  pub spelled : Spells Tells seen names deeds losses text
