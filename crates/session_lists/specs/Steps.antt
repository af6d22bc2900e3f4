-- The steps of turns as records. All of this is our own choice.
use Rattle.std.specs.Prelude.{ℕ, ◌-◌, ◌≤◌, List, take, drop, map, All}
use Rattle.app_frames.specs.declared.script.ScriptStep.{ScriptStep}
use Rattle.app_frames.specs.declared.script.ScriptStep.TheVariants as step
use Rattle.session_lists.specs.declared.kinds.StepKind.{StepKind}
use Rattle.session_lists.specs.declared.kinds.StepKind.TheVariants.{Bytes, Closed, Silent}
use Rattle.session_lists.specs.declared.step_list.StepRef.{StepRef}
use Rattle.session_lists.specs.declared.step_list.StepRef.TheVariants as lent
use Rattle.session_lists.specs.declared.reply_list.ReplyLine.{ReplyLine}

-- the step that a record spells
abbrev pub step_in : StepKind → List ℕ → ScriptStep
step_in Bytes bytes = step.Bytes bytes
step_in Closed bytes = step.Closed
step_in Silent bytes = step.Silent

abbrev pub steps_in : List (StepKind × List ℕ) → List ScriptStep
steps_in records = map (λ entry. step_in entry.0 entry.1) records

-- a step that is lent
abbrev pub step_of : StepRef → ScriptStep
step_of (lent.Bytes bytes) = step.Bytes bytes.now
step_of lent.Closed = step.Closed
step_of lent.Silent = step.Silent

-- the steps from one number to another
abbrev pub steps_between : ℕ → ℕ → List (StepKind × List ℕ) → List ScriptStep
steps_between first end records = take (end - first) (drop first (steps_in records))

-- a line of an application: its steps are those from one number to another
abbrev pub reply_in : List (StepKind × List ℕ) → ReplyLine → ℕ × List ScriptStep
reply_in records line = (line.app, steps_between line.first line.end records)

abbrev pub replies_in : List (StepKind × List ℕ) → List ReplyLine → List (ℕ × List ScriptStep)
replies_in records lines = map (reply_in records) lines

abbrev pub IsWithin : ℕ → ℕ → ℕ → Type 0
IsWithin count first end = (first ≤ end) × (end ≤ count)

abbrev pub AreWithin : ℕ → List ReplyLine → Type 0
AreWithin count lines = All (λ line. IsWithin count line.first line.end) lines
