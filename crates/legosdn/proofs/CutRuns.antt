-- The run of a session that a fault ends.
use Rattle.std.proofs.Common.{◌⊎◌, List, ℕ, length, Option, sym, subst, inl, inr}
use Rattle.outside.specs.declared.call.FailCall.{FailCall}
use Rattle.outside.specs.declared.step.WorldStep.{WorldStep}
use Rattle.outside.specs.Seen.{Given, Seen, Longer}
use Rattle.legosdn.specs.Input.{ProgramValue}
use Rattle.sim_world.specs.Told.{without_links}
use Rattle.sim_world.specs.Scripts.{Scripts, AreScripted, KeepsScripts, all_fresh}
use Rattle.sim_world.specs.laws.ScriptLaws.{AreScripted-front}
use Rattle.sim_world.specs.World.{WorldData, given_of, seen_of}
use Rattle.lego_model.specs.Controller.{Run}
use Rattle.lego_model.specs.AllLines.{CutBehindLines, CutInLines, CutForMemory}
use Rattle.lego_model.specs.CutRun.{Progress, WroteSoFar, WasWriting, AlikeUpTo, CutBetweenLines}
use Rattle.legosdn.specs.Said.{allowed_by, HoldsAsSaid, CutRun, LinesRun, MemoryRun, WritingRun}
use Rattle.legosdn.specs.Headline.{KeepsLines, UpToPoint}
use Rattle.legosdn.proofs.Said.{told_in, are_said, kept_to_lines}

-- ---- A front of what happened

keeps_before : (own : Scripts) (fails : List FailCall) (first whole : List WorldStep) → Longer first whole → KeepsScripts own fails whole → KeepsScripts own fails first
unfolding KeepsScripts
keeps_before own fails first whole later keeps = AreScripted-front own fails first later.0 all_fresh (subst (λ (h : List WorldStep). AreScripted own fails h all_fresh) later.1 keeps)

-- the lines of the session were kept to as far as there
lines_at : (program : ProgramValue) (sim : WorldData) (Short : Type 0) (Holds : Seen Scripts → Type 0) (up_to : UpToPoint program (seen_of sim) Short Holds) → KeepsLines sim → KeepsScripts up_to.last.given.own (without_links up_to.last.given.fails) up_to.last.history
unfolding seen_of given_of
lines_at program sim Short Holds up_to lines =
    subst (λ (g : Given Scripts). KeepsScripts g.own (without_links g.fails) up_to.last.history) (sym up_to.given)
    (keeps_before sim.scripts (without_links sim.fails) up_to.last.history sim.history (up_to.last_point.steps, up_to.last_point.history) lines)

said_is : {last : Seen Scripts} (program : ProgramValue) (Claim : Progress last → Run → Type 0) (up_to : AlikeUpTo program.apps last Claim) → KeepsScripts last.given.own (without_links last.given.fails) last.history → HoldsAsSaid program Claim up_to
said_is {last} program Claim up_to keeps = λ none. record {
  enough = told_in (length program.apps) last;
  holds = λ more few. up_to.as_said _ (are_said (length program.apps) last more (kept_to_lines (length program.apps) last (without_links last.given.fails) keeps none up_to.in_order up_to.at_once) few);
}

-- ---- A place of the run

-- with what was written, over what was told and over the lines
cut_run : (program : ProgramValue) (last : Seen Scripts) (a b : Option (List ℕ)) → KeepsScripts last.given.own (without_links last.given.fails) last.history → CutBetweenLines program.apps (allowed_by program.judge) last a b → CutRun program last a b
cut_run program last a b keeps run = record { run = run; as_said = said_is program (WroteSoFar program.apps (allowed_by program.judge) last a b) run keeps }

with_lines : (program : ProgramValue) (sim : WorldData) (Short : Type 0) (First Then : Seen Scripts → Type 0) → KeepsLines sim → (up_to : UpToPoint program (seen_of sim) Short First)
    → (KeepsScripts up_to.last.given.own (without_links up_to.last.given.fails) up_to.last.history → First up_to.last → Then up_to.last) → UpToPoint program (seen_of sim) Short Then
with_lines program sim Short First Then lines up_to so = record {
  last = up_to.last;
  given = up_to.given;
  last_point = up_to.last_point;
  messages = up_to.messages;
  holds = so (lines_at program sim Short First up_to lines) up_to.holds;
  tables = up_to.tables;
  at_once = up_to.at_once;
}

-- no line is missing up to there
pub lines_said : (program : ProgramValue) (sim : WorldData) (a b : Option (List ℕ)) → KeepsLines sim → UpToPoint program (seen_of sim) ⊥ (λ last. CutBehindLines program.apps (allowed_by program.judge) last a b) → UpToPoint program (seen_of sim) ⊥ (λ last. LinesRun program last a b)
unfolding cut_run
lines_said program sim a b lines up_to = with_lines program sim ⊥ (λ last. CutBehindLines program.apps (allowed_by program.judge) last a b) (λ last. LinesRun program last a b) lines up_to (λ keeps behind.
    record { cut = cut_run program up_to.last a b keeps behind.run; done = behind.done; none_between = behind.none_between })

pub writing_said : (program : ProgramValue) (sim : WorldData) (a b : Option (List ℕ)) → KeepsLines sim → UpToPoint program (seen_of sim) ⊥ (λ last. CutInLines program.apps (allowed_by program.judge) last a b) → UpToPoint program (seen_of sim) ⊥ (λ last. WritingRun program last a b)
writing_said program sim a b lines up_to = with_lines program sim ⊥ (λ last. CutInLines program.apps (allowed_by program.judge) last a b) (λ last. WritingRun program last a b) lines up_to (λ keeps writing.
    record { run = writing.run; done = writing.done; as_said = said_is program (WasWriting program.apps (allowed_by program.judge) up_to.last writing.run.text writing.run.more) writing.run.up_to keeps })

pub memory_said : (program : ProgramValue) (sim : WorldData) (a b : Option (List ℕ)) (Idle : Type 0) → KeepsLines sim → UpToPoint program (seen_of sim) (Unit {0}) (λ last. CutForMemory program.apps (allowed_by program.judge) (seen_of sim) last a b) ⊎ Idle → UpToPoint program (seen_of sim) (Unit {0}) (λ last. MemoryRun program (seen_of sim) last a b) ⊎ Idle
unfolding cut_run
memory_said program sim a b Idle lines (inl up_to) = inl (with_lines program sim (Unit {0}) (λ last. CutForMemory program.apps (allowed_by program.judge) (seen_of sim) last a b) (λ last. MemoryRun program (seen_of sim) last a b) lines up_to (λ keeps short.
    record { cut = cut_run program up_to.last a b keeps short.run; done = short.done }))
memory_said program sim a b Idle lines (inr idle) = inr idle
