use Rattle.std.proofs.Common.{List, ℕ, OnOk, subst, ◌++◌}
use Rattle.std.proofs.lemmas.Result.{on_ok_weaker}
use Rattle.event_dispatch.specs.Lines.{OnlyNotes}
use Rattle.event_dispatch.specs.laws.NotesLaws.{notes_then}
use Rattle.event_dispatch.proofs.engine_core.Core.note_group.Goals as goal

pub returns : goal.returns
returns c = subst (λ (line : List ℕ). OnOk c.note.result (OnlyNotes (c.args.text.now ++ line) c.args.self.now c.note.new.self)) c.in_ok-line.ensures
    (on_ok_weaker c.note.result (λ notes. notes_then c.in_ok-note_bytes.ensures notes) c.note.ensures)
