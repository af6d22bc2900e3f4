use Rattle.std.proofs.lemmas.Result.{on_ok_weaker}
use Rattle.event_dispatch.specs.laws.NotesLaws.{notes_then}
use Rattle.event_dispatch.proofs.engine_core.Core.note_kept.Goals as goal

pub returns : goal.returns
returns c = on_ok_weaker c.note_out.result (λ notes. notes_then c.in_ok-note_group.ensures notes) c.note_out.ensures
