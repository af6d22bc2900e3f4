use Rattle.std.proofs.Common.{List, ℕ, OnOk, subst}
use Rattle.event_dispatch.specs.Lines.{OnlyNotes}
use Rattle.event_dispatch.proofs.engine_core.Core.note_gone.Goals as goal

pub returns : goal.returns
returns c = subst (λ (line : List ℕ). OnOk c.note.result (OnlyNotes line c.args.self.now c.note.new.self)) c.in_ok-line.ensures c.note.ensures
