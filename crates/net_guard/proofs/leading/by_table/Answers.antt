use Rattle.std.proofs.Common.{refl}
use Rattle.std.proofs.lemmas.Bool.{ne_eqb}
use Rattle.net_guard.proofs.Marking.{Marks-none}
use Rattle.net_guard.proofs.leading.by_table.Goals as goal

pub returns-else-table-place : goal.returns-else-table-place
returns-else-table-place c = Marks-none _ _ (λ h. rw (ne_eqb _ _ c.if-table-place.false) refl)
