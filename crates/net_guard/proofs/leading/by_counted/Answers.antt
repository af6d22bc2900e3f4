use Rattle.std.proofs.Common.{refl}
use Rattle.net_guard.proofs.Marking.{Marks-none}
use Rattle.net_guard.proofs.leading.by_counted.Goals as goal

pub returns-else-counts : goal.returns-else-counts
returns-else-counts c = Marks-none _ _ (λ h. rw c.if-counts.false refl)
