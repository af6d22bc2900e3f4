use Rattle.std.proofs.Common.{◌≡◌, ℕ, ◌≤◌, ◌<◌, false, get_or}
use Rattle.netlog_inverse.specs.declared.index.Spot.{Spot}
use Rattle.netlog_inverse.specs.Next.{is_sought}
use Rattle.netlog_inverse.proofs.sending.next_in.Given as goal

abbrev pub invariant-loop-place : goal.invariant-loop-place
invariant-loop-place l = (j : ℕ) (x : Spot) → l.first ≤ j → j < l.place → is_sought (record { kind = l.kind; dpid = l.dpid; mark = l.mark; log = l.logged; rows = l.rows }) (get_or l.index j x).key ≡ false
