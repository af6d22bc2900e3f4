use Rattle.std.proofs.Common.{◌≤◌, length}
use Rattle.live_run.proofs.talk.end_of.Given as goal

abbrev pub invariant-loop : goal.invariant-loop
invariant-loop l = l.at ≤ length l.bytes
