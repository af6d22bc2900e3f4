use Rattle.std.proofs.Common.{◌≡◌, ◌+◌, ◌^◌, ◌<◌, length, take, drop}
use Rattle.flow_table.specs.Run.{after_calls, AreAnswers, IsPlan}
use Rattle.flow_table.proofs.calls.run.Given as goal

abbrev pub invariant-loop-call : goal.invariant-loop-call
invariant-loop-call l = record {
  plan : IsPlan (drop l.call-index l.calls) l.table;
  serials : l.table.next + length (drop l.call-index l.calls) < 2 ^ 64;
  so_far : l.table ≡ after_calls (take l.call-index l.calls) l.initial.table;
  given : AreAnswers (take l.call-index l.calls) l.initial.table l.answers.items;
}
