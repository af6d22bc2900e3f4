use Rattle.std.proofs.Common.{◌≢◌, ◌-◌, ◌<◌, ◌≤◌, length, get_or}
use Rattle.of_match.specs.declared.key.Key.{Key}
use Rattle.tuple_index.specs.Groups.{wildcards, IsGroup}
use Rattle.tuple_index.proofs.grouping.group_end.Given as goal

abbrev pub invariant-loop-low : goal.invariant-loop-low
invariant-loop-low l = record {
  behind : l.from < l.low;
  before : l.low ≤ l.high;
  within : l.high ≤ length l.keys;
  group : IsGroup l.from l.low l.keys;
  next : (k : Key) → l.high < length l.keys → wildcards (get_or l.keys l.high k).matching ≢ wildcards (get_or l.keys l.from k).matching;
}

abbrev pub decreases-loop-low : goal.decreases-loop-low
decreases-loop-low l = l.high - l.low
