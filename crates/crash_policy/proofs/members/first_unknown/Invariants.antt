use Rattle.std.proofs.Common.{◌≡◌, map, string_bytes}
use Rattle.std.specs.Map.{keys_of}
use Rattle.crash_policy.specs.Keys.{is_known}
use Rattle.crash_policy.specs.Ascending.{first_unknown}
use Rattle.crash_policy.proofs.members.first_unknown.Given as goal

abbrev pub invariant-loop-key : goal.invariant-loop-key
invariant-loop-key l =
    first_unknown (is_known l.place) (map string_bytes (keys_of l.table.entries)) ≡ first_unknown (is_known l.place) (map string_bytes l.key-iterator)
