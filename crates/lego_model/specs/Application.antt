-- The applications of a run, by their places in its policy, from 0 on. All of this is our own choice.
use Rattle.std.specs.Prelude.{ℕ, List, map}
use Rattle.crash_policy.specs.Policies.{AppValue}

-- the names by which a report knows them
abbrev pub names : List AppValue → List (List ℕ)
names rules = map (λ rule. rule.name) rules
