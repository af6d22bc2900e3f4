use Rattle.std.proofs.Common.{ℕ, List, Err, sym, ap, ◌∙◌}
use Rattle.crash_policy.specs.Faults.{unknown}
use Rattle.crash_policy.specs.Keys.{unless_unknown}
use Rattle.crash_policy.proofs.Least.{known_keys-first}
use Rattle.crash_policy.proofs.members.known_keys.Goals as goal

pub returns-in-None : goal.returns-in-None
returns-in-None c =
    known_keys-first c.args.place c.args.table.now.entries c.first_unknown.ensures.ascending
    ∙ ap unless_unknown (sym c.in-None.ensures.first)

pub returns-in_ok-clone-in-Some : goal.returns-in_ok-clone-in-Some
returns-in_ok-clone-in-Some c =
    known_keys-first c.args.place c.args.table.now.entries c.first_unknown.ensures.ascending
    ∙ ap unless_unknown (sym c.in-Some.ensures.first)
    ∙ ap (λ (key : List ℕ). Err (unknown key)) (sym c.in_ok-clone-in-Some.ensures.cases)
