use Rattle.std.proofs.Common.{◌≡◌, Bool, true, false, not, Option, Some, None, refl, sym, ◌∙◌}
use Rattle.std.specs.Option.{is_none, is_some}
use Rattle.flow_table.specs.View.{plains}
use Rattle.net_guard.specs.declared.found.Found.{Found}
use Rattle.net_guard.proofs.Carried.{free-comes_back}
use Rattle.net_guard.proofs.Searching.{found-free, is_free-from, is_free-at}
use Rattle.net_guard.proofs.guard.GuardJudge.allows.Goals as goal

none_is : (o : Option Found) (b : Bool) → is_some o ≡ not b → b ≡ is_none o
none_is None true is = refl
none_is None false is = absurd cc
none_is (Some f) true is = absurd cc
none_is (Some f) false is = refl

pub returns-clause-value : goal.returns-clause-value
returns-clause-value c = none_is c.first_found.result c.is_none.result c.is_none.ensures ∙ found-free c.args.self.now (plains c.args.tables.now) c.first_found.result c.first_found.ensures

pub returns-clause-free : goal.returns-clause-free
returns-clause-free c =
    let value = none_is c.first_found.result c.is_none.result c.is_none.ensures ∙ found-free c.args.self.now (plains c.args.tables.now) c.first_found.result c.first_found.ensures in
    (λ is. is_free-at c.args.self.now (plains c.args.tables.now) (sym value ∙ is), λ free. value ∙ is_free-from c.args.self.now (plains c.args.tables.now) free)

pub returns-clause-comes_back : goal.returns-clause-comes_back
returns-clause-comes_back c = λ is.
    let value = none_is c.first_found.result c.is_none.result c.is_none.ensures ∙ found-free c.args.self.now (plains c.args.tables.now) c.first_found.result c.first_found.ensures in
    free-comes_back c.args.self.now (plains c.args.tables.now) (is_free-at c.args.self.now (plains c.args.tables.now) (sym value ∙ is))
