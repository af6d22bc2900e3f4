use Rattle.std.proofs.Common.{◌≡◌, Bool, ◌&&◌, List, [], ◌∷◌, refl, ap, ◌∙◌}
use Rattle.std.specs.List.{list_all}
use Rattle.flow_table.specs.declared.view.TableView.{TableView as Lent}
use Rattle.flow_table.specs.View.{TableView, plain, plains}
use Rattle.net_guard.specs.Judging.{is_within}
use Rattle.net_guard.proofs.quota.QuotaJudge.allows.Goals as goal

all-plains : (test : TableView → Bool) (vs : List Lent) → list_all (λ v. test (plain v)) vs ≡ list_all test (plains vs)
all-plains test [] = refl
all-plains test (v ∷ vs) = ap (λ b. test (plain v) && b) (all-plains test vs)

pub returns : goal.returns
returns c = c.has_room.ensures ∙ all-plains (is_within c.args.self.now.most) c.args.tables.now
