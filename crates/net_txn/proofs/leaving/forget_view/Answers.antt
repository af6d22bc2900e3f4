use Rattle.std.proofs.Common.{◌≡◌, ◌==◌, ◌∷◌, ℕ, List, [], Bool, true, false, not, filter, if◌then◌else◌, rules, refl, ap, ◌∙◌}
use Rattle.std.proofs.lemmas.Fn.{filter_same}
use Rattle.flow_table.specs.declared.view.TableView.{TableView as Lent}
use Rattle.flow_table.specs.View.{TableView, plain, plains}
use Rattle.net_txn.proofs.leaving.forget_view.Goals as goal

one_more : (stays : Bool) (v : Lent) (rest : List Lent) (shown : List TableView) → plains rest ≡ shown → plains (if stays then v ∷ rest else rest) ≡ (if stays then plain v ∷ shown else shown)
one_more true v rest shown same = ap (λ (vs : List TableView). plain v ∷ vs) same
one_more false v rest shown same = same

others : (d : ℕ) (vs : List Lent) → plains (filter (λ v. not (v.dpid == d)) vs) ≡ filter (λ v. not (v.dpid == d)) (plains vs)
others d [] = refl
others d (v ∷ vs) = one_more (not (v.dpid == d)) v _ _ (others d vs)

pub returns : goal.returns
returns c =
    let kept : c.retain.new.self.items ≡ filter (λ v. not (v.dpid == c.args.dpid)) c.args.views.now.items = filter_same _ _ _ (λ x b f' k. search rules) _ _ c.retain.ensures.filtered in
    ap (λ (vs : List Lent). plains vs) kept ∙ others c.args.dpid c.args.views.now.items
