use Rattle.std.proofs.Common.{List, sym, ap, ◌∙◌, subst}
use Rattle.flow_table.specs.View.{plains}
use Rattle.net_guard.specs.declared.hop.Hop.{Hop}
use Rattle.net_guard.specs.Links.{Guarded}
use Rattle.net_guard.specs.Found.{IsFirstFound, IsLoopFound, first_edit}
use Rattle.net_guard.proofs.Searching.{loop_is_found}
use Rattle.net_guard.proofs.guard.Guard.first_found.Goals as goal

pub returns-in-None : goal.returns-in-None
returns-in-None c =
    let tables = plains c.args.tables.now in
    let none = sym c.first_edit.ensures ∙ c.in-None.is in
    let here = ap (λ (hops : List Hop). first_edit hops tables) (sym c.as_slice.ensures.value) ∙ none in
    let g : Guarded = record { field = c.self.inside.field; hops = c.self.inside.hops.items } in
    let loops = subst (λ (hops : List Hop). IsLoopFound (record { field = c.self.inside.field; hops = hops }) tables c.loop_in.result) c.as_slice-in-None.ensures.value c.loop_in.ensures in
    subst (λ (x : Guarded). IsFirstFound x tables c.loop_in.result) c.self.view_is (loop_is_found g tables c.loop_in.result here loops)
