use Rattle.std.proofs.Common.{◌≡◌, [], sym, ap, ◌∙◌, rules}
use Rattle.std.proofs.lemmas.List.{nil_from_length}
use Rattle.lego_io.specs.Lines.{lines_of}
use Rattle.lego_io.specs.laws.LinesLaws.{lines_of-nil}
use Rattle.lego_io.proofs.lines.Lines.next.Goals as goal

pub returns-then-is_empty-clause-line : goal.returns-then-is_empty-clause-line
returns-then-is_empty-clause-line c =
    let empty : c.self.inside.rest.now ≡ [] = nil_from_length c.self.inside.rest.now (search rules) in
    let none : c.args.self.now ≡ [] = sym c.self.view_is ∙ ap lines_of empty ∙ lines_of-nil in
    (none, none)
