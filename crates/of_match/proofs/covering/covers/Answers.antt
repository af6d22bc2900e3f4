use Rattle.std.proofs.Common.{ap, ◌∙◌}
use Rattle.std.proofs.lemmas.Bool.Decides.{same_from_decides}
use Rattle.of_match.specs.Covers.{fields_agree}
use Rattle.of_match.specs.laws.CoversLaws.{fields_agree-Decides}
use Rattle.of_match.proofs.covering.covers.Goals as goal

pub returns-clause-value : goal.returns-clause-value
returns-clause-value c =
    same_from_decides c.fields_cover.result (fields_agree c.fields.result c.args.k.now) c.fields_cover.ensures (fields_agree-Decides c.fields.result c.args.k.now)
    ∙ ap (λ f. fields_agree f c.args.k.now) c.fields.ensures.value
