use Rattle.std.proofs.Common.{◌≡◌, refl}
use Rattle.std.proofs.lemmas.Bool.Decides.{Decides-at}
use Rattle.match_overlap.specs.Relations.{is_subsuming}
use Rattle.match_overlap.specs.laws.RelationsLaws.{is_subsuming-Decides}
use Rattle.match_overlap.proofs.relations.subsumes.Goals as goal

pub returns-clause-subsumes : goal.returns-clause-subsumes
unfolding is_subsuming
returns-clause-subsumes c =
    let value : c.subsumes_fields.result ≡ is_subsuming c.args.a.now c.args.b.now = rw (c.subsumes_fields.ensures, c.fields.ensures.value, c.fields-2.ensures.value) refl in
    Decides-at c.subsumes_fields.result (is_subsuming c.args.a.now c.args.b.now) value (is_subsuming-Decides c.args.a.now c.args.b.now)
