use Rattle.std.proofs.Common.{◌≡◌, refl}
use Rattle.std.proofs.lemmas.Bool.Decides.{Decides-at}
use Rattle.match_overlap.specs.Relations.{is_overlapping}
use Rattle.match_overlap.specs.laws.RelationsLaws.{is_overlapping-Decides}
use Rattle.match_overlap.proofs.relations.overlaps.Goals as goal

pub returns-clause-overlaps : goal.returns-clause-overlaps
unfolding is_overlapping
returns-clause-overlaps c =
    let value : c.overlaps_fields.result ≡ is_overlapping c.args.a.now c.args.b.now = rw (c.overlaps_fields.ensures, c.fields.ensures.value, c.fields-2.ensures.value) refl in
    Decides-at c.overlaps_fields.result (is_overlapping c.args.a.now c.args.b.now) value (is_overlapping-Decides c.args.a.now c.args.b.now)
