use Rattle.of_match.specs.laws.FieldsLaws.{HasPrefixes-from}
use Rattle.match_overlap.specs.Fieldwise.{fields_meet}
use Rattle.match_overlap.specs.laws.RelationsLaws.{fields_meet-within}
use Rattle.match_overlap.proofs.relations.meeting.Goals as goal

pub new-requires : goal.new-requires
new-requires c =
    rw c.meet_fields.ensures
    (HasPrefixes-from (fields_meet c.fields.result c.fields-then-overlaps.result) (fields_meet-within c.fields.result c.fields-then-overlaps.result c.fields.ensures.within c.fields-then-overlaps.ensures.within))
