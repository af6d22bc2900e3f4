use Rattle.match_overlap.specs.laws.RelationsLaws.{meet_of-is, meet_of-some}
use Rattle.match_overlap.proofs.relations.meet.Goals as goal

pub returns-clause-some : goal.returns-clause-some
returns-clause-some c = rw c.meeting.ensures (meet_of-some c.args.a.now c.args.b.now)

pub returns-clause-covers : goal.returns-clause-covers
returns-clause-covers c = rw c.meeting.ensures (meet_of-is c.args.a.now c.args.b.now)
