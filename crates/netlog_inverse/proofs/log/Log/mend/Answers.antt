use Rattle.std.proofs.Common.{ap, ◌∙◌, length, arith}
use Rattle.netlog_inverse.specs.Log.{LogState, mended}
use Rattle.netlog_inverse.specs.laws.ChangedLaws.{length-changed_at}
use Rattle.netlog_inverse.specs.laws.IndexLaws.{index-mended}
use Rattle.netlog_inverse.proofs.log.Log.mend.Goals as goal

pub invariant_of-self : goal.invariant_of-self
invariant_of-self c =
    let long = ap length c.mend_in.ensures.items ∙ length-changed_at c.args.at (mended c.args.lost c.args.hard c.args.stands) c.self.inside.logged.items in
    record {
      index = rw c.mend_in.ensures.items (index-mended c.args.at c.args.lost c.args.hard c.args.stands c.self.inside.logged.items c.self.inside.index.items c.self.invariant.index);
      fits = omega (arith, long, c.mend_in.ensures.room, c.self.invariant.fits);
      index_fits = omega (arith, long, c.self.invariant.index_fits);
    }

pub returns-clause-room : goal.returns-clause-room
returns-clause-room c =
    let long = ap length c.mend_in.ensures.items ∙ length-changed_at c.args.at (mended c.args.lost c.args.hard c.args.stands) c.self.inside.logged.items in
    rw (c.mend_in.ensures.room, long) (ap (λ (s : LogState). s.spare) c.self.view_is)
