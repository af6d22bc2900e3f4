use Rattle.std.proofs.Common.{sym, ap, ◌∙◌, slice_set}
use Rattle.netlog_inverse.specs.Mending.{set_standing}
use Rattle.netlog_inverse.specs.laws.ChangedLaws.{changed-set}
use Rattle.netlog_inverse.proofs.mending.mend_standing_at.Goals as goal

pub returns : goal.returns
returns c =
    ap (slice_set c.args.logged.now c.args.at) (c.mend_standing.ensures ∙ ap (set_standing c.args.lost) (sym c.index-logged-at.is))
    ∙ sym (changed-set c.args.at (set_standing c.args.lost) c.args.logged.now c.index-logged-at.result c.requires (sym c.index-logged-at.is))
