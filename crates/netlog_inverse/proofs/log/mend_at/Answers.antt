use Rattle.std.proofs.Common.{rules, ◌<◌, length, sym, ap, ◌∙◌, slice_set}
use Rattle.netlog_inverse.specs.Log.{mended}
use Rattle.netlog_inverse.specs.laws.ChangedLaws.{entry-within, changed-set}
use Rattle.netlog_inverse.proofs.log.mend_at.Goals as goal

pub bounds-logged-at : goal.bounds-logged-at
bounds-logged-at c = entry-within c.args.at c.args.logged.now c.requires

pub offset_bounds-logged-at : goal.offset_bounds-logged-at
offset_bounds-logged-at c =
    let within : c.args.at < length c.args.logged.now = entry-within c.args.at c.args.logged.now c.requires in
    search rules

pub returns : goal.returns
returns c =
    let within = entry-within c.args.at c.args.logged.now c.requires in
    ap (slice_set c.args.logged.now c.args.at) (c.mend_one.ensures ∙ ap (mended c.args.lost c.args.hard c.args.stands) (sym c.index-logged-at.is))
    ∙ sym (changed-set c.args.at (mended c.args.lost c.args.hard c.args.stands) c.args.logged.now c.index-logged-at.result within (sym c.index-logged-at.is))
