use Rattle.std.proofs.Common.{sym, ap, get_or}
use Rattle.std.proofs.lemmas.Option.{slice_get-get_or, slice_get_within}
use Rattle.app_frames.specs.declared.script.StartScript.TheVariants.{Ready}
use Rattle.sim_world.specs.Scripts.{start_or_ready}
use Rattle.sim_world.specs.laws.LifeLaws.{Follows-line, Follows-none, first-line, first-none}
use Rattle.sim_world.proofs.scripts.start_from.Goals as goal

pub returns-in-Some-clause-start : goal.returns-in-Some-clause-start
returns-in-Some-clause-start c =
    let within = slice_get_within c.args.starts.now c.in-Some.i c.in-Some.ensures.0 c.in-Some.ensures.1 in
    sym (ap start_or_ready (first-line c.args.app c.args.from c.in-Some.i c.args.starts.now (get_or c.args.starts.now c.in-Some.i (0, Ready)) c.in-Some.ensures (slice_get-get_or c.args.starts.now c.in-Some.i (0, Ready) within)))

pub returns-in-Some-clause-next : goal.returns-in-Some-clause-next
returns-in-Some-clause-next c = Follows-line c.args.app c.args.from c.in-Some.i c.args.starts.now c.in-Some.ensures

pub returns-in-None-clause-start : goal.returns-in-None-clause-start
returns-in-None-clause-start c = sym (ap start_or_ready (first-none c.args.app c.args.from c.args.starts.now c.in-None.ensures))

pub returns-in-None-clause-next : goal.returns-in-None-clause-next
returns-in-None-clause-next c = Follows-none c.args.app c.args.from c.args.starts.now c.in-None.ensures
