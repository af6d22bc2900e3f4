use Rattle.std.proofs.Common.{sym, ap, ◌∙◌, subst, arith}
use Rattle.std.proofs.lemmas.Option.{slice_get_within}
use Rattle.sim_world.specs.Scripts.{turn_or_plain}
use Rattle.sim_world.specs.Lives.{steps_given, steps_of_line, Follows}
use Rattle.sim_world.specs.laws.LifeLaws.{Follows-line, Follows-none, first-line, first-none}
use Rattle.sim_world.proofs.scripts.turn_from.Goals as goal

pub overflow_add-result : goal.overflow_add-result
overflow_add-result c = omega (arith, slice_get_within c.args.replies.now c.in-Some.i c.in-Some.ensures.0 c.in-Some.ensures.1)

pub returns-in-Some-clause-steps : goal.returns-in-Some-clause-steps
unfolding steps_given
returns-in-Some-clause-steps c =
    ap steps_of_line c.in-Some.ensures.1
    ∙ sym (ap turn_or_plain (first-line c.args.app c.args.from c.in-Some.i c.args.replies.now c.in-Some.ensures.0 c.in-Some.ensures c.in-Some.ensures.1))

pub returns-in-Some-clause-within : goal.returns-in-Some-clause-within
returns-in-Some-clause-within c = slice_get_within c.args.replies.now c.in-Some.i c.in-Some.ensures.0 c.in-Some.ensures.1

pub returns-in-Some-clause-next : goal.returns-in-Some-clause-next
returns-in-Some-clause-next c = Follows-line c.args.app c.args.from c.in-Some.i c.args.replies.now c.in-Some.ensures

pub returns-in-None-clause-steps : goal.returns-in-None-clause-steps
unfolding steps_given
returns-in-None-clause-steps c = sym (ap turn_or_plain (first-none c.args.app c.args.from c.args.replies.now c.in-None.ensures))

pub returns-in-None-clause-next : goal.returns-in-None-clause-next
returns-in-None-clause-next c =
    subst (λ count. Follows c.args.app c.args.from count c.args.replies.now) (sym c.len-count.ensures)
    (Follows-none c.args.app c.args.from c.args.replies.now c.in-None.ensures)
