use Rattle.std.proofs.Common.{ℕ, List, [], sym, subst}
use Rattle.app_visor.specs.Attempts.{Greets}
use Rattle.app_visor.specs.laws.AttemptLaws.{greets_gone, greets_came}
use Rattle.app_visor.specs.laws.ReadLaws.{Comes-continues, Breaks-continues}
use Rattle.outside.specs.laws.SeenLaws.{Continues-trans}
use Rattle.std.proofs.lemmas.Result.{err_from_is_err_and}
use Rattle.lego_model.specs.AtOnce.{before, nothing_said}
use Rattle.app_visor.specs.Dialogues.{LeadsOn}
use Rattle.app_visor.specs.laws.LeadsOnLaws.{leads_on_wanting, leads_on_breaking, leads_on_restored}
use Rattle.app_visor.specs.laws.OwnLaws.{own_then, own_wanting, own_restored, own_comes, own_breaking}
use Rattle.app_visor.proofs.starting.greet.Goals as goal

pub returns-then-not-branch-clause-ok : goal.returns-then-not-branch-clause-ok
returns-then-not-branch-clause-ok g c = greets_gone c.args.frame.now c.args.intake.now c.requires.1.0 (rw c.if-not-branch.true at c.in_ok-give.ensures.ok)

pub returns-in_err-next_frame-clause-continues : goal.returns-in_err-next_frame-clause-continues
returns-in_err-next_frame-clause-continues g c =
    Continues-trans g.W.World.Tells (g.W.World.seen c.args.world.now) (g.W.World.seen c.give.new.world) (g.W.World.seen c.next_frame.new.world) c.in_ok-give.ensures.ok.continues
    (Breaks-continues c.in_err-next_frame.ensures.err)

pub returns-clause-ok : goal.returns-clause-ok
returns-clause-ok g c =
    subst (λ t. Greets g.W.World.Tells c.args.app g.kept t c.next_frame.new.intake (g.W.World.seen c.args.world.now) (g.W.World.seen c.next_frame.new.world)) (sym c.tried_by.ensures)
    (greets_came c.args.frame.now c.in_ok-next_frame.field-0 c.requires.1.0 c.requires.1.1 (rw c.if-not-branch.false at c.in_ok-give.ensures.ok) c.in_ok-next_frame.ensures.ok)

pub returns-clause-continues : goal.returns-clause-continues
returns-clause-continues g c =
    Continues-trans g.W.World.Tells (g.W.World.seen c.args.world.now) (g.W.World.seen c.give.new.world) (g.W.World.seen c.next_frame.new.world) c.in_ok-give.ensures.ok.continues
    (Comes-continues c.in_ok-next_frame.ensures.ok)

pub returns-in_err-next_frame-clause-talks : goal.returns-in_err-next_frame-clause-talks
returns-in_err-next_frame-clause-talks g c =
    let p = err_from_is_err_and c.from_residual-in_err-next_frame.result c.from_residual-in_err-next_frame.ensures.1 in
    let given = g.W.World.seen c.give.new.world in
    let new = g.W.World.seen c.next_frame.new.world in
    rw p.1 (λ tells. leads_on_restored g.W.World.Tells c.args.app g.kept c.args.frame.now (g.W.World.seen c.args.world.now) given new (rw c.if-not-branch.false at c.in_ok-give.ensures.ok) tells c.requires.1.0
    (subst (λ (r : List ℕ). LeadsOn c.args.app (before r []) given new) c.requires.1.1 (leads_on_breaking g.W.World.Tells c.args.app c.args.intake.now [] given new c.in_err-next_frame.ensures.err tells)))

pub returns-in_err-give-clause-talks : goal.returns-in_err-give-clause-talks
returns-in_err-give-clause-talks g c =
    let p = err_from_is_err_and c.from_residual.result c.from_residual.ensures.1 in
    rw p.1 (λ tells. leads_on_wanting c.args.app nothing_said c.in_err-give.ensures.err tells)

pub returns-in_err-give-clause-own : goal.returns-in_err-give-clause-own
returns-in_err-give-clause-own g c = λ tells. own_wanting c.args.app c.in_err-give.ensures.err tells

pub returns-then-not-branch-clause-own : goal.returns-then-not-branch-clause-own
returns-then-not-branch-clause-own g c = λ tells. own_restored c.args.app c.in_ok-give.field-0 g.kept c.args.frame.now c.requires.1.0 c.in_ok-give.ensures.ok tells

pub returns-in_err-next_frame-clause-own : goal.returns-in_err-next_frame-clause-own
returns-in_err-next_frame-clause-own g c = λ tells.
    own_then (own_restored c.args.app c.in_ok-give.field-0 g.kept c.args.frame.now c.requires.1.0 c.in_ok-give.ensures.ok tells) (own_breaking c.in_err-next_frame.ensures.err tells)

pub returns-clause-own : goal.returns-clause-own
returns-clause-own g c = λ tells.
    own_then (own_restored c.args.app c.in_ok-give.field-0 g.kept c.args.frame.now c.requires.1.0 c.in_ok-give.ensures.ok tells) (own_comes c.in_ok-next_frame.field-0 c.in_ok-next_frame.ensures.ok tells)
