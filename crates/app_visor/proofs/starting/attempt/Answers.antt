use Rattle.app_visor.specs.laws.TryLaws.{try_refused, try_stood, unless_continues}
use Rattle.lego_model.specs.Controller.{is_ready}
use Rattle.outside.specs.laws.SeenLaws.{Continues-trans, Ends-continues}
use Rattle.std.proofs.lemmas.Result.{err_from_is_err_and}
use Rattle.app_visor.specs.laws.LeadsOnLaws.{leads_on_wanting, leads_on_ended, leads_on_started, leads_on_greeted, talks_none}
use Rattle.app_visor.specs.laws.OwnLaws.{own_none, own_then, own_wanting, own_started, own_ended, own_unless}
use Rattle.app_visor.proofs.starting.attempt.Goals as goal

pub returns-then-not-branch-clause-ok : goal.returns-then-not-branch-clause-ok
returns-then-not-branch-clause-ok g c = try_refused c.new.result c.new.ensures c.end.ensures (rw c.if-not-branch.true at c.in_ok-start.ensures.ok)

pub returns-then-not-branch-clause-continues : goal.returns-then-not-branch-clause-continues
returns-then-not-branch-clause-continues g c =
    Continues-trans g.W.World.Tells (g.W.World.seen c.args.world.now) (g.W.World.seen c.end.new.self) (g.W.World.seen c.start.new.world) (Ends-continues c.end.ensures) c.start.ensures.continues

pub returns-in_err-tried-clause-continues : goal.returns-in_err-tried-clause-continues
returns-in_err-tried-clause-continues g c =
    Continues-trans g.W.World.Tells (g.W.World.seen c.args.world.now) (g.W.World.seen c.end.new.self) (g.W.World.seen c.greet.new.world) (Ends-continues c.end.ensures)
    (Continues-trans g.W.World.Tells (g.W.World.seen c.end.new.self) (g.W.World.seen c.start.new.world) (g.W.World.seen c.greet.new.world) c.start.ensures.continues c.greet.ensures.continues)

pub returns-in_err-rest-clause-continues : goal.returns-in_err-rest-clause-continues
returns-in_err-rest-clause-continues g c =
    Continues-trans g.W.World.Tells (g.W.World.seen c.args.world.now) (g.W.World.seen c.end.new.self) (g.W.World.seen c.greet.new.world) (Ends-continues c.end.ensures)
    (Continues-trans g.W.World.Tells (g.W.World.seen c.end.new.self) (g.W.World.seen c.start.new.world) (g.W.World.seen c.greet.new.world) c.start.ensures.continues c.greet.ensures.continues)

pub returns-clause-ok : goal.returns-clause-ok
returns-clause-ok g c =
    try_stood g.W.World.Tells c.args.app g.kept c.in_ok-tried.tried c.greet.new.intake c.in_ok-rest.rest (g.W.World.seen c.args.world.now) (g.W.World.seen c.end.new.self) (g.W.World.seen c.start.new.world)
    (g.W.World.seen c.greet.new.world) (g.W.World.seen c.end_unless_ready.new.world) c.in_ok-rest.ensures c.end.ensures (rw c.if-not-branch.false at c.in_ok-start.ensures.ok) c.in_ok-tried.ensures.ok c.end_unless_ready.ensures

pub returns-clause-continues : goal.returns-clause-continues
returns-clause-continues g c =
    Continues-trans g.W.World.Tells (g.W.World.seen c.args.world.now) (g.W.World.seen c.end.new.self) (g.W.World.seen c.end_unless_ready.new.world) (Ends-continues c.end.ensures)
    (Continues-trans g.W.World.Tells (g.W.World.seen c.end.new.self) (g.W.World.seen c.start.new.world) (g.W.World.seen c.end_unless_ready.new.world) c.start.ensures.continues
    (Continues-trans g.W.World.Tells (g.W.World.seen c.start.new.world) (g.W.World.seen c.greet.new.world) (g.W.World.seen c.end_unless_ready.new.world) c.greet.ensures.continues
    (unless_continues g.W.World.Tells c.args.app (is_ready c.in_ok-tried.tried) (g.W.World.seen c.greet.new.world) (g.W.World.seen c.end_unless_ready.new.world) c.end_unless_ready.ensures)))

pub returns-in_err-intake-clause-talks : goal.returns-in_err-intake-clause-talks
returns-in_err-intake-clause-talks g c =
    let p = err_from_is_err_and c.from_residual.result c.from_residual.ensures.1 in
    rw p.1 (talks_none c.args.app (g.W.World.seen c.args.world.now))

pub returns-in_err-start-clause-talks : goal.returns-in_err-start-clause-talks
returns-in_err-start-clause-talks g c =
    let p = err_from_is_err_and c.from_residual-in_err-start.result c.from_residual-in_err-start.ensures.1 in
    let old = g.W.World.seen c.args.world.now in
    let mid = g.W.World.seen c.end.new.self in
    let new = g.W.World.seen c.start.new.world in
    rw p.1 (λ tells s runs. leads_on_ended g.W.World.Tells c.args.app s old mid new c.end.ensures tells runs (λ t stopped. leads_on_wanting c.args.app t c.in_err-start.ensures.err tells))

pub returns-in_err-tried-clause-talks : goal.returns-in_err-tried-clause-talks
returns-in_err-tried-clause-talks g c =
    let p = err_from_is_err_and c.from_residual-in_err-tried.result c.from_residual-in_err-tried.ensures.1 in
    let old = g.W.World.seen c.args.world.now in
    let mid = g.W.World.seen c.end.new.self in
    let up = g.W.World.seen c.start.new.world in
    let new = g.W.World.seen c.greet.new.world in
    rw p.1 (λ tells s runs. leads_on_ended g.W.World.Tells c.args.app s old mid new c.end.ensures tells runs
    (λ t stopped. leads_on_started g.W.World.Tells c.args.app t mid up new (rw c.if-not-branch.false at c.in_ok-start.ensures.ok) tells stopped (c.in_err-tried.ensures.talks tells)))

pub returns-in_err-rest-clause-talks : goal.returns-in_err-rest-clause-talks
returns-in_err-rest-clause-talks g c =
    let p = err_from_is_err_and c.from_residual-in_err-rest.result c.from_residual-in_err-rest.ensures.1 in
    let old = g.W.World.seen c.args.world.now in
    let mid = g.W.World.seen c.end.new.self in
    let up = g.W.World.seen c.start.new.world in
    let new = g.W.World.seen c.greet.new.world in
    rw p.1 (λ tells s runs. leads_on_ended g.W.World.Tells c.args.app s old mid new c.end.ensures tells runs
    (λ t stopped. leads_on_started g.W.World.Tells c.args.app t mid up new (rw c.if-not-branch.false at c.in_ok-start.ensures.ok) tells stopped (leads_on_greeted c.in_ok-tried.ensures.ok tells)))

pub returns-in_err-intake-clause-own : goal.returns-in_err-intake-clause-own
returns-in_err-intake-clause-own g c = λ tells. own_none c.args.app (g.W.World.seen c.args.world.now)

pub returns-in_err-start-clause-own : goal.returns-in_err-start-clause-own
returns-in_err-start-clause-own g c = λ tells. own_then (own_ended c.end.ensures tells) (own_wanting c.args.app c.in_err-start.ensures.err tells)

pub returns-then-not-branch-clause-own : goal.returns-then-not-branch-clause-own
returns-then-not-branch-clause-own g c = λ tells. own_then (own_ended c.end.ensures tells) (own_started c.in_ok-start.field-0 c.in_ok-start.ensures.ok tells)

pub returns-in_err-tried-clause-own : goal.returns-in_err-tried-clause-own
returns-in_err-tried-clause-own g c = λ tells.
    own_then (own_ended c.end.ensures tells) (own_then (own_started c.in_ok-start.field-0 c.in_ok-start.ensures.ok tells) (c.greet.ensures.own tells))

pub returns-in_err-rest-clause-own : goal.returns-in_err-rest-clause-own
returns-in_err-rest-clause-own g c = λ tells.
    own_then (own_ended c.end.ensures tells) (own_then (own_started c.in_ok-start.field-0 c.in_ok-start.ensures.ok tells) (c.greet.ensures.own tells))

pub returns-clause-own : goal.returns-clause-own
returns-clause-own g c = λ tells.
    own_then (own_ended c.end.ensures tells) (own_then (own_started c.in_ok-start.field-0 c.in_ok-start.ensures.ok tells) (own_then (c.greet.ensures.own tells)
    (own_unless g.W.World.Tells c.args.app (is_ready c.in_ok-tried.tried) (g.W.World.seen c.greet.new.world) (g.W.World.seen c.end_unless_ready.new.world) c.end_unless_ready.ensures tells)))
