use Rattle.std.proofs.Common.{OnOk, subst}
use Rattle.sim_world.specs.World.{seen_of}
use Rattle.sim_world.specs.Building.{Begins}
use Rattle.session_text.specs.Loading.{given_by}
use Rattle.session_text.proofs.Drawn.{drawn_view, drawn_session}
use Rattle.session_text.proofs.loading.generate.Goals as goal

pub give_session-requires-clause-session : goal.give_session-requires-clause-session
give_session-requires-clause-session c = drawn_session c.args.start c.args.count _ c.requires.rounds c.in_ok-session.ensures

pub returns-clause-exact : goal.returns-clause-exact
returns-clause-exact c =
    subst (λ s. OnOk c.give_session.result (Begins (given_by s) (seen_of c.give_session.new.sim))) (drawn_view c.args.start c.args.count c.in_ok-session.session c.in_ok-session.ensures) c.give_session.ensures.seen
