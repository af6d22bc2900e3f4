use Rattle.std.proofs.Common.{map, sym, ap, ◌∙◌, subst}
use Rattle.sim_world.specs.World.{given_of}
use Rattle.sim_world.specs.laws.BuildingLaws.{Begins-given}
use Rattle.session_text.specs.SessionView.{view_session, view_declared}
use Rattle.session_text.specs.Loading.{with_switches, with_faults, with_starts}
use Rattle.session_text.specs.laws.LoadingLaws.{MayDeclare, before_stimuli, no_replies, no_stimuli, stimuli_follow, all_given, switches_declare}
use Rattle.session_text.proofs.loading.give_session.Goals as goal

pub give_switches-requires-clause-may : goal.give_switches-requires-clause-may
give_switches-requires-clause-may c =
    let given = given_of c.args.sim.now in
    subst (λ switches. MayDeclare given.declared (map view_declared switches)) (sym c.deref.ensures.value)
    (switches_declare (view_session c.args.session) given c.requires.nothing c.requires.session)

pub add_replies-requires-clause-none : goal.add_replies-requires-clause-none
add_replies-requires-clause-none c =
    no_replies (view_session c.args.session) _ _ _ _ c.requires.nothing
    (c.in_ok-give_switches.ensures.given ∙ ap (λ switches. with_switches (map view_declared switches) (given_of c.args.sim.now)) c.deref.ensures.value)
    (c.in_ok-give_faults.ensures.given ∙ ap (λ faults. with_faults faults (given_of c.give_switches.new.sim)) c.deref-2.ensures.value)
    (c.in_ok-give_starts.ensures.given ∙ ap (λ starts. with_starts starts (given_of c.give_faults.new.sim)) c.deref-3.ensures.value)

pub add_stimuli-requires-clause-none : goal.add_stimuli-requires-clause-none
add_stimuli-requires-clause-none c =
    no_stimuli (view_session c.args.session) _
    (before_stimuli (view_session c.args.session) _ _ _ _ _ c.requires.nothing
    (c.in_ok-give_switches.ensures.given ∙ ap (λ switches. with_switches (map view_declared switches) (given_of c.args.sim.now)) c.deref.ensures.value)
    (c.in_ok-give_faults.ensures.given ∙ ap (λ faults. with_faults faults (given_of c.give_switches.new.sim)) c.deref-2.ensures.value)
    (c.in_ok-give_starts.ensures.given ∙ ap (λ starts. with_starts starts (given_of c.give_faults.new.sim)) c.deref-3.ensures.value)
    c.add_replies.ensures.gets.given)

pub add_stimuli-requires-clause-may : goal.add_stimuli-requires-clause-may
add_stimuli-requires-clause-may c =
    stimuli_follow (view_session c.args.session) _
    (before_stimuli (view_session c.args.session) _ _ _ _ _ c.requires.nothing
    (c.in_ok-give_switches.ensures.given ∙ ap (λ switches. with_switches (map view_declared switches) (given_of c.args.sim.now)) c.deref.ensures.value)
    (c.in_ok-give_faults.ensures.given ∙ ap (λ faults. with_faults faults (given_of c.give_switches.new.sim)) c.deref-2.ensures.value)
    (c.in_ok-give_starts.ensures.given ∙ ap (λ starts. with_starts starts (given_of c.give_faults.new.sim)) c.deref-3.ensures.value)
    c.add_replies.ensures.gets.given)
    c.requires.session

pub returns-clause-seen : goal.returns-clause-seen
returns-clause-seen c =
    let before =
    before_stimuli (view_session c.args.session) _ _ _ _ _ c.requires.nothing
    (c.in_ok-give_switches.ensures.given ∙ ap (λ switches. with_switches (map view_declared switches) (given_of c.args.sim.now)) c.deref.ensures.value)
    (c.in_ok-give_faults.ensures.given ∙ ap (λ faults. with_faults faults (given_of c.give_switches.new.sim)) c.deref-2.ensures.value)
    (c.in_ok-give_starts.ensures.given ∙ ap (λ starts. with_starts starts (given_of c.give_faults.new.sim)) c.deref-3.ensures.value)
    c.add_replies.ensures.gets.given in
    Begins-given _ _ c.add_stimuli.ensures.gets.still (all_given (view_session c.args.session) _ _ before c.add_stimuli.ensures.gets.given)
