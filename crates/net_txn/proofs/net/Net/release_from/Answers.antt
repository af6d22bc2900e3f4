use Rattle.std.proofs.Common.{rules, ◌≡◌, List, [], ◌++◌, ap, ◌∙◌, subst, refl, Ok, Err}
use Rattle.std.specs.Prelude.{vec_len}
use Rattle.std.proofs.lemmas.Result.{err_from_is_err_and}
use Rattle.app_frames.specs.declared.frame.Event.{Event}
use Rattle.lego_model.specs.Packets.{Held}
use Rattle.net_txn.specs.Net.{NetState}
use Rattle.net_txn.specs.Releases.{committed, Commits}
use Rattle.net_txn.specs.ReleaseSteps.{ReleasedFront, StopsBehind}
use Rattle.net_txn.specs.Undos.{Undoes}
use Rattle.net_txn.specs.laws.ReleaseLaws.{commits_undone, commits_all, commits_stopped}
use Rattle.net_txn.proofs.net.Net.release_from.Goals as goal

pub returns-in_default-clause-commits : goal.returns-in_default-clause-commits
returns-in_default-clause-commits g c =
    let s = c.self.inside in
    let old = g.W.World.seen c.args.world.now in
    let new = g.W.World.seen c.undo_from-undone.new.world in
    let net : NetState = record { views = s.views; ports = s.ports.known; left = s.ports.left; log = s.log.items; held = record { packets = s.held.items; notices = s.notices }; xid = s.xid; moment = s.moment; kept = s.kept; room = vec_len s.rooms } in
    let same : record net { held = record { packets = s.held.items; notices = c.take_room.new.notices } } ≡ c.args.self.now =
    ap (λ (notices : List Event). record net { held = record { packets = s.held.items; notices = notices } }) c.in_default.ensures.left ∙ c.self.view_is in
    let undoes = subst (λ (n : NetState). Undoes g.W.World.Tells c.args.start old new n c.undo_from-undone.new.self c.undo_from-undone.result) same c.undo_from-undone.ensures.undoes in
    rw c.in_default.ensures.err (commits_undone c.args.start old new c.args.self.now c.undo_from-undone.new.self c.args.queue.now c.undo_from-undone.result undoes)

pub returns-in_err-sent-clause-commits : goal.returns-in_err-sent-clause-commits
returns-in_err-sent-clause-commits g c =
    let s = c.self.inside in
    let old = g.W.World.seen c.args.world.now in
    let new = g.W.World.seen c.release_all.new.world in
    let net : NetState = record { views = s.views; ports = s.ports.known; left = s.ports.left; log = s.log.items; held = record { packets = s.held.items; notices = s.notices }; xid = s.xid; moment = s.moment; kept = s.kept; room = vec_len s.rooms } in
    let mid : NetState = record net { log = c.truncate.new.self.items; held = record { packets = c.replace-held.new.dest.items; notices = c.take_room.new.notices } } in
    let held : c.replace-held.result.items ≡ net.held.packets = search rules in
    let none : c.replace-held.new.dest.items ≡ [] = search rules in
    let same : mid ≡ committed c.args.start net = rw (c.truncate.ensures.items, none, c.in-Ok.ensures.emptied) refl in
    let fault = c.in_err-sent.field-0.0 in
    let queue : List Event = c.args.queue.now ++ s.notices in
    let from = subst (λ (q : List Event). StopsBehind g.W.World.Tells c.replace-held.result.items old new mid c.release_all.new.net q fault) c.in-Ok.ensures.queue c.in_err-sent.ensures.released in
    let first = subst (λ (hs : List Held). StopsBehind g.W.World.Tells hs old new mid c.release_all.new.net queue fault) held from in
    let stops = subst (λ (n : NetState). StopsBehind g.W.World.Tells net.held.packets old new n c.release_all.new.net queue fault) same first in
    let p = err_from_is_err_and c.from_residual.result c.from_residual.ensures.1 in
    rw (p.1, p.2) (subst (λ (n : NetState). Commits g.W.World.Tells c.args.start old new n c.release_all.new.net c.args.queue.now c.release_all.new.queue (Err fault)) c.self.view_is
    (commits_stopped c.args.start old new net c.release_all.new.net c.args.queue.now c.release_all.new.queue fault stops))

pub returns-clause-commits : goal.returns-clause-commits
returns-clause-commits g c =
    let s = c.self.inside in
    let old = g.W.World.seen c.args.world.now in
    let new = g.W.World.seen c.release_all.new.world in
    let net : NetState = record { views = s.views; ports = s.ports.known; left = s.ports.left; log = s.log.items; held = record { packets = s.held.items; notices = s.notices }; xid = s.xid; moment = s.moment; kept = s.kept; room = vec_len s.rooms } in
    let mid : NetState = record net { log = c.truncate.new.self.items; held = record { packets = c.replace-held.new.dest.items; notices = c.take_room.new.notices } } in
    let held : c.replace-held.result.items ≡ net.held.packets = search rules in
    let none : c.replace-held.new.dest.items ≡ [] = search rules in
    let same : mid ≡ committed c.args.start net = rw (c.truncate.ensures.items, none, c.in-Ok.ensures.emptied) refl in
    let sizes = c.in_ok-sent.sent.items in
    let queue : List Event = c.args.queue.now ++ s.notices in
    let from = subst (λ (q : List Event). ReleasedFront g.W.World.Tells c.replace-held.result.items old new mid c.release_all.new.net q c.release_all.new.queue sizes) c.in-Ok.ensures.queue c.in_ok-sent.ensures.released in
    let first = subst (λ (hs : List Held). ReleasedFront g.W.World.Tells hs old new mid c.release_all.new.net queue c.release_all.new.queue sizes) held from in
    let all = subst (λ (n : NetState). ReleasedFront g.W.World.Tells net.held.packets old new n c.release_all.new.net queue c.release_all.new.queue sizes) same first in
    subst (λ (n : NetState). Commits g.W.World.Tells c.args.start old new n c.release_all.new.net c.args.queue.now c.release_all.new.queue (Ok sizes)) c.self.view_is
    (commits_all c.args.start old new net c.release_all.new.net c.args.queue.now c.release_all.new.queue sizes all)

pub returns-in_err-sent-clause-parted : goal.returns-in_err-sent-clause-parted
returns-in_err-sent-clause-parted g c =
    let p = err_from_is_err_and c.from_residual.result c.from_residual.ensures.1 in
    λ can. rw (p.1, p.2) (c.in_err-sent.ensures.parted can)
