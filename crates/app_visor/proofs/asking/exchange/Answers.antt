use Rattle.std.proofs.Common.{◌∙◌}
use Rattle.std.proofs.lemmas.Result.{err_from_is_err_and}
use Rattle.lego_model.specs.declared.fault.TxnFault.TheVariants.{NoMemory}
use Rattle.app_visor.specs.laws.ResultLaws.{err_is}
use Rattle.app_visor.specs.laws.ReadLaws.{Wants-refl}
use Rattle.app_visor.specs.Beats.{IsExchange, exchange_of}
use Rattle.app_visor.specs.laws.BeatLaws.{stops_wanting}
use Rattle.app_visor.specs.laws.PlayLaws.{stops_at_change, leads_asked, exchanges_is}
use Rattle.app_visor.specs.laws.AnswerLaws.{answer_fits}
use Rattle.app_visor.specs.laws.LeadsOnLaws.{leads_on_wanting, leads_on_links, leads_on_then}
use Rattle.app_visor.specs.laws.CalmLaws.{calm_then, calm_links, calm_wanting, calm_answered}
use Rattle.net_txn.specs.Causes.{IsPlain}
use Rattle.app_visor.proofs.asking.exchange.Goals as goal

pub returns-in_err-answer-clause-err : goal.returns-in_err-answer-clause-err
returns-in_err-answer-clause-err g c =
    let p = err_from_is_err_and c.from_residual.result c.from_residual.ensures.1 in
    rw (p.1, p.2) (stops_at_change c.args.app c.in_err-answer.field-0.0 c.in_err-answer.ensures.changes)

pub encode_answer-requires : goal.encode_answer-requires
encode_answer-requires g c =
    answer_fits g.W.World.Tells c.args.dpid c.args.bytes.now (g.W.World.seen c.args.world.now) (g.W.World.seen c.change.new.world) c.args.txn.now.net.now c.change.new.self.net.now c.in_ok-answer.answer
    c.in_ok-answer.ensures.changes

pub returns-in_err-frame-clause-err : goal.returns-in_err-frame-clause-err
returns-in_err-frame-clause-err g c =
    let p = err_from_is_err_and c.from_residual-in_err-frame.result c.from_residual-in_err-frame.ensures.1 in
    let old = g.W.World.seen c.args.world.now in
    let after = g.W.World.seen c.change.new.world in
    let is : IsExchange g.W.World.Tells (exchange_of c.args.dpid c.args.bytes.now c.in_ok-answer.answer old after c.args.txn.now.net.now c.change.new.self.net.now) =
    record { changes = c.in_ok-answer.ensures.changes } in
    err_is _ c.from_residual-in_err-frame.result p.0 NoMemory p.1 p.2
    (stops_wanting (leads_asked c.args.app c.args.dpid c.args.bytes.now c.in_ok-answer.answer old after c.args.txn.now.net.now c.change.new.self.net.now is) (Wants-refl after))

pub returns-in_err-give-clause-err : goal.returns-in_err-give-clause-err
returns-in_err-give-clause-err g c =
    let p = err_from_is_err_and c.from_residual-in_err-give.result c.from_residual-in_err-give.ensures.1 in
    let old = g.W.World.seen c.args.world.now in
    let after = g.W.World.seen c.change.new.world in
    let is : IsExchange g.W.World.Tells (exchange_of c.args.dpid c.args.bytes.now c.in_ok-answer.answer old after c.args.txn.now.net.now c.change.new.self.net.now) =
    record { changes = c.in_ok-answer.ensures.changes } in
    err_is _ c.from_residual-in_err-give.result p.0 NoMemory p.1 p.2
    (stops_wanting (leads_asked c.args.app c.args.dpid c.args.bytes.now c.in_ok-answer.answer old after c.args.txn.now.net.now c.change.new.self.net.now is) c.in_err-give.ensures.err)

pub returns-clause-ok : goal.returns-clause-ok
returns-clause-ok g c =
    let old = g.W.World.seen c.args.world.now in
    let after = g.W.World.seen c.change.new.world in
    let is : IsExchange g.W.World.Tells (exchange_of c.args.dpid c.args.bytes.now c.in_ok-answer.answer old after c.args.txn.now.net.now c.change.new.self.net.now) =
    record { changes = c.in_ok-answer.ensures.changes } in
    exchanges_is g.W.World.Tells c.args.app c.args.dpid c.args.bytes.now c.in_ok-give.field-0 c.in_ok-answer.answer c.as_slice.result.now old after (g.W.World.seen c.give.new.world) c.args.txn.now.net.now
    c.change.new.self.net.now is (c.as_slice.ensures ∙ c.in_ok-frame.ensures) c.in_ok-give.ensures.ok

pub returns-in_err-answer-clause-talks : goal.returns-in_err-answer-clause-talks
returns-in_err-answer-clause-talks g c =
    let p = err_from_is_err_and c.from_residual.result c.from_residual.ensures.1 in
    rw p.1 (λ tells s. leads_on_links c.args.app s c.in_err-answer.ensures.changes.links tells)

pub returns-in_err-frame-clause-talks : goal.returns-in_err-frame-clause-talks
returns-in_err-frame-clause-talks g c =
    let p = err_from_is_err_and c.from_residual-in_err-frame.result c.from_residual-in_err-frame.ensures.1 in
    rw p.1 (λ tells s. leads_on_links c.args.app s c.in_ok-answer.ensures.changes.links tells)

pub returns-in_err-give-clause-talks : goal.returns-in_err-give-clause-talks
returns-in_err-give-clause-talks g c =
    let p = err_from_is_err_and c.from_residual-in_err-give.result c.from_residual-in_err-give.ensures.1 in
    let old = g.W.World.seen c.args.world.now in
    let after = g.W.World.seen c.change.new.world in
    rw p.1 (λ tells s.
    let asked = leads_on_links c.args.app s c.in_ok-answer.ensures.changes.links tells in
    leads_on_then c.args.app s asked.0 old after (g.W.World.seen c.give.new.world) asked.1 (leads_on_wanting c.args.app asked.0 c.in_err-give.ensures.err tells))

pub returns-in_err-answer-clause-calm : goal.returns-in_err-answer-clause-calm
returns-in_err-answer-clause-calm g c = λ tells. calm_links c.args.app (c.in_err-answer.ensures.changes.links tells)

pub returns-in_err-frame-clause-calm : goal.returns-in_err-frame-clause-calm
returns-in_err-frame-clause-calm g c = λ tells. calm_links c.args.app (c.in_ok-answer.ensures.changes.links tells)

pub returns-in_err-give-clause-calm : goal.returns-in_err-give-clause-calm
returns-in_err-give-clause-calm g c = λ tells. calm_then (calm_links c.args.app (c.in_ok-answer.ensures.changes.links tells)) (calm_wanting c.args.app c.in_err-give.ensures.err tells)

pub returns-clause-calm : goal.returns-clause-calm
returns-clause-calm g c = λ tells.
    calm_then (calm_links c.args.app (c.in_ok-answer.ensures.changes.links tells))
    (calm_answered c.args.app c.in_ok-give.field-0 c.as_slice.result.now c.in_ok-answer.answer (c.as_slice.ensures ∙ c.in_ok-frame.ensures) c.in_ok-give.ensures.ok tells)

pub returns-in_err-answer-clause-parted : goal.returns-in_err-answer-clause-parted
returns-in_err-answer-clause-parted g c =
    let p = err_from_is_err_and c.from_residual.result c.from_residual.ensures.1 in
    λ can. err_is IsPlain c.from_residual.result p.0 c.in_err-answer.field-0.0 p.1 p.2 (c.in_err-answer.ensures.parted can)

pub returns-in_err-frame-clause-parted : goal.returns-in_err-frame-clause-parted
returns-in_err-frame-clause-parted g c =
    let p = err_from_is_err_and c.from_residual-in_err-frame.result c.from_residual-in_err-frame.ensures.1 in
    λ can. err_is IsPlain c.from_residual-in_err-frame.result p.0 NoMemory p.1 p.2 tt

pub returns-in_err-give-clause-parted : goal.returns-in_err-give-clause-parted
returns-in_err-give-clause-parted g c =
    let p = err_from_is_err_and c.from_residual-in_err-give.result c.from_residual-in_err-give.ensures.1 in
    λ can. err_is IsPlain c.from_residual-in_err-give.result p.0 NoMemory p.1 p.2 tt
