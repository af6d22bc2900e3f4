-- Laws of what a group of turns leaves of the history: it goes on by it, by steps in order, and it goes on with the dialogue with the application.
use Rattle.std.proofs.Common.{◌≡◌, ◌<◌, ℕ, ◌+◌, Bool, true, false, List, [], ◌∷◌, length, Ok, refl, sym, ap, subst, true≢false}
use Rattle.std.specs.Prelude.{not}
use Rattle.flow_table.specs.View.{TableView}
use Rattle.app_frames.specs.declared.frame.Event.{Event}
use Rattle.lego_model.specs.Controller.{event_frame}
use Rattle.lego_model.specs.Journal.{give_act}
use Rattle.lego_model.specs.Places.{Place}
use Rattle.outside.specs.Seen.{Seen, Continues}
use Rattle.outside.specs.Conforming.{Conforming}
use Rattle.outside.specs.laws.SeenLaws.{Continues-trans}
use Rattle.outside.specs.laws.StateLaws.{Conforming-before}
use Rattle.journal_laws.specs.laws.FrameLaws.{event_is}
use Rattle.net_txn.specs.Net.{NetState}
use Rattle.app_visor.specs.declared.state.TurnEnd.{TurnEnd}
use Rattle.app_visor.specs.declared.state.TurnEnd.TheVariants as ends
use Rattle.app_visor.specs.Beats.{Talk}
use Rattle.app_visor.specs.Turns.{handed, Turns}
use Rattle.switch_laws.specs.Orderly.{OrderlySince}
use Rattle.switch_laws.specs.Since.{Goes}
use Rattle.switch_laws.specs.laws.LossLaws.{ready-joined}
use Rattle.switch_laws.specs.laws.OrderlyLaws.{orderly-same, orderly-then, undo-orderly, release-orderly}
use Rattle.switch_laws.specs.laws.SinceLaws.{begun}
use Rattle.turn_laws.specs.laws.ChainLaws.{chain-shown}
use Rattle.batch_laws.specs.Calm.{Calm}
use Rattle.batch_laws.specs.laws.KeepingLaws.{Conforming-in_order}
use Rattle.run_laws.specs.Engine.{Focus}
use Rattle.run_laws.specs.Facts.{all_told, Turning, turning_at, turned, unless_failed, line_by, PlaysAll, ClosesGroup, TakesGroup}
use Rattle.run_laws.specs.Moves.{Conversing}
use Rattle.run_laws.specs.Readings.{AreRead}
use Rattle.run_laws.specs.laws.DialogueLaws.{at_once_then, others_at_once, speaks_on, starts_converse}
use Rattle.run_laws.specs.laws.GroupMoveLaws.{plays_continue}
use Rattle.run_laws.specs.laws.LinkStepLaws.{link_steps-tell}
use Rattle.run_laws.specs.laws.OrderlyRunLaws.{chain-orderly, starts-continue, starts-orderly}

-- ---- The history goes on

closes_continue : {Own : Type 0} (Tells : Type 0) (fails : Bool) (number : ℕ) (text : List ℕ) (start : ℕ) (new : Seen Own) (t : Turning Own) (e now_e : Focus) → ClosesGroup fails Tells number text start new t e now_e → Continues Tells t.seen new
closes_continue Tells false number text start new t e now_e k = k.commits.continues
closes_continue Tells true number text start new t e now_e u =
    Continues-trans Tells t.seen u.undone new u.undoes.continues (starts-continue Tells u.later_text u.undone new (all_told u.undone_net e.queue (record e { rest = []; failed = e.failed + 1 })) now_e u.starts)

pub group_continues : {Own : Type 0} (Tells : Type 0) (accepts : List TableView → Bool) (events : List Event) (text : List ℕ) (old new : Seen Own) (e now_e : Focus) → TakesGroup Tells accepts events text old new e now_e → Continues Tells old new
group_continues Tells accepts events text old new e now_e g =
    Continues-trans Tells old g.turning.seen new (plays_continue Tells accepts e.index e.rule.name e.rule.budget e.events events (turning_at old e) g.turning g.plays)
    (closes_continue Tells g.turning.fails (length events) text (length e.net.log) new g.turning e now_e g.closed)

-- ---- Steps in order

-- so are the steps of turns, behind which the transaction stands
record PlaysOrderly {Own : Type 0} (number start : ℕ) (first : Seen Own) (net0 : NetState) (from to : Turning Own) : Type 0 where
  orderly : OrderlySince number from.seen to.seen
  lost : List ℕ
  goes : Goes start lost first to.seen net0 to.net

module _ {Own : Type 0} (Tells : Type 0) (accepts : List TableView → Bool) (number start app : ℕ) (name : List ℕ) (budget of : ℕ) (first : Seen Own) (net0 : NetState) (told : Tells) (small : app < number) where
  turn_orderly : (event : Event) (from : Turning Own) (lost : List ℕ) (mid : Seen Own) (mid_net : NetState) (end : TurnEnd) (unread line : List ℕ) → Conforming mid → Goes start lost first from.seen net0 from.net
      → (t : Turns Tells accepts app budget from.rest (event_frame of from.net.moment event) from.seen mid from.net mid_net end unread) → PlaysOrderly number start first net0 from (turned end (handed t.outcome) unread mid mid_net line from)
  turn_orderly event from lost mid mid_net end unread line keeps goes t =
      let whole = Talk (give_act t.given app (event_frame of from.net.moment event)) ∷ t.trace in
      let leads = chain-shown Tells app (λ (ps : List Place). true) start lost first net0 whole from.seen mid from.net mid_net told keeps t.chain goes in
      record { orderly = chain-orderly Tells app number start lost first net0 whole from.seen mid from.net mid_net told small keeps t.chain goes; lost = _; goes = leads.goes }

  orderly_on : (a b c : Turning Own) → PlaysOrderly number start first net0 a b → PlaysOrderly number start first net0 b c → PlaysOrderly number start first net0 a c
  orderly_on a b c one rest = record { orderly = orderly-then number a.seen b.seen c.seen one.orderly rest.orderly; lost = rest.lost; goes = rest.goes }

  orderly_end : (event : Event) (events : List Event) (from to : Turning Own) (lost : List ℕ) (mid : Seen Own) (mid_net : NetState) (end : TurnEnd) (unread : List ℕ) → Conforming to.seen → Goes start lost first from.seen net0 from.net
      → (t : Turns Tells accepts app budget from.rest (event_frame of from.net.moment event) from.seen mid from.net mid_net end unread)
      → unless_failed end (to ≡ turned end (handed t.outcome) unread mid mid_net (line_by name event end) from) (PlaysAll Tells accepts app name budget of events (turned end (handed t.outcome) unread mid mid_net (line_by name event end) from) to)
      → ((next : Turning Own) (more : List ℕ) → Goes start more first next.seen net0 next.net → PlaysAll Tells accepts app name budget of events next to → PlaysOrderly number start first net0 next to)
      → PlaysOrderly number start first net0 from to
  orderly_end event events from to lost mid mid_net (ends.Done stop) unread keeps goes t on rest =
      let next = turned (ends.Done stop) (handed t.outcome) unread mid mid_net (line_by name event (ends.Done stop)) from in
      let one = turn_orderly event from lost mid mid_net (ends.Done stop) unread (line_by name event (ends.Done stop)) (Conforming-before told (plays_continue Tells accepts app name budget of events next to on) keeps) goes t in
      orderly_on from next to one (rest next one.lost one.goes on)
  orderly_end event events from to lost mid mid_net (ends.Failed cause) unread keeps goes t over rest =
      subst (PlaysOrderly number start first net0 from) (sym over)
      (turn_orderly event from lost mid mid_net (ends.Failed cause) unread (line_by name event (ends.Failed cause)) (subst (λ (x : Turning Own). Conforming x.seen) over keeps) goes t)

  plays_orderly : (events : List Event) (from to : Turning Own) (lost : List ℕ) → Conforming to.seen → Goes start lost first from.seen net0 from.net → PlaysAll Tells accepts app name budget of events from to → PlaysOrderly number start first net0 from to
  plays_orderly [] from to lost keeps goes none =
      subst (PlaysOrderly number start first net0 from) (sym none) (record { orderly = orderly-same number from.seen from.seen refl; lost = lost; goes = goes })
  plays_orderly (event ∷ events) from to lost keeps goes (one, on) =
      orderly_end event events from to lost one.mid one.mid_net one.end one.unread keeps goes one.turns on (λ next more there plays. plays_orderly events next to more keeps there plays)

closes_orderly : {Own : Type 0} (Tells : Type 0) (accepts : List TableView → Bool) (number start : ℕ) (fails : Bool) (turns : ℕ) (text : List ℕ) (lost : List ℕ) (first new : Seen Own) (t : Turning Own) (e now_e : Focus) → Tells → e.index < number → Conforming new → AreRead Own e.index Tells accepts → Goes start lost first t.seen e.net t.net
    → ClosesGroup fails Tells turns text start new t e now_e → OrderlySince number t.seen new
closes_orderly Tells accepts number start false turns text lost first new t e now_e told small keeps reads goes k =
    release-orderly number Tells start t.seen new t.net k.net e.queue k.queue (Ok k.sent) told (Conforming-in_order new keeps) (ready-joined t.seen t.net goes.ready) k.commits
closes_orderly Tells accepts number start true turns text lost first new t e now_e told small keeps reads goes u =
    let undone_e = all_told u.undone_net e.queue (record e { rest = []; failed = e.failed + 1 }) in
    let kept = Conforming-before told (starts-continue Tells u.later_text u.undone new undone_e now_e u.starts) keeps in
    orderly-then number t.seen u.undone new (undo-orderly number Tells start t.seen u.undone t.net u.undone_net (Ok tt) told (Conforming-in_order u.undone kept) (ready-joined t.seen t.net goes.ready) u.undoes)
    (starts-orderly Tells accepts number u.later_text u.undone new undone_e now_e told small reads u.starts)

pub group_orderly : {Own : Type 0} (Tells : Type 0) (accepts : List TableView → Bool) (number : ℕ) (events : List Event) (text : List ℕ) (old new : Seen Own) (e now_e : Focus) → Tells → e.index < number → Conforming new → Calm old e.net → AreRead Own e.index Tells accepts → TakesGroup Tells accepts events text old new e now_e → OrderlySince number old new
group_orderly Tells accepts number events text old new e now_e told small keeps calm reads g =
    let start = length e.net.log in
    let keeps_there = Conforming-before told (closes_continue Tells g.turning.fails (length events) text start new g.turning e now_e g.closed) keeps in
    let there = plays_orderly Tells accepts number start e.index e.rule.name e.rule.budget e.events old e.net told small events (turning_at old e) g.turning [] keeps_there (record { since = begun old e.net; ready = calm.ready }) g.plays in
    orderly-then number old g.turning.seen new there.orderly
    (closes_orderly Tells accepts number start g.turning.fails (length events) text there.lost old new g.turning e now_e told small keeps reads there.goes g.closed)

-- ---- The dialogue with the application

-- as it stands between two turns, where none failed
abbrev within : {Own : Type 0} → Focus → Turning Own → Focus
within e t = record e { alive = not t.fails; rest = t.rest }

module _ {Own : Type 0} (Tells : Type 0) (accepts : List TableView → Bool) (e : Focus) (told : Tells) where
  converse_end : (event : Event) (events : List Event) (from to : Turning Own) (mid : Seen Own) (mid_net : NetState) (end : TurnEnd) (unread : List ℕ) → from.fails ≡ false → Conversing from.seen (within e from)
      → (t : Turns Tells accepts e.index e.rule.budget from.rest (event_frame e.events from.net.moment event) from.seen mid from.net mid_net end unread)
      → unless_failed end (to ≡ turned end (handed t.outcome) unread mid mid_net (line_by e.rule.name event end) from) (PlaysAll Tells accepts e.index e.rule.name e.rule.budget e.events events (turned end (handed t.outcome) unread mid mid_net (line_by e.rule.name event end) from) to)
      → ((next : Turning Own) → next.fails ≡ false → Conversing next.seen (within e next) → PlaysAll Tells accepts e.index e.rule.name e.rule.budget e.events events next to → Conversing to.seen (within e to))
      → Conversing to.seen (within e to)
  converse_end event events from to mid mid_net (ends.Done stop) unread whole c t on rest =
      let next = turned (ends.Done stop) (handed t.outcome) unread mid mid_net (line_by e.rule.name event (ends.Done stop)) from in
      let alive : not from.fails ≡ true = ap not whole in
      let says = t.speaks told (event_is e.events from.net.moment event) c.at_once.last (c.rest_is alive).0 (c.rest_is alive).1 in
      rest next refl (speaks_on from.seen mid (within e next) true unread c.at_once says (λ runs. (refl, refl))) on
  converse_end event events from to mid mid_net (ends.Failed cause) unread whole c t over rest =
      let next = turned (ends.Failed cause) (handed t.outcome) unread mid mid_net (line_by e.rule.name event (ends.Failed cause)) from in
      let alive : not from.fails ≡ true = ap not whole in
      let says = t.speaks told (event_is e.events from.net.moment event) c.at_once.last (c.rest_is alive).0 (c.rest_is alive).1 in
      subst (λ (x : Turning Own). Conversing x.seen (within e x)) (sym over)
      (record { at_once = at_once_then e.index says.after from.seen mid c.at_once says.converses; rest_is = λ runs. absurd (true≢false (sym runs)) })

  plays_converse : (events : List Event) (from to : Turning Own) → from.fails ≡ false → Conversing from.seen (within e from) → PlaysAll Tells accepts e.index e.rule.name e.rule.budget e.events events from to → Conversing to.seen (within e to)
  plays_converse [] from to whole c none = subst (λ (x : Turning Own). Conversing x.seen (within e x)) (sym none) c
  plays_converse (event ∷ events) from to whole c (one, on) =
      converse_end event events from to one.mid one.mid_net one.end one.unread whole c one.turns on (λ next goes there plays. plays_converse events next to goes there plays)

closes_converse : {Own : Type 0} (Tells : Type 0) (fails : Bool) (turns : ℕ) (text : List ℕ) (start : ℕ) (new : Seen Own) (t : Turning Own) (e now_e : Focus) → Tells → t.fails ≡ fails → Conversing t.seen (within e t) → ClosesGroup fails Tells turns text start new t e now_e → Conversing new now_e
closes_converse Tells false turns text start new t e now_e told whole c k =
    let only = k.commits.links told in
    let there = others_at_once e.index t.seen new only.steps only.history (link_steps-tell e.index only.steps only.all).acts c.at_once in
    subst (λ (x : Focus). Conversing new x) (sym k.engine)
    (record { at_once = there; rest_is = λ alive. c.rest_is (ap not whole) })
closes_converse Tells true turns text start new t e now_e told fails c u =
    let only = u.undoes.links told in
    let there = others_at_once e.index t.seen u.undone only.steps only.history (link_steps-tell e.index only.steps only.all).acts c.at_once in
    starts_converse Tells u.later_text u.undone new (all_told u.undone_net e.queue (record e { rest = []; failed = e.failed + 1 })) now_e told there u.starts

pub group_converses : {Own : Type 0} (Tells : Type 0) (accepts : List TableView → Bool) (events : List Event) (text : List ℕ) (old new : Seen Own) (e now_e : Focus) → Tells → e.alive ≡ true → Conversing old e → TakesGroup Tells accepts events text old new e now_e → Conversing new now_e
group_converses Tells accepts events text old new e now_e told alive c g =
    closes_converse Tells g.turning.fails (length events) text (length e.net.log) new g.turning e now_e told refl
    (plays_converse Tells accepts e told events (turning_at old e) g.turning refl (record { at_once = c.at_once; rest_is = λ runs. c.rest_is alive }) g.plays) g.closed
