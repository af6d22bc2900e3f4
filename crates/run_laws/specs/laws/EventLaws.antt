-- What the engine does at an event is what the reference controller does, in a world that keeps its word.
use Rattle.std.proofs.Common.{◌≡◌, ℕ, suc, ◌+◌, ◌^◌, ◌<◌, Bool, false, List, [], ◌∷◌, ◌++◌, take, refl}
use Rattle.flow_table.specs.View.{TableView}
use Rattle.app_frames.specs.declared.frame.Event.{Event}
use Rattle.lego_model.specs.Places.{Place}
use Rattle.lego_model.specs.Controller.{dispatch}
use Rattle.lego_model.specs.RunReport.{event_line}
use Rattle.lego_model.specs.ReferenceRun.{dispatch_next}
use Rattle.lego_model.specs.CutRun.{dispatch_partly}
use Rattle.outside.specs.Seen.{Seen, Continues}
use Rattle.outside.specs.Conforming.{Conforming}
use Rattle.run_laws.specs.Engine.{Engine}
use Rattle.run_laws.specs.Facts.{between, Dispatches, DispatchesTo}
use Rattle.run_laws.specs.Readings.{JudgesAlike}
use Rattle.run_laws.specs.Moves.{AtRest, Moved, Shown}
use Rattle.run_laws.specs.laws.OfferLaws.{offers-move}
use Rattle.run_laws.specs.laws.DispatchLaws.{dispatch-moves, dispatch_to-moves, rests-take, next-moves, next_to-moves, none-moves}

pub dispatch-moved : {Own : Type 0} (Tells : Type 0) (accepts : List TableView → Bool) (allows : List Place → Bool) (event : Event) (text : List ℕ) (old new : Seen Own) (e now_e : Engine) → Tells → Conforming new → JudgesAlike Own allows accepts
    → e.events + 1 < 2 ^ 64 → AtRest old e → Dispatches Tells accepts event text old new e now_e → Moved [] (dispatch allows event) text old new e now_e
dispatch-moved Tells accepts allows event text old new e now_e told keeps judges few settled d =
    dispatch-moves allows event d.turn_text text old new e now_e d.events_is d.text_is settled
    (offers-move Tells accepts allows event (e.events + 1) told judges few 0 e.apps d.turn_text (between old e) (between new now_e) now_e.apps d.stopped keeps settled.each settled.calm d.offers)

-- the oldest event is taken out of the queue
abbrev taken-rests : {Own : Type 0} (seen : Seen Own) (e : Engine) (queue : List Event) → AtRest seen e → AtRest seen (record e { queue = queue })
taken-rests seen e queue settled = record { calm = settled.calm; each = settled.each; orderly = settled.orderly }

-- and given to so many of the first applications
pub partly-moved : {Own : Type 0} (Tells : Type 0) (accepts : List TableView → Bool) (allows : List Place → Bool) (n : ℕ) (event : Event) (queue : List Event) (old new : Seen Own) (e now_e : Engine) → Tells → Conforming new → JudgesAlike Own allows accepts
    → e.events + 1 < 2 ^ 64 → AtRest old e → e.queue ≡ event ∷ queue → (d : DispatchesTo Tells accepts event (suc n) old new (record e { queue = queue }) now_e)
    → Moved [] (dispatch_partly allows (suc n)) (event_line (e.events + 1) event.kind event.dpid ++ d.text) old new e now_e
partly-moved Tells accepts allows n event queue old new e now_e told keeps judges few settled waits d =
    let taken : Engine = record e { queue = queue } in
    let text = event_line (e.events + 1) event.kind event.dpid ++ d.text in
    let rests = taken-rests old e queue settled in
    let m = offers-move Tells accepts allows event (e.events + 1) told judges few 0 (take (suc n) e.apps) d.text (between old taken) (between new now_e) d.front false keeps (rests-take (suc n) old e.apps settled.each) settled.calm d.offers in
    let moved = dispatch_to-moves allows (suc n) event d.front d.text text old new taken now_e d.apps_is d.events_is refl rests m in
    record { moves = next_to-moves allows n event queue text old new e now_e waits moved.moves; settled = moved.settled }

-- or dispatched
pub next-shown : {Own : Type 0} (Tells : Type 0) (accepts : List TableView → Bool) (event : Event) (queue : List Event) (text : List ℕ) (old new : Seen Own) (e now_e : Engine) → Continues Tells old new → e.events + 1 < 2 ^ 64 → e.queue ≡ event ∷ queue
    → Dispatches Tells accepts event text old new (record e { queue = queue }) now_e → Shown Tells accepts [] dispatch_next text old new e now_e
next-shown Tells accepts event queue text old new e now_e continues few waits d = record {
  moved = λ allows told keeps judges settled.
      let one = dispatch-moved Tells accepts allows event text old new (record e { queue = queue }) now_e told keeps judges few (taken-rests old e queue settled) d in
      record { moves = next-moves allows event queue text old new e now_e waits one.moves; settled = one.settled };
}

-- none waits
pub rest-shown : {Own : Type 0} (Tells : Type 0) (accepts : List TableView → Bool) (seen : Seen Own) (e : Engine) → e.queue ≡ [] → Shown Tells accepts [] dispatch_next [] seen seen e e
rest-shown Tells accepts seen e none = record {
  moved = λ allows told keeps judges settled. record { moves = none-moves allows seen e none; settled = settled };
}
