-- Laws of the switches that were lost, which are told one after the other.
use Rattle.std.specs.Prelude.{◌≡◌, ℕ, ◌<◌, List, length, [], ◌∷◌, ◌++◌, drop, slice_get, Some, None}
use Rattle.std.specs.Option.{option_map}
use Rattle.std.proofs.Common.{refl, sym, ap, ap₂, ◌∙◌, subst, append_assoc, arith}
use Rattle.app_frames.specs.declared.frame.Event.{Event}
use Rattle.lego_model.specs.RunReport.{lost_line}
use Rattle.net_txn.specs.declared.ports.KnownPorts.{KnownPorts}
use Rattle.net_txn.specs.Net.{NetState}
use Rattle.net_txn.specs.Leaving.{left_event, none_left}
use Rattle.batch_laws.specs.Knowledge.{left_events, lost_text}
use Rattle.event_dispatch.specs.declared.engine_core.Core.{Core}
use Rattle.event_dispatch.specs.Runs.{Waits}
use Rattle.event_dispatch.specs.Shows.{Adds, TellsLost, TellsOn}
use Rattle.event_dispatch.specs.laws.WhyLaws.{waits_then}

no_more : {A : Type 0} (xs : List A) → xs ++ [] ≡ xs
no_more [] = refl
no_more (x ∷ xs) = ap (λ (ys : List _). x ∷ ys) (no_more xs)

-- none is told at first
pub tells_first : (r : Core) → TellsOn r r
tells_first r = record { net = refl; queue = refl; events = refl; store = refl; lines = refl }

-- the first of those that are left is told next
events_next : (queue : List Event) (left : List KnownPorts) (event : Event) → Some event ≡ option_map left_event (slice_get left 0) → (queue ++ event ∷ []) ++ left_events (drop 1 left) ≡ queue ++ left_events left
events_next queue [] event is = absurd cc
events_next queue (p ∷ left) event is =
    let same : event ≡ left_event p = cc in
    append_assoc queue (event ∷ []) (left_events left) ∙ ap (λ (e : Event). queue ++ e ∷ left_events left) same

text_next : (lines : List ℕ) (left : List KnownPorts) (event : Event) → Some event ≡ option_map left_event (slice_get left 0) → (lines ++ lost_line event.dpid) ++ lost_text (drop 1 left) ≡ lines ++ lost_text left
text_next lines [] event is = absurd cc
text_next lines (p ∷ left) event is =
    let same : event ≡ left_event p = cc in
    append_assoc lines (lost_line event.dpid) (lost_text left) ∙ ap (λ (e : Event). lines ++ (lost_line e.dpid ++ lost_text left)) same

pub tells_next : (r at mid : Core) (net : NetState) (queue : List Event) (event : Event) → TellsOn r at → Some event ≡ option_map left_event (slice_get at.net.left 0) → net ≡ record at.net { left = drop 1 at.net.left }
    → Adds (lost_line event.dpid) (record at { net = net }) mid → queue ≡ mid.queue ++ event ∷ [] → TellsOn r (record mid { queue = queue })
tells_next r at mid net queue event so_far is rest adds appended = record {
  net = ap none_left (adds.stays.net ∙ rest) ∙ so_far.net;
  queue = ap (λ (q : List Event). q ++ left_events mid.net.left) appended
      ∙ ap₂ (λ (q : List Event) (ps : List KnownPorts). (q ++ event ∷ []) ++ left_events ps) adds.stays.queue (ap (λ (n : NetState). n.left) (adds.stays.net ∙ rest))
      ∙ events_next at.queue at.net.left event is
      ∙ so_far.queue;
  events = adds.stays.events ∙ so_far.events;
  store = adds.stays.store ∙ so_far.store;
  lines = ap₂ (λ (xs : List ℕ) (ps : List KnownPorts). xs ++ lost_text ps) adds.lines (ap (λ (n : NetState). n.left) (adds.stays.net ∙ rest))
      ∙ text_next at.lines.items at.net.left event is
      ∙ so_far.lines;
}

-- all are told where none is left
none_more : (left : List KnownPorts) → None ≡ option_map left_event (slice_get left 0) → left ≡ []
none_more [] is = refl
none_more (p ∷ left) is = absurd cc

pub tells_all : (r at : Core) (net : NetState) → TellsOn r at → None ≡ option_map left_event (slice_get at.net.left 0) → net ≡ record at.net { left = drop 1 at.net.left } → TellsLost r (record at { net = net })
tells_all r at net so_far is rest =
    let none = none_more at.net.left is in
    record {
      net = rest ∙ ap (λ (ps : List KnownPorts). record at.net { left = drop 1 ps }) none ∙ so_far.net;
      queue = sym (no_more at.queue) ∙ ap (λ (ps : List KnownPorts). at.queue ++ left_events ps) (sym none) ∙ so_far.queue;
      events = so_far.events;
      store = so_far.store;
      lines = sym (no_more at.lines.items) ∙ ap (λ (ps : List KnownPorts). at.lines.items ++ lost_text ps) (sym none) ∙ so_far.lines;
    }

-- each that is told is one fewer
shorter : (left : List KnownPorts) (event : Event) → Some event ≡ option_map left_event (slice_get left 0) → length (drop 1 left) < length left
shorter [] event is = absurd cc
shorter (p ∷ left) event is = (omega arith)

pub fewer_left : {text : List ℕ} (at mid : Core) (net : NetState) (event : Event) → Some event ≡ option_map left_event (slice_get at.net.left 0) → net ≡ record at.net { left = drop 1 at.net.left } → Adds text (record at { net = net }) mid → length mid.net.left < length at.net.left
fewer_left at mid net event is rest adds =
    let same : mid.net.left ≡ drop 1 at.net.left = ap (λ (n : NetState). n.left) (adds.stays.net ∙ rest) in
    subst (λ (ps : List KnownPorts). length ps < length at.net.left) (sym same) (shorter at.net.left event is)

-- what waits meanwhile
waits_first : (at : Core) (net : NetState) → net ≡ record at.net { left = drop 1 at.net.left } → Waits at (record at { net = net })
waits_first at net rest = record {
  room = ap (λ (n : NetState). n.room) rest;
  events = refl;
  store = refl;
  left = λ none. ap (λ (n : NetState). n.left) rest ∙ ap (λ (ps : List KnownPorts). drop 1 ps) none;
}

pub waits_all : (r at : Core) (net : NetState) → Waits r at → net ≡ record at.net { left = drop 1 at.net.left } → Waits r (record at { net = net })
waits_all r at net so_far rest = waits_then r at (record at { net = net }) so_far (waits_first at net rest)

pub waits_next : (r at mid : Core) (net : NetState) (queue : List Event) → Waits r at → net ≡ record at.net { left = drop 1 at.net.left } → Waits (record at { net = net }) mid → Waits r (record mid { queue = queue })
waits_next r at mid net queue so_far rest noted =
    let all = waits_then r (record at { net = net }) mid (waits_all r at net so_far rest) noted in
    record { room = all.room; events = all.events; store = all.store; left = all.left }
