-- Laws of what turns, starts and questions for rows keep of a world that tells in order.
use Rattle.std.specs.Prelude.{◌≡◌, ◌<◌, ℕ, Bool, List, [], IsSome, Option, Some, None, Result, Ok, refl}
use Rattle.std.proofs.Common.{ap, subst}
use Rattle.flow_table.specs.View.{TableView}
use Rattle.of_stats.specs.declared.flow_row.FlowRow.{FlowRow}
use Rattle.app_frames.specs.declared.frame.Event.{Event}
use Rattle.outside.specs.Seen.{Seen, Continues}
use Rattle.outside.specs.Quiescence.{NoneQuiescentSince}
use Rattle.outside.specs.laws.InOrderLaws.{InOrder-before, messages-then}
use Rattle.lego_model.specs.declared.fault.TxnFault.{TxnFault}
use Rattle.net_txn.specs.Net.{NetState}
use Rattle.net_txn.specs.Views.{rows_at}
use Rattle.net_txn.specs.LinkSteps.{OnLinks}
use Rattle.net_txn.specs.laws.LinkStrayLaws.{no_strays_then}
use Rattle.net_txn.specs.Asks.{Asks}
use Rattle.net_txn.specs.Undos.{Undoes}
use Rattle.net_txn.specs.Releases.{Commits}
use Rattle.net_txn.specs.Abreast.{Abreast}
use Rattle.net_txn.specs.laws.AbreastLaws.{abreast-out, asks_abreast, viewed_joined, undoes_abreast, commits_abreast}
use Rattle.app_visor.specs.Beats.{Leads, Stops}
use Rattle.app_visor.specs.laws.BeatLaws.{Leads-continues, Stops-continues}
use Rattle.app_visor.specs.CallsFor.{OwnSteps, CalmLater}
use Rattle.app_visor.specs.laws.OwnLaws.{own_calls, own_none_quiescent}
use Rattle.app_visor.specs.laws.CalmLaws.{calm_links, later_then}
use Rattle.app_visor.specs.laws.CallOrderLaws.{own_places, own_messages, own_abreast, abreast_joined, chain_abreast, chain_places, chain_messages, stops_abreast, stops_places}
use Rattle.turn_laws.specs.laws.FaultLaws.{turn-leads}
use Rattle.run_laws.specs.Cut.{CallsAmong}
use Rattle.run_laws.specs.laws.LastPointLaws.{last_point_of}
use Rattle.event_dispatch.specs.declared.closing.Closing.{Closing}
use Rattle.event_dispatch.specs.declared.closing.Closing.TheVariants as closings
use Rattle.event_dispatch.specs.Serves.{PlaysTurn}
use Rattle.event_dispatch.specs.Steady.{NoStray, Reads, NoPoint, AtMostThisPoint, OwnPoint}
use Rattle.event_dispatch.specs.laws.SteadyLaws.{abreast_as, calls_among, links_among}

-- ---- The same views

pub places_as : {Own : Type 0} {number : ℕ} {Tells : Type 0} {old new : Seen Own} (net now_net : NetState) → now_net.views ≡ net.views → NoStray Tells number old new now_net → NoStray Tells number old new net
places_as {old = old} net now_net same all = record { places = λ told order abreast. all.places told order (abreast_as old net now_net same abreast); own = all.own }

pub reads_over : {Own : Type 0} {Tells : Type 0} {old new : Seen Own} (net mid_net at_net now_net : NetState) → mid_net.views ≡ net.views → now_net.views ≡ at_net.views → Reads Tells old new mid_net at_net → Reads Tells old new net now_net
reads_over {old = old} {new = new} net mid_net at_net now_net before after all = record {
  abreast = λ told order abreast. abreast_as new at_net now_net after (all.abreast told order (abreast_as old net mid_net before abreast));
  read = λ told order abreast. all.read told order (abreast_as old net mid_net before abreast);
}

-- ---- Links were used

pub links_quietly : {Own : Type 0} {number : ℕ} {Tells : Type 0} {old new : Seen Own} → OnLinks Tells old new → NoPoint Tells number old new
links_quietly {number = number} links = record { none_quiescent = λ told. (calm_links 0 (links told)).none_quiescent; own = λ told. links_among number (links told) }

pub asked_places : {Own : Type 0} {number : ℕ} {Tells : Type 0} {d : ℕ} {old new : Seen Own} {now_net : NetState} {result : Result (Option (List FlowRow)) TxnFault} (net : NetState) → IsSome (rows_at d net.views) → Asks Tells d old new net now_net result → NoStray Tells number old new net
asked_places {d = d} net there asks = record { places = λ told order abreast. asks.no_strays told order (abreast_joined d abreast there); own = (links_quietly asks.links).own }

asked_abreast : {Own : Type 0} (Tells : Type 0) (d : ℕ) (old new : Seen Own) (net now_net : NetState) (rows : Option (List FlowRow)) → IsSome (rows_at d net.views) → Asks Tells d old new net now_net (Ok rows) → Tells → Abreast old net → Abreast new now_net
asked_abreast Tells d old new net now_net (Some rows) there asks told abreast =
    asks_abreast net now_net asks.continues (asks.links told) (asks.asks.losses told) (ap (λ (n : NetState). n.views) asks.asks.stays) abreast
asked_abreast Tells d old new net now_net None there asks told abreast =
    abreast-out net now_net [] asks.continues (asks.links told) (asks.asks.is_lost.out told (abreast_joined d abreast there)) (ap (λ (n : NetState). n.views) asks.asks.net_is) abreast

pub asked_reads : {Own : Type 0} {Tells : Type 0} {d : ℕ} {old new : Seen Own} {rows : Option (List FlowRow)} (net now_net : NetState) → IsSome (rows_at d net.views) → Asks Tells d old new net now_net (Ok rows) → Reads Tells old new net now_net
asked_reads {Tells = Tells} {d = d} {old = old} {new = new} {rows = rows} net now_net there asks = record {
  abreast = λ told order abreast. asked_abreast Tells d old new net now_net rows there asks told abreast;
  read = λ told order abreast. asks.read refl told;
}

-- ---- Attempts to start

pub started_quietly : {Own : Type 0} {number : ℕ} {Tells : Type 0} {old new : Seen Own} (app : ℕ) → app < number → (Tells → OwnSteps app old new) → NoPoint Tells number old new
started_quietly {old = old} {new = new} app small own = record {
  none_quiescent = λ told. own_none_quiescent (own told);
  own = λ told. calls_among app small (own_calls (own told));
}

pub started_places : {Own : Type 0} {number : ℕ} {Tells : Type 0} {old new : Seen Own} (app : ℕ) (net : NetState) → app < number → (Tells → OwnSteps app old new) → NoStray Tells number old new net
started_places app net small own = record { places = λ told order abreast. own_places (own told); own = (started_quietly app small own).own }

pub started_reads : {Own : Type 0} {Tells : Type 0} {old new : Seen Own} (app : ℕ) (net now_net : NetState) → now_net.views ≡ net.views → Continues Tells old new → (Tells → OwnSteps app old new) → Reads Tells old new net now_net
started_reads {new = new} app net now_net views continues own = record {
  abreast = λ told order abreast. abreast_as new net now_net views (own_abreast net continues (own told) abreast);
  read = λ told order abreast. own_messages (own told);
}

-- ---- No quiescent point behind the one where a turn began

pub later_links : {Own : Type 0} {Tells : Type 0} {app : ℕ} {old mid new : Seen Own} → (Tells → CalmLater app old mid) → OnLinks Tells mid new → Tells → CalmLater app old new
later_links {app = app} later links told = later_then (later told) (calm_links app (links told))

pub later_own : {Own : Type 0} {Tells : Type 0} {number : ℕ} {old new : Seen Own} (app : ℕ) → app < number → (Tells → CalmLater app old new) → Tells → CallsAmong number old new
later_own app small later told = calls_among app small (later told).own

pub later_quietly : {Own : Type 0} {Tells : Type 0} {old mid new : Seen Own} (app : ℕ) → (Tells → CalmLater app old mid) → (Tells → NoneQuiescentSince mid new) → (Tells → OwnSteps app mid new) → Tells → CalmLater app old new
later_quietly app later none own told = later_then (later told) (record { none_quiescent = none told; own = own_calls (own told) })

pub own_point : {Own : Type 0} {app : ℕ} {old new : Seen Own} → CalmLater app old new → OwnPoint app old new
own_point later = record { last = last_point_of later.last; own = later.own }

pub later_here : {Own : Type 0} {number : ℕ} {Tells : Type 0} {old new : Seen Own} (app : ℕ) → app < number → (Tells → OwnPoint app old new) → AtMostThisPoint Tells number old new
later_here app small later = record { last = λ told order rest. (later told).last; own = λ told. calls_among app small (later told).own }

-- ---- A turn, and its undo

-- it was played, and its packets were released, or not all of them
pub turn_committed : {Own : Type 0} {number : ℕ} {Tells : Type 0} {app start : ℕ} {old mid new : Seen Own} {at_net mid_net now_net : NetState} {queue now_queue : List Event} {result : Result (List (ℕ × ℕ)) TxnFault} (net : NetState) → at_net ≡ net
    → (Tells → CallsAmong number old new) → Leads Tells app old mid at_net mid_net → Commits Tells start mid new mid_net now_net queue now_queue result → NoStray Tells number old new net
turn_committed {number = number} {Tells = Tells} {app = app} {old = old} {mid = mid} {new = new} {at_net = at_net} {mid_net = mid_net} net begun own leads commits = subst (λ (n : NetState). NoStray Tells number old new n) begun (record {
  places = λ told order abreast.
      no_strays_then old mid new told (Leads-continues leads) commits.continues
      (chain_places Tells app leads.trace old mid at_net mid_net leads.chain told (InOrder-before told commits.continues order) abreast)
      (commits.no_strays told order (viewed_joined (chain_abreast Tells app leads.trace old mid at_net mid_net leads.chain told abreast)));
  own = own;
})

-- it was played, and an undo followed
pub turn_undone : {Own : Type 0} {number : ℕ} {Tells : Type 0} {app start : ℕ} {old mid new : Seen Own} {at_net mid_net now_net : NetState} {result : Result (Unit {0}) TxnFault} (net : NetState) → at_net ≡ net → (Tells → CallsAmong number old new)
    → Leads Tells app old mid at_net mid_net → Undoes Tells start mid new mid_net now_net result → NoStray Tells number old new net
turn_undone {number = number} {Tells = Tells} {app = app} {old = old} {mid = mid} {new = new} {at_net = at_net} {mid_net = mid_net} net begun own leads undone = subst (λ (n : NetState). NoStray Tells number old new n) begun (record {
  places = λ told order abreast.
      no_strays_then old mid new told (Leads-continues leads) undone.continues
      (chain_places Tells app leads.trace old mid at_net mid_net leads.chain told (InOrder-before told undone.continues order) abreast)
      (undone.no_strays told order (viewed_joined (chain_abreast Tells app leads.trace old mid at_net mid_net leads.chain told abreast)));
  own = own;
})

-- it stopped, and an undo followed
pub stop_undone : {Own : Type 0} {number : ℕ} {Tells : Type 0} {app start : ℕ} {old mid new : Seen Own} {at_net mid_net now_net : NetState} {fault : TxnFault} {result : Result (Unit {0}) TxnFault} (net : NetState) → at_net ≡ net → (Tells → CallsAmong number old new)
    → Stops Tells app old mid at_net mid_net fault → Undoes Tells start mid new mid_net now_net result → NoStray Tells number old new net
stop_undone {number = number} {Tells = Tells} {old = old} {mid = mid} {new = new} net begun own s undone = subst (λ (n : NetState). NoStray Tells number old new n) begun (record {
  places = λ told order abreast.
      no_strays_then old mid new told (Stops-continues s) undone.continues (stops_places s told (InOrder-before told undone.continues order) abreast)
      (undone.no_strays told order (viewed_joined (stops_abreast s told abreast)));
  own = own;
})

-- behind its release, and behind its undo, where these were done
pub committed_reads : {Own : Type 0} {Tells : Type 0} {app start : ℕ} {old mid new : Seen Own} {mid_net : NetState} {queue now_queue : List Event} {sent : List (ℕ × ℕ)} (net now_net : NetState)
    → Leads Tells app old mid net mid_net → Commits Tells start mid new mid_net now_net queue now_queue (Ok sent) → Reads Tells old new net now_net
committed_reads {Tells = Tells} {app = app} {old = old} {mid = mid} {new = new} {mid_net = mid_net} net now_net leads commits = record {
  abreast = λ told order abreast. commits_abreast commits told (chain_abreast Tells app leads.trace old mid net mid_net leads.chain told abreast);
  read = λ told order abreast.
      messages-then old mid new told (Leads-continues leads) commits.continues (chain_messages Tells app leads.trace old mid net mid_net leads.chain told) (commits.read refl told);
}

pub undone_reads : {Own : Type 0} {Tells : Type 0} {app start : ℕ} {old mid new : Seen Own} {mid_net : NetState} (net now_net : NetState)
    → Leads Tells app old mid net mid_net → Undoes Tells start mid new mid_net now_net (Ok tt) → Reads Tells old new net now_net
undone_reads {Tells = Tells} {app = app} {old = old} {mid = mid} {new = new} {mid_net = mid_net} net now_net leads undone = record {
  abreast = λ told order abreast. undoes_abreast undone told (chain_abreast Tells app leads.trace old mid net mid_net leads.chain told abreast);
  read = λ told order abreast.
      messages-then old mid new told (Leads-continues leads) undone.continues (chain_messages Tells app leads.trace old mid net mid_net leads.chain told) (undone.read refl told);
}

pub played_places : {Own : Type 0} {count : ℕ} {Tells : Type 0} {accepts : List TableView → Bool} {app budget number : ℕ} {event : Event} {old new : Seen Own} {queue now_queue : List Event} {rest unread : List ℕ} (closing : Closing) (net now_net : NetState) → (Tells → CallsAmong count old new)
    → PlaysTurn Tells accepts app budget number event closing old new net now_net queue now_queue rest unread → NoStray Tells count old new net
played_places (closings.Done stop out) net now_net own plays = turn_committed net refl own (turn-leads plays.turns) plays.played
played_places (closings.Failed cause) net now_net own plays = turn_undone net refl own (turn-leads plays.turns) plays.played.0

pub played_reads : {Own : Type 0} {Tells : Type 0} {accepts : List TableView → Bool} {app budget number : ℕ} {event : Event} {old new : Seen Own} {queue now_queue : List Event} {rest unread : List ℕ} (closing : Closing) (net now_net : NetState)
    → PlaysTurn Tells accepts app budget number event closing old new net now_net queue now_queue rest unread → Reads Tells old new net now_net
played_reads (closings.Done stop out) net now_net plays = committed_reads net now_net (turn-leads plays.turns) plays.played
played_reads (closings.Failed cause) net now_net plays = undone_reads net now_net (turn-leads plays.turns) plays.played.0
