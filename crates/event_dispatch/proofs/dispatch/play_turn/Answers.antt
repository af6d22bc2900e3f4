use Rattle.std.proofs.Common.{rules, refl, sym, subst}
use Rattle.journal_laws.specs.laws.FrameLaws.{event_is}
use Rattle.app_visor.specs.laws.CalmLaws.{behind_later}
use Rattle.outside.specs.laws.SeenLaws.{Continues-trans}
use Rattle.event_dispatch.specs.TurnParts.{TurnFails}
use Rattle.event_dispatch.specs.Why.{fault_of, ended_by}
use Rattle.event_dispatch.specs.laws.DispatchStrayLaws.{later_links, later_own, turn_committed, turn_undone, stop_undone, played_places, played_reads}
use Rattle.event_dispatch.specs.laws.FaultLaws.{commit_why, undo_why, stops_why}
use Rattle.event_dispatch.specs.laws.LeftLaws.{left_stopped, left_failed, left_committed}
use Rattle.event_dispatch.specs.laws.NumberLaws.{numbers_failed, played_numbers, committed_end, undone_end, stopped_end}
use Rattle.event_dispatch.specs.laws.PassesLaws.{if_failed, at_fault}
use Rattle.event_dispatch.specs.laws.PlainLaws.{plain_fault, turn_noted, turn_stopped, turn_not_undone, turn_uncommitted}
use Rattle.event_dispatch.specs.laws.StoreLaws.{keeps_same, keeps_handed}
use Rattle.event_dispatch.specs.laws.TalkingLaws.{turn_stops, turn_ends}
use Rattle.event_dispatch.specs.laws.TurnLaws.{play_done, play_failed}
use Rattle.event_dispatch.specs.laws.TurnPartLaws.{play_so}
use Rattle.event_dispatch.specs.laws.WhyLaws.{why_then, why_before}
use Rattle.event_dispatch.specs.Plain.{IsPlainEnd}
use Rattle.event_dispatch.specs.laws.CutLaws.{if_err}
use Rattle.turn_laws.specs.laws.FaultLaws.{turn-leads}
use Rattle.event_dispatch.proofs.dispatch.play_turn.Goals as goal

pub returns-in_ok-out-in-Ok-Done-clause-keeps : goal.returns-in_ok-out-in-Ok-Done-clause-keeps
returns-in_ok-out-in-Ok-Done-clause-keeps g c = record {
  index = c.turn.ensures.index;
  alive = c.turn.ensures.alive;
  slots = keeps_handed c.args.app.now.index _ c.args.store.now c.turn.new.store c.requires.place c.in-Ok-Done.ensures.ok.staged_is;
  later = later_links (λ told. behind_later (c.turn.ensures.later told)) c.in_ok-out-in-Ok-Done.ensures.commits.links;
}

pub returns-in_ok-out-in-Ok-Done-clause-done : goal.returns-in_ok-out-in-Ok-Done-clause-done
returns-in_ok-out-in-Ok-Done-clause-done g c =
    play_so (search rules) (play_done c.begin-txn.ensures.net c.begin-txn.ensures.start c.in-Ok-Done.field-0-is c.in-Ok-Done.ensures.ok c.turn.ensures.start
    (search rules) c.in_ok-out-in-Ok-Done.ensures.commits)

pub returns-in_ok-out-in-Ok-Done-clause-passes : goal.returns-in_ok-out-in-Ok-Done-clause-passes
returns-in_ok-out-in-Ok-Done-clause-passes g c = record {
  continues = Continues-trans g.W.World.Tells (g.W.World.seen c.args.world.now) (g.W.World.seen c.turn.new.world) (g.W.World.seen c.commit.new.world)
      c.turn.ensures.continues c.in_ok-out-in-Ok-Done.ensures.commits.continues;
  places = played_places _ _ _ (later_own c.args.app.now.index c.requires.place (returns-in_ok-out-in-Ok-Done-clause-keeps g c).later)
      (returns-in_ok-out-in-Ok-Done-clause-done g c).plays.plays;
  reads = played_reads _ _ _ (returns-in_ok-out-in-Ok-Done-clause-done g c).plays.plays;
  numbers = played_numbers _ _ _ (returns-in_ok-out-in-Ok-Done-clause-done g c).plays.plays;
}

pub returns-in_ok-abort-in-Ok-Failed-clause-keeps : goal.returns-in_ok-abort-in-Ok-Failed-clause-keeps
returns-in_ok-abort-in-Ok-Failed-clause-keeps g c = record {
  index = c.turn.ensures.index;
  alive = c.turn.ensures.alive;
  slots = keeps_handed c.args.app.now.index _ c.args.store.now c.turn.new.store c.requires.place c.in-Ok-Failed.ensures.ok.staged_is;
  later = later_links (λ told. behind_later (c.turn.ensures.later told)) c.abort.ensures.undoes.links;
}

pub returns-in_ok-abort-in-Ok-Failed-clause-done : goal.returns-in_ok-abort-in-Ok-Failed-clause-done
returns-in_ok-abort-in-Ok-Failed-clause-done g c =
    play_so (search rules) (play_failed c.begin-txn.ensures.net c.begin-txn.ensures.start c.in-Ok-Failed.field-0-is c.in-Ok-Failed.ensures.ok
    c.turn.ensures.start c.in_ok-abort-in-Ok-Failed.was (search rules) refl c.abort.ensures.undoes)

pub returns-in_ok-abort-in-Ok-Failed-clause-passes : goal.returns-in_ok-abort-in-Ok-Failed-clause-passes
returns-in_ok-abort-in-Ok-Failed-clause-passes g c = record {
  continues = Continues-trans g.W.World.Tells (g.W.World.seen c.args.world.now) (g.W.World.seen c.turn.new.world) (g.W.World.seen c.abort.new.world)
      c.turn.ensures.continues c.abort.ensures.undoes.continues;
  places = played_places _ _ _ (later_own c.args.app.now.index c.requires.place (returns-in_ok-abort-in-Ok-Failed-clause-keeps g c).later)
      (returns-in_ok-abort-in-Ok-Failed-clause-done g c).plays.plays;
  reads = played_reads _ _ _ (returns-in_ok-abort-in-Ok-Failed-clause-done g c).plays.plays;
  numbers = played_numbers _ _ _ (returns-in_ok-abort-in-Ok-Failed-clause-done g c).plays.plays;
}

pub returns-in_err-out-in-Ok-Done-clause-keeps : goal.returns-in_err-out-in-Ok-Done-clause-keeps
returns-in_err-out-in-Ok-Done-clause-keeps g c = record {
  index = c.turn.ensures.index;
  alive = c.turn.ensures.alive;
  slots = keeps_handed c.args.app.now.index _ c.args.store.now c.turn.new.store c.requires.place c.in-Ok-Done.ensures.ok.staged_is;
  later = later_links (λ told. behind_later (c.turn.ensures.later told)) c.in_err-out-in-Ok-Done.ensures.commits.links;
}

pub returns-in_err-out-in-Ok-Done-clause-passes : goal.returns-in_err-out-in-Ok-Done-clause-passes
returns-in_err-out-in-Ok-Done-clause-passes g c = record {
  continues = Continues-trans g.W.World.Tells (g.W.World.seen c.args.world.now) (g.W.World.seen c.turn.new.world) (g.W.World.seen c.commit.new.world)
      c.turn.ensures.continues c.in_err-out-in-Ok-Done.ensures.commits.continues;
  places = turn_committed c.args.net.now c.begin-txn.ensures.net
      (later_own c.args.app.now.index c.requires.place (returns-in_err-out-in-Ok-Done-clause-keeps g c).later) (turn-leads c.in-Ok-Done.ensures.ok.turns)
      c.in_err-out-in-Ok-Done.ensures.commits;
  reads = if_failed _ c.from_residual.result c.from_residual.ensures.0;
  numbers = numbers_failed _ c.from_residual.result c.from_residual.ensures.0
      (committed_end c.args.net.now c.begin-txn.ensures.net (turn-leads c.in-Ok-Done.ensures.ok.turns) c.in_err-out-in-Ok-Done.ensures.commits);
}

pub returns-in_err-out-in-Ok-Done-clause-done : goal.returns-in_err-out-in-Ok-Done-clause-done
returns-in_err-out-in-Ok-Done-clause-done g c =
    at_fault _ (TurnFails g.W.World.Tells c.args.app.now.index c.args.occasion.budget c.args.app.now.rest (g.W.World.seen c.args.world.now)
    (g.W.World.seen c.commit.new.world) c.args.net.now) (fault_of c.in_err-out-in-Ok-Done.field-0.0) c.from_residual.result c.from_residual.ensures.1
    (record {
      talks = turn_ends c.args.app.now.index c.args.app.now.rest (g.W.World.seen c.args.world.now) (g.W.World.seen c.turn.new.world)
          (g.W.World.seen c.commit.new.world) (event_is c.args.occasion.number c.begin-txn.result.net.now.moment c.args.occasion.event.now)
          c.in-Ok-Done.ensures.ok.turns c.in_err-out-in-Ok-Done.ensures.commits.links;
      why = why_then (g.W.World.seen c.args.world.now) (g.W.World.seen c.turn.new.world) (g.W.World.seen c.commit.new.world)
          (ended_by c.in_err-out-in-Ok-Done.field-0.0) c.turn.ensures.continues
          (commit_why _ (g.W.World.seen c.turn.new.world) (g.W.World.seen c.commit.new.world) c.turn.new.txn.net.now _ _ _ c.in_err-out-in-Ok-Done.field-0.0
          c.in_err-out-in-Ok-Done.ensures.commits);
      plain = turn_uncommitted (g.W.World.seen c.args.world.now) (g.W.World.seen c.turn.new.world) (g.W.World.seen c.commit.new.world) c.args.net.now
          c.begin-txn.result.net.now c.turn.new.txn.net.now _ c.in_err-out-in-Ok-Done.field-0.0 c.begin-txn.ensures.net c.begin-txn.ensures.start
          c.turn.ensures.start
          (turn-leads c.in-Ok-Done.ensures.ok.turns) c.in_err-out-in-Ok-Done.ensures.commits;
      left = left_committed c.args.net.now c.in_err-out-in-Ok-Done.field-0.0 c.begin-txn.ensures.net c.begin-txn.ensures.start c.turn.ensures.start
          c.in-Ok-Done.field-0-is (event_is c.args.occasion.number c.begin-txn.result.net.now.moment c.args.occasion.event.now) c.in-Ok-Done.ensures.ok.turns
          c.in_err-out-in-Ok-Done.ensures.commits;
    })

pub returns-in_err-abort-in-Ok-Failed-clause-keeps : goal.returns-in_err-abort-in-Ok-Failed-clause-keeps
returns-in_err-abort-in-Ok-Failed-clause-keeps g c = record {
  index = c.turn.ensures.index;
  alive = c.turn.ensures.alive;
  slots = keeps_handed c.args.app.now.index _ c.args.store.now c.turn.new.store c.requires.place c.in-Ok-Failed.ensures.ok.staged_is;
  later = later_links (λ told. behind_later (c.turn.ensures.later told)) c.abort.ensures.undoes.links;
}

pub returns-in_err-abort-in-Ok-Failed-clause-passes : goal.returns-in_err-abort-in-Ok-Failed-clause-passes
returns-in_err-abort-in-Ok-Failed-clause-passes g c = record {
  continues = Continues-trans g.W.World.Tells (g.W.World.seen c.args.world.now) (g.W.World.seen c.turn.new.world) (g.W.World.seen c.abort.new.world)
      c.turn.ensures.continues c.abort.ensures.undoes.continues;
  places = turn_undone c.args.net.now c.begin-txn.ensures.net
      (later_own c.args.app.now.index c.requires.place (returns-in_err-abort-in-Ok-Failed-clause-keeps g c).later) (turn-leads c.in-Ok-Failed.ensures.ok.turns)
      c.abort.ensures.undoes;
  reads = if_failed _ c.from_residual-in_err-abort-in-Ok-Failed.result c.from_residual-in_err-abort-in-Ok-Failed.ensures.0;
  numbers = numbers_failed _ c.from_residual-in_err-abort-in-Ok-Failed.result c.from_residual-in_err-abort-in-Ok-Failed.ensures.0
      (undone_end c.args.net.now c.begin-txn.ensures.net (turn-leads c.in-Ok-Failed.ensures.ok.turns) c.abort.ensures.undoes);
}

pub returns-in_err-abort-in-Ok-Failed-clause-done : goal.returns-in_err-abort-in-Ok-Failed-clause-done
returns-in_err-abort-in-Ok-Failed-clause-done g c =
    at_fault _ (TurnFails g.W.World.Tells c.args.app.now.index c.args.occasion.budget c.args.app.now.rest (g.W.World.seen c.args.world.now)
    (g.W.World.seen c.abort.new.world) c.args.net.now) (fault_of c.in_err-abort-in-Ok-Failed.field-0.0) c.from_residual-in_err-abort-in-Ok-Failed.result
    c.from_residual-in_err-abort-in-Ok-Failed.ensures.1 (record {
      talks = turn_ends c.args.app.now.index c.args.app.now.rest (g.W.World.seen c.args.world.now) (g.W.World.seen c.turn.new.world)
          (g.W.World.seen c.abort.new.world) (event_is c.args.occasion.number c.begin-txn.result.net.now.moment c.args.occasion.event.now)
          c.in-Ok-Failed.ensures.ok.turns c.abort.ensures.undoes.links;
      why = why_then (g.W.World.seen c.args.world.now) (g.W.World.seen c.turn.new.world) (g.W.World.seen c.abort.new.world)
          (ended_by c.in_err-abort-in-Ok-Failed.field-0.0) c.turn.ensures.continues
          (undo_why _ (g.W.World.seen c.turn.new.world) (g.W.World.seen c.abort.new.world) c.turn.new.txn.net.now _ c.in_err-abort-in-Ok-Failed.field-0.0
          c.in_err-abort-in-Ok-Failed.ensures.undoes);
      plain = turn_not_undone (g.W.World.seen c.args.world.now) (g.W.World.seen c.turn.new.world) (g.W.World.seen c.abort.new.world) c.args.net.now
          c.begin-txn.result.net.now c.turn.new.txn.net.now _ c.abort.result c.in_err-abort-in-Ok-Failed.field-0.0 c.begin-txn.ensures.net
          (turn-leads c.in-Ok-Failed.ensures.ok.turns) c.in_err-abort-in-Ok-Failed.was c.abort.ensures.undoes;
      left = left_failed c.args.app.now.rest c.args.net.now c.begin-txn.ensures.net c.begin-txn.ensures.start c.turn.ensures.start
          c.in-Ok-Failed.ensures.ok.turns c.abort.ensures.undoes;
    })

pub returns-in-Err-clause-keeps : goal.returns-in-Err-clause-keeps
returns-in-Err-clause-keeps g c = record {
  index = c.turn.ensures.index;
  alive = c.turn.ensures.alive;
  slots = keeps_same c.args.app.now.index c.args.store.now c.turn.new.store c.in-Err.ensures.err_store;
  later = later_links (λ told. behind_later (c.turn.ensures.later told)) c.abort-in-Err.ensures.undoes.links;
}

pub returns-in-Err-clause-passes : goal.returns-in-Err-clause-passes
returns-in-Err-clause-passes g c = record {
  continues = Continues-trans g.W.World.Tells (g.W.World.seen c.args.world.now) (g.W.World.seen c.turn.new.world) (g.W.World.seen c.abort-in-Err.new.world)
      c.turn.ensures.continues c.abort-in-Err.ensures.undoes.continues;
  places = stop_undone c.args.net.now c.begin-txn.ensures.net (later_own c.args.app.now.index c.requires.place (returns-in-Err-clause-keeps g c).later)
      c.in-Err.ensures.err c.abort-in-Err.ensures.undoes;
  reads = tt;
  numbers = stopped_end c.args.net.now c.begin-txn.ensures.net c.in-Err.ensures.err c.abort-in-Err.ensures.undoes;
}

pub returns-in-Err-clause-done : goal.returns-in-Err-clause-done
returns-in-Err-clause-done g c = subst (TurnFails g.W.World.Tells c.args.app.now.index c.args.occasion.budget c.args.app.now.rest
    (g.W.World.seen c.args.world.now) (g.W.World.seen c.abort-in-Err.new.world) c.args.net.now) (sym c.from.ensures) (record {
      talks = turn_stops g.W.World.Tells c.args.app.now.index c.args.app.now.rest (g.W.World.seen c.args.world.now) (g.W.World.seen c.turn.new.world)
          (g.W.World.seen c.abort-in-Err.new.world) c.in-Err.ensures.talks c.abort-in-Err.ensures.undoes.links;
      why = why_before (g.W.World.seen c.args.world.now) (g.W.World.seen c.turn.new.world) (g.W.World.seen c.abort-in-Err.new.world) (ended_by c.in-Err.fault)
          c.turn.ensures.continues c.abort-in-Err.ensures.undoes.continues
          (stops_why (g.W.World.seen c.args.world.now) (g.W.World.seen c.turn.new.world) c.begin-txn.result.net.now c.turn.new.txn.net.now c.in-Err.fault
          c.in-Err.ensures.err);
      plain = turn_noted (g.W.World.seen c.args.world.now) (g.W.World.seen c.abort-in-Err.new.world) c.args.net.now c.begin-txn.result.net.now
          (fault_of c.in-Err.fault) c.begin-txn.ensures.net
          (turn_stopped (g.W.World.seen c.args.world.now) (g.W.World.seen c.turn.new.world) (g.W.World.seen c.abort-in-Err.new.world) c.begin-txn.result.net.now
          c.turn.new.txn.net.now c.in-Err.fault c.abort-in-Err.ensures.undoes.continues c.in-Err.ensures.err);
      left = left_stopped c.args.app.now.rest c.args.net.now c.begin-txn.ensures.net c.begin-txn.ensures.start c.turn.ensures.start c.in-Err.ensures.err
          c.abort-in-Err.ensures.undoes;
    })

pub returns-in_err-out-in-Ok-Done-clause-parted : goal.returns-in_err-out-in-Ok-Done-clause-parted
returns-in_err-out-in-Ok-Done-clause-parted g c =
    λ can. if_err IsPlainEnd (fault_of c.in_err-out-in-Ok-Done.field-0.0) c.from_residual.result c.from_residual.ensures.1
    (plain_fault c.in_err-out-in-Ok-Done.field-0.0 (c.in_err-out-in-Ok-Done.ensures.parted can))

pub returns-in_err-abort-in-Ok-Failed-clause-parted : goal.returns-in_err-abort-in-Ok-Failed-clause-parted
returns-in_err-abort-in-Ok-Failed-clause-parted g c =
    λ can. if_err IsPlainEnd (fault_of c.in_err-abort-in-Ok-Failed.field-0.0) c.from_residual-in_err-abort-in-Ok-Failed.result
    c.from_residual-in_err-abort-in-Ok-Failed.ensures.1 (plain_fault c.in_err-abort-in-Ok-Failed.field-0.0 (c.in_err-abort-in-Ok-Failed.ensures.parted can))

pub returns-in-Err-clause-parted : goal.returns-in-Err-clause-parted
returns-in-Err-clause-parted g c = λ can. subst IsPlainEnd (sym c.from.ensures) (plain_fault c.in-Err.fault (c.in-Err.ensures.parted can))
