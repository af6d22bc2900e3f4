use Rattle.std.proofs.Common.{List, ℕ, subst}
use Rattle.std.proofs.lemmas.Result.{err_from_is_err_and}
use Rattle.lego_model.specs.declared.fault.TxnFault.TheVariants.{NoMemory}
use Rattle.journal_laws.specs.laws.FrameLaws.{event_is}
use Rattle.app_visor.specs.Turns.{handed}
use Rattle.app_visor.specs.laws.BeatLaws.{stops_wanting}
use Rattle.app_visor.specs.laws.ReadLaws.{Wants-refl}
use Rattle.app_visor.specs.laws.ResultLaws.{err_is}
use Rattle.turn_laws.specs.laws.FaultLaws.{turn-leads}
use Rattle.event_dispatch.specs.GroupParts.{EndNoted}
use Rattle.event_dispatch.specs.laws.GroupLaws.{quiet_turn, pending_then}
use Rattle.event_dispatch.specs.laws.StoreLaws.{keeps_same, keeps_handed}
use Rattle.event_dispatch.specs.laws.TalkingLaws.{leads_at_once, talks_leads}
use Rattle.event_dispatch.proofs.instead.play_one.Goals as goal

pub returns-in_err-end-clause-keeps : goal.returns-in_err-end-clause-keeps
returns-in_err-end-clause-keeps g c = record {
  keeps = record {
    index = c.turn.ensures.index;
    alive = c.turn.ensures.alive;
    slots = keeps_same c.args.app.now.index c.args.store.now c.turn.new.store c.in_err-end.ensures.err_store;
    quiet = λ told. quiet_turn c.args.app.now.index c.args.number c.args.txn.now.net.now.moment c.args.event.now c.ranges.number.fits (c.turn.ensures.later told);
  };
  stays = c.turn.ensures.stays;
  continues = c.turn.ensures.continues;
}

pub returns-in_err-end-clause-fails : goal.returns-in_err-end-clause-fails
returns-in_err-end-clause-fails g c =
    let p = err_from_is_err_and c.from_residual.result c.from_residual.ensures.1 in
    err_is _ c.from_residual.result p.0 c.in_err-end.field-0.0 p.1 p.2 (record {
      stops = c.in_err-end.ensures.err;
      talks = record {
        talks = λ told a runs passes.
            leads_at_once c.args.app.now.index (g.W.World.seen c.args.world.now) (g.W.World.seen c.turn.new.world) a
            (talks_leads (c.in_err-end.ensures.talks told a.last runs passes));
      };
    })

pub returns-in_err-note_end-clause-keeps : goal.returns-in_err-note_end-clause-keeps
returns-in_err-note_end-clause-keeps g c = record {
  keeps = record {
    index = c.turn.ensures.index;
    alive = c.turn.ensures.alive;
    slots = keeps_handed c.args.app.now.index _ c.args.store.now c.turn.new.store c.requires.place c.in_ok-end.ensures.ok.staged_is;
    quiet = λ told. quiet_turn c.args.app.now.index c.args.number c.args.txn.now.net.now.moment c.args.event.now c.ranges.number.fits (c.turn.ensures.later told);
  };
  stays = c.turn.ensures.stays;
  continues = c.turn.ensures.continues;
}

pub returns-in_err-note_end-clause-fails : goal.returns-in_err-note_end-clause-fails
returns-in_err-note_end-clause-fails g c =
    let p = err_from_is_err_and c.from_residual-in_err-note_end.result c.from_residual-in_err-note_end.ensures.1 in
    let turns = c.in_ok-end.ensures.ok.turns in
    err_is _ c.from_residual-in_err-note_end.result p.0 NoMemory p.1 p.2 (record {
      stops = stops_wanting (turn-leads turns) (Wants-refl (g.W.World.seen c.turn.new.world));
      talks = record {
        talks = λ told a runs passes.
            let says = turns.speaks told (event_is c.args.number c.args.txn.now.net.now.moment c.args.event.now) a.last runs passes in
            leads_at_once c.args.app.now.index (g.W.World.seen c.args.world.now) (g.W.World.seen c.turn.new.world) a (says.after, says.converses);
      };
    })

pub returns-clause-keeps : goal.returns-clause-keeps
returns-clause-keeps g c = record {
  keeps = record {
    index = c.turn.ensures.index;
    alive = c.turn.ensures.alive;
    slots = keeps_handed c.args.app.now.index _ c.args.store.now c.turn.new.store c.requires.place c.in_ok-end.ensures.ok.staged_is;
    quiet = λ told. quiet_turn c.args.app.now.index c.args.number c.args.txn.now.net.now.moment c.args.event.now c.ranges.number.fits (c.turn.ensures.later told);
  };
  stays = c.turn.ensures.stays;
  continues = c.turn.ensures.continues;
}

pub returns-clause-done : goal.returns-clause-done
returns-clause-done g c =
    let staged = c.in_ok-end.ensures.ok in
    record {
      end = c.in_ok-end.end;
      turns = staged.turns;
      kept_is = pending_then c.args.app.now.index (handed staged.turns.outcome) c.args.store.now c.turn.new.store c.requires.place staged.staged_is;
      noted = subst (λ (name : List ℕ). EndNoted name c.args.event.now c.in_ok-end.end c.args.played.now c.note_end.new.played) c.as_str.ensures.value c.in_ok-note_end.ensures;
    }
