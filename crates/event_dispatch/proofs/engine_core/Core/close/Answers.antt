use Rattle.std.proofs.Common.{◌≡◌, ℕ, Bool, List, ◌++◌, Ok, false, ap, ap₂, sym, subst, ◌∙◌, refl}
use Rattle.lego_model.specs.RunReport.{turn_line}
use Rattle.lego_model.specs.declared.turn.TurnWord.{TurnWord}
use Rattle.lego_model.specs.declared.turn.TurnWord.TheVariants as words
use Rattle.app_visor.specs.declared.state.TurnEnd.TheVariants as ends
use Rattle.run_laws.specs.Facts.{turn_word, out_text}
use Rattle.event_dispatch.specs.declared.closing.Closing.{Closing}
use Rattle.event_dispatch.specs.Shows.{name_of}
use Rattle.event_dispatch.specs.TurnParts.{CloseDone}
use Rattle.app_visor.specs.laws.OwnLaws.{own_none}
use Rattle.net_txn.specs.Net.{NetState}
use Rattle.event_dispatch.specs.laws.PassesLaws.{same_next, quiet_none, quiet_not, quiet_fails, quiet_as, quiet_waits}
use Rattle.event_dispatch.specs.laws.TurnPartLaws.{if_not, quiet_over, done_so, failed_so}
use Rattle.event_dispatch.specs.laws.WhyLaws.{waits_then}
use Rattle.event_dispatch.proofs.engine_core.Core.close.Goals as goal
use Rattle.event_dispatch.proofs.engine_core.Core.close.Goals.{then-stop, else-stop}

pub returns-in_err-app-in-Done : goal.returns-in_err-app-in-Done
returns-in_err-app-in-Done g c = record {
  passes = quiet_not g.W.World.Tells (g.W.World.seen c.args.world.now) c.args.self.now.net _ c.from_residual.result c.from_residual.ensures.0;
  keeps = record { index = refl; rule = refl; own = λ told. own_none c.args.app.now.state.index (g.W.World.seen c.args.world.now) };
  done = if_not _ c.from_residual.result c.from_residual.ensures.0;
}

pub returns-in_err-note_done-in-Done : goal.returns-in_err-note_done-in-Done
returns-in_err-note_done-in-Done g c = record {
  passes = quiet_not g.W.World.Tells (g.W.World.seen c.args.world.now) c.args.self.now.net _ c.from_residual-in_err-note_done-in-Done.result c.from_residual-in_err-note_done-in-Done.ensures.0;
  keeps = record { index = refl; rule = refl; own = λ told. own_none c.args.app.now.state.index (g.W.World.seen c.args.world.now) };
  done = if_not _ c.from_residual-in_err-note_done-in-Done.result c.from_residual-in_err-note_done-in-Done.ensures.0;
}

pub returns-in_err-tell_lost-in-Done : goal.returns-in_err-tell_lost-in-Done
returns-in_err-tell_lost-in-Done g c = record {
  passes = quiet_not g.W.World.Tells (g.W.World.seen c.args.world.now) c.args.self.now.net _ c.from_residual-in_err-tell_lost-in-Done.result
      c.from_residual-in_err-tell_lost-in-Done.ensures.0;
  keeps = record { index = refl; rule = refl; own = λ told. own_none c.args.app.now.state.index (g.W.World.seen c.args.world.now) };
  done = if_not _ c.from_residual-in_err-tell_lost-in-Done.result c.from_residual-in_err-tell_lost-in-Done.ensures.0;
}

pub returns-in_ok-tell_lost-in-Done-clause-passes : goal.returns-in_ok-tell_lost-in-Done-clause-passes
returns-in_ok-tell_lost-in-Done-clause-passes g c =
    quiet_none g.W.World.Tells (g.W.World.seen c.args.world.now) c.args.self.now.net c.tell_lost.new.self.net _
    (record {
      views = ap (λ (n : NetState). n.views) c.in_ok-tell_lost-in-Done.ensures.tells.net ∙ ap (λ (n : NetState). n.views)
          c.in_ok-note_done-in-Done.ensures.adds.stays.net;
      xid = ap (λ (n : NetState). n.xid) c.in_ok-tell_lost-in-Done.ensures.tells.net ∙ ap (λ (n : NetState). n.xid)
          c.in_ok-note_done-in-Done.ensures.adds.stays.net;
    })

pub returns-in_ok-tell_lost-in-Done-clause-keeps : goal.returns-in_ok-tell_lost-in-Done-clause-keeps
returns-in_ok-tell_lost-in-Done-clause-keeps g c =
    record { index = refl; rule = refl; own = λ told. own_none c.args.app.now.state.index (g.W.World.seen c.args.world.now) }

pub returns-in_err-app-in-Failed : goal.returns-in_err-app-in-Failed
returns-in_err-app-in-Failed g c = record {
  passes = quiet_not g.W.World.Tells (g.W.World.seen c.args.world.now) c.args.self.now.net _ c.from_residual-in_err-app-in-Failed.result c.from_residual-in_err-app-in-Failed.ensures.0;
  keeps = record { index = refl; rule = refl; own = λ told. own_none c.args.app.now.state.index (g.W.World.seen c.args.world.now) };
  done = if_not _ c.from_residual-in_err-app-in-Failed.result c.from_residual-in_err-app-in-Failed.ensures.0;
}

pub returns-in_err-note_turn-in-Failed : goal.returns-in_err-note_turn-in-Failed
returns-in_err-note_turn-in-Failed g c = record {
  passes = quiet_not g.W.World.Tells (g.W.World.seen c.args.world.now) c.args.self.now.net _ c.from_residual-in_err-note_turn-in-Failed.result
      c.from_residual-in_err-note_turn-in-Failed.ensures.0;
  keeps = record { index = refl; rule = refl; own = λ told. own_none c.args.app.now.state.index (g.W.World.seen c.args.world.now) };
  done = if_not _ c.from_residual-in_err-note_turn-in-Failed.result c.from_residual-in_err-note_turn-in-Failed.ensures.0;
}

pub returns-in_err-tell_lost-in-Failed : goal.returns-in_err-tell_lost-in-Failed
returns-in_err-tell_lost-in-Failed g c = record {
  passes = quiet_not g.W.World.Tells (g.W.World.seen c.args.world.now) c.args.self.now.net _ c.from_residual-in_err-tell_lost-in-Failed.result
      c.from_residual-in_err-tell_lost-in-Failed.ensures.0;
  keeps = record { index = refl; rule = refl; own = λ told. own_none c.args.app.now.state.index (g.W.World.seen c.args.world.now) };
  done = if_not _ c.from_residual-in_err-tell_lost-in-Failed.result c.from_residual-in_err-tell_lost-in-Failed.ensures.0;
}

pub returns-in_err-go_on-in-Failed : goal.returns-in_err-go_on-in-Failed
returns-in_err-go_on-in-Failed g c = record {
  passes = quiet_fails _ c.from_residual-in_err-go_on-in-Failed.result
      (quiet_waits (waits_then c.args.self.now c.note_turn.new.self c.tell_lost-in-Failed.new.self c.in_ok-note_turn-in-Failed.ensures.waits
      c.in_ok-tell_lost-in-Failed.ensures.waits)
      (quiet_over c.args.self.now.net c.tell_lost-in-Failed.new.self.net
      (record {
        views = ap (λ (n : NetState). n.views) c.in_ok-tell_lost-in-Failed.ensures.tells.net ∙ ap (λ (n : NetState). n.views)
            c.in_ok-note_turn-in-Failed.ensures.adds.stays.net;
        xid = ap (λ (n : NetState). n.xid) c.in_ok-tell_lost-in-Failed.ensures.tells.net ∙ ap (λ (n : NetState). n.xid)
            c.in_ok-note_turn-in-Failed.ensures.adds.stays.net;
      }) c.in_err-go_on-in-Failed.ensures.passes)) c.from_residual-in_err-go_on-in-Failed.ensures.0;
  keeps = record { index = c.go_on.ensures.keeps.same.index; rule = c.go_on.ensures.keeps.same.rule; own = c.go_on.ensures.keeps.own };
  done = if_not _ c.from_residual-in_err-go_on-in-Failed.result c.from_residual-in_err-go_on-in-Failed.ensures.0;
}

pub returns-in_ok-go_on-in-Failed-clause-passes : goal.returns-in_ok-go_on-in-Failed-clause-passes
returns-in_ok-go_on-in-Failed-clause-passes g c =
    quiet_as _ (Ok false) (quiet_waits (waits_then c.args.self.now c.note_turn.new.self c.tell_lost-in-Failed.new.self c.in_ok-note_turn-in-Failed.ensures.waits
    c.in_ok-tell_lost-in-Failed.ensures.waits)
    (quiet_over c.args.self.now.net c.tell_lost-in-Failed.new.self.net
    (record {
      views = ap (λ (n : NetState). n.views) c.in_ok-tell_lost-in-Failed.ensures.tells.net ∙ ap (λ (n : NetState). n.views)
          c.in_ok-note_turn-in-Failed.ensures.adds.stays.net;
      xid = ap (λ (n : NetState). n.xid) c.in_ok-tell_lost-in-Failed.ensures.tells.net ∙ ap (λ (n : NetState). n.xid)
          c.in_ok-note_turn-in-Failed.ensures.adds.stays.net;
    }) c.in_ok-go_on-in-Failed.ensures.passes)) (same_next _)

pub returns-in_ok-go_on-in-Failed-clause-keeps : goal.returns-in_ok-go_on-in-Failed-clause-keeps
returns-in_ok-go_on-in-Failed-clause-keeps g c =
    record { index = c.go_on.ensures.keeps.same.index; rule = c.go_on.ensures.keeps.same.rule; own = c.go_on.ensures.keeps.own }

pub returns-in_ok-tell_lost-in-Done-clause-done : goal.returns-in_ok-tell_lost-in-Done-clause-done
returns-in_ok-tell_lost-in-Done-clause-done g c =
    let seen = g.W.World.seen c.args.world.now in
    let stop = c.in-Done.stop in
    let word : c.if-stop.note_done ≡ turn_word (ends.Done stop) = elim c.if-stop.branch [
      | then-stop w ↦ w.note_done-is ∙ ap (λ (b : Bool). turn_word (ends.Done b)) (sym w.if-stop.true)
      | else-stop w ↦ w.note_done-is ∙ ap (λ (b : Bool). turn_word (ends.Done b)) (sym w.if-stop.false)
    ] in
    let text = ap₂ (λ (name : List ℕ) (w : TurnWord). turn_line name w ++ out_text c.deref.result.now) c.as_str-name.ensures.value word
    ∙ ap (λ (out : List (ℕ × ℕ)). turn_line (name_of c.args.app.now) (turn_word (ends.Done stop)) ++ out_text out) c.deref.ensures.value in
    subst (λ (end : Closing). CloseDone g.W.World.Tells c.args.kind end stop seen seen c.args.self.now c.tell_lost.new.self c.args.app.now
    (record c.args.app.now { done = c.in_ok-app-in-Done.field-0 })) (sym c.in-Done.is)
    (done_so c.in_ok-note_done-in-Done.ensures c.in_ok-tell_lost-in-Done.ensures c.args.kind stop seen c.args.app.now c.in_ok-app-in-Done.field-0 c.in_ok-app-in-Done.ensures
    c.requires.room c.requires.read c.requires.store text)

pub returns-in_ok-go_on-in-Failed-clause-done : goal.returns-in_ok-go_on-in-Failed-clause-done
returns-in_ok-go_on-in-Failed-clause-done g c =
    subst (λ (end : Closing). CloseDone g.W.World.Tells c.args.kind end false (g.W.World.seen c.args.world.now) (g.W.World.seen c.go_on.new.world)
    c.args.self.now c.go_on.new.self c.args.app.now c.go_on.new.app) (sym c.in-Failed.is)
    (failed_so c.in_ok-note_turn-in-Failed.ensures c.in_ok-tell_lost-in-Failed.ensures c.args.kind c.in-Failed.cause c.args.app.now c.go_on.new.app
    c.in_ok-app-in-Failed.field-0 c.in_ok-app-in-Failed.ensures c.requires.room c.requires.read c.requires.store
    (ap (λ (name : List ℕ). turn_line name (words.Failed c.in-Failed.cause)) c.as_str-name.ensures.value)
    c.in_ok-go_on-in-Failed.ensures.done)
