use Rattle.std.proofs.Common.{ℕ, List, ◌++◌, Ok, true, false, ap, ap₂, sym, subst, ◌∙◌, refl}
use Rattle.lego_model.specs.RunReport.{group_line}
use Rattle.run_laws.specs.Facts.{out_text}
use Rattle.event_dispatch.specs.declared.instead.Grouped.{Grouped}
use Rattle.event_dispatch.specs.Shows.{name_of}
use Rattle.event_dispatch.specs.GroupParts.{GroupCloseDone}
use Rattle.event_dispatch.specs.laws.GroupPartLaws.{group_counted, group_followed}
use Rattle.app_visor.specs.laws.OwnLaws.{own_none}
use Rattle.net_txn.specs.Net.{NetState}
use Rattle.event_dispatch.specs.laws.PassesLaws.{same_next, quiet_none, quiet_not, quiet_fails, quiet_as, quiet_waits}
use Rattle.event_dispatch.specs.laws.TurnPartLaws.{if_not, quiet_over}
use Rattle.event_dispatch.specs.laws.WhyLaws.{waits_then}
use Rattle.event_dispatch.proofs.engine_core.Core.close_group.Goals as goal

pub returns-in_err-app-in-Kept : goal.returns-in_err-app-in-Kept
returns-in_err-app-in-Kept g c = record {
  passes = quiet_not g.W.World.Tells (g.W.World.seen c.args.world.now) c.args.self.now.net _ c.from_residual.result c.from_residual.ensures.0;
  keeps = record { index = refl; rule = refl; own = λ told. own_none c.args.app.now.state.index (g.W.World.seen c.args.world.now) };
  done = if_not _ c.from_residual.result c.from_residual.ensures.0;
}

pub returns-in_err-note_kept-in-Kept : goal.returns-in_err-note_kept-in-Kept
returns-in_err-note_kept-in-Kept g c = record {
  passes = quiet_not g.W.World.Tells (g.W.World.seen c.args.world.now) c.args.self.now.net _ c.from_residual-in_err-note_kept-in-Kept.result c.from_residual-in_err-note_kept-in-Kept.ensures.0;
  keeps = record { index = refl; rule = refl; own = λ told. own_none c.args.app.now.state.index (g.W.World.seen c.args.world.now) };
  done = if_not _ c.from_residual-in_err-note_kept-in-Kept.result c.from_residual-in_err-note_kept-in-Kept.ensures.0;
}

pub returns-in_err-tell_lost-in-Kept : goal.returns-in_err-tell_lost-in-Kept
returns-in_err-tell_lost-in-Kept g c = record {
  passes = quiet_not g.W.World.Tells (g.W.World.seen c.args.world.now) c.args.self.now.net _ c.from_residual-in_err-tell_lost-in-Kept.result
      c.from_residual-in_err-tell_lost-in-Kept.ensures.0;
  keeps = record { index = refl; rule = refl; own = λ told. own_none c.args.app.now.state.index (g.W.World.seen c.args.world.now) };
  done = if_not _ c.from_residual-in_err-tell_lost-in-Kept.result c.from_residual-in_err-tell_lost-in-Kept.ensures.0;
}

pub returns-in_ok-tell_lost-in-Kept-clause-passes : goal.returns-in_ok-tell_lost-in-Kept-clause-passes
returns-in_ok-tell_lost-in-Kept-clause-passes g c =
    quiet_none g.W.World.Tells (g.W.World.seen c.args.world.now) c.args.self.now.net c.tell_lost.new.self.net _
    (record {
      views = ap (λ (n : NetState). n.views) c.in_ok-tell_lost-in-Kept.ensures.tells.net ∙ ap (λ (n : NetState). n.views)
          c.in_ok-note_kept-in-Kept.ensures.adds.stays.net;
      xid = ap (λ (n : NetState). n.xid) c.in_ok-tell_lost-in-Kept.ensures.tells.net ∙ ap (λ (n : NetState). n.xid)
          c.in_ok-note_kept-in-Kept.ensures.adds.stays.net;
    })

pub returns-in_ok-tell_lost-in-Kept-clause-keeps : goal.returns-in_ok-tell_lost-in-Kept-clause-keeps
returns-in_ok-tell_lost-in-Kept-clause-keeps g c =
    record { index = refl; rule = refl; own = λ told. own_none c.args.app.now.state.index (g.W.World.seen c.args.world.now) }

pub returns-in_err-app-in-Undone : goal.returns-in_err-app-in-Undone
returns-in_err-app-in-Undone g c = record {
  passes = quiet_not g.W.World.Tells (g.W.World.seen c.args.world.now) c.args.self.now.net _ c.from_residual-in_err-app-in-Undone.result c.from_residual-in_err-app-in-Undone.ensures.0;
  keeps = record { index = refl; rule = refl; own = λ told. own_none c.args.app.now.state.index (g.W.World.seen c.args.world.now) };
  done = if_not _ c.from_residual-in_err-app-in-Undone.result c.from_residual-in_err-app-in-Undone.ensures.0;
}

pub returns-in_err-note_group-in-Undone : goal.returns-in_err-note_group-in-Undone
returns-in_err-note_group-in-Undone g c = record {
  passes = quiet_not g.W.World.Tells (g.W.World.seen c.args.world.now) c.args.self.now.net _ c.from_residual-in_err-note_group-in-Undone.result
      c.from_residual-in_err-note_group-in-Undone.ensures.0;
  keeps = record { index = refl; rule = refl; own = λ told. own_none c.args.app.now.state.index (g.W.World.seen c.args.world.now) };
  done = if_not _ c.from_residual-in_err-note_group-in-Undone.result c.from_residual-in_err-note_group-in-Undone.ensures.0;
}

pub returns-in_err-tell_lost-in-Undone : goal.returns-in_err-tell_lost-in-Undone
returns-in_err-tell_lost-in-Undone g c = record {
  passes = quiet_not g.W.World.Tells (g.W.World.seen c.args.world.now) c.args.self.now.net _ c.from_residual-in_err-tell_lost-in-Undone.result
      c.from_residual-in_err-tell_lost-in-Undone.ensures.0;
  keeps = record { index = refl; rule = refl; own = λ told. own_none c.args.app.now.state.index (g.W.World.seen c.args.world.now) };
  done = if_not _ c.from_residual-in_err-tell_lost-in-Undone.result c.from_residual-in_err-tell_lost-in-Undone.ensures.0;
}

pub returns-in_err-start-in-Undone : goal.returns-in_err-start-in-Undone
returns-in_err-start-in-Undone g c = record {
  passes = quiet_fails _ c.from_residual-in_err-start-in-Undone.result
      (quiet_waits (waits_then c.args.self.now c.note_group.new.self c.tell_lost-in-Undone.new.self c.in_ok-note_group-in-Undone.ensures.waits
      c.in_ok-tell_lost-in-Undone.ensures.waits)
      (quiet_over c.args.self.now.net c.tell_lost-in-Undone.new.self.net
      (record {
        views = ap (λ (n : NetState). n.views) c.in_ok-tell_lost-in-Undone.ensures.tells.net ∙ ap (λ (n : NetState). n.views)
            c.in_ok-note_group-in-Undone.ensures.adds.stays.net;
        xid = ap (λ (n : NetState). n.xid) c.in_ok-tell_lost-in-Undone.ensures.tells.net ∙ ap (λ (n : NetState). n.xid)
            c.in_ok-note_group-in-Undone.ensures.adds.stays.net;
      }) c.in_err-start-in-Undone.ensures.passes)) c.from_residual-in_err-start-in-Undone.ensures.0;
  keeps = record { index = c.start.ensures.keeps.same.index; rule = c.start.ensures.keeps.same.rule; own = c.start.ensures.keeps.own };
  done = if_not _ c.from_residual-in_err-start-in-Undone.result c.from_residual-in_err-start-in-Undone.ensures.0;
}

pub returns-in_ok-start-in-Undone-clause-passes : goal.returns-in_ok-start-in-Undone-clause-passes
returns-in_ok-start-in-Undone-clause-passes g c =
    quiet_as _ (Ok false) (quiet_waits (waits_then c.args.self.now c.note_group.new.self c.tell_lost-in-Undone.new.self c.in_ok-note_group-in-Undone.ensures.waits
    c.in_ok-tell_lost-in-Undone.ensures.waits)
    (quiet_over c.args.self.now.net c.tell_lost-in-Undone.new.self.net
    (record {
      views = ap (λ (n : NetState). n.views) c.in_ok-tell_lost-in-Undone.ensures.tells.net ∙ ap (λ (n : NetState). n.views)
          c.in_ok-note_group-in-Undone.ensures.adds.stays.net;
      xid = ap (λ (n : NetState). n.xid) c.in_ok-tell_lost-in-Undone.ensures.tells.net ∙ ap (λ (n : NetState). n.xid)
          c.in_ok-note_group-in-Undone.ensures.adds.stays.net;
    }) c.in_ok-start-in-Undone.ensures.passes)) (same_next _)

pub returns-in_ok-start-in-Undone-clause-keeps : goal.returns-in_ok-start-in-Undone-clause-keeps
returns-in_ok-start-in-Undone-clause-keeps g c =
    record { index = c.start.ensures.keeps.same.index; rule = c.start.ensures.keeps.same.rule; own = c.start.ensures.keeps.own }

pub returns-in_ok-tell_lost-in-Kept-clause-done : goal.returns-in_ok-tell_lost-in-Kept-clause-done
returns-in_ok-tell_lost-in-Kept-clause-done g c =
    let seen = g.W.World.seen c.args.world.now in
    let text = ap₂ (λ (name written : List ℕ). (written ++ group_line name true) ++ out_text c.deref-in-Kept.result.now) c.as_str-name.ensures.value c.deref.ensures.value
    ∙ ap (λ (out : List (ℕ × ℕ)). (c.in-Kept.text.items ++ group_line (name_of c.args.app.now) true) ++ out_text out) c.deref-in-Kept.ensures.value in
    subst (λ (held : Grouped). GroupCloseDone g.W.World.Tells c.args.turns held c.in-Kept.stop seen seen c.args.self.now c.tell_lost.new.self c.args.app.now
    (record c.args.app.now { done = c.in_ok-app-in-Kept.field-0 })) (sym c.in-Kept.is)
    (group_counted c.in_ok-note_kept-in-Kept.ensures c.in_ok-tell_lost-in-Kept.ensures c.args.app.now c.requires.room c.requires.read c.requires.store c.args.turns c.in_ok-app-in-Kept.field-0 c.in-Kept.stop seen
    c.in_ok-app-in-Kept.ensures text)

pub returns-in_ok-start-in-Undone-clause-done : goal.returns-in_ok-start-in-Undone-clause-done
returns-in_ok-start-in-Undone-clause-done g c =
    subst (λ (held : Grouped). GroupCloseDone g.W.World.Tells c.args.turns held false (g.W.World.seen c.args.world.now) (g.W.World.seen c.start.new.world)
    c.args.self.now c.start.new.self c.args.app.now c.start.new.app) (sym c.in-Undone.is)
    (group_followed c.in_ok-note_group-in-Undone.ensures c.in_ok-tell_lost-in-Undone.ensures c.args.app.now c.requires.room c.requires.read c.requires.store c.args.turns
    c.in_ok-app-in-Undone.field-0 c.start.new.app c.in_ok-app-in-Undone.ensures
    (ap₂ (λ (name written : List ℕ). written ++ group_line name false) c.as_str-name.ensures.value c.deref-in-Undone.ensures.value)
    c.in_ok-start-in-Undone.ensures.done)
