use Rattle.event_dispatch.specs.declared.fault.Fault.TheVariants as faults
use Rattle.std.proofs.Common.{refl, sym, ap, ◌∙◌}
use Rattle.net_txn.specs.Net.{NetState}
use Rattle.event_dispatch.specs.laws.BatchLaws.{kept_at_first, kept_one_more, kept_line, kept_ends, kept_all}
use Rattle.event_dispatch.specs.laws.BatchSteadyLaws.{taken_read, taken_waits}
use Rattle.event_dispatch.specs.laws.ItemLaws.{kept_why}
use Rattle.event_dispatch.specs.laws.PassesLaws.{same_next, at_fault, waits_none}
use Rattle.event_dispatch.specs.laws.PlainLaws.{kept_memory, kept_none}
use Rattle.event_dispatch.specs.laws.TakingLaws.{on_links_at_first, on_links_fails, on_links_as, on_links_waits, taken_passes, taken_so_far}
use Rattle.event_dispatch.specs.laws.PartedLaws.{kept_read}
use Rattle.event_dispatch.specs.Plain.{IsPlainEnd}
use Rattle.event_dispatch.specs.laws.CutLaws.{if_err}
use Rattle.event_dispatch.proofs.engine_core.Core.take_kept.Goals as goal

pub loop-taken-init : goal.loop-taken-init
loop-taken-init g c = record {
  waits = waits_none c.args.self.now;
  lines = refl;
  left = c.requires.none_left;
  read = c.requires.read;
  kept = kept_at_first g.W.World.Tells (g.W.World.seen c.args.world.now) c.args.self.now;
  passes = on_links_at_first g.W.World.Tells (g.W.World.seen c.args.world.now) c.args.self.now.net;
}

pub loop-taken-preserved : goal.loop-taken-preserved
loop-taken-preserved g c =
    let since = c.in_ok-take_message.ensures.done in
    let before = c.loop-taken.invariant in
    record {
      waits = taken_waits c.args.self.now c.loop-taken.self c.take_message.new.self c.waiting.new.self c.in_ok-dpid.ensures.rest before.waits since.waits;
      lines = kept_line _ _ _ (g.W.World.seen c.loop-taken.world) (g.W.World.seen c.take_message.new.world) c.loop-taken.self c.take_message.new.self c.waiting.new.self before.read (sym c.in-Some.is ∙ c.in_ok-dpid.ensures.first) c.as_slice.ensures since.takes ∙ before.lines;
      left = since.takes.handles.left;
      read = since.read (taken_read c.loop-taken.self.net c.waiting.new.self c.in_ok-dpid.ensures.rest before.read);
      kept = kept_one_more c.loop-taken.taken _ _ _ (g.W.World.seen c.args.world.now) (g.W.World.seen c.loop-taken.world) (g.W.World.seen c.take_message.new.world) c.args.self.now c.loop-taken.self c.take_message.new.self c.waiting.new.self before.kept before.read (sym c.in-Some.is ∙ c.in_ok-dpid.ensures.first) c.as_slice.ensures c.in_ok-dpid.ensures.rest since.takes;
      passes = taken_so_far c.waiting.new.self c.in_ok-dpid.ensures.rest before.passes (on_links_waits before.waits c.in_ok-take_message.ensures.passes);
    }

pub returns-in_err-dpid : goal.returns-in_err-dpid
returns-in_err-dpid g c = record {
  passes = on_links_fails c.waiting.new.self c.from_residual.result c.loop-taken.invariant.passes c.from_residual.ensures.0;
  done = at_fault _ _ faults.NoMemory c.from_residual.result c.from_residual.ensures.1 (record { why = tt; plain = kept_memory c.args.self.now.net });
  plain = if_err IsPlainEnd faults.NoMemory c.from_residual.result c.from_residual.ensures.1 tt;
}

pub returns-in_default : goal.returns-in_default
returns-in_default g c =
    let so_far = c.loop-taken.invariant in
    let rest = c.in_ok-dpid.ensures.rest in
    record {
      passes = on_links_as c.waiting.new.self _ so_far.passes (record { views = ap (λ (n : NetState). n.views) rest; xid = ap (λ (n : NetState). n.xid) rest });
      done = record {
        waits = taken_waits c.args.self.now c.loop-taken.self (record c.loop-taken.self { net = c.waiting.new.self }) c.waiting.new.self rest so_far.waits (waits_none (record c.loop-taken.self { net = c.waiting.new.self }));
        lines = so_far.lines;
        read = taken_read c.loop-taken.self.net c.waiting.new.self rest so_far.read;
        kept = kept_ends c.loop-taken.taken (g.W.World.seen c.args.world.now) (g.W.World.seen c.loop-taken.world) c.args.self.now c.loop-taken.self _ so_far.kept rest (sym c.in_default.is ∙ c.in_ok-dpid.ensures.first) refl refl;
      };
      plain = tt;
    }

pub returns-in_err-take_message : goal.returns-in_err-take_message
returns-in_err-take_message g c =
    let so_far = c.loop-taken.invariant in
    let failed = c.in_err-take_message.ensures in
    record {
      passes = on_links_fails _ c.from_residual-in_err-take_message.result (taken_passes c.waiting.new.self c.in_ok-dpid.ensures.rest so_far.passes (on_links_waits so_far.waits failed.passes)) c.from_residual-in_err-take_message.ensures.0;
      done = at_fault _ _ c.in_err-take_message.field-0.0 c.from_residual-in_err-take_message.result c.from_residual-in_err-take_message.ensures.1 (record {
        why = kept_why c.loop-taken.self.net.kept _ _ _ (g.W.World.seen c.args.world.now) (g.W.World.seen c.loop-taken.world) (g.W.World.seen c.take_message.new.world) c.in_err-take_message.field-0.0 so_far.read (sym c.in_ok-dpid.ensures.first ∙ c.in-Some.is) c.as_slice.ensures so_far.passes.passes.continues failed.done.why;
        plain = kept_none c.args.self.now c.loop-taken.self _ c.in_err-take_message.field-0.0 so_far.kept (sym c.in-Some.is ∙ c.in_ok-dpid.ensures.first);
      });
      plain = if_err IsPlainEnd c.in_err-take_message.field-0.0 c.from_residual-in_err-take_message.result c.from_residual-in_err-take_message.ensures.1
          (c.in_err-take_message.ensures.done.plain.plain (kept_read c.loop-taken.self.net.kept _ _ _ so_far.read (sym c.in_ok-dpid.ensures.first ∙ c.in-Some.is) c.as_slice.ensures));
    }

pub returns : goal.returns
returns g c =
    let so_far = c.loop-taken.invariant in
    record {
      passes = on_links_as c.loop-taken.self.net _ so_far.passes (same_next _);
      done = record {
        waits = so_far.waits;
        lines = so_far.lines;
        read = so_far.read;
        kept = kept_all c.loop-taken.taken (g.W.World.seen c.args.world.now) (g.W.World.seen c.loop-taken.world) c.args.self.now c.loop-taken.self c.loop-taken-test.false so_far.kept;
      };
      plain = tt;
    }
