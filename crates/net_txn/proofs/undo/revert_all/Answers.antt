use Rattle.std.proofs.Common.{◌≡◌, ◌+◌, ◌-◌, ℕ, [], drop, sym, subst, arith}
use Rattle.std.proofs.Math.Seq.{drop-length}
use Rattle.net_txn.specs.NetUndos.{NetFurther, ports_in}
use Rattle.net_txn.specs.laws.FurtherLaws.{Further-none, room_same, room_then}
use Rattle.net_txn.specs.laws.NetUndoLaws.{as_long, stays_none, stays_then, stays_before}
use Rattle.net_txn.proofs.undo.revert_all.Goals as goal

pub loop-at-init : goal.loop-at-init
loop-at-init g c =
    let net = c.args.net.now in
    record {
      undoing = rw (c.logged-at.ensures, drop-length net.log, c.requires.fault) (Further-none g.W.World.Tells net.views (g.W.World.seen c.args.world.now) net.kept (ports_in net) net.xid);
      stays = stays_none c.args.from net;
      least = omega (arith, c.logged-at.ensures, c.requires.place);
      room = room_same c.args.fault.now net.room;
      parted = λ can old. old;
    }

pub revert_noted-requires-clause-place : goal.revert_noted-requires-clause-place
revert_noted-requires-clause-place g c = let long = as_long c.loop-at.invariant.stays in omega (arith, long, c.logged-at.ensures)

pub loop-at-preserved : goal.loop-at-preserved
loop-at-preserved g c =
    let i = c.loop-at.invariant in
    let s = c.revert_noted.ensures in
    let net = c.args.net.now in
    let old = g.W.World.seen c.args.world.now in
    let behind : c.loop-at.at - 1 + 1 ≡ c.loop-at.at = omega arith in
    let before = subst (λ (at : ℕ). NetFurther g.W.World.Tells old (g.W.World.seen c.loop-at.world) net.kept (ports_in net) net.xid c.loop-at.net [] (drop at c.loop-at.net.log) c.loop-at.fault) (sym behind) i.undoing in
    record {
      undoing = s.undoing old net.kept (ports_in net) net.xid before;
      stays = stays_then i.stays (stays_before c.args.from (c.loop-at.at - 1) (omega arith) s.stays);
      least = omega arith;
      room = room_then c.args.fault.now c.loop-at.fault c.revert_noted.new.fault _ _ _ i.room s.room;
      parted = λ can old. s.parted can (i.parted can old);
    }

pub returns-clause-undoing : goal.returns-clause-undoing
returns-clause-undoing g c =
    let net = c.args.net.now in
    let last : c.loop-at.at ≡ c.args.from = omega arith in
    subst (λ (at : ℕ). NetFurther g.W.World.Tells (g.W.World.seen c.args.world.now) (g.W.World.seen c.loop-at.world) net.kept (ports_in net) net.xid c.loop-at.net [] (drop at c.loop-at.net.log) c.loop-at.fault) last c.loop-at.invariant.undoing
