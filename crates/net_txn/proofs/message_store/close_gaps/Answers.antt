use Rattle.std.proofs.Common.{arith, ◌∙◌}
use Rattle.std.proofs.lemmas.Bool.{ne_eqb, eq-eqb}
use Rattle.net_txn.proofs.StoreGaps.{closed_over, closed_down, closed_all, messages_left, sizes_left}
use Rattle.net_txn.proofs.message_store.close_gaps.Goals as goal
use Rattle.net_txn.proofs.message_store.close_gaps.Goals.{then-of-dpid, else-of-dpid}

pub loop-of-preserved : goal.loop-of-preserved
loop-of-preserved c =
    elim c.if-of-dpid.branch [
      | then-of-dpid w ↦
          rw (w.bytes-is, w.to-is) (
            closed_down c.args.dpid c.args.entries.now c.args.bytes.now.items c.loop-of.bytes.items w.copy_within.new.self.items c.loop-of.at c.loop-of.to c.loop-of.of-index c.loop-of.invariant.0 c.loop-of-test.true
                (ne_eqb _ _ w.if-of-dpid.true) w.copy_within.ensures.items,
            omega (arith, c.loop-of.invariant.1, w.copy_within.ensures.capacity),
          )
      | else-of-dpid w ↦
          rw (w.bytes-is, w.to-is) (
            closed_over c.args.dpid c.args.entries.now c.args.bytes.now.items c.loop-of.bytes.items c.loop-of.at c.loop-of.to c.loop-of.of-index c.loop-of.invariant.0 c.loop-of-test.true (eq-eqb _ _ w.if-of-dpid.false),
            c.loop-of.invariant.1,
          )
    ]

pub returns-clause-messages : goal.returns-clause-messages
returns-clause-messages c =
    messages_left c.args.dpid c.args.entries.now c.args.bytes.now.items c.truncate.new.self.items c.requires
    (c.truncate.ensures.items ∙ closed_all c.args.dpid c.args.entries.now c.args.bytes.now.items c.loop-of.bytes.items c.loop-of.at c.loop-of.to c.loop-of.of-index c.loop-of.invariant.0 (omega (arith, c.loop-of-test.false)))

pub returns-clause-sizes : goal.returns-clause-sizes
returns-clause-sizes c =
    sizes_left c.args.dpid c.args.entries.now c.args.bytes.now.items c.truncate.new.self.items c.requires
    (c.truncate.ensures.items ∙ closed_all c.args.dpid c.args.entries.now c.args.bytes.now.items c.loop-of.bytes.items c.loop-of.at c.loop-of.to c.loop-of.of-index c.loop-of.invariant.0 (omega (arith, c.loop-of-test.false)))
