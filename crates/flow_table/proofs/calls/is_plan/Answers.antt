use Rattle.flow_table.specs.laws.RunLaws.{IsPlan-at}
use Rattle.flow_table.proofs.calls.is_plan.Goals as goal

pub returns-then-start-le-LAST_MOMENT : goal.returns-then-start-le-LAST_MOMENT
returns-then-start-le-LAST_MOMENT c = (
  λ rise. record {
    start = c.latest-start.result;
    before = record {
      within = c.if-start-le-LAST_MOMENT.true;
      installed = rw c.entries.ensures.all at c.latest-start.ensures.installed;
      used = rw c.entries.ensures.all at c.latest-start.ensures.used;
    };
    moments = c.rises.ensures.0 rise;
  },
  λ plan. c.rises.ensures.1 (IsPlan-at c.args.calls.now c.args.table.now c.latest-start.result plan (rw c.entries.ensures.all at c.latest-start.ensures.least)).1,
)
