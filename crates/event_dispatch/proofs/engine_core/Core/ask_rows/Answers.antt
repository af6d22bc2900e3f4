use Rattle.std.proofs.Common.{sym, subst}
use Rattle.event_dispatch.specs.ReportEnd.{TableFails}
use Rattle.event_dispatch.specs.laws.FaultLaws.{asks_why}
use Rattle.event_dispatch.specs.laws.LastLaws.{asks_as, asks_wait}
use Rattle.event_dispatch.specs.laws.PassesLaws.{quiet_links}
use Rattle.event_dispatch.specs.laws.PlainLaws.{plain_fault, table_asked}
use Rattle.event_dispatch.specs.laws.DispatchStrayLaws.{asked_places, asked_reads}
use Rattle.event_dispatch.specs.laws.NumberLaws.{asked_numbers, asked_end}
use Rattle.event_dispatch.specs.Plain.{IsPlainEnd}
use Rattle.event_dispatch.proofs.engine_core.Core.ask_rows.Goals as goal

pub returns-in-Ok : goal.returns-in-Ok
returns-in-Ok g c = record {
  passes = quiet_links (record {
    continues = c.in-Ok.ensures.asks.continues;
    places = asked_places c.args.self.now.net c.requires c.in-Ok.ensures.asks;
    reads = asked_reads c.args.self.now.net c.rows.new.self c.requires c.in-Ok.ensures.asks;
    numbers = asked_numbers c.in-Ok.rows c.in-Ok.ensures.asks;
  }) c.in-Ok.ensures.asks.links;
  done = record {
    waits = asks_wait c.args.self.now c.rows.new.self c.in-Ok.rows c.in-Ok.ensures.asks;
    asks = asks_as g.W.World.Tells c.args.dpid (g.W.World.seen c.args.world.now) (g.W.World.seen c.rows.new.world) c.args.self.now c.rows.new.self
        c.in-Ok.rows c.in-Ok.ensures.asks c.in-Ok.ensures.in_step;
  };
  parted = λ can. tt;
}

pub returns-in-Err : goal.returns-in-Err
returns-in-Err g c = record {
  passes = quiet_links (record {
    continues = c.in-Err.ensures.asks.continues;
    places = asked_places c.args.self.now.net c.requires
        c.in-Err.ensures.asks;
    reads = tt;
    numbers = asked_end c.in-Err.fault c.in-Err.ensures.asks;
  }) c.in-Err.ensures.asks.links;
  done = subst (TableFails g.W.World.Tells (g.W.World.seen c.args.world.now) (g.W.World.seen c.rows.new.world) c.args.self.now.net) (sym c.from.ensures)
      (record {
        why = asks_why c.in-Err.fault c.in-Err.ensures.asks;
        plain = table_asked c.args.dpid c.args.self.now.net.kept c.rows.new.self.kept c.in-Err.fault c.requires c.in-Err.ensures.asks.continues
            c.in-Err.ensures.in_step;
      });
  parted = λ can. subst IsPlainEnd (sym c.from.ensures) (plain_fault c.in-Err.fault (c.in-Err.ensures.parted can));
}
