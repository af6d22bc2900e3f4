use Rattle.std.proofs.Common.{rules}
use Rattle.event_dispatch.specs.laws.TakingLaws.{asked_next}
use Rattle.event_dispatch.proofs.batch.next_item.Goals as goal

pub returns-in-Ok : goal.returns-in-Ok
returns-in-Ok g c = record {
  asks = asked_next c.next.ensures.nexts (search rules) (search rules);
  done = record { item = c.in-Ok.ensures.nexts.item; nexts = c.in-Ok.ensures.nexts };
  message = c.in-Ok.ensures.message;
}

pub returns-in-Err-Failed : goal.returns-in-Err-Failed
returns-in-Err-Failed g c = record {
  asks = asked_next c.next.ensures.nexts (search rules) (search rules);
  done = record { why = (search rules); plain = tt };
  message = λ can. tt;
}

pub returns-in-Err-Short : goal.returns-in-Err-Short
returns-in-Err-Short g c = record {
  asks = asked_next c.next.ensures.nexts (search rules) (search rules);
  done = record { why = tt; plain = tt };
  message = λ can. tt;
}
