use Rattle.std.proofs.Common.{refl, inl, inr, ap, ◌∙◌, subst}
use Rattle.net_txn.specs.declared.halt.Halt.{Halt}
use Rattle.net_txn.specs.Losing.{lost_net, SaysHalt}
use Rattle.net_txn.proofs.net.Net.take_or_lose.Goals as goal

pub returns-in-Ok : goal.returns-in-Ok
returns-in-Ok g c = record { speaks = c.take_in.ensures.speaks; fault = tt; err = tt; losses = tt; taken = inl c.in-Ok.ensures.ok }

pub returns-in-Err-Lost : goal.returns-in-Err-Lost
returns-in-Err-Lost g c =
    let echo = c.in-Err-Lost.ensures.halts.request c.in-Err-Lost.field-0-is in
    let halts = subst (λ (h : Halt). SaysHalt g.W.World.Tells c.args.dpid (g.W.World.seen c.args.world.now) (g.W.World.seen c.take_in.new.world) h) c.in-Err-Lost.field-0-is c.in-Err-Lost.ensures.halts.halts in
    record {
      speaks = c.take_in.ensures.speaks;
      fault = tt;
      err = tt;
      losses = tt;
      taken = inr (record {
        payload = echo.0;
        request = echo.1;
        is_lost = halts.0;
        read = halts.1;
        net_is = c.lose.ensures ∙ ap (lost_net c.args.dpid) c.in-Err-Lost.ensures.err;
        no_event = refl;
      });
    }

pub returns-in-Err-Fault : goal.returns-in-Err-Fault
returns-in-Err-Fault g c =
    let halts = subst (λ (h : Halt). SaysHalt g.W.World.Tells c.args.dpid (g.W.World.seen c.args.world.now) (g.W.World.seen c.take_in.new.world) h) c.in-Err-Fault.field-0-is c.in-Err-Fault.ensures.halts.halts in
    record { speaks = c.take_in.ensures.speaks; fault = halts.0; err = c.in-Err-Fault.ensures.err; losses = halts.1; taken = tt }
