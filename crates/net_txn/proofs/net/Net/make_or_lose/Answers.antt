use Rattle.std.proofs.Common.{refl, inr, subst}
use Rattle.net_txn.specs.laws.ChangeLaws.{makes_lost}
use Rattle.net_txn.specs.Parting.{IsPlainHalt}
use Rattle.net_txn.proofs.net.Net.make_or_lose.Goals as goal

pub returns-in-Err-Lost-clause-makes : goal.returns-in-Err-Lost-clause-makes
returns-in-Err-Lost-clause-makes g c =
    let l = rw c.in-Err-Lost.field-0-is at c.in-Err-Lost.ensures.result in
    record {
      speaks = c.in-Err-Lost.ensures.speaks;
      cause = tt;
      made = inr (refl, makes_lost c.args.self.now c.make_or_forget.new.self c.lose.new.self c.make_or_forget.ensures.stays l c.lose.ensures);
    }

pub returns-in-Err-Fault-clause-parted : goal.returns-in-Err-Fault-clause-parted
returns-in-Err-Fault-clause-parted g c = λ can. subst IsPlainHalt c.in-Err-Fault.field-0-is (c.in-Err-Fault.ensures.parted can)
