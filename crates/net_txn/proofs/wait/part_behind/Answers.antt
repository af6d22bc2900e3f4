use Rattle.std.proofs.Common.{refl, inl, inr}
use Rattle.net_txn.specs.laws.SaidLaws.{Calls-then, parts_said}
use Rattle.net_txn.proofs.wait.part_behind.Goals as goal

pub returns-in-Ok : goal.returns-in-Ok
returns-in-Ok g c = inr (record { kept_is = c.in-Ok.ensures.kept_is; calls = Calls-then c.in-Ok.ensures.calls (parts_said (c.part.ensures c.requires.can)); parted = refl })

pub returns-in-Err : goal.returns-in-Err
returns-in-Err g c = inl c.in-Err.ensures
