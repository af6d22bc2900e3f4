-- Where the switches of a world can be parted with, one at fault is parted with, and is lost: no call ends by its fault then, but where memory
-- ran out. All of this is our own choice.
use Rattle.std.specs.Prelude.{Option, IfSome}
use Rattle.lego_model.specs.declared.fault.TxnFault.{TxnFault}
use Rattle.net_txn.specs.declared.halt.Halt.{Halt}
use Rattle.net_txn.specs.declared.halt.Halt.TheVariants.{Lost, Fault}
use Rattle.net_txn.specs.declared.trouble.Trouble.{Trouble}
use Rattle.net_txn.specs.declared.trouble.Trouble.TheVariants as troubles
use Rattle.net_txn.specs.Causes.{IsPlain}

-- no trouble that is a fault of the switch
abbrev pub IsPlainTrouble : Trouble → Type 0
IsPlainTrouble (troubles.Broke n) = ⊥
IsPlainTrouble (troubles.Refused key xid n) = ⊥
IsPlainTrouble troubles.Flooded = ⊥
IsPlainTrouble other = Unit {0}

-- the switch is lost, or memory ran out
abbrev pub IsPlainHalt : Halt → Type 0
IsPlainHalt Lost = Unit {0}
IsPlainHalt (Fault fault) = IsPlain fault

-- there is no fault, or memory ran out
abbrev pub IsPlainFault : Option TxnFault → Type 0
IsPlainFault fault = IfSome fault IsPlain
