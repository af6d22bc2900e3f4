-- Why a call on the network failed: each fault comes only with its cause, in that call. All of this is our own.
use Rattle.std.specs.Prelude.{◌≡◌, ℕ, List, [], ◌∷◌, ◌++◌, take, IsErr}
use Rattle.lego_io.specs.Count.{Rose}
use Rattle.of_types.specs.declared.journal.Act.TheVariants.{Got}
use Rattle.of_wire.specs.Reading.{reading_of}
use Rattle.outside.specs.declared.faults.LinkFault.{LinkFault}
use Rattle.outside.specs.declared.faults.LinkFault.TheVariants as linking
use Rattle.outside.specs.declared.step.WorldStep.{WorldStep}
use Rattle.outside.specs.declared.step.WorldStep.TheVariants.{Acted}
use Rattle.outside.specs.Seen.{Seen}
use Rattle.lego_model.specs.declared.fault.TxnFault.{TxnFault}
use Rattle.lego_model.specs.declared.fault.TxnFault.TheVariants.{SwitchBroke, Diverged, Flooded, NoMemory}
use Rattle.net_txn.specs.declared.halt.Halt.{Halt}
use Rattle.net_txn.specs.declared.halt.Halt.TheVariants.{Lost, Fault}
use Rattle.lego_model.specs.BarrierWaits.{flood}
use Rattle.lego_model.specs.UndoFaults.{inverse_bytes}
use Rattle.net_txn.specs.declared.trouble.Trouble.{Trouble}
use Rattle.net_txn.specs.declared.trouble.Trouble.TheVariants as troubles

-- ---- What the trouble of a switch is

abbrev pub link_trouble : LinkFault → Trouble
link_trouble linking.Failed = troubles.Link
link_trouble linking.Short = troubles.Short

abbrev pub halt_by : ℕ → Trouble → List ℕ → Halt
halt_by d troubles.Link buf = Lost
halt_by d (troubles.Broke n) buf = Fault (SwitchBroke d (take n buf))
halt_by d (troubles.Refused k xid n) buf = Fault (Diverged d (inverse_bytes xid k) (take n buf))
halt_by d troubles.Flooded buf = Fault (Flooded d flood)
halt_by d troubles.Short buf = Fault NoMemory
halt_by d troubles.Full buf = Fault NoMemory
halt_by d troubles.Parted buf = Lost

-- ---- Why it came

-- the last step since then was that these bytes were got from the switch
abbrev pub EndsByGot : ℕ → List ℕ → List WorldStep → List WorldStep → Type 0
EndsByGot d bytes old new = (steps : List WorldStep) × (new ≡ old ++ (steps ++ Acted (Got d bytes) ∷ []))

-- SwitchBroke comes only with bytes got from the switch that are no message. Want of memory may come at any time.
abbrev pub IsCause : {Own : Type 0} → Type 0 → ℕ → Seen Own → Seen Own → TxnFault → Type 0
IsCause Tells d old new (SwitchBroke of bytes) = (of ≡ d) × IsErr (reading_of bytes) × (Tells → EndsByGot d bytes old.history new.history)
IsCause Tells d old new (Diverged of sent got) = ⊥
IsCause Tells d old new (Flooded of n) = (of ≡ d) × (n ≡ flood)
IsCause Tells d old new NoMemory = Unit {0}

-- A switch is lost only where the count of its link rose.
abbrev pub IsHaltCause : {Own : Type 0} → Type 0 → ℕ → Seen Own → Seen Own → Halt → Type 0
IsHaltCause Tells d old new Lost = Rose (old.counts.link_faults d) (new.counts.link_faults d)
IsHaltCause Tells d old new (Fault fault) = IsCause Tells d old new fault

-- of a message that was sent alone
abbrev pub IsLinkCause : {Own : Type 0} → ℕ → Seen Own → Seen Own → Halt → Type 0
IsLinkCause d old new Lost = Rose (old.counts.link_faults d) (new.counts.link_faults d)
IsLinkCause d old new (Fault NoMemory) = Unit {0}
IsLinkCause d old new (Fault (SwitchBroke of bytes)) = ⊥
IsLinkCause d old new (Fault (Diverged of sent got)) = ⊥
IsLinkCause d old new (Fault (Flooded of n)) = ⊥

-- a fault of no message that came: memory ran out
abbrev pub IsPlain : TxnFault → Type 0
IsPlain NoMemory = Unit {0}
IsPlain (SwitchBroke of bytes) = ⊥
IsPlain (Diverged of sent got) = ⊥
IsPlain (Flooded of n) = ⊥
