-- Where the switches of a world can be parted with, calls end by no fault of a switch.
use Rattle.std.specs.Prelude.{◌≡◌, ◌⊎◌, ℕ, Bool, true, false, List, IsTrue, Option, Some, None, Result, Ok, Err, IfErr, MatchResult, refl}
use Rattle.std.proofs.Common.{inl, inr, subst, sym}
use Rattle.outside.specs.declared.faults.LinkFault.{LinkFault}
use Rattle.outside.specs.declared.faults.LinkFault.TheVariants as linking
use Rattle.outside.specs.Seen.{Seen}
use Rattle.lego_model.specs.declared.fault.TxnFault.{TxnFault}
use Rattle.lego_model.specs.declared.fault.TxnFault.TheVariants.{SwitchBroke, Diverged, Flooded, NoMemory}
use Rattle.lego_model.specs.declared.wait.Awaited.{Awaited}
use Rattle.lego_model.specs.declared.wait.Heard.{Heard}
use Rattle.net_txn.specs.declared.halt.Halt.{Halt}
use Rattle.net_txn.specs.declared.halt.Halt.TheVariants.{Lost, Fault}
use Rattle.net_txn.specs.declared.queue.Storage.{Storage}
use Rattle.net_txn.specs.declared.trouble.Trouble.{Trouble}
use Rattle.net_txn.specs.declared.trouble.Trouble.TheVariants as troubles
use Rattle.net_txn.specs.Causes.{IsPlain, link_trouble, halt_by}
use Rattle.net_txn.specs.Parting.{IsPlainTrouble, IsPlainHalt, IsPlainFault}
use Rattle.net_txn.specs.Said.{IsOfLink, IsUntreated, PartsBehind, IsHaltBy, is_of_switch, SaysNot}
use Rattle.net_txn.specs.ReleaseSteps.{PacketUnsent}
use Rattle.net_txn.specs.Undos.{fault_by, first_fault_of}

pub err_of : {X E : Type 0} (A : X → Type 0) (B Q : E → Type 0) (result : Result X E) → ((e : E) → B e → Q e) → MatchResult result A B → IfErr result Q
err_of A B Q (Ok x) by is = tt
err_of A B Q (Err e) by is = by e is

-- ---- Troubles

pub link_plain : (t : Trouble) → IsOfLink t → IsPlainTrouble t
link_plain troubles.Link of = tt
link_plain (troubles.Broke n) of = absurd of
link_plain (troubles.Refused k x n) of = absurd of
link_plain troubles.Flooded of = absurd of
link_plain troubles.Short of = tt
link_plain troubles.Full of = tt
link_plain troubles.Parted of = tt

pub link_fault_plain : (fault : LinkFault) → IsPlainTrouble (link_trouble fault)
link_fault_plain linking.Failed = tt
link_fault_plain linking.Short = tt

pub untreated_plain : (storage : Storage) (h : Heard) (t : Trouble) → IsUntreated storage h t → IsPlainTrouble t
untreated_plain storage h troubles.Link of = tt
untreated_plain storage h (troubles.Broke n) of = absurd of.0
untreated_plain storage h (troubles.Refused k x n) of = absurd of.0
untreated_plain storage h troubles.Flooded of = absurd of.0
untreated_plain storage h troubles.Short of = tt
untreated_plain storage h troubles.Full of = tt
untreated_plain storage h troubles.Parted of = tt

pub behind_plain : {Own : Type 0} {Tells : Type 0} {a : Awaited} {storage : Storage} {bytes : List ℕ} {old new : Seen Own} {kept now_kept : List (ℕ × List ℕ)} (t : Trouble) → PartsBehind Tells a storage bytes old new kept now_kept t → IsPlainTrouble t
behind_plain t (inl not) = untreated_plain _ _ t not.why
behind_plain t (inr parts) = subst IsPlainTrouble (sym parts.parted) tt

-- ---- Halts

pub halt_plain : (d : ℕ) (t : Trouble) (buf : List ℕ) → IsPlainTrouble t → IsPlainHalt (halt_by d t buf)
halt_plain d troubles.Link buf plain = tt
halt_plain d (troubles.Broke n) buf plain = absurd plain
halt_plain d (troubles.Refused k x n) buf plain = absurd plain
halt_plain d troubles.Flooded buf plain = absurd plain
halt_plain d troubles.Short buf plain = tt
halt_plain d troubles.Full buf plain = tt
halt_plain d troubles.Parted buf plain = tt

either : (halt other : Halt) → IsPlainHalt other → (halt ≡ other) ⊎ (halt ≡ Fault NoMemory) → IsPlainHalt halt
either halt other plain (inl is) = subst IsPlainHalt (sym is) plain
either halt other plain (inr is) = subst IsPlainHalt (sym is) tt

pub halted_plain : (d : ℕ) (t : Trouble) (buf : List ℕ) (halt : Halt) → IsPlainTrouble t → IsHaltBy d t buf halt → IsPlainHalt halt
halted_plain d troubles.Link buf halt plain is = subst IsPlainHalt (sym is) tt
halted_plain d (troubles.Broke n) buf halt plain is = absurd plain
halted_plain d (troubles.Refused k x n) buf halt plain is = absurd plain
halted_plain d troubles.Flooded buf halt plain is = absurd plain
halted_plain d troubles.Short buf halt plain is = either halt _ tt is
halted_plain d troubles.Full buf halt plain is = either halt _ tt is
halted_plain d troubles.Parted buf halt plain is = subst IsPlainHalt (sym is) tt

pub unsaid_plain : {Own : Type 0} {Tells : Type 0} {d : ℕ} {old new : Seen Own} (halt : Halt) → SaysNot Tells d old new halt → IsPlainHalt halt
unsaid_plain halt s = halted_plain _ s.trouble s.buf halt (link_plain s.trouble s.why) s.halt_is

pub unsent_plain : {Own : Type 0} {Tells : Type 0} {d : ℕ} {old new : Seen Own} (halt : Halt) → PacketUnsent Tells d old new halt → IsPlainHalt halt
unsent_plain halt (inl short) = subst IsPlainHalt (sym short.1) tt
unsent_plain halt (inr not) = unsaid_plain halt not

pub memory_plain : (fault : TxnFault) → is_of_switch fault ≡ false → IsPlain fault
memory_plain (SwitchBroke d bytes) not = absurd cc
memory_plain (Diverged d sent got) not = absurd cc
memory_plain (Flooded d n) not = absurd cc
memory_plain NoMemory not = tt

pub parted_plain : (parted : Bool) (halt : Halt) → IsTrue parted → (parted ≡ true → halt ≡ Lost) → IsPlainHalt halt
parted_plain true halt is lost = subst IsPlainHalt (sym (lost refl)) tt
parted_plain false halt is lost = absurd cc

-- ---- The first fault of an undo

pub fault_plain : (halt : Halt) → IsPlainHalt halt → IsPlainFault (fault_by halt)
fault_plain Lost plain = tt
fault_plain (Fault fault) plain = plain

pub first_plain : (first later : Option TxnFault) → IsPlainFault first → IsPlainFault later → IsPlainFault (first_fault_of first later)
first_plain None later one other = other
first_plain (Some fault) later one other = one
