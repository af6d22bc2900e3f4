-- How calls end by a switch's trouble.
use Rattle.std.specs.Prelude.{◌≡◌, ℕ, true, List, refl}
use Rattle.std.proofs.Common.{inl, inr}
use Rattle.lego_model.specs.declared.fault.TxnFault.TheVariants.{NoMemory}
use Rattle.net_txn.specs.declared.halt.Halt.{Halt}
use Rattle.net_txn.specs.declared.halt.Halt.TheVariants.{Fault}
use Rattle.net_txn.specs.declared.trouble.Trouble.{Trouble}
use Rattle.net_txn.specs.declared.trouble.Trouble.TheVariants as troubles
use Rattle.net_txn.specs.Causes.{halt_by}
use Rattle.net_txn.specs.Undos.{is_of_link}
use Rattle.net_txn.specs.Said.{IsHaltBy}

pub halt_is : (d : ℕ) (t : Trouble) (buf : List ℕ) (halt : Halt) → halt ≡ halt_by d t buf → IsHaltBy d t buf halt
halt_is d troubles.Link buf halt is = is
halt_is d (troubles.Broke n) buf halt is = inl is
halt_is d (troubles.Refused k x n) buf halt is = inl is
halt_is d troubles.Flooded buf halt is = inl is
halt_is d troubles.Short buf halt is = inl is
halt_is d troubles.Full buf halt is = inl is
halt_is d troubles.Parted buf halt is = is

pub halt_short : (d : ℕ) (t : Trouble) (buf : List ℕ) → (is_of_link t ≡ true → ⊥) → IsHaltBy d t buf (Fault NoMemory)
halt_short d troubles.Link buf other = absurd (other refl)
halt_short d (troubles.Broke n) buf other = inr refl
halt_short d (troubles.Refused k x n) buf other = inr refl
halt_short d troubles.Flooded buf other = inr refl
halt_short d troubles.Short buf other = inr refl
halt_short d troubles.Full buf other = inr refl
halt_short d troubles.Parted buf other = absurd (other refl)
