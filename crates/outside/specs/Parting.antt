-- Worlds whose switches can be parted with: of a switch they tell and give messages alone, since they themselves end the link of one that
-- sends anything else. All of this is our own choice.
use Rattle.std.specs.Prelude.{ℕ, List, take, Result, IsOk, IfOk}
use Rattle.of_wire.specs.Reading.{reading_of}
use Rattle.outside.specs.declared.faults.LinkFault.{LinkFault}
use Rattle.outside.specs.declared.faults.NextFault.{NextFault}
use Rattle.outside.specs.declared.item.Item.{Item}
use Rattle.outside.specs.declared.item.Item.TheVariants.{From}

-- the first n bytes of a buffer are a message
abbrev pub IsReadIn : List ℕ → ℕ → Type 0
IsReadIn buf n = IsOk (reading_of (take n buf))

abbrev pub IsItemReadIn : List ℕ → Item → Type 0
IsItemReadIn buf (From d n) = IsReadIn buf n
IsItemReadIn buf other = Unit {0}

-- of `next`, and of `recv`
abbrev pub TellsMessage : Result Item NextFault → List ℕ → Type 0
TellsMessage result buf = IfOk result (IsItemReadIn buf)

abbrev pub GivesMessage : Result ℕ LinkFault → List ℕ → Type 0
GivesMessage result buf = IfOk result (IsReadIn buf)
