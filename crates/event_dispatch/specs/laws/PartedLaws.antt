-- No fault of a switch comes of a message: of one that was kept, and of one that was told.
use Rattle.std.specs.Prelude.{◌≡◌, ℕ, List, take, slice_get, Some, IsOk}
use Rattle.std.proofs.Common.{sym, subst}
use Rattle.of_wire.specs.Reading.{reading_of}
use Rattle.outside.specs.declared.item.Item.{Item}
use Rattle.outside.specs.declared.item.Item.TheVariants as items
use Rattle.outside.specs.Parting.{IsItemReadIn}
use Rattle.event_dispatch.specs.Runs.{AreRead}
use Rattle.event_dispatch.specs.laws.ItemLaws.{first_read}

-- the first message that is kept
pub kept_read : (kept : List (ℕ × List ℕ)) (d : ℕ) (bytes frame : List ℕ) → AreRead kept → slice_get kept 0 ≡ Some (d, bytes) → frame ≡ bytes → IsOk (reading_of frame)
kept_read kept d bytes frame read is same = subst (λ (b : List ℕ). IsOk (reading_of b)) (sym same) (first_read kept (d, bytes) read is)

-- what stands in the front of a buffer where it is told
pub in_front : (item : Item) (d n : ℕ) (buf : List ℕ) → item ≡ items.From d n → IsItemReadIn buf item → IsOk (reading_of (take n buf))
in_front item d n buf is read = rw is at read
