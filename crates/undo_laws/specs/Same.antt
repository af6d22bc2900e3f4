-- Tables that are the same but for serials. No message shows a serial, so nothing that a switch sends tells them apart.
use Rattle.std.specs.Prelude.{◌≡◌, List, map}
use Rattle.flow_table.specs.declared.entry.Entry.{Entry}
use Rattle.undo_laws.specs.Log.{seen}

abbrev pub SameButSerials : List Entry → List Entry → Type 0
SameButSerials es fs = map seen es ≡ map seen fs
