-- When the notice of an entry that times out can be corrected by what the entry has lost. This is our own.
use Rattle.std.specs.Prelude.{◌≡◌, ℕ, ◌≤◌, List, Some}
use Rattle.of_match.specs.declared.key.Key.{Key}
use Rattle.flow_timeouts.specs.declared.timeouts.Reason.{Reason}
use Rattle.flow_table.specs.declared.entry.Entry.{Entry}
use Rattle.flow_table.specs.declared.lost.Lost.{Lost}
use Rattle.flow_table.specs.Expiry.{deadline}
use Rattle.counter_cache.specs.Fixed.{Fits}

-- At its end an entry was put in before, and no longer ago than the switch had counted when its age was lost; that end is below 2^32.
abbrev pub FitsAtEnd : List (Key × Lost) → ℕ → Entry → Type 0
FitsAtEnd lost now e = (end : ℕ) (reason : Reason) → deadline e ≡ Some (end, reason) → end ≤ now → Fits lost end e
