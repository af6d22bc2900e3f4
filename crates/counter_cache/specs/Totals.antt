-- What entries have lost together, modulo 2^64. All of this is our own.
use Rattle.std.specs.Prelude.{◌≡◌, ◌+◌, ◌%◌, ◌^◌, List, Option, Some, None}
use Rattle.of_match.specs.declared.key.Key.{Key}
use Rattle.flow_table.specs.declared.lost.Lost.{Lost}
use Rattle.flow_table.specs.declared.view.ViewRow.{ViewRow}
use Rattle.counter_cache.specs.declared.sums.Total.{Total}
use Rattle.counter_cache.specs.Fixed.{packets_lost, bytes_lost}

abbrev pub added : Option Lost → Total → Total
added None t = t
added (Some l) t = record t { packets = (t.packets + l.packets) % 2 ^ 64; bytes = (t.bytes + l.bytes) % 2 ^ 64 }

-- so much did the entries of these rows lose
pub record IsTotal (lost : List (Key × Lost)) (rows : List ViewRow) (t : Total) : Type 0 where
  pub packets : t.packets ≡ packets_lost lost rows % 2 ^ 64
  pub bytes : t.bytes ≡ bytes_lost lost rows % 2 ^ 64
