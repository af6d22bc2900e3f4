use Rattle.std.proofs.Common.{◌≡◌, take, append_assoc, arith}
use Rattle.std.proofs.lemmas.List.{take_all, append-nil}
use Rattle.of_stats.proofs.table_row.write_table_row.Goals as goal

pub returns : goal.returns
returns c =
    let whole : take 64 c.put_u64-2.new.bytes ≡ c.put_u64-2.new.bytes = take_all 64 c.put_u64-2.new.bytes (omega arith) in
    rw (← whole, c.put_u64-2.ensures.front, c.put_u64.ensures.front, c.put_u32-3.ensures.front, c.put_u32-2.ensures.front, c.put_u32.ensures.front, c.put_array-2.ensures.front, c.put_array.ensures.front, c.put_u8.ensures.front) (simp (append_assoc, append-nil))
