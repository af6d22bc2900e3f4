use Rattle.std.proofs.Common.{◌≡◌, take, append_assoc, arith}
use Rattle.std.proofs.lemmas.List.{take_all, append-nil}
use Rattle.of_stats.proofs.port_row.write_port_row.Goals as goal

pub returns : goal.returns
returns c =
    let whole : take 104 c.put_u64-12.new.bytes ≡ c.put_u64-12.new.bytes = take_all 104 c.put_u64-12.new.bytes (omega arith) in
    rw (← whole, c.put_u64-12.ensures.front, c.put_u64-11.ensures.front, c.put_u64-10.ensures.front, c.put_u64-9.ensures.front, c.put_u64-8.ensures.front, c.put_u64-7.ensures.front, c.put_u64-6.ensures.front, c.put_u64-5.ensures.front, c.put_u64-4.ensures.front, c.put_u64-3.ensures.front, c.put_u64-2.ensures.front, c.put_u64.ensures.front, c.put_array.ensures.front, c.put_u16.ensures.front) (simp (append_assoc, append-nil))
