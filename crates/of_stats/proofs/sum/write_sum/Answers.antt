use Rattle.std.proofs.Common.{◌≡◌, take, append_assoc, arith}
use Rattle.std.proofs.lemmas.List.{take_all, append-nil}
use Rattle.of_stats.proofs.sum.write_sum.Goals as goal

pub returns : goal.returns
returns c =
    let whole : take 24 c.put_array.new.bytes ≡ c.put_array.new.bytes = take_all 24 c.put_array.new.bytes (omega arith) in
    rw (← whole, c.put_array.ensures.front, c.put_u32.ensures.front, c.put_u64-2.ensures.front, c.put_u64.ensures.front) (simp (append_assoc, append-nil))
