use Rattle.std.proofs.Common.{◌≡◌, take, append_assoc, arith}
use Rattle.std.proofs.lemmas.List.{take_all}
use Rattle.app_frames.proofs.host.event_head.Goals as goal

pub returns : goal.returns
returns c =
    let whole : take 25 c.put_u64-3.new.bytes ≡ c.put_u64-3.new.bytes = take_all 25 c.put_u64-3.new.bytes (omega arith) in
    rw (← whole, c.put_u64-3.ensures.front, c.put_u8.ensures.front, c.put_u64-2.ensures.front, c.put_u64.ensures.front, c.number.ensures) (simp append_assoc)
