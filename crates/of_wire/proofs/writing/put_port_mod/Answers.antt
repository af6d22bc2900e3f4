use Rattle.std.proofs.Common.{◌≡◌, take, append_assoc, arith}
use Rattle.std.proofs.lemmas.List.{take_all, append-nil}
use Rattle.of_wire.specs.Spelling.{body_bytes}
use Rattle.of_wire.proofs.writing.put_port_mod.Goals as goal

pub returns : goal.returns
unfolding body_bytes
returns c =
    let whole : take 32 c.put_array-2.new.bytes ≡ c.put_array-2.new.bytes = take_all 32 c.put_array-2.new.bytes (omega arith) in
    rw (← whole, c.put_array-2.ensures.front, c.put_u32-3.ensures.front, c.put_u32-2.ensures.front, c.put_u32.ensures.front, c.put_array.ensures.front, c.put_u16.ensures.front) (simp (append_assoc, append-nil))
