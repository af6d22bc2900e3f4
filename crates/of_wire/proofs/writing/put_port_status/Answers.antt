use Rattle.std.proofs.Common.{◌≡◌, take, append_assoc, arith}
use Rattle.std.proofs.lemmas.List.{take_all, append-nil}
use Rattle.of_wire.specs.Spelling.{body_bytes}
use Rattle.of_wire.proofs.writing.put_port_status.Goals as goal

pub returns : goal.returns
unfolding body_bytes
returns c =
    let whole : take 64 c.put_port_at.new.out ≡ c.put_port_at.new.out = take_all 64 c.put_port_at.new.out (omega arith) in
    rw (← whole, c.put_port_at.ensures, c.put_array.ensures.front, c.put_u8.ensures.front) (simp (append_assoc, append-nil))
