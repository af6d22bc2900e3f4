use Rattle.std.proofs.Common.{append_assoc}
use Rattle.of_wire.specs.Spelling.{body_bytes}
use Rattle.of_wire.proofs.writing.put_features.Goals as goal

pub returns : goal.returns
unfolding body_bytes
returns c =
    rw (c.put_ports.ensures, c.put_u32-3.ensures.front, c.put_u32-2.ensures.front, c.put_array.ensures.front, c.put_u8.ensures.front, c.put_u32.ensures.front, c.put_u64.ensures.front, c.as_slice.ensures) (simp append_assoc)
