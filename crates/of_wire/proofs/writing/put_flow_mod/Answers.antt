use Rattle.std.proofs.Common.{◌≡◌, ◌+◌, take, append_assoc, arith}
use Rattle.std.proofs.lemmas.List.{take_all}
use Rattle.of_action.specs.Spelling.{list_size}
use Rattle.of_wire.specs.Spelling.{message_size, body_bytes}
use Rattle.of_wire.proofs.writing.put_flow_mod.Goals as goal

pub returns : goal.returns
unfolding message_size body_bytes
returns c =
    let whole : take (72 + list_size c.args.flow.now.actions) c.put_list_at.new.out ≡ c.put_list_at.new.out = take_all _ _ (omega arith) in
    rw (← whole, c.put_list_at.ensures, c.put_u16-6.ensures.front, c.put_u16-5.ensures.front, c.put_u32.ensures.front, c.put_u16-4.ensures.front, c.put_u16-3.ensures.front, c.put_u16-2.ensures.front, c.put_u16.ensures.front, c.put_u64.ensures.front, c.put_array.ensures.front, c.encode.ensures.normal) (simp append_assoc)
