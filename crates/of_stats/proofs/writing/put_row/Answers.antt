use Rattle.std.proofs.Common.{◌≡◌, ◌+◌, take, append_assoc, arith}
use Rattle.std.proofs.lemmas.List.{take_all, append-nil}
use Rattle.of_action.specs.Spelling.{list_size}
use Rattle.of_stats.specs.Flows.{row_bytes}
use Rattle.of_stats.proofs.writing.put_row.Goals as goal

pub returns : goal.returns
unfolding row_bytes
returns c =
    let whole : take (88 + list_size c.args.row.now.actions) c.put_list_at.new.out ≡ c.put_list_at.new.out = take_all _ _ (omega arith) in
    rw (← whole, c.put_list_at.ensures, c.put_u64-3.ensures.front, c.put_u64-2.ensures.front, c.put_u64.ensures.front, c.put_array-4.ensures.front, c.put_u16-4.ensures.front, c.put_u16-3.ensures.front, c.put_u16-2.ensures.front, c.put_array-3.ensures.front, c.put_u32.ensures.front, c.put_array-2.ensures.front, c.encode.ensures.normal, c.put_array.ensures.front, c.put_u16.ensures.front, c.requires.size) (simp (append_assoc, append-nil))
