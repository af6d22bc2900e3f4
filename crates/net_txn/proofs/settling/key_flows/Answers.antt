use Rattle.std.proofs.Common.{◌≡◌, ◌++◌, take, append_assoc, arith}
use Rattle.std.proofs.lemmas.List.{take_all, append-nil}
use Rattle.of_types.specs.Fields.{number_bytes}
use Rattle.net_txn.specs.Settling.{key_flows}
use Rattle.net_txn.proofs.settling.key_flows.Goals as goal

pub returns : goal.returns
unfolding key_flows
returns c =
    let whole : take 44 c.put_u16.new.bytes ≡ c.put_u16.new.bytes = take_all 44 c.put_u16.new.bytes (omega arith) in
    let table : take 41 c.put_u8.new.bytes ≡ take 40 c.put_array.new.bytes ++ number_bytes 1 255 = c.put_u8.ensures.front in
    let port : take 44 c.put_u16.new.bytes ≡ take 42 c.put_array-2.new.bytes ++ number_bytes 2 65535 = c.put_u16.ensures.front in
    rw (← whole, port, c.put_array-2.ensures.front, table, c.put_array.ensures.front, c.encode.ensures.normal) (simp (append_assoc, append-nil))
