use Rattle.std.proofs.Common.{◌≡◌, ◌++◌, drop}
use Rattle.session_record.specs.Deeds.{deeds_in}
use Rattle.session_record.specs.Recording.{bytes_of}
use Rattle.session_record.proofs.pieces.push_bytes.Given as goal

abbrev pub invariant-loop-kept : goal.invariant-loop-kept
invariant-loop-kept l = l.all.items ++ bytes_of (deeds_in l.bytes (drop l.kept-index l.deeds)) ≡ l.fn.all.items ++ bytes_of (deeds_in l.bytes l.deeds)
