use Rattle.std.proofs.Common.{sym, arith}
use Rattle.std.proofs.lemmas.List.{drop_all}
use Rattle.of_stats.proofs.table_row.read_table_row.Goals as goal

pub returns : goal.returns
returns c = (sym c.get_u8.ensures, (sym c.get_array.ensures, (sym c.get_u32.ensures, (sym c.get_u32-2.ensures, (sym c.get_u32-3.ensures, (sym c.get_u64.ensures, (sym c.get_u64-2.ensures, drop_all 64 c.args.bytes.now (omega (arith, c.fits-bytes)))))))))
