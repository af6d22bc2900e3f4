use Rattle.std.proofs.Common.{sym, arith}
use Rattle.std.proofs.lemmas.List.{drop_all}
use Rattle.of_stats.proofs.port_row.read_port_row.Goals as goal

pub returns : goal.returns
returns c = (sym c.get_u16.ensures, (sym c.get_u64.ensures, (sym c.get_u64-2.ensures, (sym c.get_u64-3.ensures, (sym c.get_u64-4.ensures, (sym c.get_u64-5.ensures, (sym c.get_u64-6.ensures, (sym c.get_u64-7.ensures, (sym c.get_u64-8.ensures, (sym c.get_u64-9.ensures, (sym c.get_u64-10.ensures, (sym c.get_u64-11.ensures, (sym c.get_u64-12.ensures, drop_all 104 c.args.bytes.now (omega (arith, c.fits-bytes)))))))))))))))
