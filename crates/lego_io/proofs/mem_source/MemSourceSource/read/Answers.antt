use Rattle.std.proofs.Common.{ap}
use Rattle.lego_io.specs.MemSource.{Supply}
use Rattle.lego_io.proofs.Supplying.{moved}
use Rattle.lego_io.proofs.mem_source.MemSourceSource.read.Goals as goal

pub returns-clause-front : goal.returns-clause-front
returns-clause-front c =
    moved c.args.self.now.left c.self.inside.bytes.items c.deref-2.result.now c.copy_front-count.new.buf c.self.inside.at c.copy_front-count.result
    (ap (λ (s : Supply). s.left) c.self.view_is) c.deref-2.ensures.value c.copy_front-count.ensures.front
