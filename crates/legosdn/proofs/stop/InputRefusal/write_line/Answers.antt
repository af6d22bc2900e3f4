use Rattle.std.proofs.Common.{◌∙◌}
use Rattle.legosdn.proofs.Pieces.{session_line}
use Rattle.legosdn.proofs.stop.InputRefusal.write_line.Goals as goal

pub returns-in-Session-clause-all : goal.returns-in-Session-clause-all
returns-in-Session-clause-all g c =
    rw (session_line c.args.self.now c.in-Session.fault c.as_bytes.result.now c.in-Session.is (c.as_bytes.ensures.value ∙ c.kind_end-kind.ensures)) c.write_numbered.ensures.all

pub returns-in-Session-clause-part : goal.returns-in-Session-clause-part
returns-in-Session-clause-part g c =
    rw (session_line c.args.self.now c.in-Session.fault c.as_bytes.result.now c.in-Session.is (c.as_bytes.ensures.value ∙ c.kind_end-kind.ensures)) c.write_numbered.ensures.part
