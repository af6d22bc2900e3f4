use Rattle.legosdn.proofs.Pieces.{text_line, memory_line, unknown_line, missing_line, range_line, double_line}
use Rattle.legosdn.proofs.stop.write_policy.Goals as goal

pub returns-in-Text-clause-all : goal.returns-in-Text-clause-all
returns-in-Text-clause-all g c = rw (text_line c.args.fault.now c.in-Text.is) c.write_all.ensures.all

pub returns-in-NoMemory-clause-all : goal.returns-in-NoMemory-clause-all
returns-in-NoMemory-clause-all g c = rw (memory_line c.args.fault.now c.in-NoMemory.is) c.write_all-in-NoMemory.ensures.all

pub returns-in-UnknownKey-clause-all : goal.returns-in-UnknownKey-clause-all
returns-in-UnknownKey-clause-all g c =
    rw (unknown_line c.args.fault.now c.in-UnknownKey.key c.as_bytes.result.now c.in-UnknownKey.is c.as_bytes.ensures.value) c.write_between.ensures.all

pub returns-in-Missing-clause-all : goal.returns-in-Missing-clause-all
returns-in-Missing-clause-all g c =
    rw (missing_line c.args.fault.now c.in-Missing.key c.as_bytes-in-Missing.result.now c.in-Missing.is c.as_bytes-in-Missing.ensures.value) c.write_between-in-Missing.ensures.all

pub returns-in-Range-clause-all : goal.returns-in-Range-clause-all
returns-in-Range-clause-all g c =
    rw (range_line c.args.fault.now c.in-Range.key c.as_bytes-in-Range.result.now c.in-Range.is c.as_bytes-in-Range.ensures.value) c.write_between-in-Range.ensures.all

pub returns-in-Double-clause-all : goal.returns-in-Double-clause-all
returns-in-Double-clause-all g c =
    rw (double_line c.args.fault.now c.in-Double.name c.as_bytes-in-Double.result.now c.in-Double.is c.as_bytes-in-Double.ensures.value) c.write_between-in-Double.ensures.all
