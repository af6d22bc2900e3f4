use Rattle.frame_edit.specs.laws.ChecksumLaws.{checksum-verified, carried_sum-is}
use Rattle.frame_edit.specs.laws.VerifyLaws.{with_checksums-verify}
use Rattle.frame_edit.proofs.laws.laws_of_checksums.Goals as goal

pub returns-clause-complement : goal.returns-clause-complement
returns-clause-complement c = checksum-verified

pub returns-clause-verify : goal.returns-clause-verify
returns-clause-verify c = with_checksums-verify

pub returns-clause-procedure : goal.returns-clause-procedure
returns-clause-procedure c = carried_sum-is
