use Rattle.sent_laws.specs.laws.AbreastLaws.{IsSerialed-numbered, bare-same, numbered-bare}
use Rattle.sent_laws.proofs.abreast.serials_count_within_a_turn.Goals as goal

pub returns-clause-serialed : goal.returns-clause-serialed
returns-clause-serialed c = IsSerialed-numbered

pub returns-clause-ends : goal.returns-clause-ends
returns-clause-ends c = bare-same

pub returns-clause-begins : goal.returns-clause-begins
returns-clause-begins c = numbered-bare
