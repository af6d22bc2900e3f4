use Rattle.std.proofs.Common.{arith}
use Rattle.netlog_inverse.specs.laws.ActionsLaws.{IsTest-same_actions}
use Rattle.netlog_inverse.specs.laws.NextLaws.{passed-more, passed-all}
use Rattle.netlog_inverse.specs.laws.WantedLaws.{all-wanted}
use Rattle.netlog_inverse.proofs.sending_laws.next_ones_are_wanted.Goals as goal

pub returns-clause-nothing : goal.returns-clause-nothing
returns-clause-nothing c = λ s. (omega arith, λ k least most. absurd (omega arith))

pub returns-clause-more : goal.returns-clause-more
returns-clause-more c = λ s after ws w passed next. passed-more s 0 _ ws w passed next

pub returns-clause-all : goal.returns-clause-all
returns-clause-all c = λ s after ws passed none. passed-all s 0 _ ws passed none

pub returns-clause-wanted : goal.returns-clause-wanted
returns-clause-wanted c = all-wanted

pub returns-clause-test : goal.returns-clause-test
returns-clause-test c = IsTest-same_actions
