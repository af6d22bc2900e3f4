use Rattle.std.proofs.Common.{sym, ◌∙◌}
use Rattle.net_txn.specs.laws.ExchangeLaws.{parts_or_fails}
use Rattle.net_txn.specs.laws.PartingLaws.{memory_plain, parted_plain}
use Rattle.net_txn.proofs.wait.part_or_fail.Goals as goal

pub returns-clause-parts_or_fails : goal.returns-clause-parts_or_fails
returns-clause-parts_or_fails g c = parts_or_fails c.part_with-is_parted.result c.args.fault _ (sym c.is_of_switch.ensures ∙ c.if-not-is_of_switch.false) c.ended.ensures.parted c.ended.ensures.fails c.part_with-is_parted.ensures.parts

pub returns-clause-parted : goal.returns-clause-parted
returns-clause-parted g c = λ can. parted_plain c.part_with-is_parted.result _ (c.part_with-is_parted.ensures.can.1 can) c.ended.ensures.parted

pub returns-then-not-is_of_switch-clause-parted : goal.returns-then-not-is_of_switch-clause-parted
returns-then-not-is_of_switch-clause-parted g c = λ can. memory_plain c.args.fault (sym c.is_of_switch.ensures ∙ c.if-not-is_of_switch.true)
