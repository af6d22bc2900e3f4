use Rattle.std.proofs.Common.{◌++◌, arith}
use Rattle.std.proofs.lemmas.Result.{on_err_weaker, on_ok_weaker}
use Rattle.lego_io.specs.laws.CountLaws.{Rose-after}
use Rattle.of_types.specs.laws.ChoiceLaws.{holds_on_err}
use Rattle.legosdn.proofs.Pieces.{part_of_two, part_of_second, part_of_third, whole_of_three}
use Rattle.legosdn.proofs.stop.write_between.Goals as goal

pub returns-in_err-write_all-clause-part : goal.returns-in_err-write_all-clause-part
returns-in_err-write_all-clause-part g c =
    holds_on_err _ (part_of_two _ _ (c.args.front.now ++ c.args.middle.now) c.args.end.now (part_of_two _ _ c.args.front.now c.args.middle.now c.in_err-write_all.ensures.part))

pub returns-in_err-write_all-clause-fault_rose : goal.returns-in_err-write_all-clause-fault_rose
returns-in_err-write_all-clause-fault_rose g c = holds_on_err _ c.in_err-write_all.ensures.fault_rose

pub returns-in_err-write_all-2-clause-part : goal.returns-in_err-write_all-2-clause-part
returns-in_err-write_all-2-clause-part g c =
    holds_on_err _ (part_of_second _ _ _ c.args.front.now _ c.args.end.now c.in_ok-write_all.ensures.all c.in_err-write_all-2.ensures.part)

pub returns-in_err-write_all-2-clause-fault_rose : goal.returns-in_err-write_all-2-clause-fault_rose
returns-in_err-write_all-2-clause-fault_rose g c = holds_on_err _ (Rose-after _ _ _ c.write_all.ensures.never_fell c.in_err-write_all-2.ensures.fault_rose)

pub returns-clause-all : goal.returns-clause-all
returns-clause-all g c =
    on_ok_weaker _ (whole_of_three _ _ _ _ c.args.front.now _ _ c.in_ok-write_all.ensures.all c.in_ok-write_all-2.ensures.all) c.write_all-3.ensures.all

pub returns-clause-part : goal.returns-clause-part
returns-clause-part g c =
    on_err_weaker _ (part_of_third _ _ _ _ c.args.front.now _ c.args.end.now c.in_ok-write_all.ensures.all c.in_ok-write_all-2.ensures.all) c.write_all-3.ensures.part

pub returns-clause-fault_rose : goal.returns-clause-fault_rose
returns-clause-fault_rose g c =
    on_err_weaker _ (Rose-after (g.K.Sink.faults c.args.sink.now) (g.K.Sink.faults c.write_all-2.new.sink) (g.K.Sink.faults c.write_all-3.new.sink) (omega (arith, c.write_all.ensures.never_fell, c.write_all-2.ensures.never_fell))) c.write_all-3.ensures.fault_rose
