use Rattle.std.proofs.Common.{◌≡◌, inl, inr, refl, arith, take, length, ◌++◌}
use Rattle.std.proofs.lemmas.Grind.{common_steps}
use Rattle.std.proofs.lemmas.Result.{err_from_is_err_and}
use Rattle.app_visor.specs.laws.TalkLaws.{took_one, told_closed, told_silent, wants_take}
use Rattle.app_visor.proofs.intake.Intake.take.Goals as goal

pub returns-in_err-extend_from_slice-in-Ok-Some-clause-err : goal.returns-in_err-extend_from_slice-in-Ok-Some-clause-err
returns-in_err-extend_from_slice-in-Ok-Some-clause-err g c =
    let p = err_from_is_err_and c.from_residual.result c.from_residual.ensures.1 in
    let n = c.in-Ok-Some.size in
    let buf = c.take.new.buf in
    let is : length buf ≡ 65536 = omega arith in
    rw p.1 (inr (c.args.self.now ++ take n buf, took_one n buf c.args.self.now (c.args.self.now ++ take n buf) is (rw c.in-Ok-Some.field-0-is at c.in-Ok-Some.ensures) refl))

pub returns-in_ok-extend_from_slice-in-Ok-Some-clause-ok : goal.returns-in_ok-extend_from_slice-in-Ok-Some-clause-ok
returns-in_ok-extend_from_slice-in-Ok-Some-clause-ok g c =
    let n = c.in-Ok-Some.size in
    let buf = c.take.new.buf in
    let is : length buf ≡ 65536 = omega arith in
    let left : c.extend_from_slice.new.self.items ≡ c.args.self.now ++ take n buf = grind (arith, common_steps) in
    took_one n buf c.args.self.now c.extend_from_slice.new.self.items is (rw c.in-Ok-Some.field-0-is at c.in-Ok-Some.ensures) left

pub returns-in-Ok-Closed-clause-ok : goal.returns-in-Ok-Closed-clause-ok
returns-in-Ok-Closed-clause-ok g c =
    let is : length c.take.new.buf ≡ 65536 = omega arith in
    told_closed c.take.new.buf is (rw c.in-Ok-Closed.field-0-is at c.in-Ok-Closed.ensures)

pub returns-in-Ok-Silent-clause-ok : goal.returns-in-Ok-Silent-clause-ok
returns-in-Ok-Silent-clause-ok g c =
    let is : length c.take.new.buf ≡ 65536 = omega arith in
    told_silent c.take.new.buf is (rw c.in-Ok-Silent.field-0-is at c.in-Ok-Silent.ensures)

pub returns-in-Err-clause-err : goal.returns-in-Err-clause-err
returns-in-Err-clause-err g c = inl (wants_take _ _ c.in-Err.ensures)
