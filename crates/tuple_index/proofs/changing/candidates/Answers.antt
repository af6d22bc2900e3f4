use Rattle.std.proofs.Common.{◌≡◌, ◌+◌, ◌-◌, true, Ok, Err, refl, sym, arith, subst}
use Rattle.of_match.specs.declared.key.Key.{Key}
use Rattle.of_match.specs.Key.{key_number}
use Rattle.flow_table.specs.Table.{IsPlaceOf}
use Rattle.flow_table.specs.laws.TableLaws.{NonePass-absent, filter-found, filter-none}
use Rattle.flow_table.specs.Change.{key_in, is_strict, tells}
use Rattle.flow_table.specs.laws.ChangeLaws.{IsOnlyAt-tells}
use Rattle.tuple_index.proofs.changing.candidates.Goals as goal

pub returns-in-Ok : goal.returns-in-Ok
returns-in-Ok c =
    let strict : is_strict c.args.m.now ≡ true = rw c.if-m-ne-DELETE_STRICT.false refl in
    let at = subst (λ (k : Key). IsPlaceOf (key_number k) c.args.entries.now (Ok c.in-Ok.at)) c.key_of.ensures c.in-Ok.ensures in
    let one : c.in-Ok.at + 1 - c.in-Ok.at ≡ 1 = omega arith in
    record { kept = rw one (filter-found (tells c.args.m.now) (key_number (key_in c.args.m.now)) c.args.entries.now 0 c.in-Ok.at (IsOnlyAt-tells c.args.m.now strict) c.requires at.0 at.1) }

pub returns-in-Err : goal.returns-in-Err
returns-in-Err c =
    let strict : is_strict c.args.m.now ≡ true = rw c.if-m-ne-DELETE_STRICT.false refl in
    let at = subst (λ (k : Key). IsPlaceOf (key_number k) c.args.entries.now (Err c.in-Err.field-0)) c.key_of.ensures c.in-Err.ensures in
    record { kept = sym (filter-none (tells c.args.m.now) c.args.entries.now (NonePass-absent (tells c.args.m.now) c.args.entries.now (key_in c.args.m.now) c.in-Err.field-0 (IsOnlyAt-tells c.args.m.now strict) at.1)) }
