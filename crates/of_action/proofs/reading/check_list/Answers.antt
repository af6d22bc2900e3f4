use Rattle.std.proofs.Common.{◌≡◌, ◌+◌, ◌≤◌, [], ◌∷◌, ◌++◌, Ok, Err, length, drop, take, sym, ap, ◌∙◌, arith}
use Rattle.std.proofs.lemmas.List.{take_rest, length-drop}
use Rattle.of_types.specs.Fields.{number_at}
use Rattle.of_action.specs.Reading.{length_at, action_of, actions_of}
use Rattle.of_action.specs.laws.ReadingLaws.{IsLength-length_at}
use Rattle.of_action.proofs.Loop.{begins, goes_on, ends, is_done, action_at-length, action_at-fault, tells_done}
use Rattle.of_action.proofs.reading.check_list.Goals as goal

pub loop-place-init : goal.loop-place-init
loop-place-init c = (omega arith, ([], begins c.args.bytes.now))

pub returns-in-Err : goal.returns-in-Err
returns-in-Err c =
    let rest = drop c.loop-place.place c.args.bytes.now in
    let found : length_at rest ≡ Err c.in-Err.kind = ap length_at (sym (take_rest c.args.bytes.now c.loop-place.place)) ∙ sym c.in-Err.ensures.exact in
    ends c.loop-place.invariant.1.0 c.loop-place.place c.args.bytes.now _ (actions_of c.args.bytes.now) c.loop-place-test.true (action_at-fault c.loop-place.place rest c.in-Err.kind found) c.loop-place.invariant.1.1

pub loop-place-preserved : goal.loop-place-preserved
loop-place-preserved c =
    let place = c.loop-place.place in
    let bytes = c.args.bytes.now in
    let rest = drop place bytes in
    let found : length_at rest ≡ Ok c.in-Ok.len = ap length_at (sym (take_rest bytes place)) ∙ sym c.in-Ok.ensures.exact in
    let fits = IsLength-length_at rest c.in-Ok.len found in
    let action = action_of (number_at 2 0 rest) (take c.in-Ok.len rest) in
    let within : place + c.in-Ok.len ≤ length bytes = omega (arith, fits.within, length-drop place bytes, c.loop-place-test.true) in
    (within, (c.loop-place.invariant.1.0 ++ action ∷ [], goes_on c.loop-place.invariant.1.0 place c.in-Ok.len bytes action (actions_of bytes) c.loop-place-test.true (action_at-length place c.in-Ok.len rest found) c.loop-place.invariant.1.1))

pub returns : goal.returns
returns c = tells_done (actions_of c.args.bytes.now) c.loop-place.invariant.1.0 (is_done c.loop-place.invariant.1.0 c.loop-place.place c.args.bytes.now (actions_of c.args.bytes.now) c.loop-place-test.false c.loop-place.invariant.1.1)
