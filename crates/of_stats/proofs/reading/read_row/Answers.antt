use Rattle.std.proofs.Common.{◌≡◌, ℕ, List, drop, Ok, Err, refl, sym, ap, ◌∙◌}
use Rattle.std.proofs.lemmas.List.{take_rest}
use Rattle.of_action.specs.declared.action.Action.{Action}
use Rattle.of_action.specs.declared.fault.ActionFault.{ActionFault}
use Rattle.of_action.specs.Reading.{actions_of}
use Rattle.of_stats.specs.declared.fault.StatsFault.TheVariants.{Bad}
use Rattle.of_stats.specs.Reading.{row_with, row_of}
use Rattle.of_stats.proofs.reading.read_row.Goals as goal

of_actions : (place : ℕ) (bytes : List ℕ) (actions : List Action) → actions_of (drop 88 bytes) ≡ Ok actions → row_of place bytes ≡ Ok (row_with bytes actions)
unfolding row_of
of_actions place bytes actions is = rw is refl

of_fault : (place : ℕ) (bytes : List ℕ) (fault : ActionFault) → actions_of (drop 88 bytes) ≡ Err fault → row_of place bytes ≡ Err (Bad place)
unfolding row_of
of_fault place bytes fault is = rw is refl

pub returns-in-Ok : goal.returns-in-Ok
returns-in-Ok c =
    let bytes = c.args.bytes.now in
    rw c.row_with.ensures (of_actions c.args.place bytes c.in-Ok.actions (ap actions_of (sym (take_rest bytes 88)) ∙ c.in-Ok.ensures.exact))

pub returns-in-Err-Bad : goal.returns-in-Err-Bad
returns-in-Err-Bad c =
    let bytes = c.args.bytes.now in
    let given = rw c.in-Err-Bad.field-0-is at c.in-Err-Bad.ensures.exact in
    of_fault c.args.place bytes _ (ap actions_of (sym (take_rest bytes 88)) ∙ given)
