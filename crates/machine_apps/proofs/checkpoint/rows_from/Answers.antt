use Rattle.std.proofs.Common.{◌≡◌, ◌*◌, ◌++◌, ◌∷◌, [], drop, ap, ◌∙◌}
use Rattle.std.proofs.lemmas.List.{take_rest}
use Rattle.machine_apps.specs.Checkpoint.{rows_in}
use Rattle.machine_apps.proofs.Rows.{row_of, rows_go_on}
use Rattle.machine_apps.proofs.checkpoint.rows_from.Goals as goal

pub loop-i-preserved : goal.loop-i-preserved
loop-i-preserved c =
    let place = 16 * c.loop-i.i in
    let row : c.row_of.result ≡ row_of (drop place c.args.bytes.now) = c.row_of.ensures ∙ ap row_of (take_rest c.args.bytes.now place) in
    let items : c.push.new.self.items ≡ c.loop-i.rows.items ++ row_of (drop place c.args.bytes.now) ∷ [] = c.in_ok-push.ensures.items ∙ ap (λ r. c.loop-i.rows.items ++ r ∷ []) row in
    rw items (rows_go_on c.loop-i.rows.items c.args.count c.loop-i.i c.args.bytes.now (rows_in c.args.count c.args.bytes.now) c.loop-i-test.true c.loop-i.invariant)
