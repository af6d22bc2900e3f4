use Rattle.std.proofs.Common.{ap, ◌∙◌, ◌++◌, List, ℕ, drop, arith}
use Rattle.std.proofs.lemmas.List.{take_all, length-drop}
use Rattle.net_txn.proofs.leaving.push_port.Goals as goal

pub returns : goal.returns
returns c =
    let status = c.described-status.result in
    c.in_ok-extend_from_slice.ensures.items
    ∙ ap (λ (b : List ℕ). c.args.bytes.now.items ++ b) (take_all 48 (drop 16 status) (omega (arith, length-drop 16 status, c.described-status.ensures.length)) ∙ c.described-status.ensures.text)
