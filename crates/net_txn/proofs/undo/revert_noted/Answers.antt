use Rattle.std.proofs.Common.{rules, arith, ◌≡◌, ◌+◌, ◌-◌, ℕ, [], List, length, take, drop, refl, sym, ap, ◌∙◌, subst}
use Rattle.std.proofs.lemmas.Grind.{common_steps}
use Rattle.std.proofs.lemmas.List.{take_rest, drop-drop}
use Rattle.net_txn.specs.declared.logged.Logged.{Logged}
use Rattle.net_txn.specs.Net.{NetState}
use Rattle.net_txn.specs.NetUndos.{NetFurther}
use Rattle.net_txn.specs.laws.FurtherLaws.{Further-alike, first_or_none}
use Rattle.net_txn.specs.laws.PartingLaws.{halt_plain, fault_plain, first_plain}
use Rattle.net_txn.specs.Parting.{IsPlainFault}
use Rattle.net_txn.proofs.undo.revert_noted.Goals as goal

-- what stands behind the first of the entries from a place on
rest : (at : ℕ) (log slice : List Logged) → slice ≡ log → drop (at + 1) log ≡ drop 1 (take (length slice - at) (drop at slice))
rest at log slice is = ap (λ (es : List Logged). drop (at + 1) es) (sym is) ∙ sym (drop-drop 1 at slice) ∙ ap (λ (es : List Logged). drop 1 es) (sym (take_rest slice at))

pub returns-in-Err-clause-undoing : goal.returns-in-Err-clause-undoing
returns-in-Err-clause-undoing g c = λ base first p x u.
    let s = c.net.inside in
    let before = subst (λ (n : NetState). NetFurther g.W.World.Tells base (g.W.World.seen c.args.world.now) first p x n [] (drop (c.args.at + 1) n.log) c.args.fault.now) (sym c.net.view_is) u in
    let heard : c.deref.result.now ≡ c.revert-reverted.new.buf = grind (arith, common_steps) in
    let later = c.in-Err.ensures.undoing base x first p s.ports c.args.fault.now c.index-log-0.result in
    Further-alike (search rules) (cc (c.note.ensures.ports, heard)) (grind (arith, common_steps)) (cc (c.note.ensures.fault, heard)) (later (Further-alike (search rules) refl (rest c.args.at s.log.items c.deref_mut.result.now c.deref_mut.ensures.value) refl before))

pub returns-in_default-clause-undoing : goal.returns-in_default-clause-undoing
returns-in_default-clause-undoing g c = λ base first p x u.
    let s = c.net.inside in
    let before = subst (λ (n : NetState). NetFurther g.W.World.Tells base (g.W.World.seen c.args.world.now) first p x n [] (drop (c.args.at + 1) n.log) c.args.fault.now) (sym c.net.view_is) u in
    let later = c.in_default.ensures.undoing base x first p s.ports c.args.fault.now c.index-log-0.result in
    Further-alike (search rules) refl (grind (arith, common_steps)) (first_or_none c.args.fault.now) (later (Further-alike (search rules) refl (rest c.args.at s.log.items c.deref_mut.result.now c.deref_mut.ensures.value) refl before))

pub returns-in-Err-clause-parted : goal.returns-in-Err-clause-parted
returns-in-Err-clause-parted g c = λ can old. subst IsPlainFault (sym c.note.ensures.fault) (first_plain _ _ old (fault_plain _ (halt_plain _ _ _ (c.in-Err.ensures.parted can))))
