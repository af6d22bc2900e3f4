use Rattle.std.proofs.Common.{ℕ, List, Result, Err, inl, ap, subst, ◌∙◌}
use Rattle.of_stats.specs.declared.fault.StatsFault.{StatsFault}
use Rattle.of_stats.specs.Parts.{IsFirstBad}
use Rattle.lego_model.specs.FlowQueries.{all_parts}
use Rattle.net_txn.specs.laws.AskLaws.{within_messages, broken_at}
use Rattle.net_txn.proofs.replies.read_parts.Goals as goal

abbrev failed : StatsFault → Result (List ℕ) StatsFault
failed fault = Err fault

pub broke-requires : goal.broke-requires
broke-requires c =
    let same = c.deref-2.ensures.value ∙ c.in_ok-parts.ensures ∙ ap all_parts c.deref.ensures.value in
    let bad = subst (IsFirstBad c.in-Err-Bad.place) same ((c.in-Err-Bad.ensures.bad c.in-Err-Bad.place).0 (ap failed c.in-Err-Bad.field-0-is)) in
    rw c.in-Err-Bad.place-is (within_messages c.in-Err-Bad.place c.args.messages.items c.requires.some bad)

pub returns-in-Err-Bad : goal.returns-in-Err-Bad
returns-in-Err-Bad c =
    let same = c.deref-2.ensures.value ∙ c.in_ok-parts.ensures ∙ ap all_parts c.deref.ensures.value in
    let bad = subst (IsFirstBad c.in-Err-Bad.place) same ((c.in-Err-Bad.ensures.bad c.in-Err-Bad.place).0 (ap failed c.in-Err-Bad.field-0-is)) in
    let within = within_messages c.in-Err-Bad.place c.args.messages.items c.requires.some bad in
    rw (c.broke.ensures, c.in-Err-Bad.place-is) (broken_at 1 c.args.dpid c.in-Err-Bad.place c.args.messages.items within (inl bad))
