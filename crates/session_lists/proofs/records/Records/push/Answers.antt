use Rattle.std.proofs.Common.{length, ap, ◌∙◌, ◌++◌, ◌∷◌, [], ◌+◌}
use Rattle.session_lists.specs.laws.RecordLaws.{records_pushed, cut_pushed}
use Rattle.session_lists.proofs.records.Records.push.Goals as goal

pub invariant_of-self-2 : goal.invariant_of-self-2
invariant_of-self-2 g c =
    let more = c.args.head.now ++ c.args.tail.now in
    cut_pushed c.self.inside.kinds.items _ c.self.inside.ends.items _ c.self.inside.bytes.items _ more c.args.kind c.in_ok-end.end c.self.invariant
    (c.push_reserved-2.ensures.items ∙ ap (λ rows. rows ++ c.args.kind ∷ []) c.reserve.ensures.items)
    (c.push_reserved.ensures.items ∙ ap (λ rows. rows ++ c.in_ok-end.end ∷ []) c.reserve-2.ensures.items)
    c.in_ok-extend.ensures.ok
    (c.in_ok-end.ensures ∙ ap (λ bytes. length bytes + length more) c.deref.ensures.value)

pub returns-clause-ok : goal.returns-clause-ok
returns-clause-ok g c =
    let more = c.args.head.now ++ c.args.tail.now in
    records_pushed c.self.inside.kinds.items _ c.self.inside.ends.items _ c.self.inside.bytes.items _ more c.args.kind c.in_ok-end.end c.self.invariant
    (c.push_reserved-2.ensures.items ∙ ap (λ rows. rows ++ c.args.kind ∷ []) c.reserve.ensures.items)
    (c.push_reserved.ensures.items ∙ ap (λ rows. rows ++ c.in_ok-end.end ∷ []) c.reserve-2.ensures.items)
    c.in_ok-extend.ensures.ok
    (c.in_ok-end.ensures ∙ ap (λ bytes. length bytes + length more) c.deref.ensures.value)
    ∙ ap (λ rows. rows ++ (c.args.kind, more) ∷ []) c.self.view_is
