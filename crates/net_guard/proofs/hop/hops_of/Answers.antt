use Rattle.std.proofs.Common.{◌+◌, ◌++◌, [], ◌∷◌, List, drop, get_or, ap, sym, ◌∙◌, append-nil}
use Rattle.std.proofs.lemmas.List.{at_drop_more, at_drop_all}
use Rattle.guard_rule.specs.declared.Link.{Link}
use Rattle.net_guard.specs.declared.hop.Hop.{Hop}
use Rattle.net_guard.specs.Links.{hops_of}
use Rattle.net_guard.proofs.Hops.{hops_of-more}
use Rattle.net_guard.proofs.hop.hops_of.Goals as goal

pub loop-link-init : goal.loop-link-init
loop-link-init c = ap (λ (hops : List Hop). hops ++ hops_of c.args.links.now) c.new-hops.ensures.items

pub loop-link-preserved : goal.loop-link-preserved
loop-link-preserved c =
    let xs = c.args.links.now in
    let i = c.loop-link.link-index in
    let l : Link = get_or xs i (record { a = (0, 0); b = (0, 0) }) in
    let rest = hops_of (drop (i + 1) xs) in
    let done = c.loop-link.hops.items in
    ap (λ (hops : List Hop). hops ++ rest) (c.in_ok-push-2.ensures.items ∙ ap (λ (hops : List Hop). hops ++ record { from = l.b; to = l.a } ∷ []) c.in_ok-push.ensures.items)
    ∙ hops_of-more done l (drop (i + 1) xs)
    ∙ sym (at_drop_more (λ ls. done ++ hops_of ls) xs i (record { a = (0, 0); b = (0, 0) }) c.loop-link-test.true)
    ∙ c.loop-link.invariant

pub returns : goal.returns
unfolding hops_of
returns c = sym (append-nil c.loop-link.hops.items) ∙ sym (at_drop_all (λ ls. c.loop-link.hops.items ++ hops_of ls) c.args.links.now c.loop-link.link-index c.loop-link-test.false) ∙ c.loop-link.invariant
