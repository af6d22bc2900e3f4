-- Both ways of links, link by link.
use Rattle.std.proofs.Common.{◌≡◌, ◌*◌, List, [], ◌∷◌, ◌++◌, length, refl, ◌∙◌, append_assoc, arith}
use Rattle.guard_rule.specs.declared.Link.{Link}
use Rattle.net_guard.specs.declared.hop.Hop.{Hop}
use Rattle.net_guard.specs.Links.{hops_of}

pub hops_of-more : (done : List Hop) (l : Link) (ls : List Link) → ((done ++ record { from = l.a; to = l.b } ∷ []) ++ record { from = l.b; to = l.a } ∷ []) ++ hops_of ls ≡ done ++ hops_of (l ∷ ls)
unfolding hops_of
hops_of-more done l ls = append_assoc (done ++ record { from = l.a; to = l.b } ∷ []) (record { from = l.b; to = l.a } ∷ []) (hops_of ls) ∙ append_assoc done (record { from = l.a; to = l.b } ∷ []) (record { from = l.b; to = l.a } ∷ hops_of ls)

pub length-hops_of : (ls : List Link) → length (hops_of ls) ≡ 2 * length ls
unfolding hops_of
length-hops_of [] = refl
length-hops_of (l ∷ ls) = omega (arith, length-hops_of ls)
