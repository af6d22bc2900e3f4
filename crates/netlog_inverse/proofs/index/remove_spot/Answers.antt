use Rattle.std.proofs.Common.{◌≡◌, ℕ, List, Ok, sym, ◌∙◌, subst, length, true, ap, arith}
use Rattle.std.specs.Option.{is_some}
use Rattle.flow_table.specs.Sorted.{Ascends, at_place, IsFoundAt}
use Rattle.flow_table.specs.laws.SortedLaws.{without_place-found}
use Rattle.netlog_inverse.specs.declared.index.Spot.{Spot}
use Rattle.netlog_inverse.specs.Index.{rank, rank_of, IsBound}
use Rattle.netlog_inverse.specs.laws.IndexLaws.{found-at-bound}
use Rattle.netlog_inverse.proofs.index.remove_spot.Goals as goal

found : (n : ℕ) (index seen : List Spot) (i : ℕ) → seen ≡ index → Ascends rank 0 index → IsBound n seen i → is_some (at_place rank n index) ≡ true → IsFoundAt rank n index (Ok i)
found n index seen i same h bound there = found-at-bound index n i h (subst (λ (xs : List Spot). IsBound n xs i) same bound) there

pub remove-requires : goal.remove-requires
remove-requires c =
    let at = found (rank_of c.args.dpid c.args.key.now c.args.at) c.args.index.now.items c.deref.result.now c.bound-place.result c.deref.ensures.value c.requires.in_order c.bound-place.ensures c.requires.there in
    omega (arith, at.0, ap length c.deref.ensures.value, c.deref.ensures.len)

pub returns-clause-items : goal.returns-clause-items
returns-clause-items c =
    c.remove.ensures.items
    ∙ sym (without_place-found rank c.args.index.now.items (rank_of c.args.dpid c.args.key.now c.args.at) 0 c.bound-place.result c.requires.in_order
    (found (rank_of c.args.dpid c.args.key.now c.args.at) c.args.index.now.items c.deref.result.now c.bound-place.result c.deref.ensures.value c.requires.in_order c.bound-place.ensures c.requires.there))
