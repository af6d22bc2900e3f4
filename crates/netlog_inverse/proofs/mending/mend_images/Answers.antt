use Rattle.std.proofs.Common.{rules, ◌≡◌, ◌^◌, ◌<◌, ℕ, Option, List, length, sym, subst, ap, ◌∙◌, vec_len, arith}
use Rattle.netlog_inverse.specs.declared.image.Logged.{Logged}
use Rattle.netlog_inverse.specs.Index.{IsIndex}
use Rattle.netlog_inverse.specs.Mending.{set_right, set_standing}
use Rattle.netlog_inverse.specs.Next.{IsFirstFrom}
use Rattle.netlog_inverse.specs.laws.ChangedLaws.{length-changed_at}
use Rattle.netlog_inverse.specs.laws.MendKeyLaws.{map_first-zero, mend-more, mend-all, first-within, index-set}
use Rattle.netlog_inverse.proofs.mending.mend_images.Goals as goal

pub loop-at-init : goal.loop-at-init
loop-at-init c = record {
  items = sym (map_first-zero (set_right c.args.dpid c.args.key.now c.args.lost) c.args.logged.now.items);
  room = search rules;
  index = c.requires.index;
}

pub mend_standing_in-requires : goal.mend_standing_in-requires
mend_standing_in-requires c =
    let small : length c.loop-at.logged.items < 2 ^ 64 = first_of (omega arith, search rules) in
    first-within c.args.dpid c.args.key.now c.loop-at.from c.in-Some.at c.loop-at.logged.items
    (subst (λ (o : Option ℕ). IsFirstFrom c.args.dpid c.args.key.now c.loop-at.from c.loop-at.logged.items o) c.in-Some.is (c.first_from.ensures c.loop-at.logged.items c.loop-at.invariant.index small))

pub overflow_add-from : goal.overflow_add-from
overflow_add-from c =
    let small : length c.loop-at.logged.items < 2 ^ 64 = first_of (omega arith, search rules) in
    let within : c.in-Some.at < length c.loop-at.logged.items = first-within c.args.dpid c.args.key.now c.loop-at.from c.in-Some.at c.loop-at.logged.items
    (subst (λ (o : Option ℕ). IsFirstFrom c.args.dpid c.args.key.now c.loop-at.from c.loop-at.logged.items o) c.in-Some.is (c.first_from.ensures c.loop-at.logged.items c.loop-at.invariant.index small)) in
    first_of (omega arith, search rules)

pub loop-at-smaller : goal.loop-at-smaller
loop-at-smaller c =
    let small : length c.loop-at.logged.items < 2 ^ 64 = first_of (omega arith, search rules) in
    let first = subst (λ (o : Option ℕ). IsFirstFrom c.args.dpid c.args.key.now c.loop-at.from c.loop-at.logged.items o) c.in-Some.is (c.first_from.ensures c.loop-at.logged.items c.loop-at.invariant.index small) in
    let within : c.in-Some.at < length c.loop-at.logged.items = first-within c.args.dpid c.args.key.now c.loop-at.from c.in-Some.at c.loop-at.logged.items first in
    let before : vec_len c.loop-at.logged ≡ length c.loop-at.logged.items = search rules in
    let after : vec_len c.mend_standing_in.new.logged ≡ length c.mend_standing_in.new.logged.items = search rules in
    let long : length c.mend_standing_in.new.logged.items ≡ length c.loop-at.logged.items = ap length c.mend_standing_in.ensures.items ∙ length-changed_at c.in-Some.at (set_standing c.args.lost) c.loop-at.logged.items in
    omega (arith, first.0)

pub loop-at-preserved : goal.loop-at-preserved
loop-at-preserved c =
    let small : length c.loop-at.logged.items < 2 ^ 64 = first_of (omega arith, search rules) in
    let first = subst (λ (o : Option ℕ). IsFirstFrom c.args.dpid c.args.key.now c.loop-at.from c.loop-at.logged.items o) c.in-Some.is (c.first_from.ensures c.loop-at.logged.items c.loop-at.invariant.index small) in
    record {
      items = c.mend_standing_in.ensures.items ∙ mend-more c.args.dpid c.args.key.now c.args.lost c.loop-at.from c.in-Some.at c.args.logged.now.items c.loop-at.logged.items c.loop-at.invariant.items first;
      room = c.mend_standing_in.ensures.room ∙ c.loop-at.invariant.room;
      index = subst (λ (log : List Logged). IsIndex log c.args.index.now) (sym c.mend_standing_in.ensures.items) (index-set c.in-Some.at c.args.lost c.loop-at.logged.items c.args.index.now c.loop-at.invariant.index);
    }

pub returns-clause-items : goal.returns-clause-items
returns-clause-items c =
    let small : length c.loop-at.logged.items < 2 ^ 64 = first_of (omega arith, search rules) in
    mend-all c.args.dpid c.args.key.now c.args.lost c.loop-at.from c.args.logged.now.items c.loop-at.logged.items c.loop-at.invariant.items
    (subst (λ (o : Option ℕ). IsFirstFrom c.args.dpid c.args.key.now c.loop-at.from c.loop-at.logged.items o) c.in_default.is (c.first_from.ensures c.loop-at.logged.items c.loop-at.invariant.index small))
