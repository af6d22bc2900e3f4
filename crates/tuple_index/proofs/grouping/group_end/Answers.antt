use Rattle.std.proofs.Common.{◌≡◌, ◌≢◌, ℕ, ◌<◌, ◌+◌, ◌-◌, ◌/◌, length, get_or, sym, subst, ◌∙◌, arith}
use Rattle.tuple_index.specs.Groups.{wildcards}
use Rattle.tuple_index.specs.laws.OrderLaws.{group-between}
use Rattle.tuple_index.specs.laws.ReachLaws.{word_at}
use Rattle.tuple_index.proofs.grouping.group_end.Goals as goal

pub loop-low-preserved-then-wildcards-word : goal.loop-low-preserved-then-wildcards-word
loop-low-preserved-then-wildcards-word c =
    let ks = c.args.keys.now in
    let middle : ℕ = c.loop-low.low + (c.loop-low.high - c.loop-low.low) / 2 in
    let within : middle < length ks = omega arith in
    let word : wildcards (get_or ks middle c.index-keys-middle.result).matching ≡ wildcards (get_or ks c.args.from c.index-keys-from.result).matching = sym c.wildcards.ensures ∙ c.if-wildcards-word.true ∙ c.wildcards-word.ensures in
    record {
      behind = omega arith;
      before = omega arith;
      within = c.loop-low.invariant.within;
      group = λ i k first before. group-between ks c.args.from i middle k c.requires.in_order first (omega arith) within
          (word_at ks middle k c.index-keys-middle.result within ∙ word ∙ word_at ks c.args.from c.index-keys-from.result k c.requires.from);
      next = c.loop-low.invariant.next;
    }

pub loop-low-preserved : goal.loop-low-preserved
loop-low-preserved c =
    let ks = c.args.keys.now in
    let middle : ℕ = c.loop-low.low + (c.loop-low.high - c.loop-low.low) / 2 in
    let within : middle < length ks = omega arith in
    record {
      behind = c.loop-low.invariant.behind;
      before = omega arith;
      within = omega arith;
      group = c.loop-low.invariant.group;
      next = λ k inside is. c.if-wildcards-word.false (c.wildcards.ensures ∙ word_at ks middle c.index-keys-middle.result k within ∙ is ∙ word_at ks c.args.from k c.index-keys-from.result c.requires.from ∙ sym c.wildcards-word.ensures);
    }

pub returns-clause-next : goal.returns-clause-next
returns-clause-next c = λ k.
    let ks = c.args.keys.now in
    let same : c.loop-low.high ≡ c.loop-low.low = omega (arith, c.loop-low.invariant.before, c.loop-low-test.false) in
    subst (λ n. n < length ks → wildcards (get_or ks n k).matching ≢ wildcards (get_or ks c.args.from k).matching) same (c.loop-low.invariant.next k)
