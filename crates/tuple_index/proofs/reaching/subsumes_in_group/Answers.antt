use Rattle.std.proofs.Common.{◌∙◌, sym, get_or, arith}
use Rattle.match_overlap.specs.Relations.{is_subsuming}
use Rattle.tuple_index.specs.laws.ReachLaws.{part-decided, part-passed, subsumes-none, word_at}
use Rattle.tuple_index.proofs.reaching.subsumes_in_group.Goals as goal

pub returns-then-reaches : goal.returns-then-reaches
returns-then-reaches c =
    part-decided (λ k. is_subsuming c.args.m.now k.matching) c.args.keys.now c.args.from c.args.end c.subsumes_one.result c.requires.from c.requires.end c.subsumes_one.ensures

pub returns-else-reaches : goal.returns-else-reaches
returns-else-reaches c =
    part-passed c.reaches.result _ _ c.if-reaches.false (λ i k first last.
    subsumes-none c.args.m.now (get_or c.args.keys.now i k).matching (get_or c.args.keys.now c.args.from c.index-keys-from.result).matching (sym c.reaches.ensures ∙ c.if-reaches.false)
    (c.requires.group i k first last ∙ word_at c.args.keys.now c.args.from k c.index-keys-from.result (omega (arith, c.requires.from, c.requires.end))))
