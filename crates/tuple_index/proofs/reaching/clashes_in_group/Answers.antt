use Rattle.std.proofs.Common.{◌≡◌, ◌∙◌, not, sym, ap, get_or, arith}
use Rattle.std.proofs.lemmas.Bool.{eq-eqb}
use Rattle.std.specs.Prelude.{nat_eq}
use Rattle.tuple_index.specs.Reach.{key_clashes}
use Rattle.tuple_index.specs.laws.ReachLaws.{part-decided, part-passed, clashes-none, word_at}
use Rattle.tuple_index.proofs.reaching.clashes_in_group.Goals as goal

pub returns-then-wildcards : goal.returns-then-wildcards
returns-then-wildcards c =
    part-decided (key_clashes c.args.key.now) c.args.keys.now c.args.from c.args.end c.clashes_one.result c.requires.from c.requires.end c.clashes_one.ensures

pub returns-else-wildcards : goal.returns-else-wildcards
returns-else-wildcards c =
    let same : c.wildcards.result ≡ c.wildcards-2.result = c.if-wildcards.false in
    part-passed (not (nat_eq c.wildcards.result c.wildcards-2.result)) _ _ (ap not (eq-eqb c.wildcards.result c.wildcards-2.result same)) (λ i k first last.
    clashes-none c.args.key.now (get_or c.args.keys.now i k)
    (c.requires.group i k first last ∙ word_at c.args.keys.now c.args.from k c.index-keys-from.result (omega (arith, c.requires.from, c.requires.end))
    ∙ sym c.wildcards.ensures ∙ same ∙ c.wildcards-2.ensures))
