use Rattle.std.proofs.Common.{◌∙◌}
use Rattle.tuple_index.specs.Reach.{key_clashes}
use Rattle.tuple_index.specs.laws.ReachLaws.{any-keys}
use Rattle.tuple_index.proofs.describing.has_overlap.Goals as goal

pub returns : goal.returns
returns c = c.clashes_some.ensures ∙ any-keys (key_clashes c.args.key.now) c.args.index.now c.args.entries.now c.requires
