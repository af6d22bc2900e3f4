use Rattle.command_words.proofs.Values.{value_read}
use Rattle.command_words.proofs.numbers.value_of.Goals as goal

pub returns : goal.returns
returns c = rw c.ok.ensures.value (value_read c.args.word.now c.parse.result c.parse.ensures.value.0 c.requires)
