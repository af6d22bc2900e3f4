use Rattle.std.proofs.Common.{◌≤◌, map, length, arith, string_bytes}
use Rattle.std.proofs.lemmas.List.{length-map}
use Rattle.clap.specs.Lexer.{usize_max}
use Rattle.command_words.proofs.PlainMatches.{plain_returned, option_returned, texts_of}
use Rattle.command_words.proofs.plain.parse.Goals as goal

pub returns-clause-plain : goal.returns-clause-plain
returns-clause-plain c =
    let call = c.try_get_matches_from in
    plain_returned call.result _ (map string_bytes c.args.words.now) c.requires (texts_of c.args.words.now) call.ensures.matches call.ensures.kinds

pub returns-clause-option : goal.returns-clause-option
returns-clause-option c =
    let call = c.try_get_matches_from in
    let few : length (map string_bytes c.args.words.now) ≤ usize_max = omega (arith, length-map c.args.words.now string_bytes) in
    option_returned call.result _ (map string_bytes c.args.words.now) c.requires few call.ensures.kinds
