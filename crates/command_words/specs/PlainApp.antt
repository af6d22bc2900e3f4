-- The command line as `clap` holds it: one argument that takes any number of words, and no options.
use Rattle.std.specs.Prelude.{Some, true, codes}
use Rattle.clap.specs.Lexer.{usize_max}
use Rattle.clap.specs.Walk.{Rule}
use Rattle.clap.specs.Simple.{App, new_app, new_rule, on_top, with_rule}
use Rattle.clap.specs.declared.builder.action.ArgAction.TheVariants.{Append}

abbrev pub all_words : Rule
all_words = record (new_rule (codes "words")) {
  action = Some Append;
  range = Some (record { start_inclusive = 0; end_inclusive = usize_max });
}

abbrev pub plain_app : App
plain_app =
    with_rule (on_top (λ s. record s { no_binary_name = true; disable_help_flag = true }) (new_app (codes "legosdn"))) all_words
