use Rattle.std.proofs.Common.{◌≡◌, ◌∙◌, rules}
use Rattle.clap.specs.declared.builder.value_parser.ValueParser.TheVariants.{Unsigned}
use Rattle.mc_options.proofs.words.number_option.Goals as goal

pub returns-clause-rule : goal.returns-clause-rule
returns-clause-rule c =
    let given = c.value_parser-2.ensures.given in
    let parser_is : given.0 ≡ Unsigned 0 18446744073709551615 = given.2 ∙ c.value_parser.ensures in
    search rules
