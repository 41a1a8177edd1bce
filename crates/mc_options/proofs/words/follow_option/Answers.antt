use Rattle.std.proofs.Common.{◌≡◌, ◌∙◌, rules}
use Rattle.clap.specs.declared.builder.value_parser.ValueParser.TheVariants.{Bool}
use Rattle.mc_options.proofs.words.follow_option.Goals as goal

pub returns-clause-rule : goal.returns-clause-rule
returns-clause-rule c =
    let given = c.value_parser-2.ensures.given in
    let parser_is : given.0 ≡ Bool = given.2 ∙ c.value_parser.ensures in
    search rules
