use Rattle.std.proofs.Common.{◌≡◌, ◌∙◌, ap, codes, rules, subst, subst₂}
use Rattle.std.specs.Prelude.{Err}
use Rattle.mc_options.specs.Asked.{AreMomentsNamed, AreNamed, IsBadList}
use Rattle.mc_options.specs.declared.words.WordsFault.TheVariants as words_faults
use Rattle.mc_options.proofs.OptionLemmas.{first_text_is}
use Rattle.mc_options.proofs.ReadingLemmas.{copied, err_is, from_configuration, from_list, given_by, refused_by, taken_by}
use Rattle.mc_options.proofs.words.read_words.Goals as goal

pub returns-in_err-matches-clause-words : goal.returns-in_err-matches-clause-words
returns-in_err-matches-clause-words c = λ error is.
    let same : words_faults.Words error ≡ words_faults.Words c.in_err-matches.field-0.0 = err_is _ _ _ c.from_residual-in_err-matches.ensures.1 is in
    let same_error : error ≡ c.in_err-matches.field-0.0 = cc in
    rw same_error (refused_by _ _ c.in_err-matches.field-0.0 c.in_ok-command_of.ensures c.in_err-matches.ensures.kinds)

pub returns-in_err-plan_for-clause-list : goal.returns-in_err-plan_for-clause-list
returns-in_err-plan_for-clause-list c = λ is.
    let sizes =
    copied c.get_str.result c.map-sizes.result _ c.map-sizes.ensures.cases (λ t b is. search rules) ∙ c.get_str.ensures
    ∙ first_text_is (codes "sizes") _ _ c.in_ok-matches.matches c.in_ok-command_of.ensures c.in_ok-matches.ensures.matches in
    let upkeep =
    copied c.get_str-2.result c.map-upkeep.result _ c.map-upkeep.ensures.cases (λ t b is. search rules) ∙ c.get_str-2.ensures
    ∙ first_text_is (codes "upkeep") _ _ c.in_ok-matches.matches c.in_ok-command_of.ensures c.in_ok-matches.ensures.matches in
    let fault = from_list c.in_err-plan_for.field-0.0 (err_is _ _ _ c.from_residual-in_err-plan_for.ensures.1 is) in
    (taken_by _ _ c.in_ok-command_of.ensures c.in_ok-matches.ensures.kinds, subst₂ IsBadList sizes upkeep (c.in_err-plan_for.ensures.list (ap Err fault)))

pub returns-in_err-plan_for-clause-configuration : goal.returns-in_err-plan_for-clause-configuration
returns-in_err-plan_for-clause-configuration c = λ n is.
    let sizes =
    copied c.get_str.result c.map-sizes.result _ c.map-sizes.ensures.cases (λ t b is. search rules) ∙ c.get_str.ensures
    ∙ first_text_is (codes "sizes") _ _ c.in_ok-matches.matches c.in_ok-command_of.ensures c.in_ok-matches.ensures.matches in
    let upkeep =
    copied c.get_str-2.result c.map-upkeep.result _ c.map-upkeep.ensures.cases (λ t b is. search rules) ∙ c.get_str-2.ensures
    ∙ first_text_is (codes "upkeep") _ _ c.in_ok-matches.matches c.in_ok-command_of.ensures c.in_ok-matches.ensures.matches in
    let options = given_by _ _ c.in_ok-matches.matches c.options_of-options.result c.in_ok-command_of.ensures c.in_ok-matches.ensures.parsed c.in_ok-matches.ensures.matches c.options_of-options.ensures in
    let fault = from_configuration c.in_err-plan_for.field-0.0 n (err_is _ _ _ c.from_residual-in_err-plan_for.ensures.1 is) in
    let got = c.in_err-plan_for.ensures.configuration n (ap Err fault) in (
      taken_by _ _ c.in_ok-command_of.ensures c.in_ok-matches.ensures.kinds,
      (
        got.0,
        got.1,
        c.options_of-options.result,
        record {
          sized = subst (λ t. AreNamed t got.0) sizes got.2;
          moments = subst (λ t. AreMomentsNamed t got.1) upkeep got.3;
          given = options;
        },
        got.4,
      ),
    )

pub returns-clause-taken : goal.returns-clause-taken
returns-clause-taken c = taken_by _ _ c.in_ok-command_of.ensures c.in_ok-matches.ensures.kinds

pub returns-clause-asked : goal.returns-clause-asked
returns-clause-asked c =
    let sizes =
    copied c.get_str.result c.map-sizes.result _ c.map-sizes.ensures.cases (λ t b is. search rules) ∙ c.get_str.ensures
    ∙ first_text_is (codes "sizes") _ _ c.in_ok-matches.matches c.in_ok-command_of.ensures c.in_ok-matches.ensures.matches in
    let upkeep =
    copied c.get_str-2.result c.map-upkeep.result _ c.map-upkeep.ensures.cases (λ t b is. search rules) ∙ c.get_str-2.ensures
    ∙ first_text_is (codes "upkeep") _ _ c.in_ok-matches.matches c.in_ok-command_of.ensures c.in_ok-matches.ensures.matches in
    let options = given_by _ _ c.in_ok-matches.matches c.options_of-options.result c.in_ok-command_of.ensures c.in_ok-matches.ensures.parsed c.in_ok-matches.ensures.matches c.options_of-options.ensures in
    let got = c.in_ok-plan_for.ensures.ok in (
      got.0,
      c.options_of-options.result,
      record {
        sized = subst (λ t. AreNamed t got.0) sizes got.1;
        moments = subst (λ t. AreMomentsNamed t c.in_ok-plan_for.field-0.upkeep) upkeep got.4;
        given = options;
      },
      got.2,
      got.5,
    )
