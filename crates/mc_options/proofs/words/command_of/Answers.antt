use Rattle.std.proofs.Common.{◌≡◌, ◌∙◌, ap, ap₂, codes, rules}
use Rattle.std.proofs.lemmas.Result.{IfOk-weaker}
use Rattle.std.specs.Prelude.{true, []}
use Rattle.clap.specs.Simple.{app_of_fields}
use Rattle.clap.specs.Words.{App, app_of, new_app, with_rule}
use Rattle.mc_options.specs.Words.{mcseg}
use Rattle.mc_options.proofs.words.command_of.Goals as goal

abbrev bare : App
bare = record { top = record (new_app (codes "mcseg")).top { has_version = true }; subs = [] }

pub returns : goal.returns
unfolding mcseg
returns c =
    let bare_is : app_of c.after_help.result ≡ bare =
    ap app_of_fields c.after_help.ensures ∙ ap app_of_fields c.about.ensures ∙ ap app_of_fields c.version.ensures
    ∙ ap (λ (a : App). record { top = record a.top { has_version = true }; subs = a.subs }) c.new.ensures.app in
    IfOk-weaker c.arg-8.result _ _
    (λ r h. h.shape (search rules) ∙ ap₂ with_rule (
    c.in_ok-arg-7.ensures.shape (search rules) ∙ ap₂ with_rule (
    c.in_ok-arg-6.ensures.shape (search rules) ∙ ap₂ with_rule (
    c.in_ok-arg-5.ensures.shape (search rules) ∙ ap₂ with_rule (
    c.in_ok-arg-4.ensures.shape (search rules) ∙ ap₂ with_rule (
    c.in_ok-arg-3.ensures.shape (search rules) ∙ ap₂ with_rule (
    c.in_ok-arg-2.ensures.shape (search rules) ∙ ap₂ with_rule (
    c.in_ok-arg.ensures.shape (search rules) ∙ ap₂ with_rule bare_is c.stripes_option.ensures.rule)
    c.sizes_option.ensures.rule)
    c.number_option.ensures.rule) c.temp_option.ensures.rule) c.number_option-2.ensures.rule) c.number_option-3.ensures.rule) c.upkeep_option.ensures.rule) c.follow_option.ensures.rule) c.arg-8.ensures
