use Rattle.std.proofs.Common.{ap, ◌∙◌, ℕ, false}
use Rattle.std.specs.Option.{option_map}
use Rattle.mc_item.specs.declared.config.Config.{Config}
use Rattle.mc_options.specs.Asked.{asked, with_chunks, with_events, with_sizes, with_stripes, with_temp_ttl}
use Rattle.mc_options.proofs.PlanLemmas.{ends_given, stripes_given}
use Rattle.mc_options.proofs.plans.config_of.Goals as goal

pub returns : goal.returns
unfolding asked
returns c =
    let o = c.args.options in
    let sized = c.in_ok-sized.ensures ∙ ap (with_sizes (option_map (λ v. v.items) c.args.sizes)) c.in_ok-usual.ensures in
    let striped = ap (λ (n : ℕ). record c.in_ok-sized.sized { stripes = n }) c.unwrap_or.ensures ∙ stripes_given o.stripes c.in_ok-sized.sized ∙ ap (with_stripes c.args.options.stripes) sized in
    let chunked = c.in_ok-config.ensures ∙ ap (with_chunks c.args.options.chunks) striped in
    rw (c.unwrap_or-2.ensures, c.unwrap_or-3.ensures)
    (ends_given o.temp_ttl o.events o.temp c.in_ok-config.config
    ∙ ap (λ (config : Config). with_events c.args.options.events (with_temp_ttl c.args.options.temp_ttl (record config { temp = c.args.options.temp; keeps_events = false }))) chunked)
