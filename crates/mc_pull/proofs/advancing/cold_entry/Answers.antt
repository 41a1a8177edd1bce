use Rattle.std.proofs.Common.{◌≢◌, ◌∙◌, Some, ap, sym}
use Rattle.mc_item.specs.declared.{lists.Seg.Seg, lists.Seg.TheVariants.Hot, lists.Seg.TheVariants.Warm, lists.Seg.TheVariants.Cold}
use Rattle.mc_rule.specs.Lists.{lists_of}
use Rattle.mc_pull.proofs.AdvanceLemmas.{not_in_cold}
use Rattle.mc_pull.proofs.advancing.cold_entry.Goals as goal

hot_cold : Hot ≢ Cold
hot_cold h = cc

warm_cold : Warm ≢ Cold
warm_cold h = cc

pub returns-in-Hot-clause-entry : goal.returns-in-Hot-clause-entry
returns-in-Hot-clause-entry c =
    not_in_cold (lists_of c.args.class.now.history) c.args.number Hot hot_cold
    (sym c.segment_of.ensures ∙ (c.in_ok-seg.was ∙ ap (λ (s : Seg). Some s) c.in-Hot.is)) (c.law.ensures.lists Cold c.args.number)

pub returns-in-Warm-clause-entry : goal.returns-in-Warm-clause-entry
returns-in-Warm-clause-entry c =
    not_in_cold (lists_of c.args.class.now.history) c.args.number Warm warm_cold
    (sym c.segment_of.ensures ∙ (c.in_ok-seg.was ∙ ap (λ (s : Seg). Some s) c.in-Warm.is)) (c.law.ensures.lists Cold c.args.number)
