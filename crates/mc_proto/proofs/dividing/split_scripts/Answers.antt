use Rattle.std.proofs.Common.{◌∙◌, ap, subst, drop}
use Rattle.std.specs.List.{flat_map}
use Rattle.mc_proto.specs.{Scripts.IsLast, Uncut.PassesScript}
use Rattle.mc_proto.proofs.DividingLemmas.{cut_last, cut_on}
use Rattle.mc_proto.proofs.dividing.split_scripts.Goals as goal

pub returns : goal.returns
returns c =
    let at = c.loop-uncut in
    let last = subst (PassesScript c.args.limits c.pass_script.new.uncut) c.in_default.is c.in_ok-line.ensures.line in
    cut_last c.args.limits at.scripts.items c.push-2.new.self.items c.in_ok-take_all.field-0 (λ s. flat_map (λ p. p.items) s.items) (flat_map (λ p. p.items) c.args.input.items) at.uncut.coming at.invariant.cut
    (subst (IsLast c.args.limits) c.in_ok-line.ensures.stays last) (c.in_ok-take_all.ensures ∙ c.in_ok-line.ensures.stays) c.in_ok-push-2.ensures.items

pub loop-uncut-preserved : goal.loop-uncut-preserved
loop-uncut-preserved c =
    let at = c.loop-uncut in
    let cut = c.pass_script.new.uncut in
    let next = subst (PassesScript c.args.limits c.pass_script.new.uncut) c.in-Some.is c.in_ok-line.ensures.line in
    record {
      none = c.in_ok-take-2.ensures.none;
      cut = cut_on c.args.limits at.scripts.items c.push.new.self.items c.in_ok-take.field-0 (λ s. flat_map (λ p. p.items) s.items)
          (flat_map (λ p. p.items) c.args.input.items) at.uncut.coming cut.passed cut.coming c.take-in-Some.new.self.coming c.in-Some.line at.invariant.cut
          c.in_ok-line.ensures.stays next.2 next.3 (c.in_ok-take-2.ensures.coming ∙ c.in_ok-pass.ensures.coming
          ∙ ap (drop c.in-Some.line) c.in_ok-take.ensures.coming) c.in_ok-take.ensures.taken c.in_ok-push.ensures.items;
    }
