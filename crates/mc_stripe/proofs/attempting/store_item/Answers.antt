use Rattle.std.proofs.Common.{rules, ◌≡◌, ◌∙◌, ap, subst, sym, true}
use Rattle.std.specs.Prelude.{IfErr, IfOk, nat_eq}
use Rattle.std.specs.{Cmp.Lexicographic.pointwise, HashMap.get}
use Rattle.mc_item.specs.{Answer.Row, Measure.class_of, Measure.cost_of}
use Rattle.mc_stripe.specs.{Joining.content_of, Trying.IsLeft, Trying.MakesRow}
use Rattle.mc_stripe.proofs.JoinLemmas.{fits_row, joins_row}
use Rattle.mc_stripe.proofs.attempting.store_item.Goals as goal

pub returns-in-Some-clause-made : goal.returns-in-Some-clause-made
returns-in-Some-clause-made c =
    let own = content_of c.args.content.now.flags c.args.content.now.value.now c.args.content.now.expiry in
    let items = get (pointwise nat_eq) c.args.items.now in
    let row_is = joins_row c.args.trial.site.now c.args.trial.versions c.args.key.now own c.args.verb (items c.args.key.now) c.in-Some.side (sym c.in-Some.ensures) in
    let made = λ (r : Row). IfOk c.join_item.result (λ t. IfOk t (MakesRow true c.args.trial.given.now items (get (pointwise nat_eq) c.join_item.new.items) c.args.key.now r c.args.trial.moment)) in
    subst made (sym row_is) c.join_item.ensures.made

pub returns-in-Some-clause-wants : goal.returns-in-Some-clause-wants
returns-in-Some-clause-wants c =
    let own = content_of c.args.content.now.flags c.args.content.now.value.now c.args.content.now.expiry in
    let items = get (pointwise nat_eq) c.args.items.now in
    let row_is = joins_row c.args.trial.site.now c.args.trial.versions c.args.key.now own c.args.verb (items c.args.key.now) c.in-Some.side (sym c.in-Some.ensures) in
    let left = λ (r : Row). IfOk c.join_item.result (λ t. IfErr t (IsLeft c.args.trial.given.now items (get (pointwise nat_eq) c.join_item.new.items) c.args.key.now c.args.trial.moment r)) in
    subst left (sym row_is) c.join_item.ensures.wants

pub returns-in-Some-class_of-clause-made : goal.returns-in-Some-class_of-clause-made
returns-in-Some-class_of-clause-made c =
    let own = content_of c.args.content.now.flags c.args.content.now.value.now c.args.content.now.expiry in
    let items = get (pointwise nat_eq) c.args.items.now in
    let cost_is : c.cost-cost.result ≡ cost_of c.args.key.now own.value = search rules in
    let class_is = c.in-Some-class_of.ensures.value ∙ ap (class_of c.args.trial.site.now.sizes) cost_is in
    let row_is = fits_row c.args.trial.site.now c.args.trial.versions c.args.key.now own c.args.verb (items c.args.key.now) c.in-Some-class_of.class (sym c.in-None.ensures) (sym class_is) in
    let made = λ (r : Row). IfOk c.put_item.result (λ t. IfOk t (MakesRow true c.args.trial.given.now items (get (pointwise nat_eq) c.put_item.new.items) c.args.key.now r c.args.trial.moment)) in
    subst made (sym row_is) c.put_item.ensures.made

pub returns-in-Some-class_of-clause-wants : goal.returns-in-Some-class_of-clause-wants
returns-in-Some-class_of-clause-wants c =
    let own = content_of c.args.content.now.flags c.args.content.now.value.now c.args.content.now.expiry in
    let items = get (pointwise nat_eq) c.args.items.now in
    let cost_is : c.cost-cost.result ≡ cost_of c.args.key.now own.value = search rules in
    let class_is = c.in-Some-class_of.ensures.value ∙ ap (class_of c.args.trial.site.now.sizes) cost_is in
    let row_is = fits_row c.args.trial.site.now c.args.trial.versions c.args.key.now own c.args.verb (items c.args.key.now) c.in-Some-class_of.class (sym c.in-None.ensures) (sym class_is) in
    let left = λ (r : Row). IfOk c.put_item.result (λ t. IfErr t (IsLeft c.args.trial.given.now items (get (pointwise nat_eq) c.put_item.new.items) c.args.key.now c.args.trial.moment r)) in
    subst left (sym row_is) c.put_item.ensures.wants
