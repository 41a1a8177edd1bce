use Rattle.std.proofs.Common.{rules, ◌≡◌, ◌∙◌, refl, sym, subst, true}
use Rattle.std.specs.Prelude.{Some, nat_eq}
use Rattle.std.specs.{Cmp.Lexicographic.pointwise, HashMap.get}
use Rattle.mc_item.specs.Answer.{Row, version_of}
use Rattle.mc_item.specs.Measure.{cost_of}
use Rattle.mc_stripe.specs.{Joining.joined, Putting.made_of, Trying.MakesRow, Trying.Puts, Wanting.IsWanting}
use Rattle.mc_stripe.proofs.JoinLemmas.{cost_of-joined, fits_joining, joining_makes, large_joining, left_in}
use Rattle.mc_stripe.proofs.PutLemmas.{told_of}
use Rattle.mc_stripe.proofs.joining.join_item.Goals as goal

pub returns-in_default-cost_of_both-clause-made : goal.returns-in_default-cost_of_both-clause-made
returns-in_default-cost_of_both-clause-made c =
    let joint = c.args.joint.now in
    let row_is = large_joining c.args.trial.site.now c.args.trial.versions c.args.key.now joint.side joint.block.now c.in-Some.item.now _ c.in-Some.ensures.value c.in_default-cost_of_both.ensures.none in
    rw row_is (search rules)

pub returns-in-Err-clause-wants : goal.returns-in-Err-clause-wants
returns-in-Err-clause-wants c =
    let joint = c.args.joint.now in
    let item = c.in-Some.item.now in
    let key = c.args.key.now in
    let old = get (pointwise nat_eq) c.args.items.now in
    let both = c.in-Some-cost_of_both in
    let version = version_of c.args.trial.site.now c.args.trial.versions item.flags (joined joint.side joint.block.now item.value) item.expiry in
    let cost_is : both.measured.cost ≡ cost_of key (joined joint.side joint.block.now item.value) = both.ensures.cost ∙ sym (cost_of-joined joint.side key joint.block.now item.value) in
    let row_is = fits_joining c.args.trial.site.now c.args.trial.versions key joint.side joint.block.now item (old key) c.in-Some.ensures.value both.measured.class both.ensures.class in
    let told = told_of {version = version} (Some item) c.in-Some.ensures.value (sym c.dead.ensures ∙ c.if-dead.false) (λ link. (cost_is, refl)) in
    (search rules, subst (λ (r : Row). IsWanting c.args.trial.given.now key (old key) c.args.trial.moment r c.in-Err.want) (sym row_is) (c.in-Err.ensures.wants key (old key) c.args.trial.moment version told))

pub returns-clause-made : goal.returns-clause-made
returns-clause-made c =
    let joint = c.args.joint.now in
    let item = c.in-Some.item.now in
    let key = c.args.key.now in
    let old = get (pointwise nat_eq) c.args.items.now in
    let new = get (pointwise nat_eq) c.match-put.items in
    let both = c.in-Some-cost_of_both in
    let put = c.in-Ok.put in
    let version = version_of c.args.trial.site.now c.args.trial.versions item.flags (joined joint.side joint.block.now item.value) item.expiry in
    let cost_is : both.measured.cost ≡ cost_of key (joined joint.side joint.block.now item.value) = both.ensures.cost ∙ sym (cost_of-joined joint.side key joint.block.now item.value) in
    let row_is = fits_joining c.args.trial.site.now c.args.trial.versions key joint.side joint.block.now item (old key) c.in-Some.ensures.value both.measured.class both.ensures.class in
    let puts : Puts old new key (left_in put.room version item) = search rules in
    let told = told_of {version = version} (Some item) c.in-Some.ensures.value (sym c.dead.ensures ∙ c.if-dead.false) (λ link. (cost_is, refl)) in
    rw c.made.ensures (subst (λ (r : Row). MakesRow true c.args.trial.given.now old new key r c.args.trial.moment (made_of put)) (sym row_is)
    (joining_makes old new both.measured.class item c.in-Some.ensures.value (c.in-Ok.ensures.made key (old key) c.args.trial.moment version told) puts))
