use Rattle.std.proofs.Common.{rules, ◌∙◌, refl, sym}
use Rattle.std.specs.Prelude.{None, Some, nat_eq}
use Rattle.std.specs.{Cmp.Lexicographic.pointwise, HashMap.get}
use Rattle.mc_item.specs.Answer.{version_of}
use Rattle.mc_stripe.specs.{Putting.item_left, Trying.Puts}
use Rattle.mc_stripe.proofs.PutLemmas.{decided_makes, told_of}
use Rattle.mc_stripe.proofs.putting.put_item.Goals as goal

pub returns-in-Err-clause-wants : goal.returns-in-Err-clause-wants
returns-in-Err-clause-wants c =
    let version = version_of c.args.trial.site.now c.args.trial.versions c.args.content.now.flags c.args.content.now.value.now c.args.content.now.expiry in
    let old = get (pointwise nat_eq) c.args.items.now in
    (search rules, c.in-Err.ensures.wants c.args.key.now (old c.args.key.now) c.args.trial.moment version (told_of None c.in_default.ensures.value tt (λ link. (c.requires.cost, refl))))

pub returns-in_default-clause-made : goal.returns-in_default-clause-made
returns-in_default-clause-made c =
    let version = version_of c.args.trial.site.now c.args.trial.versions c.args.content.now.flags c.args.content.now.value.now c.args.content.now.expiry in
    let old = get (pointwise nat_eq) c.args.items.now in
    let new = get (pointwise nat_eq) c.match-put.items in
    let puts : Puts old new c.args.key.now (item_left c.in-Ok.put.room c.in-Ok.put.fate version (old c.args.key.now)) = search rules in
    rw c.made.ensures (decided_makes old new (c.in-Ok.ensures.made c.args.key.now (old c.args.key.now) c.args.trial.moment version (told_of None c.in_default.ensures.value tt (λ link. (c.requires.cost, refl)))) puts)

pub returns-in-Err-decide-clause-wants : goal.returns-in-Err-decide-clause-wants
returns-in-Err-decide-clause-wants c =
    let version = version_of c.args.trial.site.now c.args.trial.versions c.args.content.now.flags c.args.content.now.value.now c.args.content.now.expiry in
    let old = get (pointwise nat_eq) c.args.items.now in (
      search rules,
      c.in-Err-decide.ensures.wants c.args.key.now (old c.args.key.now) c.args.trial.moment version
          (told_of (Some c.in-Some.item.now) c.in-Some.ensures.value (sym c.dead.ensures ∙ c.if-dead.false) (λ link. (c.requires.cost, refl))),
    )

pub returns-clause-made : goal.returns-clause-made
returns-clause-made c =
    let version = version_of c.args.trial.site.now c.args.trial.versions c.args.content.now.flags c.args.content.now.value.now c.args.content.now.expiry in
    let old = get (pointwise nat_eq) c.args.items.now in
    let new = get (pointwise nat_eq) c.match-put-2.items in
    let puts : Puts old new c.args.key.now (item_left c.in-Ok-decide.put.room c.in-Ok-decide.put.fate version (old c.args.key.now)) = search rules in
    rw c.made-2.ensures (decided_makes old new (c.in-Ok-decide.ensures.made c.args.key.now (old c.args.key.now) c.args.trial.moment version
    (told_of (Some c.in-Some.item.now) c.in-Some.ensures.value (sym c.dead.ensures ∙ c.if-dead.false) (λ link. (c.requires.cost, refl)))) puts)
