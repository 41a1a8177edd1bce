use Rattle.std.proofs.Common.{rules, ◌≡◌, subst, true}
use Rattle.std.specs.Prelude.{IfErr, IfOk, nat_eq}
use Rattle.std.specs.{Cmp.Lexicographic.pointwise, HashMap.get}
use Rattle.mc_item.specs.{Answer.gat_row, Answer.touch_row, Item.expiry_of}
use Rattle.mc_item.specs.declared.item.Expiry.{Expiry}
use Rattle.mc_stripe.specs.Joining.{content_of, content_row}
use Rattle.mc_stripe.specs.Trying.{IsLeft, MakesRow}
use Rattle.mc_stripe.proofs.attempting.make.Goals as goal

pub returns-in-Get-clause-wants : goal.returns-in-Get-clause-wants
returns-in-Get-clause-wants c = rw c.in-Get.is (c.get_item.ensures.wants c.args.trial.given.now)

pub returns-in-Gat-clause-wants : goal.returns-in-Gat-clause-wants
returns-in-Gat-clause-wants c =
    let g = c.in-Gat in
    let items = get (pointwise nat_eq) c.args.items.now in
    let left = λ (e : Expiry). IfOk c.gat_item.result (λ t. IfErr t (IsLeft c.args.trial.given.now items (get (pointwise nat_eq) c.gat_item.new.items) g.key c.args.trial.moment (gat_row e (items g.key)))) in
    let dies : c.expiry_at.result ≡ expiry_of g.exptime c.args.trial.moment = c.expiry_at.ensures in
    rw g.is (subst left dies (c.gat_item.ensures.wants c.args.trial.given.now))

pub returns-in-Store-clause-made : goal.returns-in-Store-clause-made
returns-in-Store-clause-made c =
    let s = c.in-Store in
    let items = get (pointwise nat_eq) c.args.items.now in
    let makes = λ (e : Expiry). IfOk c.store_item.result (λ t. IfOk t (MakesRow true c.args.trial.given.now items (get (pointwise nat_eq) c.store_item.new.items) s.key
    (content_row c.args.trial.site.now c.args.trial.versions s.key s.verb (content_of s.flags s.value e) (items s.key)) c.args.trial.moment)) in
    let dies : c.expiry_at-in-Store.result ≡ expiry_of s.exptime c.args.trial.moment = c.expiry_at-in-Store.ensures in
    let made = subst makes dies c.store_item.ensures.made in
    rw s.is (search (rules, made))

pub returns-in-Store-clause-wants : goal.returns-in-Store-clause-wants
returns-in-Store-clause-wants c =
    let s = c.in-Store in
    let items = get (pointwise nat_eq) c.args.items.now in
    let left = λ (e : Expiry). IfOk c.store_item.result (λ t. IfErr t (IsLeft c.args.trial.given.now items (get (pointwise nat_eq) c.store_item.new.items) s.key c.args.trial.moment
    (content_row c.args.trial.site.now c.args.trial.versions s.key s.verb (content_of s.flags s.value e) (items s.key)))) in
    let dies : c.expiry_at-in-Store.result ≡ expiry_of s.exptime c.args.trial.moment = c.expiry_at-in-Store.ensures in
    rw s.is (subst left dies c.store_item.ensures.wants)

pub returns-in-Incr-clause-wants : goal.returns-in-Incr-clause-wants
returns-in-Incr-clause-wants c = rw c.in-Incr.is c.count_item.ensures.wants

pub returns-in-Decr-clause-wants : goal.returns-in-Decr-clause-wants
returns-in-Decr-clause-wants c = rw c.in-Decr.is c.count_item-in-Decr.ensures.wants

pub returns-in-Touch-clause-made : goal.returns-in-Touch-clause-made
returns-in-Touch-clause-made c =
    let t = c.in-Touch in
    let items = get (pointwise nat_eq) c.args.items.now in
    let dies : c.expiry_at-expiry.result ≡ expiry_of t.exptime c.args.trial.moment = c.expiry_at-expiry.ensures in
    let made : IfOk c.touch_item.result (MakesRow true c.args.trial.given.now items (get (pointwise nat_eq) c.touch_item.new.items) t.key
    (touch_row (expiry_of t.exptime c.args.trial.moment) (items t.key)) c.args.trial.moment) =
    rw dies at c.touch_item.ensures.made c.args.trial.given.now in
    rw t.is (search (rules, made))

pub returns-in-Touch-clause-wants : goal.returns-in-Touch-clause-wants
returns-in-Touch-clause-wants c =
    let t = c.in-Touch in
    let items = get (pointwise nat_eq) c.args.items.now in
    let left = λ (e : Expiry). IfErr c.touch_item.result (IsLeft c.args.trial.given.now items (get (pointwise nat_eq) c.touch_item.new.items) t.key c.args.trial.moment (touch_row e (items t.key))) in
    let dies : c.expiry_at-expiry.result ≡ expiry_of t.exptime c.args.trial.moment = c.expiry_at-expiry.ensures in
    rw t.is (subst left dies (c.touch_item.ensures.wants c.args.trial.given.now))
