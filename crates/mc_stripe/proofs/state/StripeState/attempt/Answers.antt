use Rattle.std.proofs.Common.{ℕ, ◌≡◌, ◌<◌, length, ap, ◌∙◌, sym, refl, List, subst, arith, ◌++◌, ◌∷◌, []}
use Rattle.std.specs.Prelude.{nat_eq, Option}
use Rattle.std.specs.{Cmp.Lexicographic.pointwise, HashMap.get}
use Rattle.mc_item.specs.{Answer.Row, Answer.row_of, Cache.answer_of, Command.key_of, Measure.stripe_of, Stripe.Fits, Stripe.cache_of}
use Rattle.mc_item.specs.declared.answer.Need.TheVariants as needs
use Rattle.mc_item.specs.declared.{item.ClassNo.ClassNo, item.Item.Item, reply.Reply.Reply, reply.Room.Room, stripe_event.StripeEvent.StripeEvent}
use Rattle.mc_item.proofs.StripeLemmas.{versions_of-few}
use Rattle.mc_stripe.specs.{Shown.did_of, StripeState.Stripe, StripeState.cache_now, Trying.item_of, Trying.row_at, Wanting.IsTaken, Wanting.Uses}
use Rattle.mc_stripe.proofs.{PutLemmas.taken_fits, TryLemmas.tried_kept, TryLemmas.uses_at}
use Rattle.mc_stripe.proofs.state.StripeState.attempt.Goals as goal

pub overflow_add-self : goal.overflow_add-self
overflow_add-self c =
    let makes = rw c.in-Ok.is at c.in_ok-made.ensures.made in
    let row = row_of c.self.inside.site c.self.inside.versions (get (pointwise nat_eq) c.self.inside.items (key_of c.args.command.now)) c.args.command.now c.args.turn.moment in
    omega (arith, makes.added, versions_of-few (row.answer c.in-Ok.made.done.room).change, c.self.invariant.few_versions, c.self.invariant.within, c.self.invariant.bounds.few_events)

pub invariant_of-self-2 : goal.invariant_of-self-2
invariant_of-self-2 c =
    let made = c.in-Ok.made in
    let makes = rw c.in-Ok.is at c.in_ok-made.ensures.made in
    let command = c.args.command.now in
    let key = key_of command in
    let site = c.self.inside.site in
    let before = c.self.inside.history.items in
    let items = get (pointwise nat_eq) c.self.inside.items in
    let row = row_of site c.self.inside.versions (items key) command c.args.turn.moment in
    let back = sym c.self.view_is in
    let few : length before < c.self.inside.limit = omega (arith, rw c.if-is_full.false at c.is_full.ensures) in
    let offers = subst (λ (x : Stripe). (class : ClassNo) (room : Room) → IsTaken c.args.given.now (needs.Fresh class) room → Fits (needs.Fresh class) room x.history) back c.requires.given in
    tried_kept c.args.given.now site c.self.inside.limit c.self.inside.versions made.added before c.push_answer.new.history.items items items (get (pointwise nat_eq) c.make.new.items)
    c.args.turn.who command key c.args.turn.moment row made.done.room made.done.reply made.done.fate
    c.self.invariant few (λ q. refl) refl
    (subst (λ (x : Stripe). stripe_of key x.site.stripes ≡ record { 0 = x.site.stripe }) back c.requires.may.stripe)
    refl makes.made_is (taken_fits c.args.given.now row.need made.done.room before offers makes.made_is.uses.taken) makes.added
    (c.push_answer.ensures.items ∙ ap (λ (h : List StripeEvent). h ++ did_of c.args.turn.who command c.args.turn.moment made.done.reply made.done.room ∷ []) c.reserve.ensures.items)

pub returns-clause-made : goal.returns-clause-made
returns-clause-made c =
    let made = c.in-Ok.made in
    let makes = rw c.in-Ok.is at c.in_ok-made.ensures.made in
    let command = c.args.command.now in
    let key = key_of command in
    let moment = c.args.turn.moment in
    let site = c.self.inside.site in
    let before = c.self.inside.history.items in
    let cache = cache_of site before in
    let items = get (pointwise nat_eq) c.self.inside.items in
    let row = row_of site c.self.inside.versions (items key) command moment in
    let item_is : items key ≡ cache.items key = c.self.invariant.items_are key in
    let row_is : row ≡ row_of site cache.versions (cache.items key) command moment =
    ap (λ (n : ℕ). row_of site n (items key) command moment) c.self.invariant.versions_are
    ∙ ap (λ (o : Option Item). row_of site cache.versions o command moment) item_is in
    let noted : Reply → List StripeEvent → List StripeEvent = λ r h. h ++ did_of c.args.turn.who command moment r made.done.room ∷ [] in
    let reply_is = makes.made_is.reply_is ∙ ap (λ (r : Row). (r.answer made.done.room).reply) row_is in
    record {
      noted = subst (λ (s : Stripe). c.push_answer.new.history.items ≡ noted (answer_of s.site (cache_now s) command moment made.done.room).reply s.history) c.self.view_is
          (c.push_answer.ensures.items ∙ ap (noted made.done.reply) c.reserve.ensures.items ∙ ap (λ (r : Reply). noted r before) reply_is);
      reply_is = subst (λ (s : Stripe). made.done.reply ≡ ((row_at s command moment).answer made.done.room).reply) c.self.view_is reply_is;
      uses = subst (λ (s : Stripe). Uses c.args.given.now key (item_of s command) moment (row_at s command moment) made.done.room made.done.fate) c.self.view_is
          (uses_at c.args.given.now key key (items key) (cache.items key) moment row (row_of site cache.versions (cache.items key) command moment)
          made.done.room made.done.fate refl item_is row_is makes.made_is.uses);
    }
