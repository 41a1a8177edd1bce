use Rattle.std.proofs.Common.{rules, arith, ◌≡◌, ◌≤◌, ◌<◌, ◌+◌, ◌-◌, ◌∷◌, ◌++◌, [], ℕ, List, ap, drop, length, suc, subst, sym, ◌∙◌}
use Rattle.std.proofs.lemmas.{Iterator.Adapters.YieldsList-from_vec, Iterator.Consumers.YieldsList-turn, List.length-append}
use Rattle.mc_hits.specs.Views.{tables_of, untouched_hands}
use Rattle.mc_store.specs.{Locked.histories_for, Locked.locks_for, Passes.ArePasses, Passes.PassView, Passes.new_pass}
use Rattle.mc_store.proofs.NumberOrderLemmas.{next_of, owner_at, passes_push, some_left}
use Rattle.mc_store.proofs.store.Store.open.Goals as goal

pub open_stripe-stripe-requires-clause-owner : goal.open_stripe-stripe-requires-clause-owner
open_stripe-stripe-requires-clause-owner g c =
    let place : c.next_place-place.result ≡ length c.loop-owner.yielded = search rules in
    let gives = c.into_iter-owner-iterator.ensures.into_iter_gives in
    let owners = c.args.tokens.owners in
    let long : c.into_iter-owner-iterator.result.rest.len ≡ length owners.items = gives.1 ∙ owners.ok.0 in
    let turn = YieldsList-turn (YieldsList-from_vec owners.items gives.0 long) c.loop-owner.yielded c.loop-owner.owner-iterator c.loop-owner.yielded_by
    c.next.result c.next.new.self c.in-Some.owner c.in-Some.is c.next.ensures.steps in
    let own = owner_at g.N.Named.board.table owners.items (locks_for g.N.Named.config) (histories_for g.N.Named.config) c.next_place-place.result
    (length c.loop-owner.yielded) c.in-Some.owner c.requires.fit.owned turn place in
    own.1

pub open_class-class-requires-clause-owner : goal.open_class-class-requires-clause-owner
open_class-class-requires-clause-owner g c =
    let place : c.next_place-place.result ≡ length c.loop-owner.yielded = search rules in
    let gives = c.into_iter-owner-iterator.ensures.into_iter_gives in
    let owners = c.args.tokens.owners in
    let long : c.into_iter-owner-iterator.result.rest.len ≡ length owners.items = gives.1 ∙ owners.ok.0 in
    let turn = YieldsList-turn (YieldsList-from_vec owners.items gives.0 long) c.loop-owner.yielded c.loop-owner.owner-iterator c.loop-owner.yielded_by
    c.next.result c.next.new.self c.in-Some.owner c.in-Some.is c.next.ensures.steps in
    let own = owner_at g.N.Named.board.table owners.items (locks_for g.N.Named.config) (histories_for g.N.Named.config) c.next_place-place.result
    (length c.loop-owner.yielded) c.in-Some.owner c.requires.fit.owned turn place in
    own.1

pub open_pass-requires-clause-owner : goal.open_pass-requires-clause-owner
open_pass-requires-clause-owner g c =
    let place : c.next_place-place.result ≡ length c.loop-owner.yielded = search rules in
    let gives = c.into_iter-owner-iterator.ensures.into_iter_gives in
    let owners = c.args.tokens.owners in
    let long : c.into_iter-owner-iterator.result.rest.len ≡ length owners.items = gives.1 ∙ owners.ok.0 in
    let turn = YieldsList-turn (YieldsList-from_vec owners.items gives.0 long) c.loop-owner.yielded c.loop-owner.owner-iterator c.loop-owner.yielded_by
    c.next.result c.next.new.self c.in-Some.owner c.in-Some.is c.next.ensures.steps in
    let own = owner_at g.N.Named.board.table owners.items (locks_for g.N.Named.config) (histories_for g.N.Named.config) c.next_place-place.result
    (length c.loop-owner.yielded) c.in-Some.owner c.requires.fit.owned turn place in
    own.1

pub remove-own-requires : goal.remove-own-requires
remove-own-requires g c =
    let place : c.next_place-place.result ≡ length c.loop-owner.yielded = search rules in
    let gives = c.into_iter-owner-iterator.ensures.into_iter_gives in
    let owners = c.args.tokens.owners in
    let long : c.into_iter-owner-iterator.result.rest.len ≡ length owners.items = gives.1 ∙ owners.ok.0 in
    let turn = YieldsList-turn (YieldsList-from_vec owners.items gives.0 long) c.loop-owner.yielded c.loop-owner.owner-iterator c.loop-owner.yielded_by
    c.next.result c.next.new.self c.in-Some.owner c.in-Some.is c.next.ensures.steps in
    let own = owner_at g.N.Named.board.table owners.items (locks_for g.N.Named.config) (histories_for g.N.Named.config) c.next_place-place.result
    (length c.loop-owner.yielded) c.in-Some.owner c.requires.fit.owned turn place in
    let i = c.loop-owner.invariant in
    let tables = tables_of g.N.Named.queues in
    let k = length c.loop-owner.passes.items in
    let number : k ≡ c.next_place-place.result - locks_for g.N.Named.config = i.6.many ∙ ap (λ (n : ℕ). n - locks_for g.N.Named.config) (sym place) in
    let least : locks_for g.N.Named.config ≤ c.next_place-place.result = search rules in
    let below : k < g.N.Named.config.callers = omega (arith, number, least, own.0) in
    let some = some_left c.args.tokens.hands.items c.loop-owner.hands.items k g.N.Named.config.callers i.7 c.requires.fit.handed.0 below in
    omega (arith, some, c.loop-owner.hands.ok.0)

pub open_pass-requires-clause-hands : goal.open_pass-requires-clause-hands
open_pass-requires-clause-hands g c =
    let place : c.next_place-place.result ≡ length c.loop-owner.yielded = search rules in
    let gives = c.into_iter-owner-iterator.ensures.into_iter_gives in
    let owners = c.args.tokens.owners in
    let long : c.into_iter-owner-iterator.result.rest.len ≡ length owners.items = gives.1 ∙ owners.ok.0 in
    let turn = YieldsList-turn (YieldsList-from_vec owners.items gives.0 long) c.loop-owner.yielded c.loop-owner.owner-iterator c.loop-owner.yielded_by
    c.next.result c.next.new.self c.in-Some.owner c.in-Some.is c.next.ensures.steps in
    let own = owner_at g.N.Named.board.table owners.items (locks_for g.N.Named.config) (histories_for g.N.Named.config) c.next_place-place.result
    (length c.loop-owner.yielded) c.in-Some.owner c.requires.fit.owned turn place in
    let i = c.loop-owner.invariant in
    let tables = tables_of g.N.Named.queues in
    let k = length c.loop-owner.passes.items in
    let number : k ≡ c.next_place-place.result - locks_for g.N.Named.config = i.6.many ∙ ap (λ (n : ℕ). n - locks_for g.N.Named.config) (sym place) in
    let least : locks_for g.N.Named.config ≤ c.next_place-place.result = search rules in
    let below : k < g.N.Named.config.callers = omega (arith, number, least, own.0) in
    let taken = next_of c.args.tokens.hands.items c.loop-owner.hands.items c.remove-own.new.self.items k (untouched_hands tables k) c.remove-own.result i.7 (c.requires.fit.handed.1 k below)
    c.remove-own.ensures.value c.remove-own.ensures.items in
    taken.1 ∙ ap (untouched_hands tables) number

pub loop-owner-preserved : goal.loop-owner-preserved
loop-owner-preserved g c =
    let locks = locks_for g.N.Named.config in
    let yielded = length c.loop-owner.yielded in
    let i = c.loop-owner.invariant in
    let place : c.next_place-place.result ≡ yielded = search rules in
    let many : length (c.loop-owner.yielded ++ c.in-Some.owner ∷ []) ≡ yielded + 1 = length-append c.loop-owner.yielded (c.in-Some.owner ∷ []) in
    let least : locks ≤ c.next_place-place.result = search rules in
    let next : (yielded - locks) + 1 ≡ length (c.loop-owner.yielded ++ c.in-Some.owner ∷ []) - locks = omega (arith, place, many, least) in
    let push = c.in_ok-push-3.ensures in
    let tables = tables_of g.N.Named.queues in
    let all = c.args.tokens.hands.items in
    let k = length c.loop-owner.passes.items in
    let room : c.next_place-place.result < histories_for g.N.Named.config = search rules in
    let below : k < g.N.Named.config.callers = omega (arith, place, least, room, i.6.many) in
    let taken = next_of all c.loop-owner.hands.items c.remove-own.new.self.items k (untouched_hands tables k) c.remove-own.result i.7 (c.requires.fit.handed.1 k below)
    c.remove-own.ensures.value c.remove-own.ensures.items in
    let long : length c.push-else-place-locks.new.self.items ≡ k + 1 = ap (λ (ps : List PassView). length ps) push.items ∙ length-append c.loop-owner.passes.items (c.open_pass.result ∷ []) in
    let more : suc k ≡ length c.push-else-place-locks.new.self.items = omega (arith, long) in (
      tt,
      tt,
      c.split-token.ensures.same ∙ i.2,
      search rules,
      search rules,
      search rules,
      subst (λ (n : ℕ). ArePasses (tables_of g.N.Named.queues) n c.push-else-place-locks.new.self.items) next
          (subst (λ (ps : List PassView). ArePasses (tables_of g.N.Named.queues) ((yielded - locks) + 1) ps) (sym push.items)
          (passes_push (tables_of g.N.Named.queues) (yielded - locks) c.loop-owner.passes.items c.open_pass.result i.6 (c.open_pass.ensures ∙ ap (λ (n : ℕ). new_pass (tables_of g.N.Named.queues) (n - locks)) place))),
      taken.2 ∙ ap (λ (n : ℕ). drop n all) more,
    )
