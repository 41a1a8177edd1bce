use Rattle.std.proofs.Common.{rules, ◌≡◌, Bool, false, subst}
use Rattle.std.specs.Prelude.{MatchResult}
use Rattle.mc_item.specs.declared.{config.Config.Config, item.StripeNo.StripeNo}
use Rattle.mc_board.specs.Views.{SeenView}
use Rattle.mc_pull.specs.Rounds.{rounds}
use Rattle.mc_store.specs.{Earned.HasSearchedForAny, Reached.IsSeenState, Searches.IsSearchBroken, Searches.IsSearchedWith}
use Rattle.mc_store.proofs.GateLemmas.{ok_more}
use Rattle.mc_store.proofs.walking.make_room_with.Goals as goal

pub returns-clause-room : goal.returns-clause-room
returns-clause-room g c =
    let turn = c.args.task.turn in
    let v = c.args.class.now in
    let after = c.make_room.new.class.history in
    let last = c.make_room.new.self.others.seen.now in
    let number : StripeNo = record { 0 = c.args.own.now.stripe.site.stripe } in
    let P : Config → SeenView → Type 0 = λ config seen.
    let States = IsSeenState g.N.Named.config.stripes c.args.seen.now.sight seen.sight in
    MatchResult c.make_room.result (IsSearchedWith (rounds v turn.who turn.moment config) number States v.history after)
    (λ fault. IsSearchBroken (rounds v turn.who turn.moment config) number States v.history after) in
    let with : c.store.inside.config ≡ g.N.Named.config = c.store.invariant.1 in
    let same : last ≡ c.seen-1.given.0 = search rules in
    subst (P g.N.Named.config) same (subst (λ (config : Config). P config last) with c.make_room.ensures.room)

pub returns-clause-tried : goal.returns-clause-tried
returns-clause-tried g c =
    ok_more c.make_room.result _ (λ (found : Bool). found ≡ false
    → HasSearchedForAny g.N.Named.config.stripes c.args.own.now.stripe c.args.task.turn.who c.args.task.turn.moment c.make_room.new.class.history)
    (λ found made. made)
    c.make_room.ensures.tried
