use Rattle.std.proofs.Common.{ℕ, subst}
use Rattle.mc_board.specs.{Accounts.IsAccount, Histories.list_at}
use Rattle.mc_store.specs.{Locked.caller_place, Locked.locks_for, Passes.CallerView}
use Rattle.mc_store.proofs.caller.Caller.compare.Goals as goal

pub returns-clause-account : goal.returns-clause-account
returns-clause-account g c =
    let config = g.N.Named.config in
    let owner = c.self.inside.owner in
    let seen = list_at c.args.seen.now.sight.seen in
    subst (λ (v : CallerView). IsAccount (locks_for config) (caller_place config v.number) v.made seen) c.self.view_is
    (subst (λ (n : ℕ). IsAccount (locks_for config) n owner.made seen) c.self.invariant.3
    (subst (λ (n : ℕ). IsAccount n owner.lock owner.made seen) c.self.invariant.2 c.compare.ensures.account))
