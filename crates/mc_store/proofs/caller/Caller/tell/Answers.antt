use Rattle.std.proofs.Common.{◌≡◌, subst, sym}
use Rattle.mc_board.specs.Histories.{list_at}
use Rattle.mc_store.specs.{Callers.call_events, Callers.calls_told, Locked.caller_place, Passes.CallerView, Passes.HasCalled}
use Rattle.mc_store.proofs.CallerLemmas.{called_told, told_begun, told_whole}
use Rattle.mc_store.proofs.caller.Caller.tell.Goals as goal

pub returns-clause-begun : goal.returns-clause-begun
returns-clause-begun g c = λ who moment call called.
    let config = g.N.Named.config in
    let owner = c.self.inside.owner in
    let view : CallerView = record { number = c.self.inside.number; calls = call_events owner.history; made = owner.made } in
    told_begun config view c.args.seen.now c.tell.new.seen c.self.invariant.0
    (called_told c.args.seen.now c.tell.new.seen owner.lock (caller_place config c.self.inside.number) owner.history c.tell.ensures.whole c.self.invariant.3 c.self.invariant.4)
    who moment call (subst (λ (v : CallerView). HasCalled v who moment call) (sym c.self.view_is) called)

pub returns-clause-whole : goal.returns-clause-whole
returns-clause-whole g c =
    let config = g.N.Named.config in
    let owner = c.self.inside.owner in
    let view : CallerView = record { number = c.self.inside.number; calls = call_events owner.history; made = owner.made } in
    subst (λ (v : CallerView). list_at c.tell.new.seen.sight.seen (caller_place config v.number) ≡ calls_told v.calls) c.self.view_is
    (told_whole config view c.args.seen.now c.tell.new.seen
    (called_told c.args.seen.now c.tell.new.seen owner.lock (caller_place config c.self.inside.number) owner.history c.tell.ensures.whole c.self.invariant.3 c.self.invariant.4))
