use Rattle.std.proofs.Common.{◌≡◌}
use Rattle.mc_hits.specs.Views.{tables_of}
use Rattle.mc_pull.specs.Growth as classes
use Rattle.mc_pull.specs.Rounds.{rounds}
use Rattle.mc_store.specs.{Accounts.IsOfWalk, Accounts.StillCalls, Callers.juggling_of, Locked.HasBegunAs, Reached.IsSeenState, Walking.class_sight}
use Rattle.mc_store.proofs.TakenHitLemmas.{AreSoFar}
use Rattle.mc_store.proofs.taking.advance_hits.Given as goal

abbrev pub invariant-hits : goal.invariant-hits
invariant-hits g l =
    (l.hands.tables ≡ tables_of g.N.Named.queues) × (l.hands ≡ record l.fn.hands { takings = l.hands.takings })
    × HasBegunAs g.N.Named.config l.class.sight l.call.turn.who l.call.turn.moment (juggling_of l.class.class.number l.call.turn.moment)
    × classes.GainsEvents l.fn.class.class l.class.class
    × AreSoFar (IsSeenState g.N.Named.config.stripes l.fn.class.sight l.class.sight) (rounds l.fn.class.class l.call.turn.who l.call.turn.moment g.N.Named.config) l.fn.hands l.hands
    l.fn.class.class.history l.class.class.history l.counter
    × StillCalls (IsOfWalk g.N.Named.config l.fn.class.class.number) l.call.turn.who.turn (class_sight g.N.Named.config l.fn.class) (class_sight g.N.Named.config l.class) l.fn.caller l.caller
