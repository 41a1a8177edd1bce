use Rattle.std.proofs.Common.{◌≡◌, ◌∙◌, ◌∷◌, ◌++◌, [], ◌≤◌, ◌+◌, ap, refl, subst, sym, arith, length}
use Rattle.mc_board.specs.Histories.{list_at}
use Rattle.mc_evidence.specs.Seen.{stripes_seen}
use Rattle.mc_store.specs.{Callers.call_events, Callers.placed_in, Callers.turns_of, Passes.CallerView, Passes.PassView, Passes.pass_of}
use Rattle.mc_hits.specs.Rule.{AreBefore}
use Rattle.mc_hits.proofs.BeforeLemmas.{later_before}
use Rattle.mc_store.proofs.{NextTurnLemmas.turns_both, PlacedLemmas.call_places, PlacedLemmas.placed_same, SeenStripeLemmas.one_event}
use Rattle.mc_store.proofs.pass.Pass.take_turn.Goals as goal

pub invariant_of-self-2 : goal.invariant_of-self-2
invariant_of-self-2 g c =
    let was = c.self.inside.caller in
    let more = g.E.Logged.entry c.args.event.now ∷ [] in
    let es = call_events more in
    let i = c.self.invariant in
    let calls = ap (λ (v : CallerView). v.calls) c.in_ok-begin.ensures.begun in
    let number = ap (λ (v : CallerView). v.number) c.in_ok-begin.ensures.begun in
    let turns : length (turns_of was.calls) ≤ length (turns_of c.begin.new.self.calls) =
    omega (arith, ap (λ l. length (turns_of l)) calls, turns_both was.calls es) in (
      i.0,
      placed_same g.N.Named.config was c.begin.new.self (stripes_seen (list_at c.self.inside.seen.sight.seen)) number
          (ap placed_in calls ∙ call_places was.calls es (one_event es more c.requires.call refl) c.requires.one) i.1,
      i.2,
      i.3 ∙ sym number,
      later_before c.self.inside.hands.offers (length (turns_of was.calls)) (length (turns_of c.begin.new.self.calls)) turns i.4,
    )

pub returns-clause-took : goal.returns-clause-took
returns-clause-took g c =
    let was = c.self.inside.caller in
    let old = pass_of was c.self.inside.seen.sight c.self.inside.hands in
    let es = call_events (g.E.Logged.entry c.args.event.now ∷ []) in
    let turn : length (turns_of c.begin.new.self.calls) ≡ length (turns_of was.calls) + 1 =
    omega (arith, ap (λ (v : CallerView). length (turns_of v.calls)) c.in_ok-begin.ensures.begun, turns_both was.calls es, c.requires.one) in
    record {
      who = c.next_who-who.ensures.who;
      turn =
          ap (λ (v : CallerView). pass_of v c.self.inside.seen.sight c.self.inside.hands) c.in_ok-begin.ensures.begun
          ∙ (ap (λ n. record old { turn = n; calls = was.calls ++ es }) (sym (ap (λ (v : CallerView). length (turns_of v.calls)) c.in_ok-begin.ensures.begun) ∙ turn)
          ∙ ap (λ (p : PassView). record p { turn = p.turn + 1; calls = p.calls ++ es }) c.self.view_is);
      before = subst (λ (p : PassView). AreBefore p.turn c.self.inside.hands.offers) c.self.view_is c.self.invariant.4;
    }
