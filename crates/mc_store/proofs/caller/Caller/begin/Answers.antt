use Rattle.std.proofs.Common.{◌≡◌, ◌<◌, ◌++◌, ◌∷◌, [], List, Bool, true, false, ap, arith, length, length-append, refl, subst, sym, ◌∙◌}
use Rattle.std.specs.Prelude.{if◌then◌else◌, vec_capacity, vec_len}
use Rattle.mc_item.specs.declared.{call_event.CallEvent.CallEvent, config.Config.Config, event.Event.Event}
use Rattle.mc_board.specs.Views.{OwnerView}
use Rattle.mc_board.specs.declared.rule.Span.{Span}
use Rattle.mc_evidence.specs.Seen.{class_events}
use Rattle.mc_store.specs.{Callers.call_events, Callers.placed_in, Callers.turns_of, Locked.caller_place, Passes.CallerView}
use Rattle.mc_store.specs.declared.{placed.Placed.Placed}
use Rattle.mc_board.proofs.FigureLemmas.{class_events-call}
use Rattle.mc_store.proofs.CallerLemmas.{calls_more, only_calls, says_nobody}
use Rattle.mc_store.proofs.{NextTurnLemmas.turns_both, PlacedLemmas.call_places, SeenStripeLemmas.one_event}
use Rattle.mc_store.proofs.caller.Caller.begin.Given.{Over}
use Rattle.mc_store.proofs.caller.Caller.begin.Goals as goal
use Rattle.mc_store.proofs.caller.Caller.begin.Goals.{After-append, then-self+in_ok-reserve, else-self}

true_false : true ≡ false → ⊥
true_false h = cc

-- the caller is as it was, with memory for one more place if it keeps them
kept : (g : Over) (c : After-append g) → (c.if-self.self-inside.number ≡ c.self.inside.number) × (c.if-self.self-inside.owner ≡ c.self.inside.owner) × (c.if-self.self-inside.turn ≡ c.self.inside.turn)
    × (c.if-self.self-inside.keeps ≡ c.self.inside.keeps) × (c.if-self.self-inside.places.items ≡ c.self.inside.places.items)
    × (c.if-self.self-inside.keeps ≡ true → vec_len c.if-self.self-inside.places < vec_capacity c.if-self.self-inside.places)
kept g c = elim c.if-self.branch [
  | then-self+in_ok-reserve w ↦ rw w.self-inside-is (refl, refl, refl, refl, w.reserve.ensures.items, λ yes. omega (arith, w.in_ok-reserve.ensures.ok))
  | else-self w ↦ rw w.self-inside-is (refl, refl, refl, refl, refl, λ yes. absurd (true_false (sym yes ∙ w.if-self.false)))
]

pub append-requires-clause-plain : goal.append-requires-clause-plain
append-requires-clause-plain g c = subst (λ (es : List Event). class_events es ≡ []) c.requires.call (class_events-call (call_events (g.E.Logged.entry c.args.event.now ∷ [])))

pub append-requires-clause-own : goal.append-requires-clause-own
append-requires-clause-own g c = says_nobody (g.E.Logged.entry c.args.event.now) c.requires.call

pub invariant_of-self-2 : goal.invariant_of-self-2
invariant_of-self-2 g c =
    let at = (goal.at.invariant_of-self-2 g c).After-append in
    let was = c.self.inside in
    let same = kept g at in
    let more = g.E.Logged.entry c.args.event.now ∷ [] in
    let es = call_events more in
    let old = call_events was.owner.history in
    let up : c.append.new.self ≡ record was.owner { history = was.owner.history ++ more } = c.append.ensures.history ∙ ap (λ (o : OwnerView). record o { history = o.history ++ more }) same.1 in
    let history = ap (λ (o : OwnerView). o.history) up in
    let calls = calls_more was.owner.history c.append.new.self.history more history in
    let turns : length (turns_of (call_events c.append.new.self.history)) ≡ length (turns_of (old ++ es)) = ap (λ (l : List CallEvent). length (turns_of l)) calls in
    let long : length c.append.new.self.history ≡ length (was.owner.history ++ more) = ap (λ (l : List Event). length l) history in
    let appended = length-append was.owner.history more in
    let most : c.store.inside.config.max_events ≡ g.N.Named.config.max_events = ap (λ (config : Config). config.max_events) c.store.invariant.1 in
    let places : placed_in (call_events c.append.new.self.history) ≡ placed_in old =
    ap placed_in calls ∙ call_places old es (one_event es more c.requires.call refl) c.requires.one in (
      subst (λ n. n < g.N.Named.config.callers) (sym same.0) c.self.invariant.0,
      ap (λ (o : OwnerView). o.board) up ∙ c.self.invariant.1,
      ap (λ (o : OwnerView). o.first) up ∙ c.self.invariant.2,
      ap (λ (o : OwnerView). o.lock) up ∙ (c.self.invariant.3 ∙ ap (λ n. caller_place g.N.Named.config n) (sym same.0)),
      only_calls was.owner.history c.append.new.self.history more history c.self.invariant.4 c.requires.call,
      omega (arith, same.2, c.self.invariant.5, turns, turns_both old es, c.requires.one),
      omega (arith, same.2, c.if-self-store.false, most),
      omega (arith, same.2, long, appended, c.self.invariant.7),
      same.3 ∙ c.self.invariant.8,
      same.4 ∙ (c.self.invariant.9 ∙ (ap (λ (b : Bool). if b then placed_in old else []) (sym same.3)
          ∙ ap (λ (ps : List Placed). if c.if-self.self-inside.keeps then ps else []) (sym places))),
      λ last. (omega (arith, same.2, long, appended, c.self.invariant.7), same.5),
      c.self.invariant.11,
    )

pub returns-clause-begun : goal.returns-clause-begun
returns-clause-begun g c =
    let at = (goal.at.returns-clause-begun g c).After-append in
    let was = c.self.inside in
    let same = kept g at in
    let more = g.E.Logged.entry c.args.event.now ∷ [] in
    let up : c.append.new.self ≡ record was.owner { history = was.owner.history ++ more } = c.append.ensures.history ∙ ap (λ (o : OwnerView). record o { history = o.history ++ more }) same.1 in
    let calls = calls_more was.owner.history c.append.new.self.history more (ap (λ (o : OwnerView). o.history) up) in
    let made : c.append.new.self.made ≡ was.owner.made = ap (λ (o : OwnerView). o.made) up in
    ap (λ n. record { number = n; calls = call_events c.append.new.self.history; made = c.append.new.self.made }) same.0
    ∙ (ap (λ (es : List CallEvent). record { number = was.number; calls = es; made = c.append.new.self.made }) calls
    ∙ (ap (λ (m : List Span). record { number = was.number; calls = call_events was.owner.history ++ call_events more; made = m }) made
    ∙ ap (λ (v : CallerView). record v { calls = v.calls ++ call_events more }) c.self.view_is))
