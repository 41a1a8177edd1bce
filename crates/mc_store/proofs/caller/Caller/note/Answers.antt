use Rattle.std.proofs.Common.{◌≡◌, ◌<◌, ◌≤◌, ◌-◌, ◌++◌, ◌∷◌, [], List, Bool, ap, arith, length, length-append, refl, subst, sym, ◌∙◌}
use Rattle.std.specs.Prelude.{if◌then◌else◌}
use Rattle.mc_item.specs.declared.{call_event.CallEvent.CallEvent, event.Event.Event, event.Event.TheVariants.Call}
use Rattle.mc_board.specs.{Histories.with_seen, Views.OwnerView}
use Rattle.mc_board.specs.declared.rule.Span.{Span}
use Rattle.mc_store.specs.Callers.{IsUnanswered, answered_at, call_events, calls_told, placed_in, turns_of}
use Rattle.mc_store.specs.{Locked.caller_place, Passes.CallerView}
use Rattle.mc_store.specs.declared.placed.Placed.{Placed}
use Rattle.mc_store.proofs.CallerLemmas.{called_more, called_told, only_called}
use Rattle.mc_store.proofs.{PlacedLemmas.answer_places, PlacedLemmas.last_answered, SeenStripeLemmas.turns_answered}
use Rattle.mc_store.proofs.caller.Caller.note.Given.{Over}
use Rattle.mc_store.proofs.caller.Caller.note.Goals as goal
use Rattle.mc_store.proofs.caller.Caller.note.Goals.{After-tell, then-self, else-self}

-- it is as it was, but for the place that it keeps
kept : (g : Over) (c : After-tell g) → (c.if-self.self-inside.number ≡ c.self.inside.number) × (c.if-self.self-inside.owner ≡ c.append.new.self) × (c.if-self.self-inside.turn ≡ c.self.inside.turn)
    × (c.if-self.self-inside.keeps ≡ c.self.inside.keeps)
    × (c.if-self.self-inside.places.items ≡ (if c.if-self.self-inside.keeps then placed_in (call_events c.self.inside.owner.history ++ answered_at c.args.stripe.0 c.args.place ∷ []) else []))
kept g c =
    let was = c.self.inside in
    let old = call_events was.owner.history in
    let turn : was.turn ≡ length (turns_of old) = c.self.invariant.5 in
    elim c.if-self.branch [
      | then-self w ↦ rw w.self-inside-is (
        refl,
        refl,
        refl,
        refl,
        w.push_reserved.ensures.items
            ∙ (ap (λ (ps : List Placed). ps ++ record { turn = was.turn - 1; stripe = c.args.stripe; place = c.args.place } ∷ []) (c.self.invariant.9 ∙ ap (λ (b : Bool). if b then placed_in old else []) w.if-self.true)
            ∙ (ap (λ n. placed_in old ++ record { turn = n - 1; stripe = c.args.stripe; place = c.args.place } ∷ []) turn
            ∙ (sym (answer_places old c.args.stripe.0 c.args.place)
            ∙ sym (ap (λ (b : Bool). if b then placed_in (old ++ answered_at c.args.stripe.0 c.args.place ∷ []) else []) w.if-self.true)))),
      )
      | else-self w ↦ rw w.self-inside-is (
        refl,
        refl,
        refl,
        refl,
        c.self.invariant.9 ∙ (ap (λ (b : Bool). if b then placed_in old else []) w.if-self.false
            ∙ sym (ap (λ (b : Bool). if b then placed_in (old ++ answered_at c.args.stripe.0 c.args.place ∷ []) else []) w.if-self.false)),
      )
    ]

pub append-requires-clause-room : goal.append-requires-clause-room
append-requires-clause-room g c = omega (arith, c.self.invariant.7, c.self.invariant.6, c.self.invariant.11)

pub invariant_of-self : goal.invariant_of-self
invariant_of-self g c =
    let at = (goal.at.invariant_of-self g c).After-tell in
    let was = c.self.inside in
    let same_as = kept g at in
    let call = answered_at c.args.stripe.0 c.args.place in
    let old = call_events was.owner.history in
    let same : c.tell.new.self ≡ record was.owner { history = was.owner.history ++ Call call ∷ [] } = c.tell.ensures.same ∙ (same_as.1 ∙ c.append.ensures.history) in
    let history = ap (λ (o : OwnerView). o.history) same in
    let calls = called_more was.owner.history c.tell.new.self.history call history in
    let turns : length (turns_of (call_events c.tell.new.self.history)) ≡ length (turns_of old) =
    ap (λ (l : List CallEvent). length (turns_of l)) calls ∙ ap (λ (l : List CallEvent). length l) (turns_answered old c.args.stripe.0 c.args.place) in
    let long : length c.tell.new.self.history ≡ length (was.owner.history ++ Call call ∷ []) = ap (λ (l : List Event). length l) history in
    let appended = length-append was.owner.history (Call call ∷ []) in
    let fewer = (c.self.invariant.10 (subst IsUnanswered (sym (ap (λ (v : CallerView). v.calls) c.self.view_is)) c.requires.last)).0 in (
      subst (λ n. n < g.N.Named.config.callers) (sym same_as.0) c.self.invariant.0,
      ap (λ (o : OwnerView). o.board) same ∙ c.self.invariant.1,
      ap (λ (o : OwnerView). o.first) same ∙ c.self.invariant.2,
      ap (λ (o : OwnerView). o.lock) same ∙ (c.self.invariant.3 ∙ ap (λ n. caller_place g.N.Named.config n) (sym same_as.0)),
      only_called was.owner.history c.tell.new.self.history call history c.self.invariant.4,
      same_as.2 ∙ (c.self.invariant.5 ∙ sym turns),
      subst (λ n. n ≤ g.N.Named.config.max_events) (sym same_as.2) c.self.invariant.6,
      omega (arith, same_as.2, long, appended, fewer),
      same_as.3 ∙ c.self.invariant.8,
      same_as.4 ∙ ap (λ (l : List CallEvent). if c.if-self.self-inside.keeps then placed_in l else []) (sym calls),
      λ last. absurd (last_answered old c.args.stripe.0 c.args.place (subst IsUnanswered calls last)),
      c.self.invariant.11,
    )

pub returns-clause-noted : goal.returns-clause-noted
returns-clause-noted g c =
    let at = (goal.at.returns-clause-noted g c).After-tell in
    let same_as = kept g at in
    let call = answered_at c.args.stripe.0 c.args.place in
    let same : c.tell.new.self ≡ record c.self.inside.owner { history = c.self.inside.owner.history ++ Call call ∷ [] } = c.tell.ensures.same ∙ (same_as.1 ∙ c.append.ensures.history) in
    let was = c.self.inside in
    let calls = called_more was.owner.history c.tell.new.self.history call (ap (λ (o : OwnerView). o.history) same) in
    let made : c.tell.new.self.made ≡ was.owner.made = ap (λ (o : OwnerView). o.made) same in
    ap (λ n. record { number = n; calls = call_events c.tell.new.self.history; made = c.tell.new.self.made }) same_as.0
    ∙ (ap (λ (es : List CallEvent). record { number = was.number; calls = es; made = c.tell.new.self.made }) calls
    ∙ (ap (λ (m : List Span). record { number = was.number; calls = call_events was.owner.history ++ call ∷ []; made = m }) made
    ∙ ap (λ (v : CallerView). record v { calls = v.calls ++ call ∷ [] }) c.self.view_is))

pub returns-clause-told : goal.returns-clause-told
returns-clause-told g c =
    let at = (goal.at.returns-clause-told g c).After-tell in
    let same_as = kept g at in
    let call = answered_at c.args.stripe.0 c.args.place in
    let up : c.if-self.self-inside.owner ≡ record c.self.inside.owner { history = c.self.inside.owner.history ++ Call call ∷ [] } = same_as.1 ∙ c.append.ensures.history in
    let lock = ap (λ (o : OwnerView). o.lock) up ∙ (c.self.invariant.3 ∙ ap (λ (v : CallerView). caller_place g.N.Named.config v.number) c.self.view_is) in
    let only = only_called c.self.inside.owner.history c.if-self.self-inside.owner.history call (ap (λ (o : OwnerView). o.history) up) c.self.invariant.4 in
    called_told c.args.seen.now c.tell.new.seen c.if-self.self-inside.owner.lock (caller_place g.N.Named.config c.args.self.now.number) c.if-self.self-inside.owner.history c.tell.ensures.whole lock only
    ∙ ap (λ (o : OwnerView). record c.args.seen.now { sight = with_seen c.args.seen.now.sight (caller_place g.N.Named.config c.args.self.now.number) (calls_told (call_events o.history)) }) (sym c.tell.ensures.same)
