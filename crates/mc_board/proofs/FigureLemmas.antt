-- The figures of a history: eight numbers, which only class events change.
use Rattle.std.proofs.Common.{◌≡◌, List, [], ◌∷◌, ◌++◌, length, map, refl, ap, ◌∙◌, append-nil}
use Rattle.mc_item.specs.declared.{call_event.CallEvent.CallEvent, class_event.ClassEvent.ClassEvent, event.Event.Event, stripe_event.StripeEvent.StripeEvent}
use Rattle.mc_item.specs.declared.event.Event.TheVariants.{Stripe, Class, Call}
use Rattle.mc_rule.specs.{Figures.figures_of_lists, Lists.lists_of}
use Rattle.mc_evidence.specs.Seen.{class_events}
use Rattle.mc_evidence.proofs.SeenLemmas.{class_events-append, class_events-map}
use Rattle.mc_board.specs.Figures.{figures_of}

pub length-figures_of : (history : List Event) → length (figures_of history) ≡ 8
unfolding figures_of
length-figures_of history = refl

pub figures_of-nil : figures_of [] ≡ 0 ∷ 0 ∷ 0 ∷ 0 ∷ 0 ∷ 0 ∷ 0 ∷ 0 ∷ []
unfolding figures_of
figures_of-nil = refl

-- two histories with the same class events have the same figures
pub figures_of-same : (xs ys : List Event) → class_events xs ≡ class_events ys → figures_of xs ≡ figures_of ys
unfolding figures_of
figures_of-same xs ys same = ap (λ (es : List ClassEvent). figures_of_lists (lists_of es)) same

-- events that are no class's leave the figures as they were
pub figures_of-plain : (history entries : List Event) → class_events entries ≡ [] → figures_of (history ++ entries) ≡ figures_of history
figures_of-plain history entries plain =
    figures_of-same (history ++ entries) history
    (class_events-append history entries ∙ (ap (λ (es : List ClassEvent). class_events history ++ es) plain ∙ append-nil (class_events history)))

-- the figures of a class's history are those of its lists
pub figures_of-map : (es : List ClassEvent) → figures_of (map Class es) ≡ figures_of_lists (lists_of es)
unfolding figures_of
figures_of-map es = ap (λ (xs : List ClassEvent). figures_of_lists (lists_of xs)) (class_events-map es)

-- a stripe's events are no class's
pub class_events-stripe : (es : List StripeEvent) → class_events (map Stripe es) ≡ []
class_events-stripe [] = refl
class_events-stripe (e ∷ es) = class_events-stripe es

-- a caller's events are no class's
pub class_events-call : (es : List CallEvent) → class_events (map Call es) ≡ []
class_events-call [] = refl
class_events-call (e ∷ es) = class_events-call es

-- the rest of a list without class events has none
pub class_events-rest : (xs ys : List Event) → class_events (xs ++ ys) ≡ [] → class_events ys ≡ []
class_events-rest [] ys none = none
class_events-rest (Stripe e ∷ xs) ys none = class_events-rest xs ys none
class_events-rest (Class e ∷ xs) ys none = absurd (cc none)
class_events-rest (Call e ∷ xs) ys none = class_events-rest xs ys none
