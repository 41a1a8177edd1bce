-- Seen lists that grow show histories that grow.
use Rattle.std.proofs.Common.{◌≡◌, ℕ, ◌+◌, ◌-◌, List, [], ◌∷◌, ◌++◌, refl, sym, ap, ◌∙◌, map}
use mathlib.Core.List.{IsPrefix}
use Rattle.mc_item.specs.declared.{class_event.ClassEvent.ClassEvent, event.Event.Event, event.Event.TheVariants.Stripe, event.Event.TheVariants.Class}
use Rattle.mc_item.specs.declared.{event.Event.TheVariants.Call, stripe_event.StripeEvent.StripeEvent}
use Rattle.mc_evidence.specs.{Locks.SeesMore, Seen.class_events, Seen.classes_seen, Seen.stripe_events, Seen.stripes_seen}

-- the class's events of two lists are those of the one, then those of the other
pub class_events-append : (xs ys : List Event) → class_events (xs ++ ys) ≡ class_events xs ++ class_events ys
class_events-append [] ys = refl
class_events-append (Stripe e ∷ xs) ys = class_events-append xs ys
class_events-append (Class e ∷ xs) ys = ap (λ (t : List ClassEvent). e ∷ t) (class_events-append xs ys)
class_events-append (Call e ∷ xs) ys = class_events-append xs ys

-- and so are the stripe's
pub stripe_events-append : (xs ys : List Event) → stripe_events (xs ++ ys) ≡ stripe_events xs ++ stripe_events ys
stripe_events-append [] ys = refl
stripe_events-append (Stripe e ∷ xs) ys = ap (λ (t : List StripeEvent). e ∷ t) (stripe_events-append xs ys)
stripe_events-append (Class e ∷ xs) ys = stripe_events-append xs ys
stripe_events-append (Call e ∷ xs) ys = stripe_events-append xs ys

-- a class's own events are those that its lock was told
pub class_events-map : (es : List ClassEvent) → class_events (map Class es) ≡ es
class_events-map [] = refl
class_events-map (e ∷ es) = ap (λ (t : List ClassEvent). e ∷ t) (class_events-map es)

-- a stripe's own events are those that its lock was told
pub stripe_events-map : (es : List StripeEvent) → stripe_events (map Stripe es) ≡ es
stripe_events-map [] = refl
stripe_events-map (e ∷ es) = ap (λ (t : List StripeEvent). e ∷ t) (stripe_events-map es)

-- where each seen list is a beginning of another's, so are the classes' histories
pub classes_grow : (stripes : ℕ) (a b : ℕ → List Event) → ((lock : ℕ) → IsPrefix (a lock) (b lock)) → SeesMore (classes_seen stripes a) (classes_seen stripes b)
classes_grow stripes a b grows class =
    let p = grows (stripes + (class.0 - 1)) in
    (class_events p.0, sym (class_events-append (a (stripes + (class.0 - 1))) p.0) ∙ ap class_events p.1)

-- and so are the stripes'
pub stripes_grow : (a b : ℕ → List Event) → ((lock : ℕ) → IsPrefix (a lock) (b lock)) → SeesMore (stripes_seen a) (stripes_seen b)
stripes_grow a b grows s =
    let p = grows s in
    (stripe_events p.0, sym (stripe_events-append (a s) p.0) ∙ ap stripe_events p.1)
