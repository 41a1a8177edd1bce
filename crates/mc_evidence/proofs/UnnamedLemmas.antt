-- A number that no event of a class names is in no link that a stripe has named, where the class tells the stripe's events.
use Rattle.std.proofs.Common.{◌≡◌, ◌≢◌, ℕ, List, [], ◌∷◌, ◌++◌, sym, ap, ◌∙◌, subst, append_assoc, refl}
use Rattle.std.proofs.lemmas.Bool.{false≢true}
use Rattle.std.specs.Prelude.{false, ◌==◌, Some}
use Rattle.mc_item.specs.Stripe.{IsUnnamed, link_named, link_of}
use Rattle.mc_item.specs.declared.{answer.Site.Site, class_event.ClassEvent.ClassEvent, class_event.Linked.Linked, item.ClassNo.ClassNo, item.Link.Link}
use Rattle.mc_item.specs.declared.{reply.Room.Room, stripe_event.Did.Did, stripe_event.StripeEvent.StripeEvent}
use Rattle.mc_item.specs.declared.class_event.ClassEvent.TheVariants as entries
use Rattle.mc_item.specs.declared.reply.Room.TheVariants as rooms
use Rattle.mc_item.specs.declared.stripe_event.StripeEvent.TheVariants as items
use Rattle.mc_rule.proofs.{HistoryLemmas.stands_named, TestLemmas.itself}
use Rattle.mc_rule.specs.{Evidence.HasTrace, Lawful.is_named, Pairs.IsLinking, Pairs.link_to, Places.Each, Places.Has, Segment.Rule}

module _ (site : Site) (rule : Rule) (class : ClassNo) (n : ℕ) (history : List ClassEvent) (fresh : is_named n history ≡ false) where
  linked_named : (before : List StripeEvent) (did : Did) → did.room ≡ rooms.At (link_to class n) → Has entries.Linked history (λ behind e. IsLinking site rule class before did e) → ⊥
  linked_named before did room has =
      let e : Linked = has.1 in
      let pair : IsLinking site rule class before did e = has.3 in
      let number : rooms.At (link_to class e.number) ≡ rooms.At (link_to class n) = sym pair.room ∙ room in
      let links : link_to class e.number ≡ link_to class n = cc in
      let same : e.number ≡ n = ap (λ (l : Link). l.number) links in
      let named = stands_named n history has.0 (entries.Linked e) has.2 (ap (λ (m : ℕ). m == n) same ∙ itself n) in
      false≢true (sym fresh ∙ named)

  event_unnamed : (before : List StripeEvent) (e : StripeEvent) → HasTrace site rule class history before e → link_named e ≢ Some (link_to class n)
  event_unnamed before (items.Did did) told is = linked_named before did (at did.room is) (told.linked n (at did.room is))
    where
      at : (room : Room) → link_of room ≡ Some (link_to class n) → room ≡ rooms.At (link_to class n)
      at (rooms.At link) h = cc
      at rooms.Keep h = absurd (cc h)
      at (rooms.Refused c place) h = absurd (cc h)
  event_unnamed before (items.Lost lost) told is = cc
  event_unnamed before (items.Cooled cooled) told is = cc

  unnamed_from : (before es : List StripeEvent) → Each (HasTrace site rule class history) (before ++ es) → IsUnnamed (link_to class n) es
  unnamed_from before [] told = tt
  unnamed_from before (e ∷ es) told = (
    event_unnamed before e (told before e (record { later = es; is = refl })),
    unnamed_from (before ++ e ∷ []) es (subst (Each (HasTrace site rule class history)) (sym (append_assoc before (e ∷ []) es)) told),
  )

-- a new number is in no link of a stripe whose events the class tells
pub next_unnamed : (site : Site) (rule : Rule) (class : ClassNo) (n : ℕ) (stripe : List StripeEvent) (history : List ClassEvent) → Each (HasTrace site rule class history) stripe → is_named n history ≡ false
    → IsUnnamed (link_to class n) stripe
next_unnamed site rule class n stripe history told fresh = unnamed_from site rule class n history fresh [] stripe told
