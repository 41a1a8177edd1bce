-- A command that replaces an item by one of the same class, on the lent states of its stripe and of the class: the new
-- entry, then the old one, then each is told the other's whole history.
use Rattle.std.proofs.Common.{◌≡◌, ◌≢◌, ℕ, List, [], ◌∷◌, ◌++◌, false, refl, sym, ap, ◌∙◌, subst, append-nil}
use Rattle.std.specs.Prelude.{IsSome}
use Rattle.mc_item.specs.{Command.key_of, Stripe.MayDo, Stripe.cache_of}
use Rattle.mc_item.specs.declared.{class_event.ClassEvent.ClassEvent, class_event.Linked.Linked, class_event.Unlinked.Unlinked, item.ClassNo.ClassNo}
use Rattle.mc_item.specs.declared.{item.Link.Link, stripe_event.Did.Did, stripe_event.StripeEvent.StripeEvent}
use Rattle.mc_item.specs.declared.class_event.ClassEvent.TheVariants as entries
use Rattle.mc_item.specs.declared.reply.Room.TheVariants as rooms
use Rattle.mc_item.specs.declared.stripe_event.StripeEvent.TheVariants as items
use Rattle.mc_rule.proofs.{HistoryLemmas.lists_of-push, ListLemmas.nowhere, ListLemmas.other_stays, OnceLemmas.IsNumbered, OnceLemmas.numbered}
use Rattle.mc_rule.proofs.{EventPlaceLemmas.last_stands, EventPlaceLemmas.still_stands, TestLemmas.none_some, TestLemmas.not_equal, TestLemmas.some_same}
use Rattle.mc_rule.specs.{Belonging.IsEntryOf, Lawful.IsLawfulByLists, Lawful.is_named, Lists.found, Lists.lists_of, Places.Has}
use Rattle.mc_rule.specs.Pairs.{IsKeyOf, IsLinking, IsUnlinking, LetsGo, link_to}
use Rattle.mc_evidence.proofs.LentStepLemmas.{command_step, linking_step, unlinking_step}
use Rattle.mc_evidence.specs.{Locks.AreHeld, Locks.ClassKeeps, Locks.StripeKeeps, Setting.Setting, Setting.site_in}

-- an entry stays while another number is linked
entry_stays : (history : List ClassEvent) (n : ℕ) (key : List ℕ) (e : Linked) → IsNumbered history → is_named e.number history ≡ false → IsEntryOf history n key → IsEntryOf (history ++ entries.Linked e ∷ []) n key
entry_stays history n key e inv new entry =
    let apart : e.number ≢ n = λ same. none_some (sym (nowhere n (lists_of history) (inv.unnamed n (subst (λ m. is_named m history ≡ false) same new))) ∙ entry.there) in
    record {
      seg = entry.seg;
      entry = entry.entry;
      there = ap (found n) (lists_of-push history (entries.Linked e)) ∙ (other_stays n (lists_of history) (entries.Linked e) (not_equal e.number n apart) ∙ entry.there);
      key_is = entry.key_is;
    }

same_class : (link : Link) (class : ClassNo) (n : ℕ) → rooms.At link ≡ rooms.At (link_to class n) → link ≡ link_to class n
same_class link class n h = cc

chunk_or_refused : (link : Link) (class : ClassNo) (place : ℕ) → rooms.At link ≡ rooms.Refused class place → ⊥
chunk_or_refused link class place h = cc

module _ (setting : Setting) (s : ℕ) (class : ClassNo) (stripe : List StripeEvent) (history : List ClassEvent) (seen more : ClassNo → List ClassEvent) (seen_of more_of : ℕ → List StripeEvent)
    (held : AreHeld setting s class stripe history seen more seen_of more_of) where
  -- a new entry and the old one's going keep what both locks keep
  pub replacing_step : (did : Did) (e : Linked) (x : Unlinked) → MayDo (site_in setting s) (cache_of (site_in setting s) stripe) stripe did
      → IsLinking (site_in setting s) setting.rule class stripe did e → IsUnlinking (site_in setting s) class stripe did x → IsEntryOf history x.number (key_of did.command)
      → IsLawfulByLists (setting.chunks class) setting.rule history (entries.Linked e)
      → more class ≡ (history ++ entries.Linked e ∷ []) ++ entries.Unlinked x ∷ [] → more_of s ≡ stripe ++ items.Did did ∷ []
      → StripeKeeps setting s (stripe ++ items.Did did ∷ []) more × ClassKeeps setting class ((history ++ entries.Linked e ∷ []) ++ entries.Unlinked x ∷ []) more_of
  replacing_step did e x may linking unlinking entry lawful sees sees_of =
      let linked = linking_step setting s class stripe history seen_of more_of held.class_keeps held.grows_of did e linking (subst (IsKeyOf (site_in setting s)) (sym linking.key) may.stripe) lawful sees_of in
      let stays = entry_stays history x.number (key_of did.command) e (numbered (setting.chunks class) setting.rule history held.class_keeps.lawful) lawful.1 entry in
      let old : LetsGo (site_in setting s) stripe did (link_to class x.number) = unlinking.goes in (
        command_step setting s stripe seen more held.stripe_keeps held.grows did may
            (λ link room.
            let same : link ≡ link_to class e.number = same_class link class e.number (sym room ∙ linking.room) in
            subst (λ (l : Link). Has entries.Linked (more l.class) (λ behind y. IsLinking (site_in setting s) setting.rule l.class stripe did y)) (sym same)
            (subst (λ (h : List ClassEvent). Has entries.Linked h (λ behind y. IsLinking (site_in setting s) setting.rule class stripe did y)) (sym sees)
            (history, e, still_stands (history ++ entries.Linked e ∷ []) (entries.Unlinked x ∷ []) history (entries.Linked e) (last_stands history (entries.Linked e)), linking)))
            (λ link goes.
            let same : link ≡ link_to class x.number = some_same link (link_to class x.number) (sym goes.had ∙ old.had) in
            subst (λ (l : Link). Has entries.Unlinked (more l.class) (λ behind y. IsUnlinking (site_in setting s) l.class stripe did y)) (sym same)
            (subst (λ (h : List ClassEvent). Has entries.Unlinked h (λ behind y. IsUnlinking (site_in setting s) class stripe did y)) (sym sees)
            (history ++ entries.Linked e ∷ [], x, last_stands (history ++ entries.Linked e ∷ []) (entries.Unlinked x), unlinking)))
            (λ c place room. absurd (chunk_or_refused (link_to class e.number) c place (sym linking.room ∙ room))),
        unlinking_step setting s class stripe (history ++ entries.Linked e ∷ []) more_of more_of linked (λ t. ([], append-nil (more_of t))) did x unlinking stays may.stripe
            (subst IsSome (sym stays.there) refl) sees_of,
      )
