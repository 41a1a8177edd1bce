-- A judgement of a class's entry with its key's stripe, where the class's tokens are apart from it: each call that tells.
use Rattle.std.proofs.Common.{◌≡◌, ◌<◌, ℕ, List, arith, drop, length, refl, sym, ap, ◌∙◌, subst}
use Rattle.std.specs.Prelude.{◌≤◌}
use mathlib.Core.List.{IsPrefix}
use Rattle.atomic_table.specs.Seated.{TableId}
use Rattle.mc_item.specs.Stripe.{IsLegal}
use Rattle.mc_item.specs.declared.{answer.Site.Site, config.Config.Config, event.Event.Event, fault.Fault.Fault, item.Who.Who}
use Rattle.mc_rule.specs.{Lawful.IsLawfulHistoryByLists, Segment.Rule}
use Rattle.mc_board.specs.{Accounts.AreBy, Accounts.with_new, Histories.Grows, Histories.list_at, Histories.with_seen, Views.OwnerView, Views.SeenView}
use Rattle.mc_board.specs.declared.rule.Sight.{Sight}
use Rattle.mc_board.proofs.{AccountLemmas.are_by_end, PrefixLemmas.prefix_length, PrefixLemmas.prefix_self, SeenLemmas.list_at_other, SeenLemmas.list_at_same}
use Rattle.mc_segment.specs.ClassState.{ClassView, chunks_for}
use Rattle.mc_stripe.specs.{StripeCalls.KeepsSite, StripeState.Stripe, StripeState.cache_now}
use Rattle.mc_pull.specs.declared.looking.Judged.{Judged}
use Rattle.mc_pull.specs.{Agreeing.AgreeNow, Agreeing.KeepsAgreement, Judgement.done_of, Lone.StripeGrows, Question.HasKeyOf}
use Rattle.mc_pull.specs.{Question.MayJudge, Question.Question, Refusal.MayFail, Sight.KeepsSight, Walker.Walker}
use Rattle.mc_pull.specs.Growth as classes
use Rattle.mc_pull.proofs.NoStrangerLemmas.{known}
use Rattle.mc_store.specs.{Accounts.IsOfStretch, Accounts.Stretch, Looked.IsKnown, Locked.IsHeldClass, Locked.IsLockedStripe, Locked.HasBegun, Locked.class_lock, Passes.CallerView}
use Rattle.mc_store.specs.Serving.{IsServed, MayFailSeen}
use Rattle.mc_store.specs.{Serving.class_side, Sides.StripeSide, Sides.class_told, Sides.stripe_told, Walking.StillWalksFrom, Walking.with_class}
use Rattle.mc_store.proofs.{VisitedStripeLemmas.judged_listed, LockKeepsLemmas.class_sees, LockKeepsLemmas.grows_trans, LockKeepsLemmas.site_of_number, LockKeepsLemmas.stripe_sees, CallerLemmas.begun_sees}
use Rattle.mc_store.specs.Reached.{IsStateBetween, seen_stripes}
use Rattle.mc_store.proofs.{LockKeepsLemmas.heard_stripe, ReachedLemmas.state_told}
use Rattle.mc_store.proofs.AccountLemmas.{grows_itself, still_both, still_looked, still_walked, whole_grows}
use Rattle.mc_store.proofs.GateLemmas.{class_within, no_class_lock}
use Rattle.mc_store.proofs.SyncedStepLemmas.{agree_told, class_stepped, class_told_more, fails_seen, map_length, stripe_side, stripe_stepped}

module _ (table : TableId) (config : Config) (own : StripeSide) (own_kept : IsLockedStripe table config own) (s : Stripe) (own_owner : OwnerView) (own_seen : SeenView) (own_is : stripe_side own_owner own_seen s ≡ own)
    (owner : OwnerView) (seen : SeenView) (c : ClassView) {who : Who} (served : IsServed table config who owner seen c)
    (owner_up owner_told : OwnerView) (up : owner_up ≡ record owner { history = class_told c.history }) (same : owner_told ≡ owner_up)
    (own_heard : SeenView) (told : own_heard ≡ record own_seen { sight = with_seen own_seen.sight owner_up.lock owner_up.history }) (more : Grows own_seen.sight own_heard.sight)
    (own_told : StripeSide) (heard : SeenView) (same_of : own_told ≡ stripe_side own_owner own_heard s) (told_of : heard ≡ record seen { sight = with_seen seen.sight own_owner.lock (stripe_told s.history) })
    (more_of : Grows seen.sight heard.sight)
    (s_lent : Stripe) (lent_owner : OwnerView) (lent_seen : SeenView) (lent_is : stripe_side lent_owner lent_seen s_lent ≡ own_told) where
  lent_same : stripe_side lent_owner lent_seen s_lent ≡ stripe_side own_owner own_heard s
  lent_same = lent_is ∙ same_of

  -- the stripe as it was lent, with what it had seen before
  abbrev before : StripeSide
  before = record { board = lent_owner.board; lock = lent_owner.lock; stripe = s_lent; sight = own_seen.sight }

  before_kept : IsLockedStripe table config before
  before_kept = subst (IsLockedStripe table config) (sym (ap (λ (x : StripeSide). record x { sight = own_seen.sight }) lent_same ∙ own_is)) own_kept

  told_is : lent_seen.sight ≡ with_seen own_seen.sight owner.lock (class_told c.history)
  told_is = ap (λ (x : StripeSide). x.sight) lent_same ∙ (ap (λ (x : SeenView). x.sight) told ∙ ap (λ (o : OwnerView). with_seen own_seen.sight o.lock o.history) up)

  told_of_is : heard.sight ≡ with_seen seen.sight lent_owner.lock (stripe_told s_lent.history)
  told_of_is = ap (λ (x : SeenView). x.sight) told_of ∙ sym (ap (λ (x : StripeSide). with_seen seen.sight x.lock (stripe_told x.stripe.history)) lent_same)

  more_is : Grows own_seen.sight lent_seen.sight
  more_is = subst (Grows own_seen.sight) (sym (ap (λ (x : StripeSide). x.sight) lent_same)) more

  -- both as they were told of each other
  own_now : IsLockedStripe table config (record before { sight = lent_seen.sight })
  own_now = stripe_sees table config before lent_seen.sight more_is before_kept

  class_now : IsHeldClass table config (class_side owner heard c)
  class_now = class_sees table config (class_side owner seen c) heard.sight more_of served.kept

  agree : AgreeNow c s_lent
  agree = agree_told table config before (class_side owner seen c) before_kept served.kept lent_seen.sight heard.sight told_is told_of_is more_is more_of

  -- what was done with an entry of the stripe is what the stripe tells, which knows it
  pub known_judged : (q : Question) (j : Judged) → MayJudge c q → HasKeyOf (record { 0 = s_lent.site.stripe }) config c q → j.done ≡ done_of c (cache_now s_lent) q → IsKnown c s_lent q j
  known_judged q j may keyed is =
      let legal = subst (λ (t : Site). IsLegal t s_lent.history) (site_of_number config s_lent own_now.made_with) own_now.keeps.legal in
      let lawful = subst (λ (n : ℕ). IsLawfulHistoryByLists n c.rule c.history) (sym class_now.made_with.chunks)
      (subst (λ (r : Rule). IsLawfulHistoryByLists (chunks_for config c.number) r c.history) (sym class_now.made_with.rule) class_now.keeps.lawful) in
      record { done_is = is; known = λ stranger. known c s_lent config q agree lawful legal (judged_listed c q may) own_now.made_with.stripes keyed (sym is ∙ stranger) }

  -- the class's token has then seen the stripe as it was judged, after all that it had seen of it before
  pub state_judged : (last : Sight) → Grows heard.sight last → IsStateBetween config.stripes (seen_stripes seen.sight) (seen_stripes last) s_lent
  state_judged last later =
      state_told config.stripes seen.sight heard.sight last s_lent before_kept.of more_of later
      (ap (λ (t : Sight). seen_stripes t s_lent.site.stripe) told_of_is ∙ heard_stripe seen.sight lent_owner.lock s_lent.site.stripe s_lent.history before_kept.lock_is)

  module _ (s_new : Stripe) (c_new : ClassView) (site : KeepsSite s_lent s_new) (grows : classes.GainsEvents c c_new) (legal : IsLegal s_new.site s_new.history)
      (lawful : IsLawfulHistoryByLists c_new.chunks c_new.rule c_new.history)
      (agreement : KeepsAgreement c c_new s_lent s_new) (still : KeepsSight c c_new s_lent s_new)
      (lent_up : OwnerView) (stripe_up : lent_up ≡ record lent_owner { history = stripe_told s_new.history }) (owner_new owner_last : OwnerView)
      (class_up : owner_new ≡ record owner_told { history = class_told c_new.history })
      (same_new : owner_last ≡ owner_new) (lent_last : SeenView) (told_new : lent_last
      ≡ record lent_seen { sight = with_seen lent_seen.sight owner_new.lock owner_new.history }) (more_new : Grows lent_seen.sight lent_last.sight)
      (own_last : StripeSide) (last : SeenView) (same_of_new : own_last ≡ stripe_side lent_up lent_last s_new)
      (told_of_new : last ≡ record heard { sight = with_seen heard.sight lent_up.lock (stripe_told s_new.history) })
      (more_of_new : Grows heard.sight last.sight) where
    owner_is : owner_last ≡ record owner { history = class_told c_new.history }
    owner_is = same_new ∙ (class_up ∙ ap (λ (o : OwnerView). record o { history = class_told c_new.history }) (same ∙ up))

    told_new_is : lent_last.sight ≡ with_seen lent_seen.sight owner.lock (class_told c_new.history)
    told_new_is = ap (λ (x : SeenView). x.sight) told_new ∙ ap (λ (o : OwnerView). with_seen lent_seen.sight o.lock o.history) (sym same_new ∙ owner_is)

    told_of_new_is : last.sight ≡ with_seen heard.sight lent_owner.lock (stripe_told s_new.history)
    told_of_new_is = ap (λ (x : SeenView). x.sight) told_of_new ∙ ap (λ (o : OwnerView). with_seen heard.sight o.lock (stripe_told s_new.history)) stripe_up

    -- what was seen with the class's whole history, before and after
    abbrev seen_first : Sight
    seen_first = with_class config c.number c.history seen.sight

    abbrev seen_last : Sight
    seen_last = with_class config c.number c_new.history last.sight

    seen_grows : Grows seen_first seen_last
    seen_grows = whole_grows {x = seen.sight} {y = last.sight} (class_lock config c.number) (class_told c.history) (class_told c_new.history)
        (class_told_more c c_new (class_told c.history) grows refl) (grows_trans seen.sight heard.sight last.sight more_of more_of_new)

    lent_of : lent_owner.lock < config.stripes
    lent_of = subst (λ (n : ℕ). n < config.stripes) (sym before_kept.lock_is) before_kept.of

    lent_seen_last : list_at seen_last.seen lent_owner.lock ≡ stripe_told s_new.history
    lent_seen_last =
        list_at_other last.sight.seen (class_lock config c.number) lent_owner.lock (class_told c_new.history) (no_class_lock config c.number lent_owner.lock lent_of)
        ∙ (ap (λ (x : Sight). list_at x.seen lent_owner.lock) told_of_new_is ∙ list_at_same heard.sight.seen lent_owner.lock (stripe_told s_new.history))

    lent_within : length s_new.history ≤ length (list_at seen_last.seen lent_owner.lock)
    lent_within =
        let long : length (list_at seen_last.seen lent_owner.lock) ≡ length s_new.history =
        ap (λ (t : List Event). length t) lent_seen_last ∙ map_length Rattle.mc_item.specs.declared.event.Event.TheVariants.Stripe s_new.history in
        omega (arith, long)

    -- the class's history is no shorter than it was
    class_longer : length (class_told c.history) ≤ length (class_told c_new.history)
    class_longer = prefix_length (class_told c.history) (class_told c_new.history) (class_told_more c c_new (class_told c.history) grows refl)

    -- the class's owner has told no less than before
    pub owner_judged : length owner.history ≤ length owner_last.history
    owner_judged =
        let behind = prefix_length owner.history (class_told c.history) served.behind in
        let longer = class_longer in
        let long : length owner_last.history ≡ length (class_told c_new.history) = ap (λ (o : OwnerView). length o.history) owner_is in
        omega (arith, behind, longer, long)

    -- the caller's account gained only events of the class and of the stripe: what the board lacked of the class before, and of both after
    pub still_judged : (caller caller_up caller_mid caller_last : CallerView) (turn from : ℕ)
        → caller_up ≡ record caller { made = with_new caller.made turn owner.lock (length owner.history) (length c.history) }
        → caller_mid ≡ record caller_up { made = with_new caller_up.made turn lent_owner.lock from (length s_new.history) }
        → caller_last ≡ record caller_mid { made = with_new caller_mid.made turn owner_told.lock (length owner_told.history) (length c_new.history) }
        → StillWalksFrom config c.number (length owner.history) turn seen.sight last.sight c.history c_new.history caller caller_last
    still_judged caller caller_up caller_mid caller_last turn from first second third =
        let all : Stretch = record { from = length owner.history; until = length c_new.history } in
        let Suits = IsOfStretch config c.number all in
        let at : owner_told.lock ≡ class_lock config c.number = ap (λ (o : OwnerView). o.lock) (same ∙ up) ∙ served.kept.lock_is in
        let behind = prefix_length owner.history (class_told c.history) served.behind in
        let longer = class_longer in
        let long : length (class_told c.history) ≡ length c.history = map_length Rattle.mc_item.specs.declared.event.Event.TheVariants.Class c.history in
        let long_new : length (class_told c_new.history) ≡ length c_new.history = map_length Rattle.mc_item.specs.declared.event.Event.TheVariants.Class c_new.history in
        let caught : length owner_told.history ≡ length (class_told c.history) = ap (λ (o : OwnerView). length o.history) (same ∙ up) in
        let begins : (length owner.history ≤ length owner.history) × (length c.history ≤ length c_new.history) = (omega arith, omega (arith, longer, long, long_new)) in
        let ends : (length owner.history ≤ length owner_told.history) × (length c_new.history ≤ length c_new.history) = (omega (arith, behind, caught), omega arith) in
        still_both Suits turn {x = seen_first} {y = seen_first} {z = seen_last} caller caller_up caller_last
        (still_walked config c.number all {x = seen_first} {y = seen_first} caller caller_up turn owner.lock (length owner.history) (length c.history) first (grows_itself seen_first)
        (class_within config c.number c.history seen.sight owner.lock served.kept.lock_is) served.kept.lock_is begins)
        (still_both Suits turn {x = seen_first} {y = seen_last} {z = seen_last} caller_up caller_mid caller_last
        (still_looked config c.number all {x = seen_first} {y = seen_last} caller_up caller_mid turn lent_owner.lock from (length s_new.history) second seen_grows lent_within lent_of)
        (still_walked config c.number all {x = seen_last} {y = seen_last} caller_mid caller_last turn owner_told.lock (length owner_told.history) (length c_new.history) third
        (grows_itself seen_last) (class_within config c.number c_new.history last.sight owner_told.lock at) at ends))

    -- the stripe is as its lock keeps it
    pub stripe_judged : (w : Walker) → HasBegun config own_seen.sight w.who w.moment → StripeGrows w s_lent s_new → IsLockedStripe table config own_last
    stripe_judged w begun walked =
        subst (IsLockedStripe table config) (sym (same_of_new ∙ ap (λ (o : OwnerView). stripe_side o lent_last s_new) stripe_up))
        (stripe_stepped table config (record before { sight = lent_seen.sight }) (class_side owner heard c) own_now class_now agree s_new c_new site grows legal lawful agreement still
        lent_last.sight last.sight told_new_is told_of_new_is more_new more_of_new w (begun_sees config own_seen.sight lent_seen.sight w.who w.moment more_is begun) walked)

    -- the class can be walked on
    pub class_judged : IsServed table config who owner_last last c_new
    class_judged = record {
      kept = subst (λ (o : OwnerView). IsHeldClass table config (class_side o last c_new)) (sym owner_is)
          (class_stepped table config (record before { sight = lent_seen.sight }) (class_side owner heard c) own_now class_now agree s_new c_new site grows legal lawful agreement still
          lent_last.sight last.sight told_new_is told_of_new_is more_new more_of_new);
      behind = subst (λ (o : OwnerView). IsPrefix o.history (class_told c_new.history)) (sym owner_is) (prefix_self (class_told c_new.history));
      by = subst (λ (o : OwnerView). AreBy who (drop (length o.history) (class_told c_new.history))) (sym owner_is) (are_by_end who (class_told c_new.history));
      board_is = ap (λ (x : SeenView). x.board) told_of_new ∙ (ap (λ (x : SeenView). x.board) told_of ∙ (served.board_is ∙ ap (λ (o : OwnerView). o.board) (sym owner_is)));
    }

    -- a fault of the judgement is one that was seen
    pub fault_judged : (fault : Fault) → MayFail c_new s_new fault → MayFailSeen config last.sight c_new fault
    fault_judged fault may =
        fails_seen table config (record before { sight = lent_seen.sight }) (class_side owner heard c) own_now class_now agree s_new c_new site grows legal lawful agreement still
        lent_last.sight last.sight told_new_is told_of_new_is more_new more_of_new fault may
