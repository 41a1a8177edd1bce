-- A judgement keeps agreement, and what is seen elsewhere, whichever way it ends.
use Rattle.std.proofs.Common.{◌≡◌, ◌≢◌, ◌++◌, ◌∷◌, [], List, Result, Ok, Err, sym, ap, subst, length}
use Rattle.std.specs.Prelude.{IfOk, OnErr}
use Rattle.mc_item.specs.Stripe.{IsLegal}
use Rattle.mc_item.specs.declared.{answer.Site.Site, class_event.ClassEvent.ClassEvent, fault.Fault.Fault, item.ClassNo.ClassNo}
use Rattle.mc_item.specs.declared.{stripe_event.StripeEvent.StripeEvent}
use Rattle.mc_rule.specs.{Agreement.Agree, Cited.IsSuited, Evidence.IsBacked, Evidence.HasTrace, Lawful.IsLawfulHistoryByLists, Places.Each, Segment.Rule}
use Rattle.mc_rule.proofs.EventPlaceLemmas.{each_push}
use Rattle.mc_evidence.proofs.{CitedItemLemmas.all_suited_later, EvidenceGrowthLemmas.stripe_push}
use Rattle.mc_segment.specs.ClassState.{ClassView, with_room}
use Rattle.mc_stripe.specs.{StripeCalls.KeepsSite, StripeState.Stripe, StripeState.cache_now}
use Rattle.mc_pull.specs.{Agreeing.AgreeNow, Agreeing.KeepsAgreement, Judgement.done_of, Question.Question, Sight.KeepsSight}
use Rattle.mc_pull.specs.Settled.{IsSettled, done_class_events, class_with, done_stripe_events}
use Rattle.mc_pull.specs.declared.judge.Done.{Done}
use Rattle.mc_pull.proofs.SettledLemmas.{settled_agrees, settled_far, settled_spares}
use Rattle.mc_pull.proofs.OtherSightLemmas.{IsElsewhere, backed_on, suited_on}

module _ (c : ClassView) (s s_new : Stripe) (site : KeepsSite s s_new) where
  -- an event of the stripe that another class has told
  told_push : (rule : Rule) (other : ClassNo) (history : List ClassEvent) → Agree s.site rule other s.history history → (e : StripeEvent) → HasTrace s.site rule other history s.history e
      → Agree s.site rule other (s.history ++ e ∷ []) history
  told_push rule other history agree e told = record {
    evidence = stripe_push s.site rule other s.history history agree.evidence e told;
    suited = all_suited_later s.site other s.history (e ∷ []) history agree.suited;
    once = agree.once;
  }

  -- with these events at the ends of both histories
  kept_with : (c_new : ClassView) (es : List StripeEvent) (xs : List ClassEvent) (room : _) → c_new ≡ class_with c xs room → s_new.history ≡ s.history ++ es
      → (AgreeNow c s → Agree s.site c.rule c.number (s.history ++ es) (c.history ++ xs))
      → ((other : ClassNo) (rule : Rule) (history : List ClassEvent) → other ≢ c.number → Agree s.site rule other s.history history → Agree s.site rule other (s.history ++ es) history)
      → KeepsAgreement c c_new s s_new
  kept_with c_new es xs room class stripe own others = record {
    own = λ agree. subst (λ (v : ClassView). AgreeNow v s_new) (sym class)
        (subst (λ (t : Site). Agree t c.rule c.number s_new.history (c.history ++ xs)) (sym site.site)
        (subst (λ (h : List StripeEvent). Agree s.site c.rule c.number h (c.history ++ xs)) (sym stripe) (own agree)));
    others = λ other rule history apart agree. subst (λ (h : List StripeEvent). Agree s.site rule other h history) (sym stripe) (others other rule history apart agree);
  }

  -- a judgement, whichever way it ended
  pub judgement_kept : (q : Question) (c_new : ClassView) (result : Result Done Fault) → IsLegal s.site s.history → IsLawfulHistoryByLists c.chunks c.rule c.history
      → IfOk result (λ made. made ≡ done_of c (cache_now s) q) → IfOk result (λ made. IsSettled c c_new s s_new q made)
      → OnErr result ((c_new ≡ with_room c c_new.room) × (s_new.history ≡ s.history)) → KeepsAgreement c c_new s s_new
  judgement_kept q c_new (Ok made) legal lawful done settled err =
      kept_with c_new (done_stripe_events c q made) (done_class_events c q (length s.history) made) c_new.room settled.class settled.stripe
      (λ agree. settled_agrees s.site c s.history q legal lawful agree made (sym done))
      (λ other rule history apart agree. settled_spares s.site c s.history q legal other apart rule history (λ h. Agree s.site rule other h history) agree (told_push rule other history agree) made (sym done))
  judgement_kept q c_new (Err fault) legal lawful done settled err = record {
    own = λ agree. subst (λ (v : ClassView). AgreeNow v s_new) (sym err.0)
        (subst (λ (t : Site). Agree t c.rule c.number s_new.history c.history) (sym site.site)
        (subst (λ (h : List StripeEvent). Agree s.site c.rule c.number h c.history) (sym err.1) agree));
    others = λ other rule history apart agree. subst (λ (h : List StripeEvent). Agree s.site rule other h history) (sym err.1) agree;
  }

  -- what is seen elsewhere, with these events at the ends of both histories
  seen_with : (c_new : ClassView) (es : List StripeEvent) (xs : List ClassEvent) → c_new.history ≡ c.history ++ xs → s_new.history ≡ s.history ++ es
      → ((other : ClassNo) (rule : Rule) (seen : List ClassEvent) → other ≢ c.number → Each (HasTrace s.site rule other seen) s.history → Each (HasTrace s.site rule other seen) (s.history ++ es))
      → ((other : Site) → other.stripes ≡ s.site.stripes → other.stripe ≢ s.site.stripe → (P : List ClassEvent → Type 0) → P c.history
      → ((x : ClassEvent) → IsElsewhere other c.history x → P (c.history ++ x ∷ [])) → P (c.history ++ xs))
      → KeepsSight c c_new s s_new
  seen_with c_new es xs class stripe told far = record {
    told = λ other rule seen apart each. subst (Each (HasTrace s.site rule other seen)) (sym stripe) (told other rule seen apart each);
    backed = λ other seen same apart each. subst (Each (IsBacked other c.rule c.number seen)) (sym class)
        (far other same apart (Each (IsBacked other c.rule c.number seen)) each (backed_on other c.number seen c.rule c.history each));
    suited = λ other seen same apart each. subst (Each (IsSuited other c.number seen)) (sym class)
        (far other same apart (Each (IsSuited other c.number seen)) each (suited_on other c.number seen c.history each));
  }

  -- what is seen elsewhere of a judgement, whichever way it ended
  pub judgement_seen : (q : Question) (c_new : ClassView) (result : Result Done Fault) → IsLegal s.site s.history
      → IfOk result (λ made. made ≡ done_of c (cache_now s) q) → IfOk result (λ made. IsSettled c c_new s s_new q made)
      → OnErr result ((c_new ≡ with_room c c_new.room) × (s_new.history ≡ s.history)) → KeepsSight c c_new s s_new
  judgement_seen q c_new (Ok made) legal done settled err =
      seen_with c_new (done_stripe_events c q made) (done_class_events c q (length s.history) made) (ap (λ (v : ClassView). v.history) settled.class) settled.stripe
      (λ other rule seen apart each. settled_spares s.site c s.history q legal other apart rule seen (Each (HasTrace s.site rule other seen)) each
      (λ e told. each_push (HasTrace s.site rule other seen) s.history e each told) made (sym done))
      (λ other same apart P now push. settled_far s.site c s.history q legal other same apart P now push (length s.history) made (sym done))
  judgement_seen q c_new (Err fault) legal done settled err = record {
    told = λ other rule seen apart each. subst (Each (HasTrace s.site rule other seen)) (sym err.1) each;
    backed = λ other seen same apart each. subst (λ (v : ClassView). Each (IsBacked other c.rule c.number seen) v.history) (sym err.0) each;
    suited = λ other seen same apart each. subst (λ (v : ClassView). Each (IsSuited other c.number seen) v.history) (sym err.0) each;
  }
