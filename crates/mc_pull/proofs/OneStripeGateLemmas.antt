-- What a walker leaves of the one stripe that its gate is lent.
use Rattle.std.proofs.Common.{◌≡◌, ◌++◌, List, [], ◌∷◌, Option, Some, None, Result, Ok, Err, refl, sym, ap, ◌∙◌, subst, append_assoc}
use Rattle.std.specs.Prelude.{IfOk, OnErr}
use Rattle.std.proofs.lemmas.{List.append-nil, List.Elements.All-nil, List.Elements.All-push}
use Rattle.mc_item.specs.declared.{answer.Site.Site, class_event.ClassEvent.ClassEvent, class_event.Surveyed.Surveyed, fault.Fault.Fault, item.ClassNo.ClassNo, item.StripeNo.StripeNo}
use Rattle.mc_item.specs.declared.{lists.Entry.Entry, stripe_event.StripeEvent.StripeEvent}
use Rattle.mc_item.specs.declared.class_event.ClassEvent.TheVariants as entries
use Rattle.mc_rule.specs.{Agreement.Agree, Lists.lists_of, Segment.Rule}
use Rattle.mc_evidence.proofs.AgreementLemmas.{agree_surveyed}
use Rattle.mc_segment.specs.{ClassState.ClassView, ClassState.with_room, Entries.entry_of}
use Rattle.mc_stripe.specs.{StripeCalls.KeepsSite, StripeState.Stripe}
use Rattle.mc_pull.specs.{Agreeing.KeepsAgreement, Lone.AnswersAlone, Lone.AreMadeBy, Lone.IsAnsweredAlone, Lone.Walked, Question.Question, Walker.Walker, Walker.walker_of}
use Rattle.mc_pull.specs.Settled.{IsSettled, events_with, done_stripe_events}
use Rattle.mc_pull.specs.declared.{judge.Done.Done, lone.Lone.Lone, looking.Answer.Answer}
use Rattle.mc_pull.specs.declared.judge.Done.TheVariants as done

all_both : (w : Walker) (xs ys : List StripeEvent) → AreMadeBy w xs → AreMadeBy w ys → AreMadeBy w (xs ++ ys)
all_both w [] ys first more = more
all_both w (x ∷ xs) ys first more = (first.0, all_both w xs ys first.1 more)

-- nothing was done
pub walked_itself : (w : Walker) (s : Stripe) (history : List ClassEvent) → Walked w s history s history
walked_itself w s history = record {
  grows = record { site = record { site = refl; limit = refl; keeps_events = refl }; events = []; each = tt; history_is = sym (append-nil s.history) };
  own = λ agree. agree;
  others = λ other rule es apart agree. agree;
}

-- one thing after another
pub walked_both : (w : Walker) (a b c : Stripe) (x y z : List ClassEvent) → Walked w a x b y → Walked w b y c z → Walked w a x c z
walked_both w a b c x y z first more = record {
  grows = record {
    site = record { site = more.grows.site.site ∙ first.grows.site.site; limit = more.grows.site.limit ∙ first.grows.site.limit; keeps_events = more.grows.site.keeps_events ∙ first.grows.site.keeps_events };
    events = first.grows.events ++ more.grows.events;
    each = all_both w first.grows.events more.grows.events first.grows.each more.grows.each;
    history_is = more.grows.history_is ∙ (ap (λ (h : List StripeEvent). h ++ more.grows.events) first.grows.history_is ∙ append_assoc a.history first.grows.events more.grows.events);
  };
  own = λ agree. subst (λ (t : Site). Agree t w.rule w.class b.history y → Agree t w.rule w.class c.history z) first.grows.site.site more.own (first.own agree);
  others = λ other rule es apart agree.
      subst (λ (t : Site). Agree t rule other b.history es → Agree t rule other c.history es) first.grows.site.site (more.others other rule es apart) (first.others other rule es apart agree);
}

-- a survey changes nothing of it
pub walked_survey : (w : Walker) (a b : Stripe) (x y : List ClassEvent) (survey : Surveyed) → Walked w a x b y → Walked w a x b (y ++ entries.Surveyed survey ∷ [])
walked_survey w a b x y survey walked = record {
  grows = walked.grows;
  own = λ agree. agree_surveyed a.site w.rule w.class b.history y (walked.own agree) survey;
  others = walked.others;
}

-- ---- what the gate answered
-- nothing yet
pub alone_itself : (g : Lone) → AnswersAlone g g
alone_itself g = record { number_is = refl; answers = []; answers_are = sym (append-nil g.answers.now); each = All-nil (IsAnsweredAlone g.number) }

-- nothing more
pub alone_later : (g h k : Lone) → AnswersAlone g h → k.number ≡ h.number → k.answers.now ≡ h.answers.now → AnswersAlone g k
alone_later g h k before number same = record { number_is = number ∙ before.number_is; answers = before.answers; answers_are = same ∙ before.answers_are; each = before.each }

-- one answer more
pub alone_more : (g h k : Lone) (a : Answer) → AnswersAlone g h → k.number ≡ h.number → k.answers.now ≡ h.answers.now ++ a ∷ [] → IsAnsweredAlone h.number a
    → AnswersAlone g k
alone_more g h k a before number more told = record {
  number_is = number ∙ before.number_is;
  answers = before.answers ++ a ∷ [];
  answers_are = more ∙ (ap (λ (xs : List Answer). xs ++ a ∷ []) before.answers_are ∙ append_assoc g.answers.now before.answers (a ∷ []));
  each = All-push (IsAnsweredAlone g.number) before.answers a before.each (subst (λ (n : StripeNo). IsAnsweredAlone n a) before.number_is told);
}

-- ---- a judgement
made_by : (c : ClassView) (q : Question) (o : Option Entry) (d : Done) → AreMadeBy (walker_of c q.who q.moment) (events_with c q o d)
made_by c q None d = tt
made_by c q (Some e) done.Reclaimed = ((refl, refl), tt)
made_by c q (Some e) done.ToWarm = (refl, tt)
made_by c q (Some e) done.WithinWarm = (refl, tt)
made_by c q (Some e) done.ToCold = tt
made_by c q (Some e) done.Evicted = ((refl, refl), tt)
made_by c q (Some e) done.Stayed = tt
made_by c q (Some e) (done.Alive expiry) = tt
made_by c q (Some e) done.Stranger = tt

-- what a judgement leaves, whichever way it ended
module _ (c c_new : ClassView) (s s_new : Stripe) (q : Question) (site : KeepsSite s s_new) (agreement : KeepsAgreement c c_new s s_new) where
  walked_with : (es : List StripeEvent) → AreMadeBy (walker_of c q.who q.moment) es → s_new.history ≡ s.history ++ es → c_new.number ≡ c.number → c_new.rule ≡ c.rule
      → Walked (walker_of c q.who q.moment) s c.history s_new c_new.history
  walked_with es each is number rule = record {
    grows = record { site = site; events = es; each = each; history_is = is };
    own = λ agree.
        subst (λ (n : ClassNo). Agree s.site c.rule n s_new.history c_new.history) number
        (subst (λ (r : Rule). Agree s.site r c_new.number s_new.history c_new.history) rule
        (subst (λ (t : Site). Agree t c_new.rule c_new.number s_new.history c_new.history) site.site (agreement.own agree)));
    others = agreement.others;
  }

  pub settle_walked : {T : Type 0} (made : T → Done) (result : Result T Fault) → IfOk result (λ x. IsSettled c c_new s s_new q (made x))
      → OnErr result ((c_new ≡ with_room c c_new.room) × (s_new.history ≡ s.history)) → Walked (walker_of c q.who q.moment) s c.history s_new c_new.history
  settle_walked made (Ok x) settled err =
      walked_with (done_stripe_events c q (made x)) (made_by c q (entry_of q.number (lists_of c.history)) (made x)) settled.stripe
      (ap (λ (v : ClassView). v.number) settled.class) (ap (λ (v : ClassView). v.rule) settled.class)
  settle_walked made (Err fault) settled err =
      walked_with [] tt (err.1 ∙ sym (append-nil s.history)) (ap (λ (v : ClassView). v.number) err.0) (ap (λ (v : ClassView). v.rule) err.0)
