-- A move to WARM's head: the item is active, the event may come, and it is just what a judgement makes.
use Rattle.std.proofs.Common.{◌≡◌, ◌≢◌, ◌⊎◌, ℕ, List, [], ◌∷◌, ◌++◌, Bool, true, false, Option, Some, None, refl, sym, ap, ◌∙◌, subst, inl, inr, length}
use Rattle.std.specs.Prelude.{◌&&◌, not, if◌then◌else◌, IsSomeAnd}
use Rattle.mc_item.specs.declared.{class_event.ClassEvent.ClassEvent, class_event.Why.Why, item.Item.Item, lists.Entry.Entry, lists.Seg.Seg}
use Rattle.mc_item.specs.declared.lists.Seg.TheVariants.{Warm, Cold, Temp}
use Rattle.mc_item.specs.declared.stripe_event.StripeEvent.{StripeEvent}
use Rattle.mc_item.specs.{Cache.Cache, Item.is_dead}
use Rattle.mc_rule.specs.{Lawful.IsIn, Lists.lists_of, Lists.segment_of}
use Rattle.mc_segment.specs.{ClassCalls.MayCome, ClassCalls.shifted_event, ClassState.ClassView, ClassState.appended, ClassState.with_room, Entries.entry_of}
use Rattle.mc_stripe.specs.StripeState.{Stripe}
use Rattle.mc_pull.specs.declared.{judge.Done.Done, judge.Judge.Judge, judge.Mode.Mode}
use Rattle.mc_pull.specs.declared.judge.Judge.TheVariants.{Walk, Dead, Hit}
use Rattle.mc_pull.specs.declared.judge.Done.TheVariants as done
use Rattle.mc_pull.specs.Judgement.{done_by, done_of, done_with, has_link}
use Rattle.mc_pull.specs.{Outcome.is_due, Outcome.outcome_of, Question.MayJudge, Question.MayJudgeBy, Question.Question}
use Rattle.mc_pull.specs.Settled.{IsSettled, done_class_events, class_with, cooled_event, events_on, events_with, passed_of, warm_events, warm_why}
use Rattle.mc_pull.proofs.OutcomeLemmas.{Means, done_is, outcome_means}

warm_temp : Warm ≡ Temp → ⊥
warm_temp h = cc

-- the item of a key is active
abbrev pub IsActive : Option Item → Type 0
IsActive o = IsSomeAnd o (λ item. item.marks.active ≡ true)

-- a number is in the list of its segment
abbrev pub AreLists : ClassView → Type 0
AreLists c = (s : Seg) (n : ℕ) → IsIn s n (lists_of c.history) → segment_of n (lists_of c.history) ≡ Some s

-- what the key of an entry has, the same key has
pub keyed : (o : Option Entry) (key : List ℕ) (P : List ℕ → Type 0) → IsSomeAnd o (λ e. key ≡ e.key) → IsSomeAnd o (λ e. P e.key) → P key
keyed None key P is h = absurd h
keyed (Some e) key P is h = subst P (sym is) h

module _ (c : ClassView) (q : Question) (d : Done) (warm : (d ≡ done.ToWarm) ⊎ (d ≡ done.WithinWarm)) where
  -- nothing else was done
  warm_not : (x : Done) → x ≢ done.ToWarm → x ≢ done.WithinWarm → x ≡ d → ⊥
  warm_not x to within is = by warm
    where
      by : (d ≡ done.ToWarm) ⊎ (d ≡ done.WithinWarm) → ⊥
      by (inl h) = to (is ∙ h)
      by (inr h) = within (is ∙ h)

  known : d ≡ done.Stranger → ⊥
  known is = warm_not done.Stranger (λ h. cc) (λ h. cc) (sym is)

  -- by what was asked
  walk_warm : (s : Seg) (mode : Mode) (dead active due : Bool) → outcome_of s mode dead active due ≡ d → (active ≡ true) × (s ≡ Temp → ⊥)
  walk_warm s mode dead active due is = by warm
    where
      by : (d ≡ done.ToWarm) ⊎ (d ≡ done.WithinWarm) → (active ≡ true) × (s ≡ Temp → ⊥)
      by (inl h) =
          let means = subst (Means s mode dead active due) (is ∙ h) (outcome_means s mode dead active due) in
          (means.1, means.2)
      by (inr h) =
          let means = subst (Means s mode dead active due) (is ∙ h) (outcome_means s mode dead active due) in
          (means.1, λ temp. warm_temp (sym means.2 ∙ temp))

  dead_warm : (b : Bool) (item : Item) → (if b then done.Reclaimed else done.Alive item.expiry) ≡ d → ⊥
  dead_warm true item is = warm_not done.Reclaimed (λ h. cc) (λ h. cc) is
  dead_warm false item is = warm_not (done.Alive item.expiry) (λ h. cc) (λ h. cc) is

  hit_warm : (active dead : Bool) → (if active && not dead then done.ToWarm else done.Stayed) ≡ d → active ≡ true
  hit_warm true dead is = refl
  hit_warm false dead is = absurd (warm_not done.Stayed (λ h. cc) (λ h. cc) is)

  module _ (at : ℕ) where
    abbrev moved : Judge → Seg → ClassEvent
    moved judge from_seg = shifted_event q.who q.number Warm (warm_why judge) q.moment (passed_of judge) at from_seg

    -- the move from a segment may come, and is just what is made
    abbrev pub IsMoved : Judge → Seg → Type 0
    IsMoved judge from_seg = MayCome c (moved judge from_seg) × (warm_events q at judge ≡ moved judge from_seg ∷ [])

    pub may_come : (o : Option Seg) (judge : Judge) → IsSomeAnd o (IsMoved judge) → IsSomeAnd o (λ from_seg. MayCome c (moved judge from_seg))
    may_come None judge h = h
    may_come (Some s) judge h = h.0

    module _ (lists : AreLists c) where
      by_judge : (judge : Judge) (e : Entry) (item : Item) → MayJudgeBy c q.who q.number q.moment judge → done_by c.rule (lists_of c.history) q.moment judge e item ≡ d
          → (item.marks.active ≡ true) × IsSomeAnd (segment_of q.number (lists_of c.history)) (IsMoved judge)
      by_judge (Walk s mode passed) e item may is =
          let of = walk_warm s mode (is_dead item q.moment) item.marks.active (is_due c.rule (lists_of c.history) s mode q.moment e) is in
          (of.0, subst (λ (o : Option Seg). IsSomeAnd o (IsMoved (Walk s mode passed))) (sym (lists s q.number may.listed)) ((may.listed, (of.1, refl, may.near)), refl))
      by_judge Dead e item may is = absurd (dead_warm (is_dead item q.moment) item is)
      by_judge Hit e item may is = (
        hit_warm item.marks.active (is_dead item q.moment) is,
        subst (λ (o : Option Seg). IsSomeAnd o (IsMoved Hit)) (sym (lists Cold q.number may)) ((may, (refl, refl, refl)), refl),
      )

      by_item : (e : Entry) (o : Option Item) → MayJudge c q
          → IsSomeAnd o (λ item. (has_link c.number q.number item ≡ true) × (done_by c.rule (lists_of c.history) q.moment q.judge e item ≡ d))
          → IsActive o × IsSomeAnd (segment_of q.number (lists_of c.history)) (IsMoved q.judge)
      by_item e None may h = absurd h
      by_item e (Some item) may h = by_judge q.judge e item may h.1

      by_entry : (cache : Cache) (o : Option Entry) → MayJudge c q → done_with c cache q o ≡ d
          → IsSomeAnd o (λ e. IsActive (cache.items e.key)) × IsSomeAnd (segment_of q.number (lists_of c.history)) (IsMoved q.judge)
      by_entry cache None may is = absurd (known (sym is))
      by_entry cache (Some e) may is = by_item e (cache.items e.key) may (done_is c cache q d known (Some e) is)

      -- an entry that goes to WARM has an active item, and its move may come
      pub warm_moved : (cache : Cache) → MayJudge c q → done_of c cache q ≡ d
          → IsSomeAnd (entry_of q.number (lists_of c.history)) (λ e. IsActive (cache.items e.key)) × IsSomeAnd (segment_of q.number (lists_of c.history)) (IsMoved q.judge)
      warm_moved cache may is = by_entry cache (entry_of q.number (lists_of c.history)) may is

    -- ---- what stands in the histories
    class_is : (o : Option Seg) (c_new : ClassView) → IsSomeAnd o (IsMoved q.judge) → IsSomeAnd o (λ from_seg. c_new ≡ appended c (moved q.judge from_seg) c_new.room)
        → c_new ≡ class_with c (done_class_events c q at d) c_new.room
    class_is None c_new is made = absurd is
    class_is (Some s) c_new is made =
        subst (λ (es : List ClassEvent). c_new ≡ class_with c es c_new.room) (sym (by warm ∙ is.1)) made
      where
        by : (d ≡ done.ToWarm) ⊎ (d ≡ done.WithinWarm) → done_class_events c q at d ≡ warm_events q at q.judge
        by (inl h) = ap (done_class_events c q at) h
        by (inr h) = ap (done_class_events c q at) h

    stripe_is : (o : Option Entry) (key : List ℕ) → IsSomeAnd o (λ e. key ≡ e.key) → events_with c q o d ≡ cooled_event q.who key ∷ []
    stripe_is None key is = absurd is
    stripe_is (Some e) key is = by warm ∙ ap (λ (k : List ℕ). cooled_event q.who k ∷ []) (sym is)
      where
        by : (d ≡ done.ToWarm) ⊎ (d ≡ done.WithinWarm) → events_on c q e.key d ≡ cooled_event q.who e.key ∷ []
        by (inl h) = ap (events_on c q e.key) h
        by (inr h) = ap (events_on c q e.key) h

    -- the move and the cleared mark are what was to be done, whatever the class's room was in between
    pub warm_settled : (mid c_new : ClassView) (s s_mid s_new : Stripe) (why : Why) (passed key : List ℕ) → mid ≡ with_room c mid.room → s_mid.history ≡ s.history → at ≡ length s.history
        → why ≡ warm_why q.judge → passed ≡ passed_of q.judge → IsSomeAnd (entry_of q.number (lists_of c.history)) (λ e. key ≡ e.key)
        → IsSomeAnd (segment_of q.number (lists_of mid.history)) (λ from_seg. c_new ≡ appended mid (shifted_event q.who q.number Warm why q.moment passed at from_seg) c_new.room)
        → s_new.history ≡ s_mid.history ++ cooled_event q.who key ∷ [] → IsSomeAnd (segment_of q.number (lists_of c.history)) (IsMoved q.judge) → IsSettled c c_new s s_new q d
    warm_settled mid c_new s s_mid s_new why passed key room same place why_is passed_is key_is made cooled is =
        let P : ClassView → Why → List ℕ → Type 0 =
        λ x w p. IsSomeAnd (segment_of q.number (lists_of x.history)) (λ from_seg. c_new
        ≡ appended x (shifted_event q.who q.number Warm w q.moment p at from_seg) c_new.room) in
        let here : P c (warm_why q.judge) (passed_of q.judge) =
        subst (λ (x : ClassView). P x (warm_why q.judge) (passed_of q.judge)) room (subst (λ (w : Why). P mid w (passed_of q.judge)) why_is (subst (λ (p : List ℕ). P mid why p) passed_is made)) in
        record {
          class = subst (λ (n : ℕ). c_new ≡ class_with c (done_class_events c q n d) c_new.room) place (class_is (segment_of q.number (lists_of c.history)) c_new is here);
          stripe = cooled ∙ (ap (λ (h : List StripeEvent). h ++ cooled_event q.who key ∷ []) same
              ∙ ap (λ (es : List StripeEvent). s.history ++ es) (sym (stripe_is (entry_of q.number (lists_of c.history)) key key_is)));
        }
