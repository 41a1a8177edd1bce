-- What is done with an entry keeps a stripe's and its class's histories in agreement, and is nothing to other classes and stripes.
use Rattle.std.proofs.Common.{◌≡◌, ◌≢◌, ℕ, List, [], ◌∷◌, ◌++◌, Bool, true, false, Option, Some, None, refl, sym, ap, ◌∙◌, subst, length, arith}
use Rattle.std.specs.Prelude.{◌==◌, ◌&&◌, not, if◌then◌else◌, IsSomeAnd}
use Rattle.std.specs.Option.{option_map}
use Rattle.std.proofs.lemmas.Bool.Decides.{nat_tests}
use Rattle.mc_item.specs.{Item.is_dead, Item.link_of_item, Measure.cost_of, Stripe.cache_of, Stripe.IsLegal}
use Rattle.mc_item.specs.declared.{answer.Site.Site, class_event.ClassEvent.ClassEvent, class_event.Shifted.Shifted, item.ClassNo.ClassNo, item.Item.Item}
use Rattle.mc_item.specs.declared.{item.Link.Link, lists.Entry.Entry, lists.Seg.Seg, lists.Seg.TheVariants.Warm, lists.Seg.TheVariants.Cold}
use Rattle.mc_item.specs.declared.{stripe_event.StripeEvent.StripeEvent}
use Rattle.mc_item.specs.declared.class_event.Why.TheVariants as whys
use Rattle.mc_rule.specs.{Agreement.Agree, Belonging.Belong, Evidence.HasTrace, Lawful.IsLawfulHistoryByLists, Lawful.SuitsMove, Lists.found, Lists.lists_of}
use Rattle.mc_rule.specs.{Pairs.link_to, Pairs.item_after, Pairs.ClearsMark, Pairs.IsKeyOf, Segment.Rule}
use Rattle.mc_evidence.specs.Made.{IsOfOthers, lost_to, lost_at, cooled_as}
use Rattle.mc_evidence.proofs.{AgreementLemmas.agree_evicted, AgreementLemmas.agree_reclaimed, AgreementLemmas.agree_cooled, AgreementLemmas.agree_moved, RowLemmas.held}
use Rattle.mc_evidence.proofs.{SizedItemLemmas.key_of_stripe}
use Rattle.mc_segment.specs.{ClassCalls.evicted_event, ClassCalls.reclaimed_event, ClassCalls.shifted_event, ClassState.ClassView, Entries.entry_of}
use Rattle.mc_pull.specs.declared.{judge.Done.Done, judge.Judge.Judge, judge.Mode.Mode}
use Rattle.mc_pull.specs.declared.judge.Judge.TheVariants.{Walk, Dead, Hit}
use Rattle.mc_pull.specs.declared.{judge.Mode.TheVariants.Plain, judge.Mode.TheVariants.Evict, judge.Mode.TheVariants.Force}
use Rattle.mc_pull.specs.declared.judge.Done.TheVariants as done
use Rattle.mc_pull.specs.Judgement.{done_of, done_with, done_if, done_by, has_link}
use Rattle.mc_pull.specs.{Outcome.cold_why, Outcome.is_due, Outcome.is_over, Question.Question}
use Rattle.mc_pull.specs.Settled.{done_class_events, done_stripe_events, events_with, passed_of, warm_events, cold_events}
use Rattle.mc_pull.proofs.{OutcomeLemmas.Means, OutcomeLemmas.outcome_means, OtherSightLemmas.IsElsewhere, OtherSightLemmas.entry_of_others, OtherSightLemmas.of_one_stripe}

some_same : {A : Type 0} (a b : A) → Some a ≡ Some b → a ≡ b
some_same a b h = cc

stays : {E : Type 0} (es : List E) → es ++ [] ≡ es
stays [] = refl
stays {E} (e ∷ es) = ap (λ (x : List E). e ∷ x) (stays es)

-- ---- an item that has an entry's chunk
both_true : (a b : Bool) → (a && b) ≡ true → (a ≡ true) × (b ≡ true)
both_true true b h = (refl, h)
both_true false b h = cc

same_number : (a b : ℕ) → (a == b) ≡ true → a ≡ b
same_number a b h = grind (arith, nat_tests)

-- the item has the link of the entry
link_is : (class : ClassNo) (number : ℕ) (item : Item) → has_link class number item ≡ true → item.link ≡ link_to class number
link_is class number item h =
    let two = both_true _ _ h in
    ap (λ (n : ℕ). link_to (record { 0 = n }) item.link.number) (same_number _ _ two.0) ∙ ap (λ (n : ℕ). link_to class n) (same_number _ _ two.1)

-- a hit comes to nothing but these two
hit_never : (d : Done) → d ≢ done.ToWarm → d ≢ done.Stayed → (b : Bool) → (if b then done.ToWarm else done.Stayed) ≡ d → ⊥
hit_never d warm stayed true h = warm (sym h)
hit_never d warm stayed false h = stayed (sym h)

-- why an entry goes to COLD is never that its mark is cleared, and the item suits
why_passive : (rule : Rule) (c : ClassView) (s : Seg) (mode : Mode) → ClearsMark (cold_why rule (lists_of c.history) s mode) → ⊥
why_passive rule c s (Plain survey) h = by (is_over rule (lists_of c.history) s survey) h
  where
    by : (b : Bool) → ClearsMark (if b then whys.Over survey.place else whys.Old survey.place) → ⊥
    by true h = h
    by false h = h
why_passive rule c s Evict h = h
why_passive rule c s Force h = h

why_suits : (rule : Rule) (c : ClassView) (s : Seg) (mode : Mode) (moment : ℕ) (item : Item) → item.marks.active ≡ false → is_dead item moment ≡ false
    → SuitsMove (cold_why rule (lists_of c.history) s mode) moment item
why_suits rule c s (Plain survey) moment item passive alive = by (is_over rule (lists_of c.history) s survey)
  where
    by : (b : Bool) → SuitsMove (if b then whys.Over survey.place else whys.Old survey.place) moment item
    by true = (passive, alive)
    by false = (passive, alive)
why_suits rule c s Evict moment item passive alive = (passive, alive)
why_suits rule c s Force moment item passive alive = (passive, alive)

-- ---- a judgement's events
module _ (site : Site) (c : ClassView) (stripe : List StripeEvent) (q : Question) (legal : IsLegal site stripe) where
  -- the histories agree once this was done with an entry
  abbrev AgreesOn : Option Entry → Done → Type 0
  AgreesOn o d = Agree site c.rule c.number (stripe ++ events_with c q o d) (c.history ++ done_class_events c q (length stripe) d)

  module _ (lawful : IsLawfulHistoryByLists c.chunks c.rule c.history) (agree : Agree site c.rule c.number stripe c.history) where
    unchanged : Agree site c.rule c.number (stripe ++ []) (c.history ++ [])
    unchanged =
        subst (λ (es : List StripeEvent). Agree site c.rule c.number es (c.history ++ [])) (sym (stays stripe))
        (subst (λ (xs : List ClassEvent). Agree site c.rule c.number stripe xs) (sym (stays c.history)) agree)

    module _ (seg : Seg) (e : Entry) (there : found q.number (lists_of c.history) ≡ Some (seg, e)) (item : Item) (under : item_after site stripe e.key ≡ Some item)
        (link : has_link c.number q.number item ≡ true) where
      has : link_of_item (item_after site stripe e.key) ≡ Some (link_to c.number q.number)
      has = ap link_of_item under ∙ ap (λ (l : Link). Some l) (link_is c.number q.number item link)

      one : Belong site c.number stripe c.history e.key q.number
      one = record { item = has; entry = record { seg = seg; entry = e; there = there; key_is = refl } }

      of : IsKeyOf site e.key
      of = key_of_stripe site stripe e.key item.link (cost_of e.key item.value) legal (ap (held e.key) under)

      suits : (P : Item → Type 0) → P item → IsSomeAnd (item_after site stripe e.key) P
      suits P p = subst (λ (o : Option Item). IsSomeAnd o P) (sym under) p

      -- the move of an active entry
      warmed : (s : Seg) (passed : List ℕ) → item.marks.active ≡ true → is_dead item q.moment ≡ false
          → Agree site c.rule c.number (stripe ++ cooled_as q.who e.key ∷ []) (c.history ++ shifted_event q.who q.number Warm whys.Active q.moment passed (length stripe) s ∷ [])
      warmed s passed active alive =
          let moved : Shifted = record { who = q.who; number = q.number; from_seg = s; to_seg = Warm; why = whys.Active; moment = q.moment; passed = passed; at = length stripe } in
          agree_cooled site c.rule c.number stripe c.history agree c.chunks lawful e.key moved tt refl one (suits (SuitsMove whys.Active q.moment) (active, alive)) of

      -- the move for a hit
      hit_warmed : item.marks.active ≡ true
          → Agree site c.rule c.number (stripe ++ cooled_as q.who e.key ∷ []) (c.history ++ shifted_event q.who q.number Warm whys.Hit q.moment [] (length stripe) Cold ∷ [])
      hit_warmed active =
          let moved : Shifted = record { who = q.who; number = q.number; from_seg = Cold; to_seg = Warm; why = whys.Hit; moment = q.moment; passed = []; at = length stripe } in
          agree_cooled site c.rule c.number stripe c.history agree c.chunks lawful e.key moved tt refl one (suits (SuitsMove whys.Hit q.moment) active) of

      -- the move of an entry to COLD
      cooled : (s : Seg) (mode : Mode) (passed : List ℕ) → item.marks.active ≡ false → is_dead item q.moment ≡ false
          → Agree site c.rule c.number stripe (c.history ++ shifted_event q.who q.number Cold (cold_why c.rule (lists_of c.history) s mode) q.moment passed (length stripe) s ∷ [])
      cooled s mode passed passive alive =
          let why = cold_why c.rule (lists_of c.history) s mode in
          let moved : Shifted = record { who = q.who; number = q.number; from_seg = s; to_seg = Cold; why = why; moment = q.moment; passed = passed; at = length stripe } in
          agree_moved site c.rule c.number stripe c.history agree e.key moved (why_passive c.rule c s mode) refl one (suits (SuitsMove why q.moment) (why_suits c.rule c s mode q.moment item passive alive))

      taken : AgreesOn (Some e) done.Evicted
      taken = agree_evicted site c.rule c.number stripe c.history agree q.who e.key (passed_of q.judge) q.number one

      reclaimed : is_dead item q.moment ≡ true → AgreesOn (Some e) done.Reclaimed
      reclaimed dead = agree_reclaimed site c.rule c.number stripe c.history agree q.who e.key q.number q.moment one (suits (λ i. is_dead i q.moment ≡ true) dead)

      -- by what was asked: the item is dead; or it is active and alive; or neither
      dead_by : (judge : Judge) → done_by c.rule (lists_of c.history) q.moment judge e item ≡ done.Reclaimed → is_dead item q.moment ≡ true
      dead_by (Walk s mode passed) is =
          let due = is_due c.rule (lists_of c.history) s mode q.moment e in
          subst (Means s mode (is_dead item q.moment) item.marks.active due) is (outcome_means s mode (is_dead item q.moment) item.marks.active due)
      dead_by Dead is = by (is_dead item q.moment) is
        where
          by : (b : Bool) → (if b then done.Reclaimed else done.Alive item.expiry) ≡ done.Reclaimed → b ≡ true
          by true h = refl
          by false h = cc
      dead_by Hit is = absurd (hit_never done.Reclaimed (λ h. cc) (λ h. cc) (item.marks.active && not (is_dead item q.moment)) is)

      never : (d : Done) → d ≢ done.Reclaimed → ((expiry : _) → d ≢ done.Alive expiry) → (b : Bool) → (if b then done.Reclaimed else done.Alive item.expiry) ≡ d → ⊥
      never d dead alive true h = dead (sym h)
      never d dead alive false h = alive item.expiry (sym h)

      warmed_by : (judge : Judge) → done_by c.rule (lists_of c.history) q.moment judge e item ≡ done.ToWarm
          → Agree site c.rule c.number (stripe ++ cooled_as q.who e.key ∷ []) (c.history ++ warm_events q (length stripe) judge)
      warmed_by (Walk s mode passed) is =
          let due = is_due c.rule (lists_of c.history) s mode q.moment e in
          let means = subst (Means s mode (is_dead item q.moment) item.marks.active due) is (outcome_means s mode (is_dead item q.moment) item.marks.active due) in
          warmed s passed means.1 means.0
      warmed_by Dead is = absurd (never done.ToWarm (λ h. cc) (λ expiry h. cc) (is_dead item q.moment) is)
      warmed_by Hit is = hit_warmed (both_true item.marks.active (not (is_dead item q.moment)) (by (item.marks.active && not (is_dead item q.moment)) is)).0
        where
          by : (b : Bool) → (if b then done.ToWarm else done.Stayed) ≡ done.ToWarm → b ≡ true
          by true h = refl
          by false h = cc

      within_by : (judge : Judge) → done_by c.rule (lists_of c.history) q.moment judge e item ≡ done.WithinWarm
          → Agree site c.rule c.number (stripe ++ cooled_as q.who e.key ∷ []) (c.history ++ warm_events q (length stripe) judge)
      within_by (Walk s mode passed) is =
          let due = is_due c.rule (lists_of c.history) s mode q.moment e in
          let means = subst (Means s mode (is_dead item q.moment) item.marks.active due) is (outcome_means s mode (is_dead item q.moment) item.marks.active due) in
          warmed s passed means.1 means.0
      within_by Dead is = absurd (never done.WithinWarm (λ h. cc) (λ expiry h. cc) (is_dead item q.moment) is)
      within_by Hit is = absurd (hit_never done.WithinWarm (λ h. cc) (λ h. cc) (item.marks.active && not (is_dead item q.moment)) is)

      cooled_by : (judge : Judge) → done_by c.rule (lists_of c.history) q.moment judge e item ≡ done.ToCold
          → Agree site c.rule c.number stripe (c.history ++ cold_events c q (length stripe) judge)
      cooled_by (Walk s mode passed) is =
          let due = is_due c.rule (lists_of c.history) s mode q.moment e in
          let means = subst (Means s mode (is_dead item q.moment) item.marks.active due) is (outcome_means s mode (is_dead item q.moment) item.marks.active due) in
          cooled s mode passed means.1 means.0
      cooled_by Dead is = absurd (never done.ToCold (λ h. cc) (λ expiry h. cc) (is_dead item q.moment) is)
      cooled_by Hit is = absurd (hit_never done.ToCold (λ h. cc) (λ h. cc) (item.marks.active && not (is_dead item q.moment)) is)

      item_agrees : (d : Done) → done_by c.rule (lists_of c.history) q.moment q.judge e item ≡ d → AgreesOn (Some e) d
      item_agrees done.Reclaimed is = reclaimed (dead_by q.judge is)
      item_agrees done.ToWarm is = warmed_by q.judge is
      item_agrees done.WithinWarm is = within_by q.judge is
      item_agrees done.ToCold is = subst (λ (es : List StripeEvent). Agree site c.rule c.number es (c.history ++ cold_events c q (length stripe) q.judge)) (sym (stays stripe)) (cooled_by q.judge is)
      item_agrees done.Evicted is = taken
      item_agrees done.Stayed is = unchanged
      item_agrees (done.Alive expiry) is = unchanged
      item_agrees done.Stranger is = unchanged

    item_of : (seg : Seg) (e : Entry) → found q.number (lists_of c.history) ≡ Some (seg, e) → (o : Option Item) → item_after site stripe e.key ≡ o
        → (d : Done) → done_if c.number q.number o (done_by c.rule (lists_of c.history) q.moment q.judge e) ≡ d → AgreesOn (Some e) d
    item_of seg e there None under d is = subst (AgreesOn (Some e)) is unchanged
    item_of seg e there (Some item) under d is = by (has_link c.number q.number item) refl is
      where
        by : (b : Bool) → has_link c.number q.number item ≡ b → (if b then done_by c.rule (lists_of c.history) q.moment q.judge e item else done.Stranger) ≡ d → AgreesOn (Some e) d
        by true link is = item_agrees seg e there item under link d is
        by false link is = subst (AgreesOn (Some e)) is unchanged

    entry_agrees : (o : Option (Seg × Entry)) → found q.number (lists_of c.history) ≡ o → (d : Done)
        → done_with c (cache_of site stripe) q (option_map (λ (p : Seg × Entry). p.1) o) ≡ d → AgreesOn (option_map (λ (p : Seg × Entry). p.1) o) d
    entry_agrees None there d is = subst (AgreesOn None) is unchanged
    entry_agrees (Some (seg, e)) there d is = item_of seg e there (item_after site stripe e.key) refl d is

    -- what was done with the entry of a question keeps its class and its stripe in agreement
    pub settled_agrees : (d : Done) → done_of c (cache_of site stripe) q ≡ d → Agree site c.rule c.number (stripe ++ done_stripe_events c q d) (c.history ++ done_class_events c q (length stripe) d)
    settled_agrees d is = entry_agrees (found q.number (lists_of c.history)) refl d is

  -- ---- the other classes: what holds after the events that are told there, holds
  module _ (other : ClassNo) (apart : other ≢ c.number) (rule : Rule) (seen : List ClassEvent) (P : List StripeEvent → Type 0) (now : P stripe)
      (push : (e : StripeEvent) → HasTrace site rule other seen stripe e → P (stripe ++ e ∷ [])) where
    told_nothing : (key : List ℕ) → link_of_item (item_after site stripe key) ≡ Some (link_to c.number q.number) → (number : ℕ)
        → link_of_item (item_after site stripe key) ≡ Some (link_to other number) → ⊥
    told_nothing key has number is =
        let same : link_to other number ≡ link_to c.number q.number = some_same _ _ (sym is ∙ has) in
        apart (ap (λ (l : Link). l.class) same)

    untouched : P (stripe ++ [])
    untouched = subst P (sym (stays stripe)) now

    module _ (e : Entry) (item : Item) (under : item_after site stripe e.key ≡ Some item) (link : has_link c.number q.number item ≡ true) where
      has_here : link_of_item (item_after site stripe e.key) ≡ Some (link_to c.number q.number)
      has_here = ap link_of_item under ∙ ap (λ (l : Link). Some l) (link_is c.number q.number item link)

      item_spared : (d : Done) → P (stripe ++ events_with c q (Some e) d)
      item_spared done.Reclaimed = push (lost_at q.who e.key q.moment) (λ number is. absurd (told_nothing e.key has_here number is))
      item_spared done.ToWarm = push (cooled_as q.who e.key) (λ number is. absurd (told_nothing e.key has_here number is))
      item_spared done.WithinWarm = push (cooled_as q.who e.key) (λ number is. absurd (told_nothing e.key has_here number is))
      item_spared done.ToCold = untouched
      item_spared done.Evicted = push (lost_to c.number q.who e.key (length c.history)) (λ number is. absurd (told_nothing e.key has_here number is))
      item_spared done.Stayed = untouched
      item_spared (done.Alive expiry) = untouched
      item_spared done.Stranger = untouched

    key_spared : (e : Entry) (o : Option Item) → item_after site stripe e.key ≡ o → (d : Done) → done_if c.number q.number o (done_by c.rule (lists_of c.history) q.moment q.judge e) ≡ d
        → P (stripe ++ events_with c q (Some e) d)
    key_spared e None under d is = subst (λ (x : Done). P (stripe ++ events_with c q (Some e) x)) is untouched
    key_spared e (Some item) under d is = by (has_link c.number q.number item) refl is
      where
        by : (b : Bool) → has_link c.number q.number item ≡ b → (if b then done_by c.rule (lists_of c.history) q.moment q.judge e item else done.Stranger) ≡ d
            → P (stripe ++ events_with c q (Some e) d)
        by true link is = item_spared e item under link d
        by false link is = subst (λ (x : Done). P (stripe ++ events_with c q (Some e) x)) is untouched

    entry_spared : (o : Option Entry) (d : Done) → done_with c (cache_of site stripe) q o ≡ d → P (stripe ++ events_with c q o d)
    entry_spared None d is = subst (λ (x : Done). P (stripe ++ events_with c q None x)) is untouched
    entry_spared (Some e) d is = key_spared e (item_after site stripe e.key) refl d is

    -- what each other class tells nothing of stays so
    pub settled_spares : (d : Done) → done_of c (cache_of site stripe) q ≡ d → P (stripe ++ done_stripe_events c q d)
    settled_spares d is = entry_spared (entry_of q.number (lists_of c.history)) d is

  -- ---- the other stripes: what holds after the events that are for none of their entries, holds
  module _ (other : Site) (same : other.stripes ≡ site.stripes) (apart : other.stripe ≢ site.stripe) (P : List ClassEvent → Type 0) (now : P c.history)
      (push : (x : ClassEvent) → IsElsewhere other c.history x → P (c.history ++ x ∷ [])) (at : ℕ) where
    unmoved : P (c.history ++ [])
    unmoved = subst P (sym (stays c.history)) now

    module _ (away : IsOfOthers other c.history q.number) where
      warm_far : (judge : Judge) → P (c.history ++ warm_events q at judge)
      warm_far (Walk s mode passed) = push (shifted_event q.who q.number Warm whys.Active q.moment passed at s) away
      warm_far Dead = unmoved
      warm_far Hit = push (shifted_event q.who q.number Warm whys.Hit q.moment [] at Cold) away

      cold_far : (judge : Judge) → P (c.history ++ cold_events c q at judge)
      cold_far (Walk s mode passed) = push (shifted_event q.who q.number Cold (cold_why c.rule (lists_of c.history) s mode) q.moment passed at s) away
      cold_far Dead = unmoved
      cold_far Hit = unmoved

      item_far : (d : Done) → P (c.history ++ done_class_events c q at d)
      item_far done.Reclaimed = push (reclaimed_event q.who q.number q.moment at) away
      item_far done.ToWarm = warm_far q.judge
      item_far done.WithinWarm = warm_far q.judge
      item_far done.ToCold = cold_far q.judge
      item_far done.Evicted = push (evicted_event q.who q.number (passed_of q.judge) at) away
      item_far done.Stayed = unmoved
      item_far (done.Alive expiry) = unmoved
      item_far done.Stranger = unmoved

    key_far : (seg : Seg) (e : Entry) → found q.number (lists_of c.history) ≡ Some (seg, e) → (o : Option Item) → item_after site stripe e.key ≡ o
        → (d : Done) → done_if c.number q.number o (done_by c.rule (lists_of c.history) q.moment q.judge e) ≡ d → P (c.history ++ done_class_events c q at d)
    key_far seg e there None under d is = subst (λ (x : Done). P (c.history ++ done_class_events c q at x)) is unmoved
    key_far seg e there (Some item) under d is =
        let of = key_of_stripe site stripe e.key item.link (cost_of e.key item.value) legal (ap (held e.key) under) in
        item_far (entry_of_others other c.history q.number seg e there (of_one_stripe site other same apart e.key of)) d

    entry_far : (o : Option (Seg × Entry)) → found q.number (lists_of c.history) ≡ o → (d : Done)
        → done_with c (cache_of site stripe) q (option_map (λ (p : Seg × Entry). p.1) o) ≡ d → P (c.history ++ done_class_events c q at d)
    entry_far None there d is = subst (λ (x : Done). P (c.history ++ done_class_events c q at x)) is unmoved
    entry_far (Some (seg, e)) there d is = key_far seg e there (item_after site stripe e.key) refl d is

    -- what each other stripe is asked nothing for stays so
    pub settled_far : (d : Done) → done_of c (cache_of site stripe) q ≡ d → P (c.history ++ done_class_events c q at d)
    settled_far d is = entry_far (found q.number (lists_of c.history)) refl d is
