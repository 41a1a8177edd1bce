-- A call keeps agreement, that of each class that it is lent with its stripe and that of each other class, and what is seen elsewhere.
use Rattle.std.proofs.Common.{◌≡◌, ◌≢◌, ◌++◌, ℕ, List, [], ◌∷◌, refl, sym, ap, ◌∙◌, subst, inl, inr, ◌⊎◌}
use Rattle.std.specs.Prelude.{Option, Some, None}
use Rattle.mc_item.specs.{Cache.changed, Cache.counted, Cache.marked, Cache.touched, Item.link_of_item, Stripe.IsLegal, Stripe.link_of}
use Rattle.mc_item.specs.declared.{answer.Change.Change, answer.Site.Site, class_event.ClassEvent.ClassEvent, config.Config.Config, item.ClassNo.ClassNo}
use Rattle.mc_item.specs.declared.{item.Item.Item, item.Link.Link, stripe_event.StripeEvent.StripeEvent}
use Rattle.mc_item.specs.declared.answer.Change.TheVariants as changes
use Rattle.mc_rule.specs.{Agreement.Agree, Cited.IsSuited, Evidence.IsBacked, Evidence.HasTrace, Lawful.IsLawfulHistoryByLists}
use Rattle.mc_rule.specs.{Pairs.link_to, Places.Each as EachEvent, Segment.Rule}
use Rattle.mc_rule.proofs.TestLemmas.{none_some, some_same}
use Rattle.mc_evidence.specs.Made.{IsGivenNone, LetsNoneGo}
use Rattle.mc_evidence.proofs.AgreementLemmas.{agree_neither}
use Rattle.mc_segment.specs.ClassState.{ClassView}
use Rattle.mc_stripe.specs.{Plan.fate_of, Plan.gone_fate, StripeCalls.KeepsSite, StripeState.Stripe}
use Rattle.mc_pull.specs.{Agreeing.AgreeNow, Agreeing.HasRefusal, Agreeing.IsApart, Agreeing.KeepsAgreements, Lent.AreDistinct, Lent.OfEachClass, Lent.EachPair}
use Rattle.mc_pull.specs.{Lent.IsLent, Lent.IsLentIf, Sight.BacksStill, Sight.KeepsSights, Sight.SuitsStill}
use Rattle.mc_pull.specs.Perform.{AreLent, Call, GivesRoom, MayPerform, answer_to, item_before}
use Rattle.mc_pull.specs.Performed.{GainsPart, IsPerformed, IsUntouched, ClassStays, events_in}
use Rattle.mc_pull.proofs.CallItemLemmas.{did, given_none, kept_link, key, neither_told, noted, placed, refused_there, spared_if_apart, spared_if_kept}
use Rattle.mc_pull.proofs.{ClassPartLemmas.part_agrees, OtherStripeLemmas.IsNumbered, OtherStripeLemmas.part_far}
use Rattle.mc_pull.proofs.{NewVersionLemmas.IsPlaced, OtherSightLemmas.backed_on, OtherSightLemmas.suited_on}

-- ---- the classes of a list
abbrev pub IsOf : ClassView → List ClassView → Type 0
IsOf v [] = ⊥
IsOf v (w ∷ ws) = (v ≡ w) ⊎ IsOf v ws

pub each_at : (P : ClassView → Type 0) (vs : List ClassView) → OfEachClass P vs → (v : ClassView) → IsOf v vs → P v
each_at P [] all v there = absurd there
each_at P (w ∷ ws) all v (inl is) = subst P (sym is) all.0
each_at P (w ∷ ws) all v (inr later) = each_at P ws all.1 v later

pairs_at : (R Q : ClassView → ClassView → Type 0) (vs ws : List ClassView) → EachPair R vs ws → ((v w : ClassView) → IsOf v vs → R v w → Q v w) → EachPair Q vs ws
pairs_at R Q [] [] pairs by = tt
pairs_at R Q (v ∷ vs) (w ∷ ws) pairs by = (by v w (inl refl) pairs.0, pairs_at R Q vs ws pairs.1 (λ x y there r. by x y (inr there) r))
pairs_at R Q [] (w ∷ ws) pairs by = absurd pairs
pairs_at R Q (v ∷ vs) [] pairs by = absurd pairs

-- two lent classes of one number are one
pub one_class : (vs : List ClassView) → AreDistinct vs → (v w : ClassView) → IsOf v vs → IsOf w vs → v.number ≡ w.number → v ≡ w
one_class [] distinct v w there here same = absurd there
one_class (x ∷ vs) distinct v w (inl is) (inl is2) same = is ∙ sym is2
one_class (x ∷ vs) distinct v w (inl is) (inr later) same = absurd (each_at (λ y. x.number ≢ y.number) vs distinct.0 w later (ap (λ (y : ClassView). y.number) (sym is) ∙ same))
one_class (x ∷ vs) distinct v w (inr later) (inl is) same = absurd (each_at (λ y. x.number ≢ y.number) vs distinct.0 v later (ap (λ (y : ClassView). y.number) (sym is) ∙ sym same))
one_class (x ∷ vs) distinct v w (inr there) (inr here) same = one_class vs distinct.1 v w there here same

not_lent : (vs : List ClassView) (n : ClassNo) (link : Link) → IsApart n vs → IsLent vs link → link.class ≡ n → ⊥
not_lent [] n link apart lent of = lent
not_lent (v ∷ vs) n link apart (inl is) of = apart.0 (sym of ∙ sym is)
not_lent (v ∷ vs) n link apart (inr later) of = not_lent vs n link apart.1 later of

not_lent_if : (vs : List ClassView) (n : ClassNo) (o : Option Link) → IsApart n vs → IsLentIf vs o → (m : ℕ) → o ≡ Some (link_to n m) → ⊥
not_lent_if vs n None apart lent m is = none_some is
not_lent_if vs n (Some link) apart lent m is = not_lent vs n link apart lent (ap (λ (l : Link). l.class) (some_same _ _ is))

-- ---- a call
module _ (config : Config) (s : Stripe) (c : Call) (vs : List ClassView) (may : MayPerform config s c vs) (legal : IsLegal s.site s.history) where
  -- a lent class agrees
  own_agrees : (v : ClassView) → IsOf v vs → IsLawfulHistoryByLists v.chunks v.rule v.history → AgreeNow v s → Agree s.site v.rule v.number (noted s c) (v.history ++ events_in s c v)
  own_agrees v there lawful agree = part_agrees s c legal may.answer v lawful agree (each_at (GivesRoom c.who c.room) vs may.rooms v there).named

  -- a class that isn't lent
  module _ (other : ClassNo) (apart : IsApart other vs) (history : List ClassEvent) where
    gone_lent : (found : Option Item) → AreLent vs c.room (gone_fate found) → IsLentIf vs (link_of_item found)
    gone_lent None lent = tt
    gone_lent (Some item) lent = lent

    abbrev IsSpared : Type 0
    IsSpared = IsGivenNone other (did s c) × LetsNoneGo s.site other s.history (did s c)

    kept_spared : (change : Change) → (answer_to s c).change ≡ change → IsPlaced c.room changes.Stays → link_of_item (changed (item_before s c) change) ≡ link_of_item (item_before s c) → IsSpared
    kept_spared change is none keeps = (
      given_none s c legal may.answer other history none,
      spared_if_kept s c legal may.answer other history (ap (λ (x : Change). link_of_item (changed (item_before s c) x)) is ∙ keeps),
    )

    spared_by : (change : Change) → (answer_to s c).change ≡ change → IsPlaced c.room change → AreLent vs c.room (fate_of (key s c) (item_before s c) change) → IsSpared
    spared_by changes.Stays is at lent = kept_spared changes.Stays is at refl
    spared_by changes.Goes is at lent = (
      given_none s c legal may.answer other history at,
      spared_if_apart s c legal may.answer other history (λ has. not_lent_if vs other (link_of_item (item_before s c)) apart (gone_lent (item_before s c) lent) has.0 has.1),
    )
    spared_by (changes.Hit marks) is at lent = kept_spared (changes.Hit marks) is at (kept_link (item_before s c) (marked marks) (λ i. refl))
    spared_by (changes.Touched expiry marks) is at lent = kept_spared (changes.Touched expiry marks) is at (kept_link (item_before s c) (touched expiry marks) (λ i. refl))
    spared_by (changes.Counted value cas) is at lent = kept_spared (changes.Counted value cas) is at (kept_link (item_before s c) (counted value cas) (λ i. refl))
    spared_by (changes.Renewed item) is at lent = (
      λ m room. not_lent_if vs other (link_of c.room) apart lent.0 m (ap link_of room),
      spared_if_apart s c legal may.answer other history (λ has. not_lent_if vs other (link_of_item (item_before s c)) apart lent.1 has.0 has.1),
    )

    -- it is given and loses nothing
    other_spared : IsSpared
    other_spared = spared_by (answer_to s c).change refl (placed s c legal may.answer) may.lent

    other_agrees : (rule : Rule) → HasRefusal c.who c.room other history → Agree s.site rule other s.history history → Agree s.site rule other (noted s c) history
    other_agrees rule refusal agree =
        agree_neither s.site rule other s.history history agree (did s c) other_spared.0 other_spared.1 (refused_there s c legal may.answer other history refusal)

    other_told : (rule : Rule) → HasRefusal c.who c.room other history → EachEvent (HasTrace s.site rule other history) s.history → EachEvent (HasTrace s.site rule other history) (noted s c)
    other_told rule refusal each = neither_told s c rule other history other_spared.0 other_spared.1 (refused_there s c legal may.answer other history refusal) each

-- ---- what a call leaves
module _ (config : Config) (s s_new : Stripe) (c : Call) (vs ws : List ClassView) (site : KeepsSite s s_new) where
  -- the site and the history in their new places
  moved_to : (rule : Rule) (n : ClassNo) (h : List StripeEvent) (history : List ClassEvent) → s_new.history ≡ h → Agree s.site rule n h history → Agree s_new.site rule n s_new.history history
  moved_to rule n h history is agree =
      subst (λ (t : Site). Agree t rule n s_new.history history) (sym site.site) (subst (λ (x : List StripeEvent). Agree s.site rule n x history) (sym is) agree)

  -- a call that was made
  pub performed_kept : MayPerform config s c vs → IsLegal s.site s.history → OfEachClass (λ v. IsLawfulHistoryByLists v.chunks v.rule v.history) vs → IsPerformed s s_new c vs ws → KeepsAgreements c s s_new vs ws
  performed_kept may legal lawful made = record {
    own = pairs_at (GainsPart s c) (λ v w. AgreeNow v s → AgreeNow w s_new) vs ws made.classes (λ v w there gains agree.
        subst (λ (x : ClassView). AgreeNow x s_new) (sym gains)
        (moved_to v.rule v.number (noted s c) (v.history ++ events_in s c v) made.stripe
        (own_agrees config s c vs may legal v there (each_at (λ (x : ClassView). IsLawfulHistoryByLists x.chunks x.rule x.history) vs lawful v there) agree)));
    others = λ other rule history apart refusal agree.
        subst (λ (x : List StripeEvent). Agree s.site rule other x history) (sym made.stripe) (other_agrees config s c vs may legal other apart history rule refusal agree);
  }

  -- a call that made nothing
  pub untouched_kept : IsUntouched s s_new vs ws → KeepsAgreements c s s_new vs ws
  untouched_kept same = record {
    own = pairs_at ClassStays (λ v w. AgreeNow v s → AgreeNow w s_new) vs ws same.classes (λ v w there stays agree.
        subst (λ (x : ClassView). AgreeNow x s_new) (sym stays) (moved_to v.rule v.number s.history v.history same.stripe agree));
    others = λ other rule history apart refusal agree. subst (λ (x : List StripeEvent). Agree s.site rule other x history) (sym same.stripe) agree;
  }

  -- what is seen elsewhere of a call that was made
  pub performed_seen : MayPerform config s c vs → IsLegal s.site s.history → OfEachClass IsNumbered vs → IsPerformed s s_new c vs ws → KeepsSights c s s_new vs ws
  performed_seen may legal numbered made = record {
    told = λ other rule seen apart refusal each.
        subst (EachEvent (HasTrace s.site rule other seen)) (sym made.stripe) (other_told config s c vs may legal other apart seen rule refusal each);
    backed = pairs_at (GainsPart s c) (BacksStill s.site) vs ws made.classes (λ v w there gains other seen same apart each.
        subst (EachEvent (IsBacked other v.rule v.number seen)) (sym (ap (λ (x : ClassView). x.history) gains))
        (part_far s c may.answer v (each_at IsNumbered vs numbered v there) other same apart (EachEvent (IsBacked other v.rule v.number seen)) each
        (λ h x all away. backed_on other v.number seen v.rule h all x away)));
    suited = pairs_at (GainsPart s c) (SuitsStill s.site) vs ws made.classes (λ v w there gains other seen same apart each.
        subst (EachEvent (IsSuited other v.number seen)) (sym (ap (λ (x : ClassView). x.history) gains))
        (part_far s c may.answer v (each_at IsNumbered vs numbered v there) other same apart (EachEvent (IsSuited other v.number seen)) each
        (λ h x all away. suited_on other v.number seen h all x away)));
  }

  -- what is seen elsewhere of a call that made nothing
  pub untouched_seen : IsUntouched s s_new vs ws → KeepsSights c s s_new vs ws
  untouched_seen same = record {
    told = λ other rule seen apart refusal each. subst (EachEvent (HasTrace s.site rule other seen)) (sym same.stripe) each;
    backed = pairs_at ClassStays (BacksStill s.site) vs ws same.classes (λ v w there stays other seen equal apart each.
        subst (λ (x : ClassView). EachEvent (IsBacked other v.rule v.number seen) x.history) (sym stays) each);
    suited = pairs_at ClassStays (SuitsStill s.site) vs ws same.classes (λ v w there stays other seen equal apart each.
        subst (λ (x : ClassView). EachEvent (IsSuited other v.number seen) x.history) (sym stays) each);
  }
