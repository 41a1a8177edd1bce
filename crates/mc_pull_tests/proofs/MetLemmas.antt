-- What is tried on a stripe and its classes leaves them in agreement.
use Rattle.std.proofs.Common.{arith, length, ◌≡◌, ◌++◌, ℕ, List, [], ◌∷◌, refl, sym, ap, ◌∙◌, subst, inl, inr, Result, Ok, Err}
use Rattle.std.specs.Prelude.{Option, Some, None, IfOk, IfSome, IsSomeAnd, OnErr}
use Rattle.mc_item.specs.Config.{IsBounded}
use Rattle.mc_item.specs.declared.{answer.Need.Need, answer.Site.Site, class_event.ClassEvent.ClassEvent, command.Command.Command, config.Config.Config}
use Rattle.mc_item.specs.declared.{fault.Fault.Fault, item.ClassNo.ClassNo, item.Who.Who, stripe_event.StripeEvent.StripeEvent}
use Rattle.mc_item.specs.declared.answer.Need.TheVariants as needs
use Rattle.mc_item.specs.declared.reply.Room.TheVariants as rooms
use Rattle.mc_rule.specs.{Agreement.Agree, Segment.Rule, Segment.rule_of}
use Rattle.mc_evidence.proofs.AgreementLemmas.{agree_begins, agree_refused}
use Rattle.mc_segment.specs.{ClassCalls.Makes, ClassCalls.refused_event, ClassState.ClassView, ClassState.appended, ClassState.opened, ClassState.with_room}
use Rattle.mc_stripe.specs.{StripeCalls.KeepsSite, StripeState.Stripe, Trying.row_at, Wanting.IsTaken}
use Rattle.mc_stripe.specs.declared.{trying.Turn.Turn, wanting.Given.Given, wanting.Home.Home}
use Rattle.mc_pull.specs.declared.{attempting.Tried.Tried, judge.Done.Done}
use Rattle.mc_pull.specs.declared.attempting.Tried.TheVariants as tried
use Rattle.mc_pull.specs.{Agreeing.AgreeNow, Agreeing.IsApart, Agreeing.KeepsAgreement, Lent.EachPair, Growth.GainsEvents, Lone.Serves, Lone.Walked, Walker.walker_of}
use Rattle.mc_pull.specs.{Performed.GainsPart, Performed.IsUntouched, Performed.ClassStays, Performed.events_in, Perform.Call, Perform.call, Question.IsClassOf}
use Rattle.mc_pull.specs.{Question.Question, Settled.IsSettled, Settled.done_class_events}
use Rattle.mc_pull.specs.Attempt.{GivesHome, IsAny, IsOffered, IsTriedBy, OffersHome}
use Rattle.mc_pull_tests.specs.Met.{AreMet}

-- ---- a class that has gained events
-- nothing but its history and its room has changed
abbrev pub IsLike : ClassView → ClassView → Type 0
IsLike v w = w ≡ record v { history = w.history; room = w.room }

like_made : (config : Config) (v w : ClassView) → IsLike v w → IsClassOf config v → IsClassOf config w
like_made config v w like is =
    subst (IsClassOf config) (sym like) (record { bounded = is.bounded; chunks = is.chunks; max_events = is.max_events; keeps_events = is.keeps_events; rule = is.rule })

like_with : (v w : ClassView) (h : List ClassEvent) → w ≡ record v { history = h; room = w.room } → IsLike v w
like_with v w h is = is ∙ ap (λ (x : List ClassEvent). record v { history = x; room = w.room }) (sym (ap (λ (x : ClassView). x.history) is))

-- a class that only its room has changed of agrees with a stripe of the same history and site
stays_agreed : (v w : ClassView) (s s_new : Stripe) → ClassStays v w → s_new.history ≡ s.history → s_new.site ≡ s.site → AgreeNow v s → AgreeNow w s_new
stays_agreed v w s s_new stays history site agree =
    subst (λ (x : ClassView). AgreeNow x s_new) (sym stays)
    (subst (λ (t : Site). Agree t v.rule v.number s_new.history v.history) (sym site) (subst (λ (h : List StripeEvent). Agree s.site v.rule v.number h v.history) (sym history) agree))

-- a stripe of the same site serves as before
serves_still : (config : Config) (s s_new : Stripe) → KeepsSite s s_new → Serves 0 s config → Serves 0 s_new config
serves_still config s s_new site serves = record {
  number_is = ap (λ (t : Site). t.stripe) site.site ∙ serves.number_is;
  made_with = record {
    stripes = ap (λ (t : Site). t.stripes) site.site ∙ serves.made_with.stripes;
    sizes = ap (λ (t : Site). t.sizes) site.site ∙ serves.made_with.sizes;
    limit = site.limit ∙ serves.made_with.limit;
    keeps_events = site.keeps_events ∙ serves.made_with.keeps_events;
  };
}

-- ---- what a try leaves of the classes that it was lent, and of the others
pub record Kept (s s_new : Stripe) (vs ws : List ClassView) : Type 0 where
  pub site : KeepsSite s s_new
  pub like : EachPair IsLike vs ws
  pub own : EachPair (λ v w. AgreeNow v s → AgreeNow w s_new) vs ws
  pub others : (other : ClassNo) (rule : Rule) (history : List ClassEvent) → IsApart other vs → Agree s.site rule other s.history history → Agree s.site rule other s_new.history history

gains_like : (s : Stripe) (c : Call) (vs ws : List ClassView) → EachPair (GainsPart s c) vs ws → EachPair IsLike vs ws
gains_like s c [] [] gains = tt
gains_like s c [] (w ∷ ws) gains = absurd gains
gains_like s c (v ∷ vs) [] gains = absurd gains
gains_like s c (v ∷ vs) (w ∷ ws) gains = (like_with v w (v.history ++ events_in s c v) gains.0, gains_like s c vs ws gains.1)

stays_like : (vs ws : List ClassView) → EachPair ClassStays vs ws → EachPair IsLike vs ws
stays_like [] [] stays = tt
stays_like [] (w ∷ ws) stays = absurd stays
stays_like (v ∷ vs) [] stays = absurd stays
stays_like (v ∷ vs) (w ∷ ws) stays = (like_with v w v.history stays.0, stays_like vs ws stays.1)

stays_own : (s s_new : Stripe) → s_new.history ≡ s.history → s_new.site ≡ s.site → (vs ws : List ClassView) → EachPair ClassStays vs ws → EachPair (λ v w. AgreeNow v s → AgreeNow w s_new) vs ws
stays_own s s_new history site [] [] stays = tt
stays_own s s_new history site [] (w ∷ ws) stays = absurd stays
stays_own s s_new history site (v ∷ vs) [] stays = absurd stays
stays_own s s_new history site (v ∷ vs) (w ∷ ws) stays = (λ agree. stays_agreed v w s s_new stays.0 history site agree, stays_own s s_new history site vs ws stays.1)

untouched_kept : (s s_new : Stripe) (vs ws : List ClassView) → KeepsSite s s_new → IsUntouched s s_new vs ws → Kept s s_new vs ws
untouched_kept s s_new vs ws site same = record {
  site = site;
  like = stays_like vs ws same.classes;
  own = stays_own s s_new same.stripe site.site vs ws same.classes;
  others = λ other rule history apart agree. subst (λ (h : List StripeEvent). Agree s.site rule other h history) (sym same.stripe) agree;
}

-- ---- a refusal that is taken is one of a class that was lent
module _ (given : Given) (refused : Option ℕ) (who : Who) (vs : List ClassView) (offered : IsOffered given refused who vs) (class : ClassNo) (place : ℕ) where
  any_apart : (h : Home) → h.room ≡ rooms.Refused class place → (us : List ClassView) → IsAny (λ v. OffersHome v refused who h) us → IsApart class us → ⊥
  any_apart h room [] any apart = absurd any
  any_apart h room (v ∷ us) (inl offers) apart = apart.0 (subst (GivesHome v refused who) room offers.room).0
  any_apart h room (v ∷ us) (inr later) apart = any_apart h room us later apart.1

  home_apart : (fresh : ClassNo) (o : Option Home) → IfSome o (λ h. IsAny (λ v. OffersHome v refused who h) vs) → IsSomeAnd o (λ h. (h.class ≡ fresh) × (h.room ≡ rooms.Refused class place)) → IsApart class vs → ⊥
  home_apart fresh None any taken apart = absurd taken
  home_apart fresh (Some h) any taken apart = any_apart h taken.1 vs any apart

  no_keep : rooms.Refused class place ≡ rooms.Keep → ⊥
  no_keep is = cc is

  none_elsewhere : (need : Need) → IsTaken given need (rooms.Refused class place) → IsApart class vs → ⊥
  none_elsewhere (needs.Fresh fresh) taken apart = home_apart fresh given.home offered.home taken.0 apart
  none_elsewhere needs.Nothing taken apart = no_keep taken
  none_elsewhere needs.Same taken apart = no_keep taken
  none_elsewhere needs.TooLarge taken apart = no_keep taken

-- ---- what a try came to
module _ (config : Config) (s s_new : Stripe) (made : Command) (turn : Turn) (given : Given) (vs ws : List ClassView) (site : KeepsSite s s_new) where
  tried_kept : (refused : Option ℕ) → IsOffered given refused turn.who vs → (t : Tried) → IsTriedBy config s s_new made turn given vs ws t → Kept s s_new vs ws
  tried_kept refused offered (tried.Made replied) is = record {
    site = site;
    like = gains_like s (call turn.who made turn.moment is.room) vs ws is.performed.classes;
    own = is.agreement.own;
    others = λ other rule history apart agree.
        is.agreement.others other rule history apart
        (λ place refusal. absurd (none_elsewhere given refused turn.who vs offered other place (row_at s made turn.moment).need
        (subst (IsTaken given (row_at s made turn.moment).need) refusal is.uses.taken) apart))
        agree;
  }
  tried_kept refused offered (tried.Wants want) is = untouched_kept s s_new vs ws site is.0

  -- whether it was tried, or failed
  pub attempt_kept : (refused : Option ℕ) → IsOffered given refused turn.who vs → (result : Result Tried Fault) → IfOk result (IsTriedBy config s s_new made turn given vs ws) → OnErr result (IsUntouched s s_new vs ws)
      → Kept s s_new vs ws
  attempt_kept refused offered (Ok t) is err = tried_kept refused offered t is
  attempt_kept refused offered (Err fault) is err = untouched_kept s s_new vs ws site err

-- ---- the stripe and both classes
module _ (config : Config) (s s_new : Stripe) (v w : ClassView) (met : AreMet config s v w) where
  still : (c : ClassView) → KeepsSite s s_new → Agree s.site c.rule c.number s_new.history c.history → AgreeNow c s_new
  still c site agree = subst (λ (t : Site). Agree t c.rule c.number s_new.history c.history) (sym site.site) agree

  like_number : (c d : ClassView) → IsLike c d → d.number ≡ c.number
  like_number c d like = ap (λ (x : ClassView). x.number) like

  -- none was lent
  pub met_none : Kept s s_new [] [] → AreMet config s_new v w
  met_none kept = record {
    stripe = serves_still config s s_new kept.site met.stripe;
    first_is = met.first_is;
    second_is = met.second_is;
    apart = met.apart;
    first_agrees = still v kept.site (kept.others v.number v.rule v.history tt met.first_agrees);
    second_agrees = still w kept.site (kept.others w.number w.rule w.history tt met.second_agrees);
  }

  -- the first was lent
  pub met_one : (v_new : ClassView) → Kept s s_new (v ∷ []) (v_new ∷ []) → AreMet config s_new v_new w
  met_one v_new kept = record {
    stripe = serves_still config s s_new kept.site met.stripe;
    first_is = like_made config v v_new kept.like.0 met.first_is;
    second_is = met.second_is;
    apart = λ same. met.apart (sym (like_number v v_new kept.like.0) ∙ same);
    first_agrees = kept.own.0 met.first_agrees;
    second_agrees = still w kept.site (kept.others w.number w.rule w.history (λ same. met.apart (sym same), tt) met.second_agrees);
  }

  -- both were lent, the second as the home
  pub met_two : (v_new w_new : ClassView) → Kept s s_new (w ∷ v ∷ []) (w_new ∷ v_new ∷ []) → AreMet config s_new v_new w_new
  met_two v_new w_new kept = record {
    stripe = serves_still config s s_new kept.site met.stripe;
    first_is = like_made config v v_new kept.like.1.0 met.first_is;
    second_is = like_made config w w_new kept.like.0 met.second_is;
    apart = λ same. met.apart (sym (like_number v v_new kept.like.1.0) ∙ same ∙ like_number w w_new kept.like.0);
    first_agrees = kept.own.1.0 met.first_agrees;
    second_agrees = kept.own.0 met.second_agrees;
  }

-- ---- other steps
-- only the rooms of the classes have changed
pub met_rooms : (config : Config) (s : Stripe) (v v_new w w_new : ClassView) → ClassStays v v_new → ClassStays w w_new → AreMet config s v w → AreMet config s v_new w_new
met_rooms config s v v_new w w_new first second met =
    subst (λ (x : ClassView). AreMet config s x w_new) (sym first)
    (subst (λ (y : ClassView). AreMet config s (with_room v v_new.room) y) (sym second) (record {
      stripe = met.stripe;
      first_is = like_made config v (with_room v v_new.room) refl met.first_is;
      second_is = like_made config w (with_room w w_new.room) refl met.second_is;
      apart = met.apart;
      first_agrees = met.first_agrees;
      second_agrees = met.second_agrees;
    }))

-- the first class noted a refusal
pub met_refused : (config : Config) (s : Stripe) (v v_new w : ClassView) (who : Who) → Makes v v_new (refused_event who) → AreMet config s v w → AreMet config s v_new w
met_refused config s v v_new w who makes met =
    subst (λ (x : ClassView). AreMet config s x w) (sym makes) (record {
      stripe = met.stripe;
      first_is = like_made config v (appended v (refused_event who) v_new.room) refl met.first_is;
      second_is = met.second_is;
      apart = met.apart;
      first_agrees = agree_refused s.site v.rule v.number s.history v.history met.first_agrees (record { who = who });
      second_agrees = met.second_agrees;
    })

-- an entry of the first class was settled
pub met_settled : (config : Config) (s s_new : Stripe) (v v_new w : ClassView) (q : Question) (d : Done) → KeepsSite s s_new → IsSettled v v_new s s_new q d
    → KeepsAgreement v v_new s s_new → AreMet config s v w → AreMet config s_new v_new w
met_settled config s s_new v v_new w q d site settled agreement met =
    met_one config s s_new v w met v_new (record {
      site = site;
      like = (like_with v v_new (v.history ++ done_class_events v q (length s.history) d) settled.class, tt);
      own = (agreement.own, tt);
      others = λ other rule history apart agree. agreement.others other rule history apart.0 agree;
    })

-- the first class was walked along
pub met_walked : (config : Config) (s s_new : Stripe) (v v_new w : ClassView) (who : Who) (moment : ℕ) → GainsEvents v v_new → Walked (walker_of v who moment) s v.history s_new v_new.history
    → AreMet config s v w → AreMet config s_new v_new w
met_walked config s s_new v v_new w who moment grows walked met =
    met_one config s s_new v w met v_new (record {
      site = walked.grows.site;
      like = (grows.same, tt);
      own = (λ agree. subst (λ (x : ClassView). AgreeNow x s_new) (sym grows.same) (still config s s_new v w met (record v { history = v_new.history; room = v_new.room }) walked.grows.site (walked.own agree)), tt);
      others = λ other rule history apart agree. walked.others other rule history apart.0 agree;
    })

-- ---- an empty stripe and two empty classes
module _ (config : Config) (bounded : IsBounded config) where
  opened_made : (n : ClassNo) (v : ClassView) → v ≡ opened config n → IsClassOf config v
  opened_made n v is = subst (IsClassOf config) (sym is) (record { bounded = bounded; chunks = refl; max_events = refl; keeps_events = refl; rule = refl })

  opened_agrees : (s : Stripe) → s.history ≡ [] → (n : ClassNo) (v : ClassView) → v ≡ opened config n → AgreeNow v s
  opened_agrees s empty n v is =
      subst (λ (x : ClassView). AgreeNow x s) (sym is) (subst (λ (h : List StripeEvent). Agree s.site (rule_of config) n h []) (sym empty) (agree_begins s.site (rule_of config) n))

  one_two : (first second : ℕ) → first ≡ 1 → second ≡ 2 → first ≡ second → ⊥
  one_two first second one two same = omega (arith, one, two, same)

  pub met_opened : (s : Stripe) (v w : ClassView) → Serves 0 s config → s.history ≡ [] → v ≡ opened config (record { 0 = 1 }) → w ≡ opened config (record { 0 = 2 }) → AreMet config s v w
  met_opened s v w serves empty first second = record {
    stripe = serves;
    first_is = opened_made (record { 0 = 1 }) v first;
    second_is = opened_made (record { 0 = 2 }) w second;
    apart = λ same. one_two v.number.0 w.number.0 (ap (λ (x : ClassView). x.number.0) first) (ap (λ (x : ClassView). x.number.0) second) (ap (λ (n : ClassNo). n.0) same);
    first_agrees = opened_agrees s empty (record { 0 = 1 }) v first;
    second_agrees = opened_agrees s empty (record { 0 = 2 }) w second;
  }
