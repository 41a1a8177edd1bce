-- Hits that a call takes from a queue, one after the other, and what they make of their class.
use Rattle.std.proofs.Common.{◌≡◌, ◌≤◌, ◌<◌, ◌+◌, ◌++◌, ◌∷◌, [], ℕ, List, Bool, true, false, Result, Ok, Err, inl, inr, refl, sym, ap, ◌∙◌, subst, arith, length, length-append}
use Rattle.std.specs.Prelude.{MatchResult}
use Rattle.std.specs.List.{Contains}
use Rattle.mc_item.specs.declared.{class_event.ClassEvent.ClassEvent, config.Config.Config, counts.Moves.Moves, fault.Fault.Fault}
use Rattle.mc_segment.specs.ClassState.{ClassView}
use Rattle.mc_hits.specs.Views.{HandsView, hits_at}
use Rattle.mc_hits.specs.declared.rule.Hit.{Hit}
use Rattle.mc_stripe.specs.declared.trying.Turn.{Turn}
use Rattle.mc_pull.specs.Broken.{BreaksJuggle, BreaksRounds, BreaksTemp}
use Rattle.mc_pull.specs.{Growth.GainsEvents, Juggle.IsJuggle, Juggle.Juggling, Rounds.Rounds, Rounds.rounds}
use Rattle.mc_pull.specs.declared.looking.Answer.{Answer}
use Rattle.mc_stripe.specs.StripeState.{Stripe}
use Rattle.mc_store.specs.Calls.{IsJuggleCut, IsJuggledWith, IsUpkeepCut, IsUpkept}
use Rattle.mc_store.specs.Reached.{AreJudgedBy}
use Rattle.mc_store.proofs.ReachedLemmas.{judged_more}
use Rattle.mc_store.specs.Hits.{AreAdvanced, AreTaken, IsAdvancedBy, IsAdvancedTill, IsAdvancedWith, Takes, queue_of, with_taking}

-- of the hands that took something nothing else has changed
pub hands_more : (a b c : HandsView) (takings : List (List Hit)) → b ≡ record a { takings = b.takings } → c ≡ record b { takings = takings } → c ≡ record a { takings = c.takings }
hands_more a b c takings was is =
    is ∙ (ap (λ (h : HandsView). record h { takings = takings }) was ∙ ap (λ (t : List (List Hit)). record a { takings = t }) (sym (ap (λ (h : HandsView). h.takings) is)))

-- one hit more is taken
pub taken_push : (queue : ℕ) (a b c : HandsView) (hits : List Hit) (hit : Hit) → AreTaken queue a hits b → ¬ (Contains (hits_at b.takings queue) hit) → c ≡ with_taking b queue hit
    → AreTaken queue a (hits ++ hit ∷ []) c
taken_push queue a b c [] hit taken once is =
    (subst (λ (h : HandsView). ¬ (Contains (hits_at h.takings queue) hit)) taken once, is ∙ ap (λ (h : HandsView). with_taking h queue hit) taken)
taken_push queue a b c (x ∷ hits) hit taken once is = (taken.0, taken_push queue (with_taking a queue x) b c hits hit taken.1 once is)

-- and is advanced
pub advanced_push : (R : Stripe → Type 0) (r : Rounds) (hits : List Hit) (hit : Hit) (a b c : List ClassEvent) (moved : Bool) → AreAdvanced R r hits a b
    → IsAdvancedWith R r hit.number b c moved → AreAdvanced R r (hits ++ hit ∷ []) a c
advanced_push R r [] hit a b c moved made more = (c, moved, subst (λ (h : List ClassEvent). IsAdvancedWith R r hit.number h c moved) made more, refl)
advanced_push R r (x ∷ hits) hit a b c moved made more = (made.0, made.1, made.2, advanced_push R r hits hit made.0 b c moved made.3 more)

-- by other states, of which less is known
pub with_more : (R Q : Stripe → Type 0) → ((s : Stripe) → R s → Q s) → (r all : Rounds) → r ≡ all → (number : ℕ) (before after : List ClassEvent) (moved : Bool)
    → IsAdvancedWith R r number before after moved → IsAdvancedWith Q all number before after moved
with_more R Q wider r all is number before after moved made =
    subst (λ (x : Rounds). IsAdvancedWith Q x number before after moved) is (made.0, made.1, judged_more R Q wider made.0 made.2)

pub advanced_more : (R Q : Stripe → Type 0) → ((s : Stripe) → R s → Q s) → (r : Rounds) (hits : List Hit) (a b : List ClassEvent) → AreAdvanced R r hits a b → AreAdvanced Q r hits a b
advanced_more R Q wider r [] a b made = made
advanced_more R Q wider r (x ∷ hits) a b made =
    (made.0, made.1, with_more R Q wider r r refl x.number a made.0 made.1 made.2, advanced_more R Q wider r hits made.0 b made.3)

-- at most so many hits were taken and advanced so far
pub record AreSoFar (R : Stripe → Type 0) (r : Rounds) (old new : HandsView) (history history_new : List ClassEvent) (most : ℕ) : Type 0 where
  pub hits : List Hit
  pub taken : AreTaken (queue_of r.class.number) old hits new
  pub few : length hits ≤ most
  pub advanced : AreAdvanced R r hits history history_new

-- none
pub so_far_none : (R : Stripe → Type 0) (r : Rounds) (hands : HandsView) (history : List ClassEvent) → AreSoFar R r hands hands history history 0
so_far_none R r hands history = record { hits = []; taken = refl; few = omega arith; advanced = refl }

module _ (R Q : Stripe → Type 0) (wider : (s : Stripe) → R s → Q s) (r : Rounds) (old new newer : HandsView) (history mid last : List ClassEvent) (most : ℕ)
    (so : AreSoFar R r old new history mid most) (hit : Hit) (once : ¬ (Contains (hits_at new.takings (queue_of r.class.number)) hit))
    (is : newer ≡ with_taking new (queue_of r.class.number) hit) where
  one_more : length (so.hits ++ hit ∷ []) ≤ most + 1
  one_more =
      let long = length-append so.hits (hit ∷ []) in
      let few = so.few in
      omega (arith, long, few)

  -- one more
  pub so_far_more : (moved : Bool) → IsAdvancedWith Q r hit.number mid last moved → AreSoFar Q r old newer history last (most + 1)
  so_far_more moved more = record {
    hits = so.hits ++ hit ∷ [];
    taken = taken_push (queue_of r.class.number) old new newer so.hits hit so.taken once is;
    few = one_more;
    advanced = advanced_push Q r so.hits hit history mid last moved (advanced_more R Q wider r so.hits history mid so.advanced) more;
  }

  -- one more, at which a fault came
  pub so_far_cut : most < 256 → last ≡ mid → IsAdvancedTill Q r old newer history last
  so_far_cut below same = record {
    hits = so.hits;
    last = hit;
    taken = taken_push (queue_of r.class.number) old new newer so.hits hit so.taken once is;
    few = let few = so.few in omega (arith, few, below);
    advanced = subst (λ (h : List ClassEvent). AreAdvanced Q r so.hits history h) (sym same) (advanced_more R Q wider r so.hits history mid so.advanced);
  }

-- all
pub so_far_all : (R : Stripe → Type 0) (r : Rounds) (old new : HandsView) (history history_new : List ClassEvent) (most : ℕ) → most ≤ 256 → AreSoFar R r old new history history_new most
    → IsAdvancedBy R r old new history history_new
so_far_all R r old new history history_new most below so = record { hits = so.hits; taken = so.taken; few = let few = so.few in omega (arith, few, below); advanced = so.advanced }

-- nothing was taken
pub takes_none : (queue : ℕ) (old new : HandsView) → new ≡ old → Takes queue old new
takes_none queue old new same = record { hits = []; taken = same; few = omega arith }

-- either way at most 256 hits were taken
pub takes_all : (R : Stripe → Type 0) (r : Rounds) (old new : HandsView) (history history_new : List ClassEvent) → IsAdvancedBy R r old new history history_new → Takes (queue_of r.class.number) old new
takes_all R r old new history history_new by = record { hits = by.hits; taken = by.taken; few = by.few }

pub takes_cut : (R : Stripe → Type 0) (r : Rounds) (old new : HandsView) (history history_new : List ClassEvent) → IsAdvancedTill R r old new history history_new
    → Takes (queue_of r.class.number) old new
takes_cut R r old new history history_new till = record {
  hits = till.hits ++ till.last ∷ [];
  taken = till.taken;
  few =
      let long = length-append till.hits (till.last ∷ []) in
      let few = till.few in
      omega (arith, long, few);
}

-- juggling that a gate's fault ended is one that any fault ended
breaks_any : (r : Rounds) (Faults : Fault → Type 0) (fault : Fault) (before after : List ClassEvent) (xs : List Answer) → BreaksJuggle r Faults fault before xs after
    → BreaksJuggle r (λ f. Unit {0}) fault before xs after
breaks_any r Faults fault before after xs (inl temp) = inl (in_temp r.class.rule.temp temp)
  where
    in_temp : (used : Bool) → BreaksTemp r Faults fault used before xs after → BreaksTemp r (λ f. Unit {0}) fault used before xs after
    in_temp false it = it
    in_temp true (inl refused) = inl refused
    in_temp true (inr broken) = inr (tt, broken.1)
breaks_any r Faults fault before after xs (inr rest) =
    inr (record { first = rest.first; last = rest.last; between = rest.between; whole = rest.whole; broken = in_rounds rest.between rest.last rest.broken; answers = rest.answers })
  where
    in_rounds : (a : Juggling) (ys : List Answer) → BreaksRounds r Faults fault a ys after → BreaksRounds r (λ f. Unit {0}) fault a ys after
    in_rounds a ys (inl refused) = inl refused
    in_rounds a ys (inr broken) = inr (tt, broken.1)

pub cut_any : (States : Stripe → Type 0) (r : Rounds) (Faults : Fault → Type 0) (fault : Fault) (before after : List ClassEvent) (xs : List Answer) → BreaksJuggle r Faults fault before xs after
    → AreJudgedBy States xs → IsJuggleCut States r fault before after
cut_any States r Faults fault before after xs broken judged = (xs, breaks_any r Faults fault before after xs broken, judged)

-- a cut one by other states, of which less is known
pub cut_more : (R Q : Stripe → Type 0) → ((s : Stripe) → R s → Q s) → (r : Rounds) (fault : Fault) (before after : List ClassEvent) → IsJuggleCut R r fault before after → IsJuggleCut Q r fault before after
cut_more R Q wider r fault before after cut = (cut.0, cut.1, judged_more R Q wider cut.0 cut.2)

-- hits that were advanced by other states, of which less is known
by_more : (R Q : Stripe → Type 0) → ((s : Stripe) → R s → Q s) → (r : Rounds) (old new : HandsView) (before after : List ClassEvent) → IsAdvancedBy R r old new before after
    → IsAdvancedBy Q r old new before after
by_more R Q wider r old new before after by =
    record { hits = by.hits; taken = by.taken; few = by.few; advanced = advanced_more R Q wider r by.hits before after by.advanced }

till_more : (R Q : Stripe → Type 0) → ((s : Stripe) → R s → Q s) → (r : Rounds) (old new : HandsView) (before after : List ClassEvent) → IsAdvancedTill R r old new before after
    → IsAdvancedTill Q r old new before after
till_more R Q wider r old new before after till =
    record { hits = till.hits; last = till.last; taken = till.taken; few = till.few; advanced = advanced_more R Q wider r till.hits before after till.advanced }

-- first the hits, then the rounds, which a fault may have ended
module _ (config : Config) (turn : Turn) (First Last Q : Stripe → Type 0) (first_wider : (s : Stripe) → First s → Q s) (last_wider : (s : Stripe) → Last s → Q s) (old mid new : ClassView)
    (hands hands_new : HandsView) (first : GainsEvents old mid) (more : GainsEvents mid new) where
  abbrev all : Rounds
  all = rounds old turn.who turn.moment config

  abbrev rest : Rounds
  rest = rounds mid turn.who turn.moment config

  rest_is : rest ≡ all
  rest_is = ap (λ (v : ClassView). rounds v turn.who turn.moment config) first.same

  pub upkept_till : (r : Result Moves Fault) → IsAdvancedBy First all hands hands_new old.history mid.history
      → MatchResult r (IsJuggledWith Last rest mid.history new.history) (λ fault. IsJuggleCut Last rest fault mid.history new.history)
      → MatchResult r (IsUpkept Q all hands hands_new old.history new.history) (IsUpkeepCut Q all hands hands_new old.history new.history)
  upkept_till (Ok moves) by made = record {
    advances = first.events;
    advanced = subst (λ (h : List ClassEvent). IsAdvancedBy Q all hands hands_new old.history h) first.history_is
        (by_more First Q first_wider all hands hands_new old.history mid.history by);
    own = more.events;
    history_is = more.history_is ∙ ap (λ (h : List ClassEvent). h ++ more.events) first.history_is;
    juggled = (
      made.0,
      subst (λ (h : List ClassEvent). IsJuggle all h made.0 (h ++ more.events) moves) first.history_is
          (subst (λ (r : Rounds). IsJuggle r mid.history made.0 (mid.history ++ more.events) moves) rest_is
          (subst (λ (h : List ClassEvent). IsJuggle rest mid.history made.0 h moves) more.history_is made.1)),
      judged_more Last Q last_wider made.0 made.2,
    );
  }
  upkept_till (Err fault) by made = inr (
    mid.history,
    by_more First Q first_wider all hands hands_new old.history mid.history by,
    cut_more Last Q last_wider all fault mid.history new.history (subst (λ (r : Rounds). IsJuggleCut Last r fault mid.history new.history) rest_is made),
  )

-- by other states, of which less is known
pub upkept_more : (R Q : Stripe → Type 0) → ((s : Stripe) → R s → Q s) → (r : Rounds) (hands hands_new : HandsView) (before after : List ClassEvent) (result : Result Moves Fault)
    → MatchResult result (IsUpkept R r hands hands_new before after) (IsUpkeepCut R r hands hands_new before after)
    → MatchResult result (IsUpkept Q r hands hands_new before after) (IsUpkeepCut Q r hands hands_new before after)
upkept_more R Q wider r hands hands_new before after (Ok moves) upkept = record {
  advances = upkept.advances;
  advanced = by_more R Q wider r hands hands_new before (before ++ upkept.advances) upkept.advanced;
  own = upkept.own;
  history_is = upkept.history_is;
  juggled = (upkept.juggled.0, upkept.juggled.1, judged_more R Q wider upkept.juggled.0 upkept.juggled.2);
}
upkept_more R Q wider r hands hands_new before after (Err fault) (inl till) = inl (till_more R Q wider r hands hands_new before after till)
upkept_more R Q wider r hands hands_new before after (Err fault) (inr rest) =
    inr (rest.0, by_more R Q wider r hands hands_new before rest.0 rest.1, cut_more R Q wider r fault rest.0 after rest.2)
