-- A refusal that was earned: when it is noted, and as more is seen.
use Rattle.std.proofs.Common.{◌≡◌, ◌<◌, ◌+◌, ◌⊎◌, ℕ, zero, suc, Bool, true, false, List, [], ◌∷◌, ◌++◌, inl, inr, Result, Ok, Err, length, length-append, refl, sym, ap, ◌∙◌, arith, subst, append-nil, append_assoc}
use Rattle.std.specs.Prelude.{◌≤◌, Option, Some, None, IfSome, MatchResult}
use mathlib.Core.List.{IsPrefix}
use Rattle.mc_item.specs.{Command.key_of, Measure.stripe_of}
use Rattle.mc_item.specs.declared.{answer.Need.Need, answer.Site.Site, class_event.ClassEvent.ClassEvent, command.Command.Command, config.Config.Config, fault.Fault.Fault, item.ClassNo.ClassNo}
use Rattle.mc_item.specs.declared.{item.StripeNo.StripeNo, item.Who.Who, lists.Entry.Entry, lists.Seg.Seg, lists.Seg.TheVariants.Hot}
use Rattle.mc_item.specs.declared.{lists.Seg.TheVariants.Cold, reply.Reply.Reply, reply.Room.Room, stripe_event.Did.Did}
use Rattle.mc_item.specs.declared.answer.Need.TheVariants as needs
use Rattle.mc_item.specs.declared.class_event.ClassEvent.TheVariants as entries
use Rattle.mc_item.specs.declared.reply.Room.TheVariants as rooms
use Rattle.mc_rule.specs.{Lists.IsFull, Lists.from_tail, Lists.list_of, Lists.lists_of, Pairs.IsKeyOf, Pairs.IsRefusal, Places.Has, Segment.Rule, Places.Stands}
use Rattle.mc_evidence.specs.{Refusals.HasTried, Refusals.NoneNear, Refusals.WasTried, Seen.class_events, Seen.classes_seen}
use Rattle.mc_evidence.proofs.{EvidenceGrowthLemmas.tried_later, SeenLemmas.class_events-map, SeenLemmas.classes_grow}
use Rattle.mc_pull.specs.{Tried.IsNoneNear, Question.IsClassOf, Rounds.ForcesHot, Rounds.IsRoomRound, Rounds.Repeats, Rounds.Rounds, Rounds.Walks, Rounds.rounds}
use Rattle.mc_pull.specs.Pulled.{did_something}
use Rattle.mc_pull.specs.declared.{judge.Mode.Mode, judge.Mode.TheVariants.Evict, judge.Mode.TheVariants.Force, looking.Answer.Answer, pulled.Pulled.Pulled}
use Rattle.mc_pull.proofs.SearchTriedLemmas.{walk_tried}
use Rattle.mc_board.specs.Histories.{Grows, list_at}
use Rattle.mc_board.specs.declared.rule.Sight.{Sight}
use Rattle.mc_board.proofs.PrefixLemmas.{prefix_trans}
use Rattle.mc_segment.specs.{ClassCalls.Makes, ClassCalls.Stays, ClassCalls.refused_event, ClassState.ClassView, ClassState.chunks_for, ClassState.class_view, ClassState.opened}
use Rattle.mc_store.specs.Earned.{HasGoneThrough, HasSearched, IsEarned, IsEarnedAt, IsEarnedIn, IsLastResort}
use Rattle.mc_store.specs.{Accounts.Stretch, Accounts.stretch_of, Locked.class_lock, Sides.class_told}
use Rattle.mc_store.specs.Reached.{IsSeenState}
use Rattle.mc_store.specs.Searches.{HasSeenOf, IsSearchBroken, IsSearchFor, IsSearchUpTo, IsSearchedWith, IsSearchedIf, IsSearchedOnce, Searcher, rounds_in}
use Rattle.mc_store.proofs.{AccountLemmas.grows_itself, ReachedLemmas.judged_more, ReachedLemmas.state_sees}
use Rattle.mc_stripe.specs.StripeState.{Stripe}

-- who has seen all that a class told has seen its history
pub class_seen : (config : Config) (sight : Sight) (lock : ℕ) (class : ClassNo) (history : List ClassEvent) → lock ≡ class_lock config class → list_at sight.seen lock ≡ class_told history
    → classes_seen config.stripes (list_at sight.seen) class ≡ history
class_seen config sight lock class history at told =
    ap (λ (k : ℕ). class_events (list_at sight.seen k)) (sym at) ∙ (ap class_events told ∙ class_events-map history)

-- a class of a configuration is, without its events, the one that the configuration opens
pub opened_again : (config : Config) (v : ClassView) (class : ClassNo) → IsClassOf config v → v.number ≡ class
    → class_view v.number v.chunks v.max_events v.keeps_events v.rule [] 0 ≡ opened config class
opened_again config v class made is =
    let chunks = chunks_for config class in
    ap (λ (x : ClassNo). class_view x v.chunks v.max_events v.keeps_events v.rule [] 0) is
    ∙ ap (λ (x : ℕ). class_view class x v.max_events v.keeps_events v.rule [] 0) (made.chunks ∙ ap (chunks_for config) is)
    ∙ ap (λ (x : ℕ). class_view class chunks x v.keeps_events v.rule [] 0) made.max_events
    ∙ ap (λ (x : Bool). class_view class chunks config.max_events x v.rule [] 0) made.keeps_events
    ∙ ap (λ (x : Rule). class_view class chunks config.max_events config.keeps_events x [] 0) made.rule

-- a class of a configuration has the rounds that the configuration gives a class of its number
rounds_same : (config : Config) (v : ClassView) (class : ClassNo) (who : Who) (moment : ℕ) → IsClassOf config v → v.number ≡ class → rounds v who moment config ≡ rounds (opened config class) who moment config
rounds_same config v class who moment made is = ap (λ (c : ClassView). rounds c who moment config) (opened_again config v class made is)

-- ---- one search

-- what holds of its states holds in other words, too
pub searched_more : (r : Rounds) (number : StripeNo) (R Q : Stripe → Type 0) → ((s : Stripe) → R s → Q s) → (before after : List ClassEvent) (found : Bool)
    → IsSearchedWith r number R before after found → IsSearchedWith r number Q before after found
searched_more r number R Q more before after found it = record { answers = it.answers; room = it.room; had = it.had; states = judged_more R Q more it.answers it.states }

-- rounds that found no chunk are all rounds of a search
pub gone_through : (by : Searcher) (v : ClassView) (States : Stripe → Type 0) (class : ClassNo) (after : List ClassEvent) (found : Bool) → IsClassOf by.config v → v.number ≡ class
    → found ≡ false → IsSearchedWith (rounds v by.who by.moment by.config) by.number States v.history after found → HasGoneThrough by.config by.number class by.who by.moment after
gone_through by v States class after found made is vain searched =
    let Any : Stripe → Type 0 = λ s. Unit {0} in
    let all = subst (IsSearchedWith (rounds v by.who by.moment by.config) by.number Any v.history after) vain
    (searched_more (rounds v by.who by.moment by.config) by.number States Any (λ s is. tt) v.history after found searched) in
    record {
      before = v.history;
      in_vain = subst (λ (r : Rounds). IsSearchedWith r by.number Any v.history after false) (rounds_same by.config v class by.who by.moment made is) all;
    }

-- rounds that made room in a class are one search of it
pub searched_once : (by : Searcher) (v : ClassView) (States : Stripe → Type 0) (after : List ClassEvent) (found : Bool) → IsClassOf by.config v
    → IsSearchedWith (rounds v by.who by.moment by.config) by.number States v.history after found → IsSearchedOnce (rounds_in by v.number) by.number States v.history after
searched_once by v States after found made searched =
    (found, subst (λ (r : Rounds). IsSearchedWith r by.number States v.history after found) (rounds_same by.config v v.number by.who by.moment made refl) searched)

-- and rounds that a fault ended are a search that it broke off
pub searched_broken : (by : Searcher) (v : ClassView) (States : Stripe → Type 0) (after : List ClassEvent) → IsClassOf by.config v
    → IsSearchBroken (rounds v by.who by.moment by.config) by.number States v.history after → IsSearchBroken (rounds_in by v.number) by.number States v.history after
searched_broken by v States after made broken =
    subst (λ (r : Rounds). IsSearchBroken r by.number States v.history after) (rounds_same by.config v v.number by.who by.moment made refl) broken

pub once_more : (r : Rounds) (number : StripeNo) (R Q : Stripe → Type 0) → ((s : Stripe) → R s → Q s) → (before after : List ClassEvent) → IsSearchedOnce r number R before after
    → IsSearchedOnce r number Q before after
once_more r number R Q more before after once = (once.0, searched_more r number R Q more before after once.0 once.1)

pub broken_more : (r : Rounds) (number : StripeNo) (R Q : Stripe → Type 0) → ((s : Stripe) → R s → Q s) → (before after : List ClassEvent) → IsSearchBroken r number R before after
    → IsSearchBroken r number Q before after
broken_more r number R Q more before after broken =
    record { answers = broken.answers; room = broken.room; had = broken.had; states = judged_more R Q more broken.answers broken.states }

-- however a search ended, what holds of its states holds in other words, too
pub room_wider : (r : Rounds) (number : StripeNo) (R Q : Stripe → Type 0) → ((s : Stripe) → R s → Q s) → (before after : List ClassEvent) (result : Result Bool Fault)
    → MatchResult result (IsSearchedWith r number R before after) (λ fault. IsSearchBroken r number R before after)
    → MatchResult result (IsSearchedWith r number Q before after) (λ fault. IsSearchBroken r number Q before after)
room_wider r number R Q more before after (Ok found) it = searched_more r number R Q more before after found it
room_wider r number R Q more before after (Err fault) it = broken_more r number R Q more before after it

-- a walk only adds to a history
walk_longer : (r : Rounds) (s : Seg) (mode : Mode) (before after : List ClassEvent) (xs : List Answer) (pulled : Pulled) → Walks r s mode before xs after pulled → length before ≤ length after
walk_longer r s mode before after xs pulled walk =
    let tried = walk_tried r s mode before after xs pulled walk in
    let long : length after ≡ length before + length tried.0 = ap (λ (h : List ClassEvent). length h) tried.1 ∙ length-append before tried.0 in
    omega (arith, long)

-- and so do the walks of a round
forced_longer : (r : Rounds) (did : Bool) (before after : List ClassEvent) (xs : List Answer) → ForcesHot r did before xs after → length before ≤ length after
forced_longer r true before after xs forced =
    let long : length after ≡ length before = ap (λ (h : List ClassEvent). length h) forced.1 in omega (arith, long)
forced_longer r false before after xs forced = walk_longer r Hot Force before after xs forced.0 forced.1

round_longer : (r : Rounds) (before after : List ClassEvent) (xs : List Answer) → IsRoomRound r before xs after → length before ≤ length after
round_longer r before after xs round =
    let first = walk_longer r Cold Evict before round.between round.cold round.pulled round.cold_is in
    let more = forced_longer r (did_something round.pulled) round.between after round.hot round.hot_is in
    omega (arith, first, more)

rounds_longer : (r : Rounds) (times : ℕ) (before after : List ClassEvent) (xs : List Answer) → Repeats (IsRoomRound r) times before xs after → length before ≤ length after
rounds_longer r zero before after xs each =
    let long : length after ≡ length before = ap (λ (h : List ClassEvent). length h) each.1 in omega (arith, long)
rounds_longer r (suc times) before after xs each =
    let first = rounds_longer r times before each.0 each.1 each.3 in
    let more = round_longer r each.0 after each.2 each.4 in
    omega (arith, first, more)

-- a search, if there was one, only adds to a class's history
pub search_longer : (by : Searcher) (seen sight : Sight) (v w : ClassView) → IsSearchedIf by seen sight v w → length v.history ≤ length w.history
search_longer by seen sight v w (inl free) =
    let long : length w.history ≡ length v.history = ap (λ (h : List ClassEvent). length h) free.1 in omega (arith, long)
search_longer by seen sight v w (inr searched) =
    let it = searched.0.1 in
    rounds_longer (rounds_in by v.number) it.room.times v.history w.history it.answers it.room.each

-- the history of a class that was seen was seen by whoever has seen more
pub seen_of_grows : (config : Config) (class : ClassNo) (history : List ClassEvent) (a b : Sight) → Grows a b → HasSeenOf config a class history → HasSeenOf config b class history
seen_of_grows config class history a b grows seen =
    let lock = class_lock config class in prefix_trans (class_told history) (list_at a.seen lock) (list_at b.seen lock) seen (grows.at lock)

-- a search for what is needed is one by states after less was seen, and by whoever has seen more
pub search_wider : (by : Searcher) (need : Need) (less seen a b : Sight) (stretch : Stretch) → Grows less seen → Grows a b → IsSearchFor by need seen a stretch
    → IsSearchFor by need less b stretch
search_wider by need less seen a b stretch begins grows (inl none) = inl none
search_wider by need less seen a b stretch begins grows (inr search) =
    let one = search.2 in
    inr (
      search.0,
      search.1,
      record {
        before = one.before;
        searched = one.searched;
        once = once_more (rounds_in by search.0) by.number (IsSeenState by.config.stripes seen a) (IsSeenState by.config.stripes less b)
            (state_sees by.config.stripes less seen a b begins grows) one.before one.searched one.once;
        refusal = one.refusal;
        refusal_is = one.refusal_is;
        from_is = one.from_is;
        until_is = one.until_is;
        seen = seen_of_grows by.config search.0 (one.searched ++ one.refusal) a b grows one.seen;
      },
    )

-- so is one that a fault may have broken off
pub up_to_wider : (by : Searcher) (need : Need) (less seen a b : Sight) (stretch : Stretch) → Grows less seen → Grows a b → IsSearchUpTo by need seen a stretch
    → IsSearchUpTo by need less b stretch
up_to_wider by need less seen a b stretch begins grows (inl whole) = inl (search_wider by need less seen a b stretch begins grows whole)
up_to_wider by need less seen a b stretch begins grows (inr cut) =
    let one = cut.2 in
    inr (
      cut.0,
      cut.1,
      record {
        before = one.before;
        searched = one.searched;
        broken = broken_more (rounds_in by cut.0) by.number (IsSeenState by.config.stripes seen a) (IsSeenState by.config.stripes less b)
            (state_sees by.config.stripes less seen a b begins grows) one.before one.searched one.broken;
        from_is = one.from_is;
        until_is = one.until_is;
        seen = seen_of_grows by.config cut.0 one.searched a b grows one.seen;
      },
    )

-- the places that a class gained by a search, if there was one, are a search for what is needed
pub search_alone : (by : Searcher) (need : Need) (seen sight : Sight) (v w : ClassView) → need ≡ needs.Fresh v.number → IsSearchedIf by seen sight v w
    → IsSearchFor by need seen sight (stretch_of v w)
search_alone by need seen sight v w fresh (inl free) =
    let long : length w.history ≡ length v.history = ap (λ (h : List ClassEvent). length h) free.1 in
    let none : length w.history ≤ length v.history = omega (arith, long) in
    inl none
search_alone by need seen sight v w fresh (inr searched) =
    let same : w.history ≡ w.history ++ [] = sym (append-nil w.history) in
    inr (
      v.number,
      fresh,
      record {
        before = v.history;
        searched = w.history;
        once = searched.0;
        refusal = [];
        refusal_is = inl refl;
        from_is = refl;
        until_is = ap (λ (h : List ClassEvent). length h) same;
        seen = subst (λ (h : List ClassEvent). HasSeenOf by.config sight v.number h) same searched.1;
      },
    )

-- a class that noted an event, or stayed as it was, has no shorter history
pub made_longer : (v w : ClassView) (event : ClassEvent) → Makes v w event → length v.history ≤ length w.history
made_longer v w event makes =
    let long : length w.history ≡ length v.history + 1 = ap (λ (c : ClassView). length c.history) makes ∙ length-append v.history (event ∷ []) in
    omega (arith, long)

pub stayed_longer : (v w : ClassView) → Stays v w → length v.history ≤ length w.history
stayed_longer v w stays =
    let long : length w.history ≡ length v.history = ap (λ (c : ClassView). length c.history) stays.0 in omega (arith, long)

-- the places that a class gained by a search, and those that it gained behind a try that made nothing, are in those that it gained in all
pub refused_bounds : (by : Searcher) (seen sight : Sight) (v w x y : ClassView) → IsSearchedIf by seen sight v w → x.history ≡ w.history
    → length x.history ≤ length y.history
    → ((length v.history ≤ length v.history) × (length w.history ≤ length y.history)) × ((length v.history ≤ length x.history) × (length y.history ≤ length y.history))
refused_bounds by seen sight v w x y searched same more =
    let first = search_longer by seen sight v w searched in
    let long : length x.history ≡ length w.history = ap (λ (h : List ClassEvent). length h) same in
    ((omega arith, omega (arith, long, more)), (omega (arith, first, long), omega arith))

-- a search and the refusal behind it are one for what is needed, where the search left the class full
pub search_refused : (by : Searcher) (need : Need) (seen a b : Sight) (v w x : ClassView) → Grows a b → need ≡ needs.Fresh v.number → IsFull w.chunks w.history
    → IsSearchedIf by seen a v w → x.history ≡ w.history ++ refused_event by.who ∷ [] → HasSeenOf by.config b v.number x.history → IsSearchFor by need seen b (stretch_of v x)
search_refused by need seen a b v w x grows fresh full (inl free) is whole = absurd (free.0 full)
search_refused by need seen a b v w x grows fresh full (inr searched) is whole = inr (
  v.number,
  fresh,
  record {
    before = v.history;
    searched = w.history;
    once = once_more (rounds_in by v.number) by.number (IsSeenState by.config.stripes seen a) (IsSeenState by.config.stripes seen b)
        (state_sees by.config.stripes seen seen a b (grows_itself seen) grows) v.history w.history searched.0;
    refusal = refused_event by.who ∷ [];
    refusal_is = inr refl;
    from_is = refl;
    until_is = ap (λ (h : List ClassEvent). length h) is;
    seen = subst (λ (h : List ClassEvent). HasSeenOf by.config b v.number h) is whole;
  },
)

-- ---- as more is seen

-- what stands in a list stands there as more is seen
stands_more : (seen more before : List ClassEvent) (e : ClassEvent) → IsPrefix seen more → Stands seen before e → Stands more before e
stands_more seen more before e begins stands = record {
  later = stands.later ++ begins.0;
  is = sym begins.1 ∙ (ap (λ (l : List ClassEvent). l ++ begins.0) stands.is ∙ append_assoc before (e ∷ stands.later) begins.0);
}

-- what was earned stays so as more is seen
earned_more : (config : Config) (number : StripeNo) (class : ClassNo) (who : Who) (moment : ℕ) (key : List ℕ) (place : ℕ) (seen more : List ClassEvent)
    → IsPrefix seen more → IsEarnedAt config number class who moment key place seen
    → IsEarnedAt config number class who moment key place more
earned_more config number class who moment key place seen more begins earned = record {
  before = earned.before;
  refused = stands_more seen more earned.before (refused_event who) begins earned.refused;
  place_is = earned.place_is;
  searched = earned.searched;
}

pub earned_sees : (config : Config) (number : ℕ) (who : Who) (moment : ℕ) (key : List ℕ) (a b : Sight) (room : Room) → Grows a b
    → IsEarnedIn config number who moment key a room → IsEarnedIn config number who moment key b room
earned_sees config number who moment key a b rooms.Keep grows earned = tt
earned_sees config number who moment key a b (rooms.At link) grows earned = tt
earned_sees config number who moment key a b (rooms.Refused class place) grows earned =
    earned_more config (record { 0 = number }) class who moment key place (classes_seen config.stripes (list_at a.seen) class) (classes_seen config.stripes (list_at b.seen) class)
    (classes_grow config.stripes (list_at a.seen) (list_at b.seen) grows.at class) earned

-- ---- in the words of evidence

-- none near a tail is of the stripe
near_none : (site : Site) (stripes : ℕ) (seg : Seg) (history : List ClassEvent) → site.stripes ≡ stripes → IsNoneNear stripes (record { 0 = site.stripe }) seg history → NoneNear site (list_of (lists_of history) seg)
near_none site stripes seg history same none = λ j few. by j few (from_tail (list_of (lists_of history) seg) j) refl
  where
    by : (j : ℕ) → j < 5 → (o : Option Entry) → from_tail (list_of (lists_of history) seg) j ≡ o → IfSome o (λ e. IsKeyOf site e.key → ⊥)
    by j few None is = tt
    by j few (Some e) is = λ of. none j e few is (ap (λ (n : ℕ). stripe_of e.key n) (sym same) ∙ of)

-- a room that is none is no refusal
pub earned_keep : (config : Config) (site : Site) (sight : Sight) (who : Who) (command : Command) (moment : ℕ) (reply : Reply)
    → IsEarned config site sight (record { who = who; command = command; moment = moment; reply = reply; room = rooms.Keep })
earned_keep config site sight who command moment reply = record {
  tried = λ class place is. absurd (kept class place is);
  last = λ class place is. absurd (kept class place is);
}
  where
    kept : (class : ClassNo) (place : ℕ) → rooms.Keep ≡ rooms.Refused class place → ⊥
    kept class place is = cc

-- whatever was earned wasn't made at once
pub earned_told : (config : Config) (site : Site) (sight : Sight) (who : Who) (command : Command) (moment : ℕ) (reply : Reply) (room : Room)
    → site.stripes ≡ config.stripes → IsEarnedIn config site.stripe who moment (key_of command) sight room
    → IsEarned config site sight (record { who = who; command = command; moment = moment; reply = reply; room = room })
earned_told config site sight who command moment reply rooms.Keep same earned = earned_keep config site sight who command moment reply
earned_told config site sight who command moment reply (rooms.At link) same earned = record {
  tried = λ class place is. absurd (at class place is);
  last = λ class place is. absurd (at class place is);
}
  where
    at : (class : ClassNo) (place : ℕ) → rooms.At link ≡ rooms.Refused class place → ⊥
    at class place is = cc
earned_told config site sight who command moment reply (rooms.Refused own at) same earned = record {
  tried = λ class place is. of class (same_class class place is);
  last = λ class place is. resort class place is;
}
  where
    same_class : (class : ClassNo) (place : ℕ) → rooms.Refused own at ≡ rooms.Refused class place → own ≡ class
    same_class class place is = cc

    same_place : (class : ClassNo) (place : ℕ) → rooms.Refused own at ≡ rooms.Refused class place → at ≡ place
    same_place class place is = cc

    did : Did
    did = record { who = who; command = command; moment = moment; reply = reply; room = rooms.Refused own at }

    IsSo : ClassNo → Type 0
    IsSo class = Has entries.Refused (classes_seen config.stripes (list_at sight.seen) class) (λ behind e. IsRefusal class did behind e
        × (HasTried behind who (key_of command) ⊎ (NoneNear site (lists_of behind).cold × NoneNear site (lists_of behind).hot)))

    searched : HasSearched config.stripes (record { 0 = site.stripe }) who (key_of command) earned.before
        → HasTried earned.before who (key_of command) ⊎ (NoneNear site (lists_of earned.before).cold × NoneNear site (lists_of earned.before).hot)
    searched (inl tried) = inl tried
    searched (inr none) = inr (near_none site config.stripes Cold earned.before same none.0, near_none site config.stripes Hot earned.before same none.1)

    of : (class : ClassNo) → own ≡ class → IsSo class
    of class is =
        subst IsSo is (earned.before, record { who = who }, earned.refused, (record { who = refl; room = ap (λ (n : ℕ). rooms.Refused own n) earned.place_is }, searched earned.searched.0))

    resort : (class : ClassNo) (place : ℕ) → rooms.Refused own at ≡ rooms.Refused class place → IsLastResort config (record { 0 = site.stripe }) class place (classes_seen config.stripes (list_at sight.seen) class) did
    resort class place is =
        subst (λ (n : ClassNo). IsLastResort config (record { 0 = site.stripe }) n place (classes_seen config.stripes (list_at sight.seen) n) did) (same_class class place is)
        (subst (λ (p : ℕ). IsLastResort config (record { 0 = site.stripe }) own p (classes_seen config.stripes (list_at sight.seen) own) did) (same_place class place is)
        (record { before = earned.before; refused = earned.refused; place_is = earned.place_is; through = earned.searched.1 }))

-- and wasn't so for whoever has seen more
pub told_sees : (config : Config) (site : Site) (a b : Sight) (did : Did) → Grows a b → IsEarned config site a did → IsEarned config site b did
told_sees config site a b did grows earned = record {
  tried = λ class.
      let begins = classes_grow config.stripes (list_at a.seen) (list_at b.seen) grows.at class in
      subst (λ (l : List ClassEvent). WasTried site class l did) begins.1 (tried_later site class (classes_seen config.stripes (list_at a.seen) class) begins.0 did (earned.tried class));
  last = λ class place is.
      let begins = classes_grow config.stripes (list_at a.seen) (list_at b.seen) grows.at class in
      let resort = earned.last class place is in
      record {
        before = resort.before;
        refused = stands_more (classes_seen config.stripes (list_at a.seen) class) (classes_seen config.stripes (list_at b.seen) class) resort.before (refused_event did.who) begins resort.refused;
        place_is = resort.place_is;
        through = resort.through;
      };
}
