-- What a gate under locks serves, it serves after a survey too; and what its stripes gain adds up.
use Rattle.std.proofs.Common.{◌≡◌, ◌<◌, ℕ, List, [], ◌∷◌, ◌++◌, refl, sym, ap, ◌∙◌, subst, inl, inr, ⊎_elim, arith, length, drop, append_assoc, Option, None, Result, Ok, Err}
use Rattle.std.specs.Prelude.{◌≤◌, IfErr, IfOk}
use Rattle.std.proofs.lemmas.List.{append-nil}
use mathlib.Core.List.{IsPrefix}
use Rattle.atomic_table.specs.Seated.{TableId}
use Rattle.mc_item.specs.declared.{class_event.ClassEvent.ClassEvent, class_event.Surveyed.Surveyed, config.Config.Config, event.Event.Event, fault.Fault.Fault}
use Rattle.mc_item.specs.declared.class_event.ClassEvent.TheVariants as events
use Rattle.mc_item.specs.declared.{fault.Fault.TheVariants.HistoryFull, item.ClassNo.ClassNo, item.StripeNo.StripeNo, item.Who.Who, stripe_event.StripeEvent.StripeEvent}
use Rattle.mc_evidence.proofs.LentStepLemmas.{survey_step}
use Rattle.mc_evidence.specs.Seen.{stripes_seen}
use Rattle.mc_segment.specs.{ClassCalls.surveyed_event, ClassState.ClassView, ClassState.with_room}
use Rattle.mc_stripe.specs.StripeState.{Stripe}
use Rattle.mc_board.specs.{Accounts.AreBy, Accounts.with_new, Histories.Grows, Histories.list_at, Histories.with_seen, Views.OwnerView, Views.SeenView}
use Rattle.mc_board.specs.declared.rule.Sight.{Sight}
use Rattle.mc_board.proofs.{AccountLemmas.are_by_gained, AccountLemmas.are_by_one, PrefixLemmas.prefix_length, PrefixLemmas.prefix_more, PrefixLemmas.prefix_self, PrefixLemmas.same_or_not}
use Rattle.mc_board.proofs.SeenLemmas.{list_at_other, list_at_same}
use Rattle.mc_pull.specs.declared.{context.Context.Context, judge.Done.Done, looking.Answer.Answer}
use Rattle.mc_pull.specs.{Lone.AreMadeBy, Lone.StripeGrows, Looks.IsAnswered, Looks.answer_by, Question.IsClassOf, Question.Question, Settled.class_with, Walker.Walker}
use Rattle.mc_store.specs.Accounts.{IsOfStretch, IsOfWalk, StillCalls, stretch_of}
use Rattle.mc_store.specs.{Locked.class_lock, Locked.setting_of, Passes.CallerView, Serving.IsServed, Serving.IsShortFor, Serving.MayFailSeen}
use Rattle.mc_store.specs.{Sides.ClassSide, Sides.StripeSide, Sides.class_told, Sides.stripe_sight, Sides.stripe_told, Walking.MayTry, Walking.StillWalks, Walking.StillWalksFrom, Walking.class_sight}
use Rattle.mc_store.specs.{Accounts.Stretch, Walking.with_class}
use Rattle.mc_store.proofs.AccountLemmas.{enters_later, grows_itself, still_both, still_longer, still_none, still_seen, still_walked, whole_grows, whole_shared}
use Rattle.mc_store.proofs.ShortHistoryLemmas.{short_grows}
use Rattle.mc_store.proofs.SyncedStepLemmas.{any_short, map_append, map_length, short_of, stripe_told_more}

-- ---- stripes that grow

-- a stripe to which nothing was done
pub grew_itself : (w : Walker) (s : Stripe) → StripeGrows w s s
grew_itself w s = record { site = record { site = refl; limit = refl; keeps_events = refl }; events = []; each = tt; history_is = sym (append-nil s.history) }

made_both : (w : Walker) (xs ys : List StripeEvent) → AreMadeBy w xs → AreMadeBy w ys → AreMadeBy w (xs ++ ys)
made_both w [] ys first more = more
made_both w (x ∷ xs) ys first more = (first.0, made_both w xs ys first.1 more)

-- one walk after another
pub grew_on : (w : Walker) (a b c : Stripe) → StripeGrows w a b → StripeGrows w b c → StripeGrows w a c
grew_on w a b c first more = record {
  site = record { site = more.site.site ∙ first.site.site; limit = more.site.limit ∙ first.site.limit; keeps_events = more.site.keeps_events ∙ first.site.keeps_events };
  events = first.events ++ more.events;
  each = made_both w first.events more.events first.each more.each;
  history_is = more.history_is ∙ (ap (λ (h : List StripeEvent). h ++ more.events) first.history_is ∙ append_assoc a.history first.events more.events);
}

-- ---- classes that are served

-- a class with another room
room_of : (config : Config) (c : ClassView) (room : ℕ) → IsClassOf config c → IsClassOf config (with_room c room)
room_of config c room of = record { bounded = of.bounded; chunks = of.chunks; max_events = of.max_events; keeps_events = of.keeps_events; rule = of.rule }

-- and with more events
more_of : (config : Config) (c : ClassView) (es : List ClassEvent) (room : ℕ) → IsClassOf config c → IsClassOf config (class_with c es room)
more_of config c es room of = record { bounded = of.bounded; chunks = of.chunks; max_events = of.max_events; keeps_events = of.keeps_events; rule = of.rule }

-- a class that may be tried is served for the call whose step it is
pub served_asked : (table : TableId) (config : Config) (context : Context) (caller : CallerView) (owner : OwnerView) (seen : SeenView) (c : ClassView) (who : Who) (moment : ℕ)
    → MayTry table config context caller owner seen c who moment → IsServed table config context.turn.who owner seen c
served_asked table config context caller owner seen c who moment may = subst (λ (w : Who). IsServed table config w owner seen c) (sym may.asks) may.walks.served

-- a class is served whatever its room is
pub served_room : (table : TableId) (config : Config) (who : Who) (owner : OwnerView) (seen : SeenView) (c : ClassView) (room : ℕ) → IsServed table config who owner seen c
    → IsServed table config who owner seen (with_room c room)
served_room table config who owner seen c room served = record {
  kept = record {
    board_is = served.kept.board_is;
    lock_is = served.kept.lock_is;
    is = served.kept.is;
    made_with = room_of config c room served.kept.made_with;
    keeps = served.kept.keeps;
  };
  behind = served.behind;
  by = served.by;
  board_is = served.board_is;
}

-- and for a call with a survey more by the call, which its owner hasn't told yet
pub served_survey : (table : TableId) (config : Config) (who : Who) (owner : OwnerView) (seen : SeenView) (c : ClassView) (moment room : ℕ) → IsServed table config who owner seen c
    → IsServed table config who owner seen (class_with c (surveyed_event c who moment ∷ []) room)
served_survey table config who owner seen c moment room served =
    let kept = served.kept in
    let more = map_append Rattle.mc_item.specs.declared.event.Event.TheVariants.Class c.history (surveyed_event c who moment ∷ []) in
    let seen_of = stripes_seen (list_at seen.sight.seen) in
    record {
      kept = record {
        board_is = kept.board_is;
        lock_is = kept.lock_is;
        is = kept.is;
        made_with = more_of config c (surveyed_event c who moment ∷ []) room kept.made_with;
        keeps = survey_step (setting_of config) c.number c.history seen_of seen_of kept.keeps (λ s. prefix_self (seen_of s)) _ (refl, refl);
      };
      behind = subst (IsPrefix owner.history) (sym more) (prefix_more owner.history (class_told c.history) (class_told (surveyed_event c who moment ∷ [])) served.behind);
      by = subst (λ (h : List Event). AreBy who (drop (length owner.history) h)) (sym more)
          (are_by_gained who (length owner.history) (class_told c.history) (class_told (surveyed_event c who moment ∷ [])) (prefix_length owner.history (class_told c.history) served.behind) served.by
          (are_by_one who (Rattle.mc_item.specs.declared.event.Event.TheVariants.Class (surveyed_event c who moment)) refl));
      board_is = served.board_is;
    }

-- ---- what walks enter

-- who was told a class's whole history has seen it
pub class_within : (config : Config) (class : ClassNo) (history : List ClassEvent) (sight : Sight) (lock : ℕ) → lock ≡ class_lock config class
    → length history ≤ length (list_at (with_class config class history sight).seen lock)
class_within config class history sight lock at =
    let list : list_at (with_class config class history sight).seen lock ≡ class_told history =
    ap (λ (k : ℕ). list_at (with_class config class history sight).seen k) at ∙ list_at_same sight.seen (class_lock config class) (class_told history) in
    let long : length (list_at (with_class config class history sight).seen lock) ≡ length history =
    ap (λ (t : List Event). length t) list ∙ map_length Rattle.mc_item.specs.declared.event.Event.TheVariants.Class history in
    omega (arith, long)

-- a stripe's lock is no class's
pub no_class_lock : (config : Config) (class : ClassNo) (lock : ℕ) → lock < config.stripes → lock ≡ class_lock config class → ⊥
no_class_lock config class lock of same = omega (arith, of, same)

-- a walk that has made nothing yet
pub still_unwalked : (config : Config) (class : ClassNo) (from turn : ℕ) (sight : Sight) (history : List ClassEvent) (caller : CallerView)
    → StillWalksFrom config class from turn sight sight history history caller caller
still_unwalked config class from turn sight history caller =
    still_none (IsOfStretch config class (record { from = from; until = length history })) turn {sight = with_class config class history sight} caller

-- an owner has told no less than before
pub no_shorter : (n : ℕ) → n ≤ n
no_shorter n = omega arith

-- an owner has told no less after one walk and another
pub no_shorter_both : (a b c : ℕ) → a ≤ b → b ≤ c → a ≤ c
no_shorter_both a b c first more = omega (arith, first, more)

-- a class whose whole history was seen before has no shorter one by now
seen_longer : (config : Config) (class : ClassNo) (before after : Sight) (history history_new : List ClassEvent)
    → Grows (with_class config class history before) (with_class config class history_new after) → length history ≤ length history_new
seen_longer config class before after history history_new grows =
    let lock = class_lock config class in
    let more =
    prefix_length (list_at (with_class config class history before).seen lock) (list_at (with_class config class history_new after).seen lock) (grows.at lock) in
    let long : length (list_at (with_class config class history before).seen lock) ≡ length history =
    ap (λ (t : List Event). length t) (list_at_same before.seen lock (class_told history)) ∙ map_length Rattle.mc_item.specs.declared.event.Event.TheVariants.Class history in
    let long_new : length (list_at (with_class config class history_new after).seen lock) ≡ length history_new =
    ap (λ (t : List Event). length t) (list_at_same after.seen lock (class_told history_new)) ∙ map_length Rattle.mc_item.specs.declared.event.Event.TheVariants.Class history_new in
    omega (arith, more, long, long_new)

-- one walk after another, which is from no earlier place
pub still_on : (config : Config) (class : ClassNo) (from between turn : ℕ) (x y z : Sight) (before mid after : List ClassEvent) (a b c : CallerView) → from ≤ between
    → StillWalksFrom config class from turn x y before mid a b → StillWalksFrom config class between turn y z mid after b c → StillWalksFrom config class from turn x z before after a c
still_on config class from between turn x y z before mid after a b c low first more =
    let all : Stretch = record { from = from; until = length after } in
    let ends : (from ≤ from) × (length mid ≤ length after) = (omega arith, seen_longer config class y z mid after more.sees) in
    let starts : (from ≤ between) × (length after ≤ length after) = (low, omega arith) in
    still_both (IsOfStretch config class all) turn {x = with_class config class before x} {y = with_class config class mid y} {z = with_class config class after z} a b c
    (still_longer config class (record { from = from; until = length mid }) all turn {x = with_class config class before x} {y = with_class config class mid y} a b ends first)
    (still_longer config class (record { from = between; until = length after }) all turn {x = with_class config class mid y} {y = with_class config class after z} b c starts more)

-- a walk whose class has a survey more, which the board lacks still
pub still_surveyed : (config : Config) (class : ClassNo) (from turn : ℕ) {x : Sight} (after : Sight) (history : List ClassEvent) (survey : Surveyed) (caller caller_new : CallerView)
    → StillCalls (IsOfStretch config class (record { from = from; until = length history })) turn x (with_class config class history after) caller caller_new
    → StillCalls (IsOfStretch config class (record { from = from; until = length (history ++ events.Surveyed survey ∷ []) })) turn x
    (with_class config class (history ++ events.Surveyed survey ∷ []) after) caller caller_new
still_surveyed config class from turn {x = x} after history survey caller caller_new still =
    let last = history ++ events.Surveyed survey ∷ [] in
    let all : Stretch = record { from = from; until = length last } in
    let more : IsPrefix (class_told history) (class_told last) =
    (class_told (events.Surveyed survey ∷ []), sym (map_append Rattle.mc_item.specs.declared.event.Event.TheVariants.Class history (events.Surveyed survey ∷ []))) in
    let bounds : (from ≤ from) × (length history ≤ length last) = (omega arith, prefix_length history last (events.Surveyed survey ∷ [], refl)) in
    still_seen (IsOfStretch config class all) turn {w = x} {x = x} {y = with_class config class history after} {z = with_class config class last after} caller caller_new (grows_itself x)
    (whole_grows {x = after} {y = after} (class_lock config class) (class_told history) (class_told last) more (grows_itself after))
    (still_longer config class (record { from = from; until = length history }) all turn {x = x} {y = with_class config class history after} caller caller_new bounds still)

-- a walk entered what it made, and then what the board lacked of its class was entered, from no earlier place
pub still_caught_up : (table : TableId) (config : Config) (who by : Who) (owner : OwnerView) (seen : SeenView) {x : Sight} (c c_new : ClassView) (caller mid last : CallerView) (start from : ℕ)
    → start ≤ from → StillCalls (IsOfStretch config c.number (record { from = start; until = length c_new.history })) who.turn x (with_class config c.number c_new.history seen.sight) caller mid
    → IsServed table config who owner seen c_new → c_new.number ≡ c.number → by ≡ who
    → last ≡ record mid { made = with_new mid.made by.turn owner.lock from (length c_new.history) }
    → StillCalls (IsOfStretch config c.number (record { from = start; until = length c_new.history })) who.turn x (with_class config c.number c_new.history seen.sight) caller last
still_caught_up table config who by owner seen {x = x} c c_new caller mid last start from low walked served number is entered =
    let sight = with_class config c.number c_new.history seen.sight in
    let all : Stretch = record { from = start; until = length c_new.history } in
    let at : owner.lock ≡ class_lock config c.number = served.kept.lock_is ∙ ap (λ (n : ClassNo). class_lock config n) number in
    let bounds : (start ≤ from) × (length c_new.history ≤ length c_new.history) = (low, omega arith) in
    still_both (IsOfStretch config c.number all) who.turn {x = x} {y = sight} {z = sight} caller mid last walked
    (still_walked config c.number all {x = sight} {y = sight} mid last who.turn owner.lock from (length c_new.history)
    (subst (λ (w : Who). last ≡ record mid { made = with_new mid.made w.turn owner.lock from (length c_new.history) }) is entered)
    (grows_itself sight) (class_within config c.number c_new.history seen.sight owner.lock at) at bounds)

-- a walk in a class, as the class is under its lock
pub still_under : (config : Config) (turn : ℕ) (old new was : ClassSide) (caller caller_new : CallerView) → old ≡ was → new.class.number ≡ old.class.number
    → StillWalks config old.class.number turn old.sight new.sight old.class.history new.class.history caller caller_new
    → StillCalls (IsOfWalk config was.class.number) turn (class_sight config was) (class_sight config new) caller caller_new
still_under config turn old new was caller caller_new is number still =
    subst (λ (x : ClassSide). StillCalls (IsOfWalk config x.class.number) turn (class_sight config x) (class_sight config new) caller caller_new) is
    (subst (λ (n : ClassNo). StillCalls (IsOfWalk config old.class.number) turn (class_sight config old) (with_class config n new.class.history new.sight) caller caller_new) (sym number) still)

-- a walk in a class from the end of what its owner had told, which was all, as the class is under its lock
pub stretch_under : (config : Config) (turn : ℕ) (told : List Event) (old new was : ClassSide) (caller caller_new : CallerView) → told ≡ class_told old.class.history → old ≡ was
    → new.class.number ≡ old.class.number → StillWalksFrom config old.class.number (length told) turn old.sight new.sight old.class.history new.class.history caller caller_new
    → StillCalls (IsOfStretch config was.class.number (stretch_of was.class new.class)) turn (class_sight config was) (class_sight config new) caller caller_new
stretch_under config turn told old new was caller caller_new whole is number still =
    let start : length told ≡ length old.class.history =
    ap (λ (t : List Event). length t) whole ∙ map_length Rattle.mc_item.specs.declared.event.Event.TheVariants.Class old.class.history in
    subst (λ (x : ClassSide). StillCalls (IsOfStretch config x.class.number (stretch_of x.class new.class)) turn (class_sight config x) (class_sight config new) caller caller_new) is
    (subst
    (λ (n : ClassNo). StillCalls (IsOfStretch config old.class.number (stretch_of old.class new.class)) turn (class_sight config old) (with_class config n new.class.history new.sight) caller caller_new)
    (sym number)
    (subst (λ (from : ℕ). StillWalksFrom config old.class.number from turn old.sight new.sight old.class.history new.class.history caller caller_new) start still))

-- a stripe that has seen all that was seen of other locks, and has all that was seen of its own
stripe_has : (own : StripeSide) (x : Sight) → Grows x own.sight → IsPrefix (list_at x.seen own.lock) (stripe_told own.stripe.history) → Grows x (stripe_sight own)
stripe_has own x grows behind = record { at = λ at. ⊎_elim (λ same. here at same) (λ other. beside at other) (same_or_not at own.lock) }
  where
    here : (at : ℕ) → at ≡ own.lock → IsPrefix (list_at x.seen at) (list_at (stripe_sight own).seen at)
    here at same = subst (λ (k : ℕ). IsPrefix (list_at x.seen k) (list_at (stripe_sight own).seen k)) (sym same)
        (subst (λ (l : List Event). IsPrefix (list_at x.seen own.lock) l) (sym (list_at_same own.sight.seen own.lock (stripe_told own.stripe.history))) behind)

    beside : (at : ℕ) → (at ≡ own.lock → ⊥) → IsPrefix (list_at x.seen at) (list_at (stripe_sight own).seen at)
    beside at other = subst (λ (l : List Event). IsPrefix (list_at x.seen at) l) (sym (list_at_other own.sight.seen own.lock at (stripe_told own.stripe.history) other)) (grows.at at)

-- a walk in a class, by a stripe that then learnt all that the class's token had seen, and heard the class's whole history
pub still_searched : (config : Config) (from turn : ℕ) (w : Walker) (own own_new : StripeSide) (class : ClassNo) (before after : Sight) (history history_new : List ClassEvent) (caller caller_new : CallerView)
    → own_new.lock ≡ own.lock → own.lock < config.stripes → StripeGrows w own.stripe own_new.stripe → Grows own.sight own_new.sight → Grows after own_new.sight
    → list_at own_new.sight.seen (class_lock config class) ≡ class_told history_new → IsPrefix (list_at after.seen own_new.lock) (stripe_told own_new.stripe.history)
    → StillWalksFrom config class from turn before after history history_new caller caller_new
    → StillCalls (IsOfStretch config class (record { from = from; until = length history_new })) turn (stripe_sight own) (stripe_sight own_new) caller caller_new
still_searched config from turn w own own_new class before after history history_new caller caller_new lock of grows sees learnt heard behind still =
    let mid = with_class config class history_new after in
    let all : Grows mid own_new.sight =
    whole_shared after {y = own_new.sight} (class_lock config class) (class_told history_new)
    (subst (λ (l : List Event). IsPrefix (class_told history_new) l) (sym heard) (prefix_self (class_told history_new))) (λ at other. learnt.at at) in
    let below : own_new.lock < config.stripes = subst (λ (n : ℕ). n < config.stripes) (sym lock) of in
    let apart : list_at mid.seen own_new.lock ≡ list_at after.seen own_new.lock =
    list_at_other after.seen (class_lock config class) own_new.lock (class_told history_new) (no_class_lock config class own_new.lock below) in
    let has : Grows mid (stripe_sight own_new) =
    stripe_has own_new mid all (subst (λ (l : List Event). IsPrefix l (stripe_told own_new.stripe.history)) (sym apart) behind) in
    record {
      number_is = still.number_is;
      calls_are = still.calls_are;
      sees = subst (λ (k : ℕ). Grows (with_seen own.sight k (stripe_told own.stripe.history)) (stripe_sight own_new)) lock
          (whole_grows {x = own.sight} {y = own_new.sight} own_new.lock (stripe_told own.stripe.history) (stripe_told own_new.stripe.history)
          (stripe_told_more own.stripe.history own_new.stripe.history grows.events (stripe_told own.stripe.history) grows.history_is refl) sees);
      enters = enters_later (IsOfStretch config class (record { from = from; until = length history_new })) turn {mid = mid} {after = stripe_sight own_new} caller.made caller_new.made has still.enters;
    }

-- ---- full histories

-- what an answer is told to be, in other words
pub ok_more : {T : Type 0} (r : Result T Fault) (P Q : T → Type 0) → ((x : T) → P x → Q x) → IfOk r P → IfOk r Q
ok_more (Ok x) P Q more p = more x p
ok_more (Err f) P Q more p = tt

-- a walk that failed for a full history: who was told of the class, and of all that it has seen, has seen it
pub room_full : {T : Type 0} (table : TableId) (config : Config) (who : Who) (owner : OwnerView) (seen : SeenView) (c : ClassView) → IsServed table config who owner seen c → (sight : Sight) (lock : ℕ) → lock ≡ owner.lock
    → list_at sight.seen lock ≡ class_told c.history → Grows seen.sight sight → (r : Result T Fault) → IfErr r (MayFailSeen config seen.sight c) → r ≡ Err HistoryFull → IsShortFor config c.number sight
room_full table config who owner seen c served sight lock at list more r may is = by (subst (λ (x : Result _ Fault). IfErr x (MayFailSeen config seen.sight c)) is may)
  where
    by : MayFailSeen config seen.sight c HistoryFull → IsShortFor config c.number sight
    by (inl lack) =
        any_short config sight (short_of config sight lock c.number c.history (at ∙ served.kept.lock_is) served.kept.is list
        (subst (λ (n : ℕ). n ≤ length c.history) served.kept.made_with.max_events lack))
    by (inr short) = short_grows config seen.sight sight more short

-- ---- looks
-- a look whose stripe was not reached was answered so
pub passed_by : {R : Stripe → Type 0} (config : Config) (stripe : StripeNo) (q : Question) (c : ClassView) (xs ys : List Answer) (made : Option Done) → made ≡ None → ys ≡ xs ++ answer_by stripe None ∷ []
    → IsAnswered R config stripe q c c xs ys made
passed_by {R = R} config stripe q c xs ys made none is =
    subst (IsAnswered R config stripe q c c xs ys) (sym none)
    record { judged = None; made_is = refl; answers = is; class = ap (λ (h : List ClassEvent). record c { history = h }) (sym (append-nil c.history)); reached = tt }
