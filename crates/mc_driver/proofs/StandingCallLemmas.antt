-- Calls that stand in histories, or broke off in them, go on doing so where these grow, and after less that was seen.
use Rattle.std.proofs.Common.{◌≡◌, ◌<◌, ℕ, zero, suc, List, [], ◌∷◌, ◌++◌, Option, None, Some, sym, ap, ◌∙◌, append_assoc, subst, refl, inl, inr, ⊎_elim}
use Rattle.std.specs.Prelude.{Bool, true, false, if◌then◌else◌, nat_eq}
use Rattle.std.specs.List.{slice_get}
use mathlib.Core.List.{IsPrefix}
use Rattle.mc_item.specs.declared.{class_event.ClassEvent.ClassEvent, command.Command.Command, config.Config.Config, counts.Histogram.Histogram}
use Rattle.mc_item.specs.declared.{counts.Moves.Moves, item.ClassNo.ClassNo, item.Who.Who, reply.Reply.Reply, stripe_event.StripeEvent.StripeEvent}
use Rattle.mc_item.specs.declared.{answer.Need.Need, event.Event.Event, fault.Fault.Fault, item.StripeNo.StripeNo, stripe_event.Did.Did}
use Rattle.mc_board.specs.declared.rule.Sight.{Sight}
use Rattle.mc_board.proofs.PrefixLemmas.{prefix_nil, prefix_self, prefix_trans}
use Rattle.mc_evidence.specs.{Refusals.WasTried, Setting.IsClass, Setting.site_in}
use Rattle.mc_evidence.proofs.EvidenceGrowthLemmas.{tried_later}
use Rattle.mc_proto.specs.Answers.{Answer, Counted, Limited, Moved, Replied}
use Rattle.mc_script.specs.Exchanges.{Asks, Begun, Crawls, Exchange, Failure, Juggles, Limits, ScriptCall, Unbegun}
use Rattle.mc_segment.specs.ClassCalls.{limited_event, refused_event}
use Rattle.mc_store.specs.{Accounts.Stretch, Crawls.HasReclaims, Earned.IsLastResort, Headline.answered_did, Locked.setting_of, Sides.class_told}
use Rattle.mc_pull.specs.Rounds.{rounds}
use Rattle.mc_store.specs.{Reached.IsStateBetween, Searches.Searcher, Searches.rounds_in, Searches.searcher}
use Rattle.mc_store.proofs.EarnedRefusalLemmas.{broken_more, once_more}
use Rattle.mc_store.proofs.{CrawledLemmas.links_wider, ReachedLemmas.judged_more, ReachedLemmas.state_wider, TakenHitLemmas.advanced_more, TakenHitLemmas.cut_more}
use Rattle.mc_item.specs.Counts.{no_counts}
use Rattle.mc_crawl.specs.Snapshot.{links_of}
use Rattle.mc_segment.specs.ClassState.{opened}
use Rattle.mc_stripe.specs.Plan.{visible_row}
use Rattle.mc_driver.specs.Cut.{NotesCommandCut, NotesCrawlingCut, NotesJugglingCut, NotesSearchUpTo}
use Rattle.mc_driver.specs.Noted.{NotesCommand, NotesCrawling, NotesJuggling, NotesLimit, answered_event, stripe_with}
use Rattle.mc_driver.specs.Searched.{NotesSearchFor, with_stripe}
use Rattle.mc_driver.specs.Stand.{BreaksOffAfter, BreaksOffAs, StandsLast, Grow, Histories, IsPlaced, StandFrom, StandsAs, StandsBehind, StandsBetween, nothing_seen, stripe_number}

-- ---- histories that grow

-- histories are a beginning of themselves
pub grow_self : (config : Config) (histories : Histories) → Grow config histories histories
grow_self config histories = record { stripes = λ number below. prefix_self (histories.stripes number); classes = λ class is. prefix_self (histories.classes class) }

-- a beginning of a beginning is one
pub grow_trans : (config : Config) (a b c : Histories) → Grow config a b → Grow config b c → Grow config a c
grow_trans config a b c first second = record {
  stripes = λ number below. prefix_trans (a.stripes number) (b.stripes number) (c.stripes number) (first.stripes number below) (second.stripes number below);
  classes = λ class is. prefix_trans (a.classes class) (b.classes class) (c.classes class) (first.classes class is) (second.classes class is);
}

-- who has seen nothing has seen a beginning of all
pub grow_nothing : (config : Config) (histories : Histories) → Grow config nothing_seen histories
grow_nothing config histories = record { stripes = λ number below. prefix_nil (histories.stripes number); classes = λ class is. prefix_nil (histories.classes class) }

-- ---- longer histories, and less that was seen

-- a refusal that was a last resort is one in a longer history
last_later : (config : Config) (number : StripeNo) (class : ClassNo) (place : ℕ) (history longer : List ClassEvent) (did : Did) → IsPrefix history longer → IsLastResort config number class place history did
    → IsLastResort config number class place longer did
last_later config number class place history longer did begins last = record {
  before = last.before;
  refused = record {
    later = last.refused.later ++ begins.0;
    is = sym begins.1 ∙ (ap (λ (l : List ClassEvent). l ++ begins.0) last.refused.is ∙ append_assoc last.before (refused_event did.who ∷ last.refused.later) begins.0);
  };
  place_is = last.place_is;
  through = last.through;
}

-- this history of one stripe in both
if_both : (b : Bool) (history xs ys : List StripeEvent) → IsPrefix xs ys → IsPrefix (if b then history else xs) (if b then history else ys)
if_both true history xs ys more = prefix_self history
if_both false history xs ys more = more

stripe_grows : (stripes number : ℕ) (history : List StripeEvent) (less seen : ℕ → List StripeEvent) → ((n : ℕ) → n < stripes → IsPrefix (less n) (seen n)) → (n : ℕ) → n < stripes
    → IsPrefix (with_stripe number history less n) (with_stripe number history seen n)
stripe_grows stripes number history less seen begins n of = if_both (nat_eq n number) history (less n) (seen n) (begins n of)

-- a search for a chunk is noted where classes grow
search_on : (by : Searcher) (need : Need) (earlier older newer later : ℕ → List StripeEvent) (classes classes_new : ClassNo → List ClassEvent) (stretch : Stretch)
    → ((n : ℕ) → n < by.config.stripes → IsPrefix (earlier n) (older n)) → ((n : ℕ) → n < by.config.stripes → IsPrefix (newer n) (later n))
    → ((class : ClassNo) → IsClass (setting_of by.config) class → IsPrefix (classes class) (classes_new class)) → NotesSearchFor by need older newer classes stretch
    → NotesSearchFor by need earlier later classes_new stretch
search_on by need earlier older newer later classes classes_new stretch first last grow (inl none) = inl none
search_on by need earlier older newer later classes classes_new stretch first last grow (inr some) = inr (
  some.0,
  some.1,
  λ is.
      let noted = some.2 is in
      record {
        before = noted.before;
        searched = noted.searched;
        once = once_more (rounds_in by some.0) by.number (IsStateBetween by.config.stripes older newer) (IsStateBetween by.config.stripes earlier later)
            (state_wider by.config.stripes earlier older newer later first last) noted.before noted.searched noted.once;
        refusal = noted.refusal;
        refusal_is = noted.refusal_is;
        from_is = noted.from_is;
        until_is = noted.until_is;
        begins = prefix_trans (noted.searched ++ noted.refusal) (classes some.0) (classes_new some.0) noted.begins (grow some.0 is);
      },
)

-- a command that a history notes is noted by a longer one, after less that was seen, where classes grow
command_on : (config : Config) (number : ℕ) (less seen history longer : ℕ → List StripeEvent) (classes classes_new : ClassNo → List ClassEvent) (who : Who) (command : Command) (moment : ℕ)
    (reply : Reply) → number < config.stripes → ((n : ℕ) → n < config.stripes → IsPrefix (less n) (seen n)) → ((n : ℕ) → n < config.stripes → IsPrefix (history n) (longer n))
    → ((class : ClassNo) → IsClass (setting_of config) class → IsPrefix (classes class) (classes_new class))
    → NotesCommand config number seen history classes who command moment reply → NotesCommand config number less longer classes_new who command moment reply
command_on config number less seen history longer classes classes_new who command moment reply of begins more grow noted = record {
  older = noted.older;
  made = noted.made;
  room = noted.room;
  behind = noted.behind ++ (more number of).0;
  past = prefix_trans (less number) (seen number) noted.older (begins number of) noted.past;
  first = noted.first;
  led_up = noted.led_up;
  split =
      let rest = more number of in
      sym rest.1 ∙ (ap (λ (h : List StripeEvent). h ++ rest.0) noted.split
      ∙ append_assoc (noted.older ++ noted.made) (answered_event who command moment reply noted.room ∷ noted.behind) rest.0);
  earned = λ class is.
      let site = site_in (setting_of config) number in
      let did = answered_did who command moment reply noted.room in
      let grown = grow class is in
      subst (λ (h : List ClassEvent). WasTried site class h did) grown.1 (tried_later site class (classes class) grown.0 did (noted.earned class is));
  last = λ class place is refused.
      last_later config (record { 0 = number }) class place (classes class) (classes_new class) (answered_did who command moment reply noted.room) (grow class is) (noted.last class place is refused);
  stretch = noted.stretch;
  search = search_on (searcher config number who moment) (visible_row (stripe_with config number noted.older) command moment).need (with_stripe number noted.older less)
      (with_stripe number noted.older seen) history longer classes classes_new noted.stretch (stripe_grows config.stripes number noted.older less seen begins) more grow noted.search;
}

-- and so is juggling
juggling_on : (config : Config) (earlier older newer later : ℕ → List StripeEvent) (less seen history longer : List ClassEvent) (who : Who) (class : ClassNo) (moment : ℕ) (moves : Moves)
    → ((n : ℕ) → n < config.stripes → IsPrefix (earlier n) (older n)) → ((n : ℕ) → n < config.stripes → IsPrefix (newer n) (later n)) → IsPrefix less seen → IsPrefix history longer
    → NotesJuggling config older newer seen history who class moment moves → NotesJuggling config earlier later less longer who class moment moves
juggling_on config earlier older newer later less seen history longer who class moment moves first last begins more noted = record {
  before = noted.before;
  past = prefix_trans less seen noted.before begins noted.past;
  first = noted.first;
  hits = noted.hits;
  few = noted.few;
  advances = noted.advances;
  advanced = advanced_more (IsStateBetween config.stripes older newer) (IsStateBetween config.stripes earlier later) (state_wider config.stripes earlier older newer later first last)
      (rounds (opened config class) who moment config) noted.hits noted.before (noted.before ++ noted.advances) noted.advanced;
  own = noted.own;
  behind = noted.behind ++ more.0;
  split = sym more.1 ∙ (ap (λ (h : List ClassEvent). h ++ more.0) noted.split ∙ append_assoc ((noted.before ++ noted.advances) ++ noted.own) noted.behind more.0);
  juggled = (
    noted.juggled.0,
    noted.juggled.1,
    judged_more (IsStateBetween config.stripes older newer) (IsStateBetween config.stripes earlier later) (state_wider config.stripes earlier older newer later first last) noted.juggled.0 noted.juggled.2,
  );
}

-- a longer history has no fewer reclaims
reclaims_none : (who : Who) (moment : ℕ) (es : List ClassEvent) → HasReclaims who moment 0 (class_told es)
reclaims_none who moment [] = refl
reclaims_none who moment (e ∷ es) = inl (reclaims_none who moment es)

reclaims_more : (who : Who) (moment many : ℕ) (xs ys : List ClassEvent) → HasReclaims who moment many (class_told xs) → HasReclaims who moment many (class_told (xs ++ ys))
reclaims_more who moment many [] ys none = subst (λ (k : ℕ). HasReclaims who moment k (class_told ys)) (sym none) (reclaims_none who moment ys)
reclaims_more who moment many (x ∷ xs) ys (inl some) = inl (reclaims_more who moment many xs ys some)
reclaims_more who moment many (x ∷ xs) ys (inr t) = inr (t.0, (t.1.0, t.1.1, reclaims_more who moment t.1.0 xs ys t.1.2))

-- nor has one with events before it
reclaims_behind : (who : Who) (moment many : ℕ) (xs ys : List ClassEvent) → HasReclaims who moment many (class_told ys) → HasReclaims who moment many (class_told (xs ++ ys))
reclaims_behind who moment many [] ys some = some
reclaims_behind who moment many (x ∷ xs) ys some = inl (reclaims_behind who moment many xs ys some)

-- and so is a crawl
crawling_on : (config : Config) (earlier older newer later : ℕ → List StripeEvent) (less seen history longer : List ClassEvent) (who : Who) (class : ClassNo) (moment : ℕ) (histogram : Histogram)
    → ((n : ℕ) → n < config.stripes → IsPrefix (earlier n) (older n)) → ((n : ℕ) → n < config.stripes → IsPrefix (newer n) (later n)) → IsPrefix less seen → IsPrefix history longer
    → NotesCrawling config older newer seen history who class moment histogram → NotesCrawling config earlier later less longer who class moment histogram
crawling_on config earlier older newer later less seen history longer who class moment histogram first last begins more noted =
    let since = noted.since ++ more.0 in
    let there : longer ≡ seen ++ since = sym more.1 ∙ (ap (λ (h : List ClassEvent). h ++ more.0) noted.since_is ∙ append_assoc seen noted.since more.0) in
    record {
      at = noted.at;
      behind = noted.behind ++ more.0;
      past = prefix_trans less seen noted.at begins noted.past;
      split = sym more.1 ∙ (ap (λ (h : List ClassEvent). h ++ more.0) noted.split ∙ append_assoc noted.at noted.behind more.0);
      entries = noted.entries;
      end = noted.end;
      rest = noted.rest ++ more.0;
      ends = sym more.1 ∙ (ap (λ (h : List ClassEvent). h ++ more.0) noted.ends ∙ append_assoc noted.end noted.rest more.0);
      stretches = noted.stretches;
      counted = links_wider config earlier older newer later first last class (class_told noted.at) (class_told noted.end) who moment (links_of (record (opened config class) { history = noted.at })) noted.stretches
          no_counts histogram noted.counted;
      balanced = noted.balanced;
      since = begins.0 ++ since;
      since_is = there ∙ (ap (λ (h : List ClassEvent). h ++ since) (sym begins.1) ∙ append_assoc less begins.0 since);
      reclaims = reclaims_behind who moment histogram.reclaimed begins.0 since (reclaims_more who moment histogram.reclaimed noted.since more.0 noted.reclaims);
    }

-- and so is a new limit
limit_on : (less seen history longer : List ClassEvent) (who : Who) (chunks : ℕ) → IsPrefix less seen → IsPrefix history longer → NotesLimit seen history who chunks → NotesLimit less longer who chunks
limit_on less seen history longer who chunks begins more noted = record {
  before = noted.before;
  behind = noted.behind ++ more.0;
  past = prefix_trans less seen noted.before begins noted.past;
  first = noted.first;
  split = sym more.1 ∙ (ap (λ (h : List ClassEvent). h ++ more.0) noted.split ∙ append_assoc noted.before (limited_event who chunks ∷ noted.behind) more.0);
}

-- ---- the same of calls that broke off

search_up_to_on : (by : Searcher) (need : Need) (earlier older newer later : ℕ → List StripeEvent) (classes classes_new : ClassNo → List ClassEvent) (stretch : Stretch)
    → ((n : ℕ) → n < by.config.stripes → IsPrefix (earlier n) (older n)) → ((n : ℕ) → n < by.config.stripes → IsPrefix (newer n) (later n))
    → ((class : ClassNo) → IsClass (setting_of by.config) class → IsPrefix (classes class) (classes_new class)) → NotesSearchUpTo by need older newer classes stretch
    → NotesSearchUpTo by need earlier later classes_new stretch
search_up_to_on by need earlier older newer later classes classes_new stretch first last grow (inl one) =
    inl (search_on by need earlier older newer later classes classes_new stretch first last grow one)
search_up_to_on by need earlier older newer later classes classes_new stretch first last grow (inr cut) = inr (
  cut.0,
  cut.1,
  λ is.
      let noted = cut.2 is in
      record {
        before = noted.before;
        searched = noted.searched;
        broken = broken_more (rounds_in by cut.0) by.number (IsStateBetween by.config.stripes older newer) (IsStateBetween by.config.stripes earlier later)
            (state_wider by.config.stripes earlier older newer later first last) noted.before noted.searched noted.broken;
        from_is = noted.from_is;
        until_is = noted.until_is;
        begins = prefix_trans noted.searched (classes cut.0) (classes_new cut.0) noted.begins (grow cut.0 is);
      },
)

command_cut_on : (config : Config) (number : ℕ) (less seen history longer : ℕ → List StripeEvent) (classes classes_new : ClassNo → List ClassEvent) (who : Who) (command : Command) (moment : ℕ)
    → number < config.stripes → ((n : ℕ) → n < config.stripes → IsPrefix (less n) (seen n)) → ((n : ℕ) → n < config.stripes → IsPrefix (history n) (longer n))
    → ((class : ClassNo) → IsClass (setting_of config) class → IsPrefix (classes class) (classes_new class))
    → NotesCommandCut config number seen history classes who command moment → NotesCommandCut config number less longer classes_new who command moment
command_cut_on config number less seen history longer classes classes_new who command moment of begins more grow noted = record {
  older = noted.older;
  made = noted.made;
  behind = noted.behind ++ (more number of).0;
  past = prefix_trans (less number) (seen number) noted.older (begins number of) noted.past;
  first = noted.first;
  led_up = noted.led_up;
  split =
      let rest = more number of in
      sym rest.1 ∙ (ap (λ (h : List StripeEvent). h ++ rest.0) noted.split ∙ append_assoc (noted.older ++ noted.made) noted.behind rest.0);
  stretch = noted.stretch;
  search = search_up_to_on (searcher config number who moment) (visible_row (stripe_with config number noted.older) command moment).need (with_stripe number noted.older less)
      (with_stripe number noted.older seen) history longer classes classes_new noted.stretch (stripe_grows config.stripes number noted.older less seen begins) more grow noted.search;
}

juggling_cut_on : (config : Config) (earlier older newer later : ℕ → List StripeEvent) (less seen history longer : List ClassEvent) (who : Who) (class : ClassNo) (moment : ℕ)
    → ((n : ℕ) → n < config.stripes → IsPrefix (earlier n) (older n)) → ((n : ℕ) → n < config.stripes → IsPrefix (newer n) (later n)) → IsPrefix less seen → IsPrefix history longer
    → NotesJugglingCut config older newer seen history who class moment → NotesJugglingCut config earlier later less longer who class moment
juggling_cut_on config earlier older newer later less seen history longer who class moment first last begins more noted = record {
  before = noted.before;
  past = prefix_trans less seen noted.before begins noted.past;
  first = noted.first;
  hits = noted.hits;
  few = noted.few;
  advanced = noted.advanced;
  moved = advanced_more (IsStateBetween config.stripes older newer) (IsStateBetween config.stripes earlier later) (state_wider config.stripes earlier older newer later first last)
      (rounds (opened config class) who moment config) noted.hits noted.before noted.advanced noted.moved;
  after = noted.after;
  cut = ⊎_elim (λ none. inl none)
      (λ broken. inr (
        broken.0,
        cut_more (IsStateBetween config.stripes older newer) (IsStateBetween config.stripes earlier later) (state_wider config.stripes earlier older newer later first last)
            (rounds (opened config class) who moment config) broken.0 noted.advanced noted.after broken.1,
      )) noted.cut;
  begins = prefix_trans noted.after history longer noted.begins more;
}

crawling_cut_on : (config : Config) (earlier older newer later : ℕ → List StripeEvent) (less seen history longer : List ClassEvent) (who : Who) (class : ClassNo) (moment : ℕ)
    → ((n : ℕ) → n < config.stripes → IsPrefix (earlier n) (older n)) → ((n : ℕ) → n < config.stripes → IsPrefix (newer n) (later n)) → IsPrefix less seen → IsPrefix history longer
    → NotesCrawlingCut config older newer seen history who class moment → NotesCrawlingCut config earlier later less longer who class moment
crawling_cut_on config earlier older newer later less seen history longer who class moment first last begins more noted = record {
  at = noted.at;
  past = prefix_trans less seen noted.at begins noted.past;
  links = noted.links;
  some = noted.some;
  stretches = noted.stretches;
  histogram = noted.histogram;
  end = noted.end;
  counted = links_wider config earlier older newer later first last class (class_told noted.at) (class_told noted.end) who moment noted.links noted.stretches no_counts noted.histogram noted.counted;
  begins = prefix_trans noted.end history longer noted.begins more;
}

module _ (makes : Who → ((lock place : ℕ) → Event → Type 0) → Type 0) where
  -- a call that stands goes on standing where histories grow, after less that was seen
  stands_on : (config : Config) (less seen old new : Histories) (who : Who) (moment : ℕ) (call : ScriptCall) (answer : Answer) → Grow config less seen → Grow config old new → IsPlaced config call
      → StandsAs makes config seen old who moment call answer → StandsAs makes config less new who moment call answer
  unfolding command_on juggling_on crawling_on limit_on
  stands_on config less seen old new who moment (Asks command) (Replied reply) begins grow placed stands =
      let number = stripe_number config.stripes command in
      (command_on config number _ _ _ _ old.classes new.classes who command moment reply placed begins.stripes grow.stripes grow.classes stands.0, stands.1)
  stands_on config less seen old new who moment (Juggles class) (Moved moves) begins grow placed stands =
      (juggling_on config _ _ _ _ _ _ _ _ who class moment moves begins.stripes grow.stripes (begins.classes class placed) (grow.classes class placed) stands.0, stands.1)
  stands_on config less seen old new who moment (Crawls class) (Counted histogram) begins grow placed stands =
      (crawling_on config _ _ _ _ _ _ _ _ who class moment histogram begins.stripes grow.stripes (begins.classes class placed) (grow.classes class placed) stands.0, stands.1)
  stands_on config less seen old new who moment (Limits class n) Limited begins grow placed stands =
      (limit_on _ _ _ _ who n (begins.classes class placed) (grow.classes class placed) stands.0, stands.1)
  stands_on config less seen old new who moment call answer begins grow placed stands = absurd stands

  -- ---- calls in turn

  -- a call that stands behind what was seen stands between a beginning of it and what was reached
  between_less : (config : Config) (less seen reached : Histories) (call : Exchange) → Grow config less seen → StandsBetween makes config seen reached call → StandsBetween makes config less reached call
  between_less config less seen reached call grow between = record {
    grew = grow_trans config less seen reached grow between.grew;
    placed = between.placed;
    stands = stands_on config less seen reached reached call.who call.moment call.call call.answer grow (grow_self config reached) between.placed between.stands;
    evidence = between.evidence;
  }

  -- of what calls have reached that stand in turn, what follows holds too
  pub stand_rest : (config : Config) (seen : Histories) (calls : List Exchange) (end end' : Histories → Type 0) → ((reached : Histories) → end reached → end' reached)
      → StandFrom makes config seen calls end → StandFrom makes config seen calls end'
  stand_rest config seen [] end end' follows stand = follows seen stand
  stand_rest config seen (call ∷ calls) end end' follows stand =
      record { reached = stand.reached; between = stand.between; behind = stand_rest config stand.reached calls end end' follows stand.behind }

  -- one call more at the end, from the histories that the others stand in to those that it has reached
  pub stand_more : (config : Config) (seen old new : Histories) (calls : List Exchange) (call : Exchange) → StandFrom makes config seen calls (λ reached. Grow config reached old)
      → StandsBetween makes config old new call → StandFrom makes config seen (calls ++ call ∷ []) (λ reached. Grow config reached new)
  stand_more config seen old new [] call stand between = record { reached = new; between = between_less config seen old new call stand between; behind = grow_self config new }
  stand_more config seen old new (first ∷ calls) call stand between =
      record { reached = stand.reached; between = stand.between; behind = stand_more config stand.reached old new calls call stand.behind between }

  -- histories in which calls stand begin with what was seen before these
  stand_grows : (config : Config) (seen histories : Histories) (calls : List Exchange) → StandFrom makes config seen calls (λ reached. Grow config reached histories) → Grow config seen histories
  stand_grows config seen histories [] stand = stand
  stand_grows config seen histories (call ∷ calls) stand = grow_trans config seen stand.reached histories stand.between.grew (stand_grows config stand.reached histories calls stand.behind)

  -- each of the calls that stand in turn stands there
  pub stand_at : (config : Config) (seen histories : Histories) (calls : List Exchange) (turn : ℕ) (call : Exchange) → StandFrom makes config seen calls (λ reached. Grow config reached histories)
      → slice_get calls turn ≡ Some call → StandsBehind makes config nothing_seen histories call
  stand_at config seen histories [] turn call stand at = absurd (cc at)
  stand_at config seen histories (first ∷ calls) zero call stand at =
      let same : first ≡ call = cc in
      let between = stand.between in
      subst (λ (x : Exchange). StandsBehind makes config nothing_seen histories x) same
      (stands_on config nothing_seen seen stand.reached histories first.who first.moment first.call first.answer (grow_nothing config seen)
      (stand_grows config stand.reached histories calls stand.behind) between.placed between.stands)
  stand_at config seen histories (first ∷ calls) (suc turn) call stand at = stand_at config stand.reached histories calls turn call stand.behind at

-- ---- the call that failed

module _ (makes : Who → ((lock place : ℕ) → Event → Type 0) → Type 0) (Saw : Sight → Type 0) where
  breaks_on : (config : Config) (less seen old new : Histories) (who : Who) (moment : ℕ) (call : ScriptCall) (fault : Fault) → Grow config less seen → Grow config old new → IsPlaced config call
      → BreaksOffAs makes Saw config seen old who moment call fault → BreaksOffAs makes Saw config less new who moment call fault
  unfolding command_cut_on juggling_cut_on crawling_cut_on
  breaks_on config less seen old new who moment (Asks command) fault begins grow placed left =
      let number = stripe_number config.stripes command in (
        command_cut_on config number _ _ _ _ old.classes new.classes who command moment placed begins.stripes grow.stripes grow.classes left.0,
        left.1,
        left.2,
      )
  breaks_on config less seen old new who moment (Juggles class) fault begins grow placed left = (
    juggling_cut_on config _ _ _ _ _ _ _ _ who class moment begins.stripes grow.stripes (begins.classes class placed) (grow.classes class placed) left.0,
    left.1,
    left.2,
  )
  breaks_on config less seen old new who moment (Crawls class) fault begins grow placed left = (
    crawling_cut_on config _ _ _ _ _ _ _ _ who class moment begins.stripes grow.stripes (begins.classes class placed) (grow.classes class placed) left.0,
    left.1,
    left.2,
  )
  breaks_on config less seen old new who moment (Limits class n) fault begins grow placed left = left

  -- it broke off after less that was seen, too, in histories that grow
  pub breaks_after : (config : Config) (less seen old new : Histories) (who : Who) (call : ScriptCall) (moment : ℕ) (fault : Fault) → Grow config less seen → Grow config old new
      → BreaksOffAfter makes Saw config seen old who call moment fault → BreaksOffAfter makes Saw config less new who call moment fault
  breaks_after config less seen old new who call moment fault begins grow broke = record {
    grew = grow_trans config less seen new begins (grow_trans config seen old new broke.grew grow);
    placed = broke.placed;
    left = breaks_on config less seen old new who moment call fault begins grow broke.placed broke.left;
  }

  -- what histories have after the answered calls, longer ones have
  pub stand_last_later : (config : Config) (old new : Histories) (who : Who) (end : Option Failure) → Grow config old new → (reached : Histories) → StandsLast makes Saw config old who end reached
      → StandsLast makes Saw config new who end reached
  stand_last_later config old new who None grow reached last = grow_trans config reached old new last grow
  stand_last_later config old new who (Some (Unbegun fault)) grow reached last = (grow_trans config reached old new last.0 grow, last.1)
  stand_last_later config old new who (Some (Begun call moment fault)) grow reached last =
      breaks_after config reached reached old new who call moment fault (grow_self config reached) grow last

module _ (makes makes' : Who → ((lock place : ℕ) → Event → Type 0) → Type 0) where
  -- what is known of a call's events may be said by another fact that follows
  stands_by : (config : Config) (seen histories : Histories) (who : Who) (moment : ℕ) (call : ScriptCall) (answer : Answer)
      → ((Suits : (lock place : ℕ) → Event → Type 0) → makes who Suits → makes' who Suits)
      → StandsAs makes config seen histories who moment call answer → StandsAs makes' config seen histories who moment call answer
  stands_by config seen histories who moment (Asks command) (Replied reply) follows stands = (stands.0, follows _ stands.1)
  stands_by config seen histories who moment (Juggles class) (Moved moves) follows stands = (stands.0, follows _ stands.1)
  stands_by config seen histories who moment (Crawls class) (Counted histogram) follows stands = (stands.0, follows _ stands.1)
  stands_by config seen histories who moment (Limits class n) Limited follows stands = (stands.0, follows _ stands.1)
  stands_by config seen histories who moment call answer follows stands = absurd stands

  -- and so of each call in turn, with what holds at the end
  pub stand_by : (config : Config) (seen : Histories) (calls : List Exchange) (end end' : Histories → Type 0)
      → ((k : ℕ) (call : Exchange) → slice_get calls k ≡ Some call → (Suits : (lock place : ℕ) → Event → Type 0) → makes call.who Suits → makes' call.who Suits)
      → ((reached : Histories) → end reached → end' reached) → StandFrom makes config seen calls end → StandFrom makes' config seen calls end'
  stand_by config seen [] end end' follows at_end stand = at_end seen stand
  stand_by config seen (call ∷ calls) end end' follows at_end stand =
      let between = stand.between in
      record {
        reached = stand.reached;
        between = record {
          grew = between.grew;
          placed = between.placed;
          stands = stands_by config seen stand.reached call.who call.moment call.call call.answer (λ Suits. follows 0 call refl Suits) between.stands;
          evidence = between.evidence;
        };
        behind = stand_by config stand.reached calls end end' (λ k next at Suits. follows (suc k) next at Suits) at_end stand.behind;
      }

module _ (makes makes' : Who → ((lock place : ℕ) → Event → Type 0) → Type 0) (Saw Saw' : Sight → Type 0) (saw : (sight : Sight) → Saw sight → Saw' sight) where
  breaks_by : (config : Config) (seen histories : Histories) (who : Who) (moment : ℕ) (call : ScriptCall) (fault : Fault) → ((Suits : (lock place : ℕ) → Event → Type 0) → makes who Suits → makes' who Suits)
      → BreaksOffAs makes Saw config seen histories who moment call fault → BreaksOffAs makes' Saw' config seen histories who moment call fault
  breaks_by config seen histories who moment (Asks command) fault follows left = (left.0, follows _ left.1, λ full. let found = left.2 full in (found.0, saw found.0 found.1, found.2))
  breaks_by config seen histories who moment (Juggles class) fault follows left = (left.0, follows _ left.1, λ full. let found = left.2 full in (found.0, saw found.0 found.1, found.2))
  breaks_by config seen histories who moment (Crawls class) fault follows left = (left.0, follows _ left.1, λ full. let found = left.2 full in (found.0, saw found.0 found.1, found.2))
  breaks_by config seen histories who moment (Limits class n) fault follows left = (follows _ left.0, λ full. let found = left.1 full in (found.0, saw found.0 found.1, found.2))

  -- and of the call that failed
  pub stand_last_by : (config : Config) (histories : Histories) (who : Who) (end : Option Failure) → ((Suits : (lock place : ℕ) → Event → Type 0) → makes who Suits → makes' who Suits) → (reached : Histories)
      → StandsLast makes Saw config histories who end reached → StandsLast makes' Saw' config histories who end reached
  stand_last_by config histories who None follows reached last = last
  stand_last_by config histories who (Some (Unbegun fault)) follows reached last = last
  stand_last_by config histories who (Some (Begun call moment fault)) follows reached last =
      record { grew = last.grew; placed = last.placed; left = breaks_by config reached histories who moment call fault follows last.left }
