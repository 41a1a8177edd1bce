-- A run on its way, one request further.
use Rattle.std.proofs.Common.{◌≡◌, ◌+◌, ℕ, List, [], ◌∷◌, ◌++◌, length, refl, sym, ap, ◌∙◌, append_assoc, append-nil, false, true, subst}
use Rattle.mc_item.specs.declared.fault.Fault.{Fault}
use Rattle.mc_item.specs.declared.fault.Fault.TheVariants as faults
use Rattle.mc_proto.specs.{Answers.Answer, Answers.text_of, Grammar.IsModerate, Text.IsBeginning}
use Rattle.mc_proto.specs.declared.{request.Limits.Limits, request.Request.Request}
use Rattle.std.specs.Prelude.{None}
use Rattle.mc_script.specs.{Calls.Answers, Calls.AreBrokenOff, Calls.AreCutOff, Calls.BreaksAmong, Calls.CallsView, Calls.Fails, Run.NoneEnds, Run.first_moment}
use Rattle.mc_script.specs.Exchanges.{Exchange, ScriptCall, exchanges}
use Rattle.mc_script.specs.Progress.{AreModerate, Goes, HasAnswered, HasFailed, HasTorn, IsProgress}
use Rattle.mc_script.specs.Script.{Answered, AreWhole, IsAnsweredWhole, all_exchanges, answered, calls_of, ends, moment_after, moment_behind, requests_of, texts_of, turn_behind}
use Rattle.mc_script.specs.declared.scripting.Progress.{Progress}
use Rattle.mc_script.specs.declared.scripting.Progress.TheVariants as progress

-- so far these requests were answered, after those answered before
pub record Went (limits : Limits) (yielded : List Request) (before : List Answered) (start taken text : List ℕ) (now : CallsView) (moment : ℕ) : Type 0 where
  pub added : List Answered
  pub asked : requests_of added ≡ yielded
  pub state : HasAnswered limits (before ++ added) start taken text now moment

-- one request more has its replies too
AreWhole-push : (limits : Limits) (all : List Answered) (a : Answered) → AreWhole limits all → IsAnsweredWhole limits a → AreWhole limits (all ++ a ∷ [])
AreWhole-push limits [] a before one = (one, tt)
AreWhole-push limits (x ∷ more) a before one = (before.0, AreWhole-push limits more a before.1 one)

-- one request more is the last
pub requests_of-append : (xs ys : List Answered) → requests_of (xs ++ ys) ≡ requests_of xs ++ requests_of ys
requests_of-append [] ys = refl
requests_of-append (x ∷ xs) ys = ap (λ (t : List Request). x.request ∷ t) (requests_of-append xs ys)

-- one request more is printed last
texts_of-push : (xs : List Answered) (a : Answered) → texts_of (xs ++ a ∷ []) ≡ texts_of xs ++ text_of a.request a.answers
texts_of-push [] a = append-nil (text_of a.request a.answers)
texts_of-push (x ∷ xs) a = ap (λ (t : List ℕ). text_of x.request x.answers ++ t) (texts_of-push xs a) ∙ sym (append_assoc (text_of x.request x.answers) (texts_of xs) (text_of a.request a.answers))

-- the exchanges of one request more come last
all_exchanges-push : (limits : Limits) (caller turn moment : ℕ) (xs : List Answered) (a : Answered)
    → all_exchanges limits caller turn moment (xs ++ a ∷ []) ≡ all_exchanges limits caller turn moment xs ++ exchanges caller (turn_behind limits turn xs) (moment_behind moment xs) (calls_of limits a.request) a.answers
all_exchanges-push limits caller turn moment [] a = append-nil (exchanges caller turn moment (calls_of limits a.request) a.answers)
all_exchanges-push limits caller turn moment (x ∷ xs) a =
    let first : List Exchange = exchanges caller turn moment (calls_of limits x.request) x.answers in
    ap (λ (t : List Exchange). exchanges caller turn moment (calls_of limits x.request) x.answers ++ t) (all_exchanges-push limits caller (turn + length (calls_of limits x.request)) (moment_after moment x.request) xs a)
    ∙ sym (append_assoc (exchanges caller turn moment (calls_of limits x.request) x.answers) (all_exchanges limits caller (turn + length (calls_of limits x.request)) (moment_after moment x.request) xs)
    (exchanges caller (turn_behind limits turn (x ∷ xs)) (moment_behind moment (x ∷ xs)) (calls_of limits a.request) a.answers))

turn_behind-push : (limits : Limits) (turn : ℕ) (xs : List Answered) (a : Answered) → turn_behind limits turn (xs ++ a ∷ []) ≡ turn_behind limits turn xs + length (calls_of limits a.request)
turn_behind-push limits turn [] a = refl
turn_behind-push limits turn (x ∷ xs) a = turn_behind-push limits (turn + length (calls_of limits x.request)) xs a

moment_behind-push : (moment : ℕ) (xs : List Answered) (a : Answered) → moment_behind moment (xs ++ a ∷ []) ≡ moment_after (moment_behind moment xs) a.request
moment_behind-push moment [] a = refl
moment_behind-push moment (x ∷ xs) a = moment_behind-push (moment_after moment x.request) xs a

-- where the calls of a request begin
exchanges_at : (limits : Limits) (caller turn moment : ℕ) (before : List Answered) (request : Request) (answers : List Answer) → turn ≡ turn_behind limits 0 before → moment ≡ moment_behind first_moment before
    → exchanges caller turn moment (calls_of limits request) answers ≡ exchanges caller (turn_behind limits 0 before) (moment_behind first_moment before) (calls_of limits request) answers
exchanges_at limits caller turn moment before request answers turn_is moment_is =
    ap (λ (n : ℕ). exchanges caller n moment (calls_of limits request) answers) turn_is ∙ ap (λ (n : ℕ). exchanges caller (turn_behind limits 0 before) n (calls_of limits request) answers) moment_is

-- these requests were answered, and what is said of the next one
module _ {limits : Limits} {before : List Answered} {start taken text : List ℕ} {moment : ℕ} {old : CallsView} (has : HasAnswered limits before start taken text old moment) where
  -- what holds behind the calls so far holds behind the requests so far
  behind : {caller : ℕ} (P : (caller turn moment : ℕ) → List Exchange → Type 0) → caller ≡ old.caller
      → P old.caller old.turn moment (all_exchanges limits old.caller 0 first_moment before)
      → P caller (turn_behind limits 0 before) (moment_behind first_moment before) (all_exchanges limits caller 0 first_moment before)
  behind P same here =
      subst (λ (n : ℕ). P n (turn_behind limits 0 before) (moment_behind first_moment before) (all_exchanges limits n 0 first_moment before)) (sym same)
      (subst (λ (n : ℕ). P old.caller (turn_behind limits 0 before) n (all_exchanges limits old.caller 0 first_moment before)) has.moment_is
      (subst (λ (n : ℕ). P old.caller n moment (all_exchanges limits old.caller 0 first_moment before)) has.turn_is here))

  -- one of these calls failed behind them
  pub broken : {calls : List ScriptCall} {now : CallsView} {fault : Fault} → BreaksAmong fault calls moment old now → now.caller ≡ old.caller
      → AreBrokenOff fault calls now.caller (turn_behind limits 0 before) (moment_behind first_moment before) (all_exchanges limits now.caller 0 first_moment before) now.notes
  broken {calls = calls} {now = now} {fault = fault} by same =
      behind (λ caller turn moment' made. AreBrokenOff fault calls caller turn moment' made now.notes) same (by.at (all_exchanges limits old.caller 0 first_moment before) has.notes_all)

-- the next one was answered, or failed
module _ {limits : Limits} {before : List Answered} {start taken text text' : List ℕ} {request : Request} {moment : ℕ} {old now : CallsView}
    (has : HasAnswered limits before start taken text old moment) where
  -- a request more was answered, and its text gathered
  pub answered_more : {moment' : ℕ} (by : Answers limits request moment old now text text') → moment' ≡ moment_after moment request
      → HasAnswered limits (before ++ answered request by.answers ∷ []) start taken text' now moment'
  answered_more by next = record {
    whole = AreWhole-push limits before (answered request by.answers) has.whole (record { all = by.makes.long; kinds = by.makes.kinds });
    printed = has.printed;
    took = has.took;
    texts = ap (λ (t : List ℕ). has.printed ++ t) by.texts ∙ sym (append_assoc has.printed text (text_of request by.answers)) ∙ ap (λ (t : List ℕ). t ++ text_of request by.answers) has.texts
        ∙ sym (texts_of-push before (answered request by.answers));
    notes_all = subst (λ (n : ℕ). now.notes (all_exchanges limits n 0 first_moment (before ++ answered request by.answers ∷ [])) None) (sym by.makes.caller)
        (subst (λ (t : List Exchange). now.notes t None)
        (ap (λ (t : List Exchange). all_exchanges limits old.caller 0 first_moment before ++ t) (exchanges_at limits old.caller old.turn moment before request by.answers has.turn_is has.moment_is)
        ∙ sym (all_exchanges-push limits old.caller 0 first_moment before (answered request by.answers)))
        (by.makes.noted.at (all_exchanges limits old.caller 0 first_moment before) has.notes_all));
    turn_is = by.makes.turns ∙ ap (λ (n : ℕ). n + length (calls_of limits request)) has.turn_is ∙ sym (turn_behind-push limits 0 before (answered request by.answers));
    moment_is = next ∙ ap (λ (n : ℕ). moment_after n request) has.moment_is ∙ sym (moment_behind-push first_moment before (answered request by.answers));
  }

  -- a request failed behind these
  pub failed : {fault : Fault} → Fails fault limits request moment old now → now.caller ≡ old.caller → text' ≡ text → ends request ≡ false
      → HasFailed fault limits request before start taken text' now
  failed {fault = fault} by same kept own = record {
    whole = has.whole;
    printed = has.printed;
    took = has.took;
    texts = ap (λ (t : List ℕ). has.printed ++ t) kept ∙ has.texts;
    own = own;
    cut = behind has (λ caller turn moment' made. AreCutOff fault (calls_of limits request) caller turn moment' made now.notes) same
        (by.at (all_exchanges limits old.caller 0 first_moment before) has.notes_all);
  }

-- what the sink took of the texts that were gathered
module _ {limits : Limits} {before : List Answered} {start taken text taken' : List ℕ} {moment : ℕ} {now : CallsView}
    (has : HasAnswered limits before start taken text now moment) where
  -- a part of what is gathered was printed
  pub printed_more : {text' : List ℕ} → ((more : List ℕ) × (taken' ≡ taken ++ more) × (text ≡ more ++ text')) → HasAnswered limits before start taken' text' now moment
  printed_more {text' = text'} by = record {
    whole = has.whole;
    printed = has.printed ++ by.0;
    took = by.1 ∙ ap (λ (t : List ℕ). t ++ by.0) has.took ∙ append_assoc start has.printed by.0;
    texts = append_assoc has.printed by.0 text' ∙ ap (λ (t : List ℕ). has.printed ++ t) (sym by.2) ∙ has.texts;
    notes_all = has.notes_all;
    turn_is = has.turn_is;
    moment_is = has.moment_is;
  }

  -- the sink took only a beginning
  pub torn : IsBeginning taken taken' text → HasTorn limits before start taken' now
  torn by = record {
    whole = has.whole;
    texts = (
      has.printed ++ by.0,
      by.1,
      sym has.texts ∙ ap (λ (t : List ℕ). has.printed ++ t) by.2 ∙ sym (append_assoc has.printed by.0 by.1),
      by.3 ∙ ap (λ (t : List ℕ). t ++ by.0) has.took ∙ append_assoc start has.printed by.0,
    );
    notes_all = has.notes_all;
  }

-- a request among others
pub moderate_among : (limits : Limits) (front : List Request) (request : Request) (back : List Request) → AreModerate limits (front ++ request ∷ back) → IsModerate limits request
moderate_among limits [] request back each = each.0
moderate_among limits (r ∷ rs) request back each = moderate_among limits rs request back each.1

-- one request more that doesn't end the script
pub NoneEnds-push : (rs : List Request) (request : Request) → NoneEnds rs → ends request ≡ false → NoneEnds (rs ++ request ∷ [])
NoneEnds-push [] request before not = (not, tt)
NoneEnds-push (r ∷ rs) request before not = (before.0, NoneEnds-push rs request before.1 not)

-- nothing was answered yet
pub went_none : {limits : Limits} {before : List Answered} {start taken text : List ℕ} {now : CallsView} {moment : ℕ}
    → HasAnswered limits before start taken text now moment → Went limits [] before start taken text now moment
went_none {limits = limits} {before = before} {start = start} {taken = taken} {text = text} {now = now} {moment = moment} has = record {
  added = [];
  asked = refl;
  state = subst (λ (all : List Answered). HasAnswered limits all start taken text now moment) (sym (append-nil before)) has;
}

-- these requests were answered, after those before
module _ {limits : Limits} {yielded : List Request} {before : List Answered} {start taken text : List ℕ} {moment : ℕ} {now : CallsView}
    (went : Went limits yielded before start taken text now moment) where
  -- one request more was answered
  pub went_further : {request : Request} {text' : List ℕ} {moment' : ℕ} {next : CallsView} → Answers limits request moment now next text text'
      → moment' ≡ moment_after moment request → Went limits (yielded ++ request ∷ []) before start taken text' next moment'
  went_further {request = request} {text' = text'} {moment' = moment'} {next = next} by later = record {
    added = went.added ++ answered request by.answers ∷ [];
    asked = requests_of-append went.added (answered request by.answers ∷ []) ∙ ap (λ (rs : List Request). rs ++ request ∷ []) went.asked;
    state = subst (λ (all : List Answered). HasAnswered limits all start taken text' next moment') (append_assoc before went.added (answered request by.answers ∷ []))
        (answered_more went.state by later);
  }

  -- and some of what is gathered was printed
  pub went_printed : {taken' text' : List ℕ} → ((more : List ℕ) × (taken' ≡ taken ++ more) × (text ≡ more ++ text'))
      → Went limits yielded before start taken' text' now moment
  went_printed by = record { added = went.added; asked = went.asked; state = printed_more went.state by }

  -- the first of these requests were answered, and none of them ends the script
  module _ {requests : List Request} (own : NoneEnds yielded) where
    -- with what holds of those to come
    goes : {p : Progress} {taken' text' : List ℕ} {moment' : ℕ} {next : CallsView} (back : List Request) → requests ≡ yielded ++ back
        → IsProgress p limits back (before ++ went.added) start taken' text' next moment' → Goes p limits requests before start taken' text' next moment'
    goes back split state = record { front = yielded; back = back; added = went.added; split = split; own = own; asked = went.asked; state = state }

    -- all of the requests were answered
    pub goes_more : requests ≡ yielded → Goes progress.More limits requests before start taken text now moment
    goes_more split = goes [] (split ∙ sym (append-nil yielded)) (refl, went.state)

    -- the sink failed
    pub goes_torn : {taken' text' : List ℕ} {moment' : ℕ} (rest : List Request) → requests ≡ yielded ++ rest → IsBeginning taken taken' text
        → Goes progress.Output limits requests before start taken' text' now moment'
    goes_torn rest split by = goes rest split (torn went.state by)

    module _ (request : Request) (rest : List Request) (split : requests ≡ yielded ++ request ∷ rest) where
      -- the script ended here
      pub goes_ended : ends request ≡ true → Goes progress.Ended limits requests before start taken text now moment
      goes_ended last = goes (request ∷ rest) split (last, went.state)

      -- a request failed
      module _ {text' : List ℕ} {moment' : ℕ} {next : CallsView} (not : ends request ≡ false) (same : next.caller ≡ now.caller) (kept : text' ≡ text) where
        -- for want of memory
        pub goes_memory : Fails faults.NoMemory limits request moment now next → Goes progress.Memory limits requests before start taken text' next moment'
        goes_memory by = goes (request ∷ rest) split (failed went.state by same kept not)

        -- since the history is full
        pub goes_full : Fails faults.HistoryFull limits request moment now next → Goes progress.Full limits requests before start taken text' next moment'
        goes_full by = goes (request ∷ rest) split (failed went.state by same kept not)
