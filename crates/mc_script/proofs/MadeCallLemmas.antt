-- Calls that were made, one behind the other.
use Rattle.std.proofs.Common.{◌≡◌, ◌+◌, ◌≤◌, ℕ, zero, suc, List, [], ◌∷◌, ◌++◌, refl, sym, ap, ◌∙◌, append_assoc, append-nil, length, arith, length-append, drop, subst, inl, inr, ⊎_elim}
use Rattle.std.specs.Prelude.{Option, None, Some}
use Rattle.mc_item.specs.declared.{fault.Fault.Fault}
use Rattle.mc_item.specs.declared.fault.Fault.TheVariants as faults
use Rattle.mc_proto.specs.{Answers.Answer}
use Rattle.mc_script.specs.Calls.{AddsCalls, AreBrokenOff, AreCutOff, AreMadeInPart, Breaks, BreaksAmong, BreaksOff, CallsView, IsSameCaller, MakesCalls, Notes}
use Rattle.mc_script.specs.Exchanges.{AreAnswers, Exchange, Failure, IsFailure, ScriptCall, exchange, exchanges}

-- the same caller
pub same_itself : (now : CallsView) → IsSameCaller now now
same_itself now = record { caller = refl; classes = λ class. (λ has. has, λ has. has) }

-- the same caller after two steps
pub same_both : {a b c : CallsView} → IsSameCaller a b → IsSameCaller b c → IsSameCaller a c
same_both first second = record {
  caller = second.caller ∙ first.caller;
  classes = λ class. (λ has. (second.classes class).0 ((first.classes class).0 has), λ has. (first.classes class).1 ((second.classes class).1 has));
}

-- nothing was added
pub adds_none : (notes : Notes) → AddsCalls notes notes []
adds_none notes = record { at = λ calls by. subst (λ (t : List Exchange). notes t None) (sym (append-nil calls)) by }

-- some calls were added, and then others
pub adds_both : (a b c : Notes) (xs ys : List Exchange) → AddsCalls a b xs → AddsCalls b c ys → AddsCalls a c (xs ++ ys)
adds_both a b c xs ys first second = record { at = λ calls by. subst (λ (t : List Exchange). c t None) (append_assoc calls xs ys) (second.at (calls ++ xs) (first.at calls by)) }

-- the same list was added
pub adds_same : (a b : Notes) (xs ys : List Exchange) → xs ≡ ys → AddsCalls a b xs → AddsCalls a b ys
adds_same a b xs ys same by = subst (λ (t : List Exchange). AddsCalls a b t) same by

-- calls that were answered, and those behind them, as far as there are answers
exchanges-append : (caller turn moment : ℕ) (calls others : List ScriptCall) (answers more : List Answer) → length answers ≡ length calls
    → exchanges caller turn moment (calls ++ others) (answers ++ more) ≡ exchanges caller turn moment calls answers ++ exchanges caller (turn + length calls) moment others more
exchanges-append caller turn moment [] others [] more long =
    let here : turn ≡ turn + 0 = omega arith in
    ap (λ (t : ℕ). exchanges caller t moment others more) here
exchanges-append caller turn moment [] others (a ∷ bs) more long = absurd (omega arith)
exchanges-append caller turn moment (c ∷ cs) others [] more long = absurd (omega arith)
exchanges-append caller turn moment (c ∷ cs) others (a ∷ bs) more long =
    let later : turn + 1 + length cs ≡ turn + length (c ∷ cs) = omega arith in
    ap (λ (t : List Exchange). exchange caller turn c moment a ∷ t)
    (exchanges-append caller (turn + 1) moment cs others bs more (omega arith)
    ∙ ap (λ (n : ℕ). exchanges caller (turn + 1) moment cs bs ++ exchanges caller n moment others more) later)

-- with no answer there is no exchange
pub exchanges-none : (caller turn moment : ℕ) (calls : List ScriptCall) → exchanges caller turn moment calls [] ≡ []
exchanges-none caller turn moment [] = refl
exchanges-none caller turn moment (c ∷ cs) = refl

-- answers to the first calls alone
exchanges-front : (caller turn moment : ℕ) (calls others : List ScriptCall) (answers : List Answer) → length answers ≤ length calls
    → exchanges caller turn moment calls answers ≡ exchanges caller turn moment (calls ++ others) answers
exchanges-front caller turn moment [] others [] few = sym (exchanges-none caller turn moment others)
exchanges-front caller turn moment [] others (a ∷ bs) few = absurd (omega arith)
exchanges-front caller turn moment (c ∷ cs) others [] few = refl
exchanges-front caller turn moment (c ∷ cs) others (a ∷ bs) few =
    ap (λ (t : List Exchange). exchange caller turn c moment a ∷ t) (exchanges-front caller (turn + 1) moment cs others bs (omega arith))

-- no answers are answers
pub AreAnswers-none : (calls : List ScriptCall) → AreAnswers calls []
AreAnswers-none [] = tt
AreAnswers-none (c ∷ cs) = tt

-- answers to calls, and to those behind them
AreAnswers-append : (calls others : List ScriptCall) (answers more : List Answer) → length answers ≡ length calls → AreAnswers calls answers → AreAnswers others more → AreAnswers (calls ++ others) (answers ++ more)
AreAnswers-append [] others [] more long first second = second
AreAnswers-append [] others (a ∷ bs) more long first second = absurd (omega arith)
AreAnswers-append (c ∷ cs) others [] more long first second = absurd (omega arith)
AreAnswers-append (c ∷ cs) others (a ∷ bs) more long first second = (first.0, AreAnswers-append cs others bs more (omega arith) first.1 second)

-- answers to the first calls alone
AreAnswers-front : (calls others : List ScriptCall) (answers : List Answer) → AreAnswers calls answers → AreAnswers (calls ++ others) answers
AreAnswers-front [] others [] are = AreAnswers-none others
AreAnswers-front [] others (a ∷ bs) are = absurd are
AreAnswers-front (c ∷ cs) others [] are = tt
AreAnswers-front (c ∷ cs) others (a ∷ bs) are = (are.0, AreAnswers-front cs others bs are.1)

-- no calls were made
pub makes_none : {moment : ℕ} (now : CallsView) → MakesCalls [] [] moment now now
makes_none now = record { long = refl; kinds = tt; noted = adds_none now.notes; turns = omega arith; caller = refl }

-- some calls were made, and then others
pub makes_both : {calls others : List ScriptCall} {answers more : List Answer} {moment : ℕ} {a b c : CallsView}
    → MakesCalls calls answers moment a b → MakesCalls others more moment b c → MakesCalls (calls ++ others) (answers ++ more) moment a c
makes_both {calls = calls} {others = others} {answers = answers} {more = more} {moment = moment} {a = a} {b = b} {c = c} first second = record {
  long = omega (arith, first.long, second.long, length-append answers more, length-append calls others);
  kinds = AreAnswers-append calls others answers more first.long first.kinds second.kinds;
  noted = adds_same a.notes c.notes _ _
      (ap (λ (n : ℕ). exchanges a.caller a.turn moment calls answers ++ exchanges n b.turn moment others more) first.caller
      ∙ ap (λ (n : ℕ). exchanges a.caller a.turn moment calls answers ++ exchanges a.caller n moment others more) first.turns
      ∙ sym (exchanges-append a.caller a.turn moment calls others answers more first.long))
      (adds_both a.notes b.notes c.notes _ _ first.noted second.noted);
  turns = omega (arith, first.turns, second.turns, length-append calls others);
  caller = second.caller ∙ first.caller;
}

-- no more answers than calls
few : (calls : List ScriptCall) (answers : List Answer) → AreAnswers calls answers → length answers ≤ length calls
few calls [] are = omega arith
few [] (a ∷ bs) are = absurd are
few (c ∷ cs) (a ∷ bs) are = let rest = few cs bs are.1 in omega (arith, rest)

-- a call that failed among some failed among these and others
failure_front : (failure : Failure) (fault : Fault) (n : ℕ) (calls others : List ScriptCall) (moment : ℕ) → IsFailure failure fault (drop n calls) moment
    → IsFailure failure fault (drop n (calls ++ others)) moment
failure_front failure fault zero [] others moment is = absurd is
failure_front failure fault zero (c ∷ cs) others moment is = is
failure_front failure fault (suc n) [] others moment is = absurd is
failure_front failure fault (suc n) (c ∷ cs) others moment is = failure_front failure fault n cs others moment is

-- what is left of calls when some were answered, and then more of them
drop_both : (calls others : List ScriptCall) (answers more : List Answer) → length answers ≡ length calls → drop (length more) others ≡ drop (length (answers ++ more)) (calls ++ others)
drop_both [] others [] more long = refl
drop_both [] others (a ∷ bs) more long = absurd (omega arith)
drop_both (c ∷ cs) others [] more long = absurd (omega arith)
drop_both (c ∷ cs) others (a ∷ bs) more long = drop_both cs others bs more (omega arith)

-- the exchanges of some calls, and then of the first of others, with more behind these
exchanges-later : (notes : Notes) (end : Option Failure) (calls others further : List ScriptCall) (answers more : List Answer) (moment : ℕ) (before : List Exchange) (a b : CallsView)
    → MakesCalls calls answers moment a b → AreAnswers others more
    → notes ((before ++ exchanges a.caller a.turn moment calls answers) ++ exchanges a.caller b.turn moment others more) end
    → notes (before ++ exchanges a.caller a.turn moment (calls ++ (others ++ further)) (answers ++ more)) end
exchanges-later notes end calls others further answers more moment before a b first kinds noted =
    subst (λ (t : List Exchange). notes t end)
    (append_assoc before (exchanges a.caller a.turn moment calls answers) (exchanges a.caller b.turn moment others more)
    ∙ ap (λ (t : List Exchange). before ++ (exchanges a.caller a.turn moment calls answers ++ t))
    (ap (λ (n : ℕ). exchanges a.caller n moment others more) first.turns
    ∙ exchanges-front a.caller (a.turn + length calls) moment others further more (few others more kinds))
    ∙ ap (λ (t : List Exchange). before ++ t) (sym (exchanges-append a.caller a.turn moment calls (others ++ further) answers more first.long)))
    noted

-- some calls were made, and then one of the later ones failed
broken_later : (fault : Fault) (calls others further : List ScriptCall) (answers : List Answer) (moment : ℕ) (before : List Exchange) (a b : CallsView) (notes : Notes)
    → MakesCalls calls answers moment a b → AreBrokenOff fault others a.caller b.turn moment (before ++ exchanges a.caller a.turn moment calls answers) notes
    → AreBrokenOff fault (calls ++ (others ++ further)) a.caller a.turn moment before notes
broken_later fault calls others further answers moment before a b notes first second = record {
  answers = answers ++ second.answers;
  kinds = AreAnswers-append calls (others ++ further) answers second.answers first.long first.kinds (AreAnswers-front others further second.answers second.kinds);
  failure = second.failure;
  next = subst (λ (cs : List ScriptCall). IsFailure second.failure fault cs moment) (drop_both calls (others ++ further) answers second.answers first.long)
      (failure_front second.failure fault (length second.answers) others further moment second.next);
  noted = exchanges-later notes (Some second.failure) calls others further answers second.answers moment before a b first second.kinds second.noted;
}

-- some calls were made, and then a part of the later ones
part_later : (calls others further : List ScriptCall) (answers : List Answer) (moment : ℕ) (before : List Exchange) (a b : CallsView) (notes : Notes)
    → MakesCalls calls answers moment a b → AreMadeInPart others a.caller b.turn moment (before ++ exchanges a.caller a.turn moment calls answers) notes
    → AreMadeInPart (calls ++ (others ++ further)) a.caller a.turn moment before notes
part_later calls others further answers moment before a b notes first second = record {
  answers = answers ++ second.answers;
  kinds = AreAnswers-append calls (others ++ further) answers second.answers first.long first.kinds (AreAnswers-front others further second.answers second.kinds);
  noted = exchanges-later notes None calls others further answers second.answers moment before a b first second.kinds second.noted;
}

module _ {fault : Fault} {calls others : List ScriptCall} {answers : List Answer} {moment : ℕ} {a b c : CallsView} (further : List ScriptCall)
    (first : MakesCalls calls answers moment a b) where
  -- some calls were made, and then one failed of those behind them
  pub among_later : BreaksAmong fault others moment b c → BreaksAmong fault (calls ++ (others ++ further)) moment a c
  among_later second = record {
    at = λ before by.
        let all = before ++ exchanges a.caller a.turn moment calls answers in
        broken_later fault calls others further answers moment before a b c.notes first
        (subst (λ (n : ℕ). AreBrokenOff fault others n b.turn moment all c.notes) first.caller (second.at all (first.noted.at before by)));
  }

  -- or memory for a text ran out
  pub breaks_later : Breaks fault others moment b c → Breaks fault (calls ++ (others ++ further)) moment a c
  breaks_later second = record {
    at = λ before by.
        let all = before ++ exchanges a.caller a.turn moment calls answers in
        ⊎_elim
        (λ broken. inl (broken_later fault calls others further answers moment before a b c.notes first broken))
        (λ part. inr (part.0, part_later calls others further answers moment before a b c.notes first part.1))
        (subst (λ (n : ℕ). AreCutOff fault others n b.turn moment all c.notes) first.caller (second.at all (first.noted.at before by)));
  }

-- calls one of which failed are cut off
pub breaks_among : {fault : Fault} {calls : List ScriptCall} {moment : ℕ} {a b : CallsView} → BreaksAmong fault calls moment a b → Breaks fault calls moment a b
breaks_among among = record { at = λ before by. inl (among.at before by) }

-- all calls were made, and then there was no memory for the text
pub breaks_end : {calls : List ScriptCall} {answers : List Answer} {moment : ℕ} {a b : CallsView} → MakesCalls calls answers moment a b
    → Breaks faults.NoMemory calls moment a b
breaks_end {answers = answers} all = record { at = λ before by. inr (refl, record { answers = answers; kinds = all.kinds; noted = all.noted.at before by }) }

-- the first call failed
pub among_first : {fault : Fault} {call : ScriptCall} {calls : List ScriptCall} {moment : ℕ} {a b : CallsView} → BreaksOff fault call moment a b
    → BreaksAmong fault (call ∷ calls) moment a b
among_first {b = b} off = record {
  at = λ before by.
      let o = off.at before by in
      record {
        answers = [];
        kinds = tt;
        failure = o.0;
        next = o.1;
        noted = subst (λ (t : List Exchange). b.notes t (Some o.0)) (sym (append-nil before)) o.2;
      };
}

pub breaks_first : {fault : Fault} {call : ScriptCall} {calls : List ScriptCall} {moment : ℕ} {a b : CallsView} → BreaksOff fault call moment a b
    → Breaks fault (call ∷ calls) moment a b
breaks_first off = breaks_among (among_first off)

-- no call was made of those to come
pub cut_none : {calls : List ScriptCall} {caller turn moment : ℕ} {notes : Notes} (before : List Exchange) → notes before None
    → AreCutOff faults.NoMemory calls caller turn moment before notes
cut_none {calls = calls} {caller = caller} {turn = turn} {moment = moment} {notes = notes} before by = inr (
  refl,
  record {
    answers = [];
    kinds = AreAnswers-none calls;
    noted = subst (λ (t : List Exchange). notes t None) (sym (append-nil before) ∙ ap (λ (t : List Exchange). before ++ t) (sym (exchanges-none caller turn moment calls))) by;
  },
)

-- no call was made, and then there was no memory for the text
pub breaks_none : {calls : List ScriptCall} {moment : ℕ} (now : CallsView) → Breaks faults.NoMemory calls moment now now
breaks_none now = record { at = λ before by. cut_none before by }
