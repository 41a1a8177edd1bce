-- A directive's calls, one for each slab class.
use Rattle.std.proofs.Common.{◌≡◌, ◌+◌, ◌-◌, ◌<◌, ℕ, zero, suc, List, [], ◌∷◌, ◌++◌, sym, ap, ◌∙◌, arith, map, subst}
use Rattle.std.proofs.lemmas.List.{map-append}
use Rattle.mc_item.specs.declared.{fault.Fault.Fault, item.ClassNo.ClassNo}
use Rattle.mc_proto.specs.Answers.{Answer}
use Rattle.mc_script.specs.{Calls.BreaksAmong, Calls.BreaksOff, Calls.CallsView, Calls.MakesCalls, Calls.SumsUp, Script.classes_from}
use Rattle.mc_script.specs.Exchanges.{ScriptCall}
use Rattle.mc_script.proofs.MadeCallLemmas.{among_first, among_later, makes_both}

-- classes from one on, and those behind them
classes_from-append : (first n m : ℕ) → classes_from first (n + m) ≡ classes_from first n ++ classes_from (first + n) m
classes_from-append first zero m =
    let none : 0 + m ≡ m = omega arith in
    let here : first ≡ first + 0 = omega arith in
    ap (classes_from first) none ∙ ap (λ (k : ℕ). classes_from k m) here
classes_from-append first (suc n) m =
    let one : suc n + m ≡ suc (n + m) = omega arith in
    let later : first + 1 + n ≡ first + suc n = omega arith in
    ap (classes_from first) one
    ∙ ap (λ (cs : List ClassNo). record { 0 = first } ∷ cs) (classes_from-append (first + 1) n m ∙ ap (λ (k : ℕ). classes_from (first + 1) n ++ classes_from k m) later)

-- one class more is the last
classes_from-push : (first n : ℕ) → classes_from first (n + 1) ≡ classes_from first n ++ record { 0 = first + n } ∷ []
classes_from-push first n = classes_from-append first n 1

-- a class with those before it and those behind it
classes_from-split : (first n all : ℕ) → n < all → classes_from first all ≡ classes_from first n ++ record { 0 = first + n } ∷ classes_from (first + n + 1) (all - (n + 1))
classes_from-split first n all below =
    let is : all ≡ n + suc (all - (n + 1)) = omega arith in
    ap (classes_from first) is ∙ classes_from-append first n (suc (all - (n + 1)))

module _ {S : Type 0} {call : ClassNo → ScriptCall} {sum_of : List Answer → S} {moment : ℕ} {sums : S} {a b c : CallsView} (first n : ℕ) where
  -- the call of one class more was made
  pub class_more : {sums' : S} {answer : Answer} (so_far : SumsUp call sum_of (classes_from first n) sums moment a b)
      → MakesCalls (call (record { 0 = first + n }) ∷ []) (answer ∷ []) moment b c → sums' ≡ sum_of (so_far.answers ++ answer ∷ []) → SumsUp call sum_of (classes_from first (n + 1)) sums' moment a c
  class_more {answer = answer} so_far one added = record {
    answers = so_far.answers ++ answer ∷ [];
    added = added;
    makes = subst (λ (cs : List ScriptCall). MakesCalls cs (so_far.answers ++ answer ∷ []) moment a c)
        (sym (ap (map call) (classes_from-push first n) ∙ map-append call (classes_from first n) (record { 0 = first + n } ∷ []))) (makes_both so_far.makes one);
  }

  -- the call of a class failed behind those of others
  pub class_fails : {all : ℕ} {fault : Fault} → n < all → SumsUp call sum_of (classes_from first n) sums moment a b → BreaksOff fault (call (record { 0 = first + n })) moment b c
      → BreaksAmong fault (map call (classes_from first all)) moment a c
  class_fails {all = all} {fault = fault} below so_far off =
      let later = classes_from (first + n + 1) (all - (n + 1)) in
      subst (λ (cs : List ScriptCall). BreaksAmong fault cs moment a c)
      (sym (ap (map call) (classes_from-split first n all below) ∙ map-append call (classes_from first n) (record { 0 = first + n } ∷ later)))
      (among_later (map call later) so_far.makes (among_first {calls = []} off))
