-- What stands first of what comes, and where it is cut.
use Rattle.std.proofs.Common.{◌≡◌, ◌∙◌, ◌≤◌, ◌∷◌, ◌++◌, ℕ, List, [], length, take, drop, refl, ap, sym, arith, append_assoc, append-nil, subst, take-append-drop, map}
use Rattle.std.specs.Prelude.{Option, None}
use Rattle.std.proofs.lemmas.List.{map-append}
use Rattle.mc_proto.specs.{Lines.Lacks, Grammar.Spells}
use Rattle.mc_proto.specs.Scripts.{AreScripts, AsksFirst, IsLast, IsWhole, LineAsks, StandsFirst}
use Rattle.mc_proto.specs.declared.{request.Limits.Limits, request.Request.TheVariants.Next, splitting.First.First}
use Rattle.mc_proto.specs.declared.splitting.First.TheVariants as firsts
use Rattle.mc_proto.proofs.{FirstLineLemmas.none_alone, ScriptCutLemmas.whole_on}

-- no line ends in what comes
pub none_ahead : (limits : Limits) (coming front : List ℕ) (o : Option First) (more : List ℕ) → coming ≡ front ++ more
    → (Lacks 10 front → length front ≤ 65536 → more ≡ []) → LineAsks limits front o → o ≡ None → AsksFirst limits coming firsts.Last
none_ahead limits coming front o more is all asks told =
    let none : LineAsks limits front None = subst (LineAsks limits front) told asks in
    let whole : coming ≡ front = is ∙ ap (λ t. front ++ t) (all none.0 none.1) ∙ append-nil front in
    ((λ _. subst (IsLast limits) (sym whole) (none_alone limits front o asks told)), (λ off. absurd (omega arith)))

-- a request more is passed, with which the script goes on
pub goes_on : (limits : Limits) (old coming new : List ℕ) (n : ℕ) → new ≡ old ++ take n coming → StandsFirst limits coming (firsts.More n) → IsWhole limits old → IsWhole limits new
goes_on limits old coming new n is stands w = subst (IsWhole limits) (sym is) (whole_on limits old (take n coming) stands.2.0 w stands.2.1 stands.2.2 stands.2.3)

-- nothing is lost where some bytes are passed
pub stays_on : (old coming new left whole : List ℕ) (n : ℕ) → new ≡ old ++ take n coming → left ≡ drop n coming → old ++ coming ≡ whole → new ++ left ≡ whole
stays_on old coming new left whole n is rest all =
    ap (λ t. t ++ left) is ∙ ap (λ t. (old ++ take n coming) ++ t) rest ∙ append_assoc old (take n coming) (drop n coming) ∙ ap (λ t. old ++ t) (take-append-drop n coming) ∙ all

-- the scripts of what lies behind a cut are, with the one before it, those of the whole
pub cut_on : {S : Type 0} (limits : Limits) (old new : List S) (s : S) (bytes : S → List ℕ) (input stream script coming left : List ℕ) (n : ℕ)
    → ((ss : List (List ℕ)) → AreScripts limits stream ss → AreScripts limits input (map bytes old ++ ss))
    → script ++ coming ≡ stream → IsWhole limits script → Spells limits (take n coming) Next → left ≡ drop n coming → bytes s ≡ script → new ≡ old ++ s ∷ []
    → (ss : List (List ℕ)) → AreScripts limits left ss → AreScripts limits input (map bytes new ++ ss)
cut_on limits old new s bytes input stream script coming left n so all whole next rest taken pushed [] are = absurd are
cut_on limits old new s bytes input stream script coming left n so all whole next rest taken pushed (t ∷ ss) are =
    let is : stream ≡ script ++ (take n coming ++ left) = sym all ∙ ap (λ u. script ++ u) (sym (take-append-drop n coming) ∙ ap (λ u. take n coming ++ u) (sym rest)) in
    let both : AreScripts limits stream (script ∷ t ∷ ss) = (left, record { line = take n coming; is = is; whole = whole; next = next }, are) in
    subst (AreScripts limits input)
    (sym (ap (λ us. us ++ t ∷ ss) (ap (map bytes) pushed ∙ map-append bytes old (s ∷ [])) ∙ append_assoc (map bytes old) (bytes s ∷ []) (t ∷ ss) ∙ ap (λ u. map bytes old ++ u ∷ t ∷ ss) taken))
    (so (script ∷ t ∷ ss) both)

-- the last script is all that is left
pub cut_last : {S : Type 0} (limits : Limits) (old new : List S) (s : S) (bytes : S → List ℕ) (input stream : List ℕ) → ((ss : List (List ℕ)) → AreScripts limits stream ss → AreScripts limits input (map bytes old ++ ss))
    → IsLast limits stream → bytes s ≡ stream → new ≡ old ++ s ∷ [] → AreScripts limits input (map bytes new)
cut_last limits old new s bytes input stream so last taken pushed =
    subst (AreScripts limits input) (sym (ap (map bytes) pushed ∙ map-append bytes old (s ∷ []) ∙ ap (λ u. map bytes old ++ u ∷ []) taken)) (so (stream ∷ []) (refl, last))
