use Rattle.std.proofs.Common.{◌≡◌, ◌++◌, ◌∷◌, [], ◌+◌, ◌<◌, ℕ, List, length, map, take, set, sym, ap, ◌∙◌, append_assoc, arith}
use Rattle.std.proofs.lemmas.List.{take_more_set, map-append, length-set}
use Rattle.mc_proto.specs.Lines.{tokens}
use Rattle.mc_proto.proofs.token.first_tokens.Goals as goal

-- one token more
few_more : {A : Type 0} (f : A → List ℕ) (few : List A) (i : ℕ) (token : A) (rest more line : List ℕ) → i < length few → tokens rest ≡ f token ∷ tokens more
    → map f (take i few) ++ tokens rest ≡ tokens line → map f (take (i + 1) (set few i token)) ++ tokens more ≡ tokens line
few_more f few i token rest more line l next so_far =
    ap (λ (t : List _). map f t ++ tokens more) (take_more_set few i token l)
    ∙ ap (λ (t : List (List ℕ)). t ++ tokens more) (map-append f (take i few) (token ∷ []))
    ∙ append_assoc (map f (take i few)) (f token ∷ []) (tokens more)
    ∙ ap (λ (t : List (List ℕ)). map f (take i few) ++ t) (sym next)
    ∙ so_far

pub loop-i-preserved : goal.loop-i-preserved
loop-i-preserved c =
    let k = c.loop-i in
    record {
      found = few_more (λ t. t.now) k.few k.i c.in-Some.token k.rest.now c.in-Some.more.now c.args.line.now (omega arith) c.in-Some.ensures.0 k.invariant.found;
      places = simp length-set k.invariant.places;
    }
