use Rattle.std.proofs.Common.{◌∙◌, ◌++◌, ◌∷◌, [], sym, ap, arith, map, List, ℕ, take}
use Rattle.mc_proto.proofs.KeyListLemmas.{keys_more, keys_stop, no_keys, taken_more, key_some}
use Rattle.mc_proto.proofs.get.keys_of.Goals as goal

pub returns-in-None-2 : goal.returns-in-None-2
returns-in-None-2 c =
    let k = c.loop-token in
    no_keys (map (λ t. t.now) c.args.tokens.now)
    (keys_stop (λ t. t.now) c.args.tokens.now k.token-index _ c.in_ok-key-2.field-0 c.in_ok-key-2.ensures c.in-None-2.is (omega arith) k.invariant.rest)

pub loop-token-preserved : goal.loop-token-preserved
loop-token-preserved c =
    let k = c.loop-token in
    let key = key_some _ c.in-Some-2.key (sym c.in-Some-2.is ∙ c.in_ok-key-2.ensures) in
    record {
      rest = keys_more (λ t. t.now) c.args.tokens.now k.token-index _ (omega arith) key.0 k.invariant.rest;
      found = c.in_ok-push-in-Some-2.ensures.items ∙ ap (λ (f : List (List ℕ)). f ++ c.in-Some-2.key ∷ []) k.invariant.found
          ∙ ap (λ (f : List ℕ). take k.token-index (map (λ t. t.now) c.args.tokens.now) ++ f ∷ []) key.1
          ∙ sym (taken_more (λ t. t.now) c.args.tokens.now k.token-index _ (omega arith));
    }
