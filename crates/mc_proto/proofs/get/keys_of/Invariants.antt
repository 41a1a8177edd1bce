use Rattle.std.proofs.Common.{drop, take, map, ◌≡◌}
use Rattle.std.specs.List.{list_all}
use Rattle.mc_proto.specs.Lines.{is_key}
use Rattle.mc_proto.proofs.get.keys_of.Given as goal

-- what is left decides, and what went before are the keys
abbrev pub invariant-loop-token : goal.invariant-loop-token
invariant-loop-token l = record {
  rest : list_all is_key (drop l.token-index (map (λ t. t.now) l.tokens)) ≡ list_all is_key (map (λ t. t.now) l.tokens);
  found : l.keys.items ≡ take l.token-index (map (λ t. t.now) l.tokens);
}
