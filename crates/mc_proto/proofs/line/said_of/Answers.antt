use Rattle.std.proofs.Common.{◌≡◌, ◌++◌, ◌∙◌, ℕ, List, Bor, IfOk, length, map, take, sym, ap, arith, subst}
use Rattle.std.proofs.lemmas.List.{take_all}
use Rattle.mc_proto.specs.{Lines.no_cr, Lines.tokens, Table.says, Table.tokens_say}
use Rattle.mc_proto.proofs.line.said_of.Goals as goal

pub split_at-requires : goal.split_at-requires
split_at-requires c =
    let same : length c.as_slice.result.now ≡ length c.first_tokens-count.new.few = ap length c.as_slice.ensures in
    omega arith

pub returns-clause-value : goal.returns-clause-value
unfolding says
returns-clause-value c =
    let few = c.first_tokens-count in
    let all : take few.result.0 few.new.few ≡ few.new.few = take_all few.result.0 few.new.few (omega arith) in
    let same : map (λ (t : Bor (List ℕ)). t.now) c.as_slice-3.result.now ≡ tokens (no_cr c.args.line.now) =
    ap (map (λ (t : Bor (List ℕ)). t.now)) c.as_slice-3.ensures.value ∙ c.in_ok-tokens.ensures
    ∙ ap (λ (ts : List (Bor (List ℕ))). map (λ t. t.now) ts ++ tokens few.result.1.now) (c.as_slice-2.ensures ∙ sym all)
    ∙ few.ensures.tokens ∙ ap tokens c.without_cr-line.ensures in
    subst (λ (ts : List (List ℕ)). IfOk c.tokens_said-2.result (λ s. s ≡ tokens_say c.args.limits ts)) same c.tokens_said-2.ensures.value
