use Rattle.std.proofs.Common.{◌≡◌, ◌∷◌, [], ◌∙◌, ℕ, List, Bool, true, false, sym, ap, codes}
use Rattle.std.specs.Prelude.{◌&&◌, if◌then◌else◌}
use Rattle.mc_proto.specs.{Lines.tokens, Lines.no_cr, Lines.is_key, Table.says, Table.tokens_say, Table.bad}
use Rattle.mc_proto.specs.declared.request.Limits.{Limits}
use Rattle.mc_proto.specs.declared.request.LineFault.TheVariants as faults
use Rattle.mc_proto.specs.declared.request.Request.TheVariants as requests
use Rattle.mc_proto.specs.declared.state.Said.TheVariants as said
use Rattle.mc_proto.proofs.{KeyListLemmas.key_some, TokenLemmas.lone_tokens}
use Rattle.mc_proto.proofs.quick.lone_get.Goals as goal

lone_says : (limits : Limits) (line token key : List ℕ) → tokens (no_cr line) ≡ codes "get" ∷ token ∷ [] → is_key token ≡ true → key ≡ token → says limits line ≡ said.Whole (requests.Get (key ∷ []) false)
unfolding says
lone_says limits line token key ts k is =
    ap (tokens_say limits) ts
    ∙ ap (λ (b : Bool). if b && true then said.Whole (requests.Get (token ∷ []) false) else bad faults.Format false) k
    ∙ ap (λ (t : List ℕ). said.Whole (requests.Get (t ∷ []) false)) (sym is)

pub returns-in-Some-2-clause-value : goal.returns-in-Some-2-clause-value
returns-in-Some-2-clause-value c = λ limits.
    let token = c.in-Some.token.now in
    let key = key_some token c.in-Some-2.key (sym c.in-Some-2.is ∙ c.in_ok-key.ensures) in
    lone_says limits c.args.line.now token c.in-Some-2.key
    (ap tokens (sym c.without_cr.ensures) ∙ lone_tokens c.without_cr.result.now token c.in-Some.ensures key.0) key.0 key.1
