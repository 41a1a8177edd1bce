use Rattle.std.proofs.Common.{◌≡◌, List, ℕ, sym, subst}
use Rattle.std.specs.Prelude.{IfSome}
use Rattle.mc_rule.specs.{Lists.Lists, Lists.list_of, Lists.from_tail, Segment.numbers_behind}
use Rattle.mc_segment.proofs.{StateLemmas.seen_lists, TailLemmas.behind_read, TailLemmas.from_head, TailLemmas.past_tail, TailLemmas.once_in}
use Rattle.mc_segment.proofs.state.ClassState.passed.Goals as goal

pub returns-clause-behind : goal.returns-clause-behind
returns-clause-behind c =
    let s = c.args.seg in
    let j = c.args.j in
    let l = c.self.inside.lists.lists in
    let es = list_of l s in
    let P : Lists → Type 0 = λ x. IfSome (from_tail (list_of x s) j) (λ e. numbers_behind e.number (list_of x s) ≡ c.passed.result) in
    subst P (seen_lists _ _ _ _ _ _ _ _ _ c.self.invariant c.self.view_is)
    (subst (λ (ns : List ℕ). IfSome (from_tail es j) (λ e. numbers_behind e.number es ≡ ns)) (sym c.passed.ensures)
    (behind_read es j (from_tail es j) (from_head es j) (past_tail es j) (λ q. once_in q l s (c.law.ensures.once q))))
