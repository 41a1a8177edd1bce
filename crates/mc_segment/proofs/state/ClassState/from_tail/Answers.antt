use Rattle.std.proofs.Common.{◌≡◌, ap, subst, Some, take, reverse}
use Rattle.std.specs.Prelude.{IfSome}
use Rattle.std.specs.Option.{option_copied}
use Rattle.mc_rule.specs.{Lists.Lists, Lists.list_of, Lists.find, Lists.found, Segment.numbers_of, Segment.numbers_behind}
use Rattle.mc_segment.proofs.{StateLemmas.seen_lists, TailLemmas.behind_read, TailLemmas.once_in, ListOfNumberLemmas.found_tail}
use Rattle.mc_segment.proofs.state.ClassState.from_tail.Goals as goal

pub returns-clause-behind : goal.returns-clause-behind
returns-clause-behind c =
    let s = c.args.seg in
    let l = c.self.inside.lists.lists in
    let o = option_copied c.from_tail.result in
    let P : Lists → Type 0 = λ x. IfSome o (λ e. numbers_behind e.number (list_of x s) ≡ take c.args.j (reverse (numbers_of (list_of x s)))) in
    subst P (seen_lists _ _ _ _ _ _ _ _ _ c.self.invariant c.self.view_is)
    (behind_read (list_of l s) c.args.j o c.from_tail.ensures.inside (λ past. ap option_copied (c.from_tail.ensures.outside past)) (λ q. once_in q l s (c.law.ensures.once q)))

pub returns-clause-there : goal.returns-clause-there
returns-clause-there c =
    let s = c.args.seg in
    let l = c.self.inside.lists.lists in
    let o = option_copied c.from_tail.result in
    let P : Lists → Type 0 = λ x. IfSome o (λ e. (find e.number (list_of x s) ≡ Some e) × (found e.number x ≡ Some (s, e))) in
    subst P (seen_lists _ _ _ _ _ _ _ _ _ c.self.invariant c.self.view_is)
    (found_tail l s c.args.j o c.from_tail.ensures.inside (λ past. ap option_copied (c.from_tail.ensures.outside past)) c.law.ensures.once)
