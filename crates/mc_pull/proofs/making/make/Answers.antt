use Rattle.std.proofs.Common.{subst, sym, ap, ◌∙◌}
use Rattle.mc_rule.specs.{Lawful.IsListed, Lists.lists_of, Lists.entries_linked, Lists.entry, Segment.segment_for, Lists.no_lists}
use Rattle.mc_segment.specs.{ClassState.ClassView, ClassCalls.linked_event}
use Rattle.mc_segment.proofs.StateLemmas.{lists_from-push}
use Rattle.mc_pull.proofs.ListedEntryLemmas.{listed_linked}
use Rattle.mc_pull.proofs.making.make.Goals as goal

pub unlink-requires-clause-lawful : goal.unlink-requires-clause-lawful
unlink-requires-clause-lawful c =
    let v = c.args.class.now in
    let r = c.in-Renews in
    let e = linked_event v c.args.turn.who r.key r.cost c.args.turn.moment r.expiry in
    let after_it = ap (λ (x : ClassView). lists_of x.history) c.link-in-Renews.ensures.event ∙ lists_from-push no_lists v.history e in
    subst (IsListed r.number) (sym after_it)
    (listed_linked r.number (segment_for v.rule c.args.turn.moment r.expiry) (entry (entries_linked v.history) r.key r.cost c.args.turn.moment) (lists_of v.history) (rw r.is at c.requires.may).1)
