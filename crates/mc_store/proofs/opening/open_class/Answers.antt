use Rattle.std.proofs.Common.{rules, ◌≡◌, List, [], ap, ◌∙◌, subst, sym}
use Rattle.mc_item.specs.declared.class_event.ClassEvent.{ClassEvent}
use Rattle.mc_evidence.specs.{Locks.ClassKeeps, Seen.stripes_seen}
use Rattle.mc_evidence.proofs.LockLemmas.{class_begins}
use Rattle.mc_board.specs.Histories.{list_at}
use Rattle.mc_segment.specs.ClassState.{ClassView}
use Rattle.mc_store.specs.{Locked.setting_of, Sides.ClassSide}
use Rattle.mc_store.proofs.OwnEventLemmas.{called_none}
use Rattle.mc_store.proofs.opening.open_class.Goals as goal

pub new-requires-2 : goal.new-requires-2
new-requires-2 g c =
    let config = g.N.Named.config in
    let s = c.new.result in
    let empty : s.class.history ≡ [] = ap (λ (x : ClassSide). x.class.history) c.new.ensures ∙ ap (λ (v : ClassView). v.history) c.new-state.ensures in
    let seen = stripes_seen (list_at s.sight.seen) in
    record {
      held = record {
        board_is = search rules;
        lock_is = search rules;
        is = search rules;
        made_with = search rules;
        keeps = subst (λ (h : List ClassEvent). ClassKeeps (setting_of config) s.class.number h seen) (sym empty) (class_begins (setting_of config) s.class.number seen);
      };
      called = called_none config s.class.number s.class.history s.sight empty;
    }
