-- A token after calls that let it see more.
use Rattle.std.proofs.Common.{◌≡◌, ℕ, List, ap, ◌∙◌}
use Rattle.mc_item.specs.declared.event.Event.{Event}
use Rattle.mc_board.specs.{Histories.Grows, Histories.with_seen, Learning.with_learned}
use Rattle.mc_board.specs.declared.rule.Sight.{Sight}
use Rattle.mc_board.proofs.SeenLemmas.{Grows-trans}
use Rattle.mc_store.specs.Serving.{IsLater}

-- a token that learnt and was then told is the same token later
pub later_told : (old mid new other : Sight) (lock : ℕ) (list : List Event) → mid ≡ with_learned old other → new ≡ with_seen mid lock list → Grows old new → IsLater old new
later_told old mid new other lock list learned told grows = record {
  seen = grows;
  notes = record {
    noted = ap (λ (s : Sight). s.noted) told ∙ ap (λ (s : Sight). s.noted) learned;
    figures = ap (λ (s : Sight). s.figures) told ∙ ap (λ (s : Sight). s.figures) learned;
  };
}

pub later_trans : (a b c : Sight) → IsLater a b → IsLater b c → IsLater a c
later_trans a b c first more = record {
  seen = Grows-trans a b c first.seen more.seen;
  notes = record { noted = more.notes.noted ∙ first.notes.noted; figures = more.notes.figures ∙ first.notes.figures };
}
