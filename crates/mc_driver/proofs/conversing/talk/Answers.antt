use Rattle.std.proofs.Common.{◌≡◌, ◌∙◌, ◌++◌, ◌∷◌, [], ap, slice_index_or, subst, sym}
use Rattle.mc_driver.specs.Input.{IsConversed, OfAllBytes}
use Rattle.mc_driver.proofs.ConversationLemmas.{conversed, same_ends}
use Rattle.mc_driver.proofs.conversing.talk.Goals as goal

pub returns-in-Ok-run_ends-clause-same : goal.returns-in-Ok-run_ends-clause-same
returns-in-Ok-run_ends-clause-same g c =
    let scripts : c.push_reserved.new.self.items ≡ c.args.live ∷ [] = c.push_reserved.ensures.items ∙ ap (λ xs. xs ++ c.args.live ∷ []) c.in-Ok.ensures.items in
    let run = rw scripts at c.in-Ok-run_ends.ensures.ok in
    let same = same_ends g.R.Read.remaining g.W.Write.contents _ _ c.args.live _ _ _ run in (
      ap (λ l. l.reader.ghost_name) (c.only.ensures c.args.live) ∙ same.0,
      ap (λ l. l.writer.ghost_name) (c.only.ensures c.args.live) ∙ same.1,
    )

pub returns-in-Ok-run_ends-clause-ok : goal.returns-in-Ok-run_ends-clause-ok
returns-in-Ok-run_ends-clause-ok g c =
    let scripts : c.push_reserved.new.self.items ≡ c.args.live ∷ [] = c.push_reserved.ensures.items ∙ ap (λ xs. xs ++ c.args.live ∷ []) c.in-Ok.ensures.items in
    let run = rw scripts at c.in-Ok-run_ends.ensures.ok in
    let accepted = rw scripts at c.in-Ok-run_ends.ensures.accepted in
    let ends = c.in-Ok-run_ends.run'.ends.items in
    let all = conversed g.R.Read.remaining g.W.Write.contents c.args.plan.config c.as_slice.result.now c.args.live ends c.in-Ok-run_ends.run'.outcomes.items
    c.in-Ok-run_ends.run'.ledger run c.requires.none.0 c.requires.none.2 c.requires.none.3 accepted in
    subst (λ l. OfAllBytes (g.R.Read.remaining c.args.live.reader.now) (λ input. IsConversed c.args.plan.config c.args.plan.upkeep input
    (g.W.Write.contents c.args.live.writer.now) (g.W.Write.contents l.writer.now) c.in-Ok-run_ends.run'.outcomes.items)) (sym (c.only.ensures c.args.live))
    (subst (λ moments. OfAllBytes (g.R.Read.remaining c.args.live.reader.now) (λ input. IsConversed c.args.plan.config moments input
    (g.W.Write.contents c.args.live.writer.now) (g.W.Write.contents (slice_index_or ends 0 c.args.live).writer.now) c.in-Ok-run_ends.run'.outcomes.items))
    c.as_slice.ensures all)

pub returns-clause-same : goal.returns-clause-same
returns-clause-same g c =
    let scripts : c.push_reserved.new.self.items ≡ c.args.live ∷ [] = c.push_reserved.ensures.items ∙ ap (λ xs. xs ++ c.args.live ∷ []) c.in-Ok.ensures.items in
    let back = c.only-in-Err.ensures c.args.live ∙ ap (λ xs. slice_index_or xs 0 c.args.live) (c.in-Err.ensures.back ∙ scripts) in
    (ap (λ l. l.reader.ghost_name) back, ap (λ l. l.writer.ghost_name) back)

pub returns-clause-none : goal.returns-clause-none
returns-clause-none g c = λ none.
    let scripts : c.push_reserved.new.self.items ≡ c.args.live ∷ [] = c.push_reserved.ensures.items ∙ ap (λ xs. xs ++ c.args.live ∷ []) c.in-Ok.ensures.items in
    ap (λ l. l.writer.now) (c.only-in-Err.ensures c.args.live ∙ ap (λ xs. slice_index_or xs 0 c.args.live) (c.in-Err.ensures.back ∙ scripts))
