use Rattle.std.proofs.Common.{◌≡◌, ◌∷◌, [], arith, length-append, subst, sym}
use Rattle.std.specs.{List.All, Vec.Iter.into_iter_items}
use Rattle.std.proofs.lemmas.List.Elements.{All-push}
use Rattle.mc_script.proofs.IterLemmas.{split_at}
use Rattle.mc_driver.proofs.{InputLemmas.front_more, JobLemmas.fewer}
use Rattle.mc_driver.proofs.input.scripts_of.Goals as goal

pub split_off-part-requires-clause-has_parts : goal.split_off-part-requires-clause-has_parts
split_off-part-requires-clause-has_parts g c =
    let split = split_at c.args.sources.items c.loop-source.yielded c.in-Some.source c.into_iter-source-iterator.result c.loop-source.source-iterator
    c.next.new.self c.into_iter-source-iterator.ensures.into_iter_gives.0 c.loop-source.yielded_by c.in-Some.ensures.steps.0 in
    let short = fewer c.args.sources.items c.loop-source.yielded (into_iter_items c.next.new.self) c.in-Some.source split in
    omega (arith, short, c.loop-source.invariant.parts)

pub split_off-part-requires-clause-left_backed : goal.split_off-part-requires-clause-left_backed
split_off-part-requires-clause-left_backed g c = λ all. sym c.loop-source.invariant.none

pub loop-source-preserved : goal.loop-source-preserved
loop-source-preserved g c = record {
  parts = omega (arith, c.loop-source.invariant.parts, c.split_off-part.ensures.parts_left, length-append c.loop-source.yielded (c.in-Some.source ∷ []));
  none = omega (arith, c.loop-source.invariant.none, c.split_off-part.ensures.amount_left);
  sources = front_more (λ s. s.0) c.loop-source.scripts.items c.push.new.self.items (
    c.in-Some.source,
    c.new.result,
  ) c.args.sources.items (into_iter_items c.loop-source.source-iterator) (into_iter_items c.next.new.self) c.in_ok-push.ensures.items
      c.in-Some.ensures.steps.0 c.loop-source.invariant.sources;
  fresh = subst (All (λ s. s.1.pieces.items ≡ [])) (sym c.in_ok-push.ensures.items)
      (All-push (λ s. s.1.pieces.items ≡ []) c.loop-source.scripts.items (c.in-Some.source, c.new.result) c.loop-source.invariant.fresh c.new.ensures);
}
