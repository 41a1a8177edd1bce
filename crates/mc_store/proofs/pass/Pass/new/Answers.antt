use Rattle.std.proofs.Common.{ap, length, subst, sym}
use Rattle.mc_board.specs.Histories.{list_at}
use Rattle.mc_evidence.specs.Seen.{stripes_seen}
use Rattle.mc_hits.specs.{Rule.AreBefore, Views.HandsView, Views.tables_of}
use Rattle.mc_hits.proofs.BeforeLemmas.{none_before}
use Rattle.mc_store.specs.Callers.{turns_of}
use Rattle.mc_store.proofs.PlacedLemmas.{placed_none}
use Rattle.mc_store.proofs.pass.Pass.new.Goals as goal

pub invariant_of-result : goal.invariant_of-result
invariant_of-result g c = (
  c.requires.board,
  placed_none g.N.Named.config c.args.caller (stripes_seen (list_at c.args.seen.sight.seen)) c.requires.empty,
  ap (λ (h : HandsView). h.tables) c.requires.hands,
  ap (λ (h : HandsView). h.caller) c.requires.hands,
  subst (λ (h : HandsView). AreBefore (length (turns_of c.args.caller.calls)) h.offers) (sym c.requires.hands)
      (none_before (tables_of g.N.Named.queues) (length (turns_of c.args.caller.calls))),
)
