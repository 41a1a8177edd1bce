use Rattle.mc_evidence.proofs.PartnersOfOneLemmas.{one_cooled_item, one_evicted_item, one_giver, one_reclaimed_item, one_taker}
use Rattle.mc_evidence.proofs.partnering.a_stripe_event_is_the_only_partner.Goals as goal

pub returns : goal.returns
returns c = record {
  linked = λ site rule class stripe legal. one_giver site stripe legal rule class;
  unlinked = λ site class stripe legal. one_taker site stripe legal class;
  evicted = one_evicted_item;
  reclaimed = one_reclaimed_item;
  shifted = one_cooled_item;
}
