use Rattle.mc_store.proofs.LossCallLemmas.{expired_called, taken_called}
use Rattle.mc_store.proofs.laws.each_loss_of_a_closed_store_was_called_for.Goals as goal

pub returns : goal.returns
returns c = record {
  expired = λ config final passes number before lost moment sound all own of stands is. expired_called config final passes number before lost sound of stands moment all own is;
  taken = λ config final passes number place before lost class sound all own of stands is. taken_called config final passes number before lost sound of stands class place all own is;
}
