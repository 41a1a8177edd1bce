use Rattle.mc_evidence.specs.Setting.{site_in}
use Rattle.mc_evidence.proofs.{LossLemmas.visible_before, SoundLemmas.loss_in}
use Rattle.mc_store.specs.{Finals.class_histories, Finals.stripe_histories, Locked.setting_of}
use Rattle.mc_store.proofs.laws.between_commands_a_closed_store_only_lost.Goals as goal

pub returns : goal.returns
returns c = record {
  only = λ config final number before between later key item moment whole none visible. visible_before (site_in (setting_of config) number) before between key item moment none visible;
  cause = λ config final number before between later key item sound of whole none was gone.
      loss_in (setting_of config) (stripe_histories final.stripes) (class_histories final.classes) sound number before between later key item of whole none was gone;
}
