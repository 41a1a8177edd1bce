use Rattle.mc_store.proofs.FiguresLemmas.{figures_borne_out}
use Rattle.mc_store.proofs.laws.a_closed_store_bears_out_figures.Goals as goal

pub returns : goal.returns
returns c = figures_borne_out
