use Rattle.mc_evidence.proofs.SeenLemmas.{class_events-map, classes_grow, stripe_events-map, stripes_grow}
use Rattle.mc_evidence.proofs.seeing.seen_lists_show_histories.Goals as goal

pub returns : goal.returns
returns c = record { classes = classes_grow; stripes = stripes_grow; own_class = class_events-map; own_stripe = stripe_events-map }
