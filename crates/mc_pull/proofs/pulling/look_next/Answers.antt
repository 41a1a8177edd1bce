use Rattle.mc_pull.proofs.pulling.look_next.Goals as goal

pub stripe_of-stripe-requires : goal.stripe_of-stripe-requires
stripe_of-stripe-requires g c = c.requires.gate.class.bounded.some_stripes
