use Rattle.mc_segment.proofs.StateLemmas.{opened_is, sound_events}
use Rattle.mc_segment.proofs.state.ClassState.new.Goals as goal

pub invariant_of-result : goal.invariant_of-result
invariant_of-result c = opened_is _ _ _ _ _ c.new.ensures.0 c.new.ensures.1 c.keeping.ensures.items (sound_events c.args.config.now c.requires.sound)
