use Rattle.mc_evidence.proofs.SoundLemmas.{entry_in, item_in, once_in}
use Rattle.mc_evidence.proofs.storing.a_sound_store_has_items_exactly_as_entries.Goals as goal

pub returns : goal.returns
returns c = record { items = entry_in; entries = item_in; once = once_in }
