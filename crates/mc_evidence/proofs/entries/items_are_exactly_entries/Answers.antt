use Rattle.mc_rule.proofs.OnceLemmas.{numbered}
use Rattle.mc_evidence.proofs.ItemsAreEntriesLemmas.{entry_of_item, item_of_entry}
use Rattle.mc_evidence.proofs.entries.items_are_exactly_entries.Goals as goal

pub returns : goal.returns
returns c = record {
  items = λ site rule class chunks stripe history legal lawful both key item. entry_of_item site rule class chunks stripe history key item legal lawful both;
  entries = λ site rule class chunks stripe history legal lawful both n seg entry. item_of_entry site rule class chunks stripe history n seg entry legal lawful both;
  once = λ rule chunks history number lawful. (numbered chunks rule history lawful).once number;
}
