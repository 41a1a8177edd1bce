pub mod ChainLemmas
pub mod TailLemmas
pub mod OneListLemmas
pub mod ArenaLemmas
pub mod SlotLemmas
pub mod StateLemmas
pub mod ListOfNumberLemmas
