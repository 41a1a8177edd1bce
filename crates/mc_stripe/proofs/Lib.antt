pub mod StateLemmas
pub mod PutLemmas
pub mod TryLemmas
pub mod CountLemmas
pub mod WakeLemmas
pub mod JoinLemmas
