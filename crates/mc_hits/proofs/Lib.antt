pub mod ListLemmas
pub mod Keeps
pub mod HandsLemmas
pub mod DealLemmas
pub mod SendLemmas
pub mod BeforeLemmas
