pub mod TestLemmas
pub mod EventPlaceLemmas
pub mod ListLemmas
pub mod HistoryLemmas
pub mod OnceLemmas
