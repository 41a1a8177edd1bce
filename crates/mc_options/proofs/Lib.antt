pub mod PlanLemmas
pub mod WordLemmas
pub mod OptionLemmas
pub mod OptionValueLemmas
pub mod ReadingLemmas
