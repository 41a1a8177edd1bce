pub mod MeasureLemmas
pub mod NumberLemmas
pub mod ConfigLemmas
pub mod StripeLemmas
pub mod CountsLemmas
pub mod ShortLemmas
