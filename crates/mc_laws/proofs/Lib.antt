pub mod EventLemmas
pub mod MarkLemmas
pub mod NumeralLemmas
pub mod ValueSourceLemmas
pub mod LegalStepLemmas
pub mod VersionLemmas
