pub mod WorldLemmas
