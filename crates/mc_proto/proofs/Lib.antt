pub mod ListCutLemmas
pub mod SpellingLemmas
pub mod TokenLemmas
pub mod LineLemmas
pub mod KeyListLemmas
pub mod CasLineLemmas
pub mod TakingLemmas
mod OnePassLineLemmas
pub mod KeptRestLemmas
pub mod StreamLemmas
pub mod ScriptCutLemmas
mod TableRowLemmas
pub mod NextDirectiveLemmas
mod PlainLineLemmas
mod FirstLineLemmas
mod UncutLemmas
mod DividingLemmas
pub mod TextLemmas
mod GatheringLemmas
