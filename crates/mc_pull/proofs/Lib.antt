pub mod OutcomeLemmas
pub mod OtherSightLemmas
mod SettledLemmas
mod WarmLemmas
mod JudgementKeepsLemmas
pub mod LengthLemmas
pub mod ReachedLemmas
pub mod GrowthLemmas
pub mod LeavesGateLemmas
pub mod ChunkEventLemmas
pub mod AdvanceLemmas
pub mod WalkAnswerLemmas
pub mod WalkRuleLemmas
pub mod RoundLemmas
pub mod BrokenLemmas
pub mod SearchTriedLemmas
pub mod NoStrangerLemmas
pub mod OneStripeGateLemmas
pub mod EventsLemmas
pub mod SuitedLemmas
mod ListedEntryLemmas
mod NewVersionLemmas
mod CallItemLemmas
mod ClassPartLemmas
mod OtherStripeLemmas
pub mod PerformedLemmas
mod CostLemmas
pub mod AttemptLemmas
mod TriedCommandLemmas
