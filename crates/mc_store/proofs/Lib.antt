pub mod AccountLemmas
pub mod EnteredLemmas
pub mod CommandLemmas
pub mod DeadEntryLemmas
pub mod ShortHistoryLemmas
pub mod ReachedLemmas
pub mod NumberOrderLemmas
pub mod CallerLemmas
pub mod ClosedLemmas
pub mod HeadlineLemmas
pub mod ClosedCallLemmas
pub mod AnsweredTurnLemmas
mod LossCallLemmas
mod PlacedLemmas
pub mod LentClassLemmas
mod LimitedClassLemmas
pub mod LockKeepsLemmas
mod NextTurnLemmas
pub mod OwnEventLemmas
pub mod OwnCallLemmas
pub mod SyncLemmas
pub mod NotedRefusalLemmas
pub mod SyncedLemmas
pub mod SyncedCommandLemmas
pub mod EarnedRefusalLemmas
pub mod UnderLockLemmas
pub mod SearchVersionLemmas
pub mod SyncedStepLemmas
pub mod FullLemmas
pub mod JudgedEntryLemmas
pub mod GateLemmas
pub mod VisitedStripeLemmas
pub mod KeptWalkLemmas
pub mod GrownClassLemmas
mod LaterLemmas
mod FiguresLemmas
pub mod CrawledLemmas
pub mod SeenStripeLemmas
pub mod SendStoreLemmas
pub mod TryStepLemmas
pub mod OpenTryLemmas
pub mod NeededClassLemmas
pub mod CommandEndLemmas
pub mod HeldTryLemmas
pub mod TakenHitLemmas
pub mod OfferedHitLemmas
