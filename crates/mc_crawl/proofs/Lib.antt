pub mod SnapshotLemmas
pub mod EntryCountLemmas
pub mod CrawlLemmas
pub mod CrawlCountLemmas
pub mod CrawlKindLemmas
pub mod CrawlLivingLemmas
