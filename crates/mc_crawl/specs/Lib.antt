pub mod CrawlKind
pub mod CrawlCount
pub mod Crawl
pub mod CrawlLiving
pub mod Snapshot
