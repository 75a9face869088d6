pub mod ErrorLemmas
pub mod LineLemmas
pub mod FeedLemmas
pub mod FeedSearch
pub mod LineLaws
