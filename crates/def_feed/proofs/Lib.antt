pub mod FeedRows
pub mod FollowerRows
