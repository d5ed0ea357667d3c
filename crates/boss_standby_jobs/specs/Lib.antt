pub mod Lines
pub mod Telling
pub mod Feeds
pub mod FeedJobs
pub mod Followings
pub mod StandbyJobs
