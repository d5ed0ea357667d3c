pub mod Items
pub mod Feeds
pub mod Followers
pub mod Histories
