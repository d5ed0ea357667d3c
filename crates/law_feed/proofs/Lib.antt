pub mod OneItem
pub mod OneOutcome
pub mod Fronts
pub mod ItemSteps
pub mod EventsFollowed
pub mod PartsFollowed
pub mod Followed
pub mod Laws
