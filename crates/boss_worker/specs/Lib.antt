pub mod Desks
pub mod Drove
pub mod Ended
pub mod Keyed
pub mod Saying
pub mod Troubles
pub mod Visits
pub mod Workers
