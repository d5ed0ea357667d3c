pub mod Requests
pub mod Responses
pub mod Turns
pub mod Hearing
