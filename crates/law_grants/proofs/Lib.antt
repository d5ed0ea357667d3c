pub mod SubmitBooked
pub mod Together
