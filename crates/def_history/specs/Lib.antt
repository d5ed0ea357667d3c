pub mod History
pub mod Made
pub mod Once
