pub mod Changes
pub mod Early
