pub mod Fields
pub mod Exact
pub mod Parts
pub mod Tags
pub mod Events
pub mod States
pub mod Batches
