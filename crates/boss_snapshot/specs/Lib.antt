pub mod Drafts
pub mod Numbered
pub mod Spells
pub mod Writes
pub mod Firsts
pub mod Fronts
pub mod Refusals
