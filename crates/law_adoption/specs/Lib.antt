pub mod Renumber
pub mod Adopted
pub mod MayMove
pub mod Kept
