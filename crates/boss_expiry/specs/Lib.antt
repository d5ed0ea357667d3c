pub mod Beats
pub mod Ends
pub mod Ticking
