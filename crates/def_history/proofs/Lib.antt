pub mod Going
pub mod Sound
pub mod Numbers
