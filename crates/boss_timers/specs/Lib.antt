pub mod Heap
pub mod Place
pub mod Timers
