pub mod Told
pub mod Standing
pub mod InLane
pub mod Agreeing
pub mod Driven
pub mod Guarded
pub mod Spoken
pub mod OfWorks
pub mod OfDevices
mod SettledRows
