pub mod Allowing
pub mod BatchLemmas
pub mod Lasting
pub mod OfSession
pub mod TalkLemmas
pub mod Shows
mod TalkRows
pub mod Telling
pub mod WatchLemmas
