pub mod AtHand
pub mod LineEndLemmas
pub mod LinesLemmas
pub mod ReadLemmas
pub mod TakenLemmas
pub mod WindowLemmas
