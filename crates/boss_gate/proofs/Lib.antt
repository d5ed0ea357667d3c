pub mod Allowing
pub mod OneByOne
pub mod WholeBatches
