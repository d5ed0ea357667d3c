pub mod Fronts
pub mod Contents
pub mod Damage
pub mod Pairs
