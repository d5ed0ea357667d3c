pub mod Blanks
pub mod Numerals
pub mod Hexes
pub mod Lines
