mod Pieces
mod PlantRows
mod RunLemmas
