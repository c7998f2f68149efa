-- Theorems. What they speak of stands in specs.
pub mod BetweenRounds
pub mod InPieces
pub mod LastLines
pub mod RunFollows
