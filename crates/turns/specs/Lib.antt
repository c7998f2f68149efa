pub mod TurnsRun
pub mod InPieces
pub mod BetweenRounds
pub mod RunFollows
