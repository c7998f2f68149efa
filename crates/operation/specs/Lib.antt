pub mod LocalAct
pub mod LocalTurns
pub mod Leaks
