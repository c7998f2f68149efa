-- The promises, proved.
pub mod LedgerLaws
pub mod Along
pub mod OneTake
pub mod Takes
pub mod Fates
pub mod InTurn
pub mod TakesAlone
pub mod Draining
pub mod PromisesKept
pub mod Needed
pub mod NeededToDrain
