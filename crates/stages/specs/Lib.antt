pub mod Ready
pub mod Gives
pub mod LocalStep
pub mod Unlinking
