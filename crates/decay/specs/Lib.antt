pub mod Decay
pub mod Refusals
pub mod Outcomes
pub mod Crossings
pub mod CrossingSearch
pub mod Logs
pub mod Totals
pub mod Curves
