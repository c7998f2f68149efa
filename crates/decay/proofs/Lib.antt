-- Theorems. What they speak of stands in specs.
pub mod DecayRun
pub mod Rest
pub mod DecayRefusals
pub mod CrossingSearch
pub mod Totals
pub mod Curves
pub mod CrossingLaws
pub mod T20Exact
pub mod LogLaws
