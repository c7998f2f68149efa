-- Theorems. What is said in them stands in specs.
pub mod facts
