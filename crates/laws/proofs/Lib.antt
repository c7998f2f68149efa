-- Theorems of what specs/ defines.
pub mod Counting
pub mod Searching
pub mod Lexicographic
