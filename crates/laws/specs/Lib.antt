pub mod Tests
pub mod Lists
pub mod Storing
pub mod Counting
pub mod FirstOf
pub mod Searching
pub mod Lexicographic
