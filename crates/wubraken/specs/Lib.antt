pub mod Answers
pub mod Survey
pub mod LentGate
pub mod Results
