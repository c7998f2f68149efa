-- Theorems. What they speak of stands in specs.
pub mod LentGate
pub mod Results
pub mod Survey
pub mod AnswerLaws
