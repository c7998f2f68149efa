pub mod LentBatch
