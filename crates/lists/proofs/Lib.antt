-- What lists/specs leads to.
pub mod Fixed
