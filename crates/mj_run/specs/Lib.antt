pub mod Batch
pub mod Controls
pub mod Course
pub mod Run
pub mod Stepped
pub mod Summing
pub mod Told
