pub mod Accepted
pub mod Counts
