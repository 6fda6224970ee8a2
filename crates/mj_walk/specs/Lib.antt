pub mod Names
pub mod Walks
pub mod Tables
pub mod Counts
