pub mod Listing
pub mod Tree
pub mod TreeSums
