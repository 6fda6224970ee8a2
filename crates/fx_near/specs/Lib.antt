pub mod Covers
pub mod Widths
