pub mod Advance
pub mod Written
