pub mod Filter
pub mod Lists
pub mod Sizes
pub mod Growing
