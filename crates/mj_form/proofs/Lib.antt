pub mod Lists
pub mod Unknown
pub mod Steps
