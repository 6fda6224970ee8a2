pub mod Ends
pub mod Headline
pub mod Once
pub mod Outcome
pub mod Taking
