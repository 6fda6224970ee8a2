pub mod Carriers
pub mod Rows
pub mod Separated
