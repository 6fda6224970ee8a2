pub mod Factors
pub mod Stored
pub mod Residuals
pub mod Solves
