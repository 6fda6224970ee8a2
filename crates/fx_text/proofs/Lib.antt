pub mod DigitLaws
pub mod Exponent
pub mod Faults
pub mod PartsFound
pub mod PartsRead
pub mod Sizes
pub mod Stops
