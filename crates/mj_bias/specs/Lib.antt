pub mod Biases
pub mod Carried
pub mod Exact
pub mod Faults
pub mod Measures
pub mod Movement
pub mod Radii
pub mod Steps
