pub mod Impedance
pub mod Reference
