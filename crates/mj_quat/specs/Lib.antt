pub mod Sine
pub mod Rotation
