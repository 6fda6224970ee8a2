pub mod Bodies
pub mod Columns
pub mod Placings
pub mod Poses
pub mod Working
