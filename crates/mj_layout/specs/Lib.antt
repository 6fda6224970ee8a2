pub mod Layout
pub mod Parted
pub mod Placing
