pub mod Faults
pub mod Growth
pub mod Sent
pub mod Tray
pub mod Shelf
pub mod Roomy
pub mod System
pub mod Memory
