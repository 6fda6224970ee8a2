pub mod Faults
pub mod Growth
pub mod Sent
pub mod Memory
