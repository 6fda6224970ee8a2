pub mod Actives
pub mod Assembly
pub mod Entries
pub mod Lawful
pub mod Passing
pub mod Products
pub mod Reductions
pub mod Taking
