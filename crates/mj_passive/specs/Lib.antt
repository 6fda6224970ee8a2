pub mod Forces
pub mod Taken
