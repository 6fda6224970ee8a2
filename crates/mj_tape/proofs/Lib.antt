pub mod Fields
pub mod Left
pub mod Verdict
pub mod Held
