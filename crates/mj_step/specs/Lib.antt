pub mod Certified
pub mod Covered
pub mod Enclosed
pub mod Steps
pub mod Workspace
