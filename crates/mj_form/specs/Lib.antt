pub mod Reading
pub mod Forms
pub mod Keys
pub mod Steps
