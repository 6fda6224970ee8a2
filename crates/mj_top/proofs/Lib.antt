pub mod Endings
pub mod HeadlineLaws
pub mod Once
pub mod Served
pub mod Taken
