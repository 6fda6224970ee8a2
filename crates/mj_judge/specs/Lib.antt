pub mod Judged
pub mod Numbers
pub mod Vectors
pub mod Softness
pub mod Names
pub mod Choices
