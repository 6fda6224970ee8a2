pub mod Accepted
pub mod Numbers
pub mod Table
pub mod Words
