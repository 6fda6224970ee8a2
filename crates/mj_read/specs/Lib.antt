pub mod Defaults
pub mod Tables
pub mod Document
